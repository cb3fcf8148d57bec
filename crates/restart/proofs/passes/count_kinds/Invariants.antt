use Rattle.std.proofs.Common.{◌≡◌, ◌≤◌, take}
use Rattle.log_laws.specs.Records.{LogContent, history}
use Rattle.undo.specs.Appended.{appended_records, HaveUpdates}
use Rattle.restart.specs.Restart.{clrs_in, ends_in}
use Rattle.restart.proofs.passes.count_kinds.Given as goal

abbrev pub invariant-loop-record : goal.invariant-loop-record
invariant-loop-record l =
    record {
      few_clrs : l.clrs ≤ l.record-index;
      few_ends : l.ends ≤ l.record-index;
      clrs_are : (log : LogContent) → HaveUpdates log l.appended → l.clrs ≡ clrs_in (appended_records (history log) (take l.record-index l.appended));
      ends_are : (log : LogContent) → HaveUpdates log l.appended → l.ends ≡ ends_in (appended_records (history log) (take l.record-index l.appended));
    }
