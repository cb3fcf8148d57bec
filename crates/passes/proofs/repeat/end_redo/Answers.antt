use Rattle.std.proofs.Common.{◌≡◌, length, map, sum, refl, arith}
use Rattle.std.specs.List.{sum_by}
use Rattle.log_laws.specs.Records.{history, last_lsn}
use Rattle.redo.specs.declared.tally.Tally.{Tally}
use Rattle.redo.specs.Inputs.{InputContent, input_over}
use Rattle.redo.specs.Parts.{AreAllTallied}
use Rattle.redo.specs.Redone.{applied_to}
use Rattle.redo.proofs.Gathered.{pages_are, total_is}
use Rattle.redo.proofs.OnePass.{all_tallied_alone}
use Rattle.redo.proofs.Totals.{applied_once}
use Rattle.passes.proofs.Redoing.{exist_all}
use Rattle.passes.proofs.repeat.end_redo.Goals as goal

pub returns-clause-redone : goal.returns-clause-redone
returns-clause-redone g c = λ text whole torn is reads marks tables images stored tallied shows.
    let input : InputContent = input_over whole images tables in
    let tallies = c.args.scan.tallies in
    let all : AreAllTallied input tallies = all_tallied_alone input tallied.numbered (last_lsn (history whole)) tallies tallied.tallied.redone (omega arith) in
    let (after, shown, finished) = c.in_ok-finish_in_pieces.ensures.each text whole torn is reads marks stored images tallied.numbered shows in
    let told : sum_by (λ (t : Tally). t.applied) tallies ≡ sum (map (applied_to whole tables) images) = total_is input tallies all tallies refl in (
      after,
      shown,
      record {
        pages = pages_are input tallies all after finished.count finished.each;
        applied = omega (
          arith,
          c.applied-applied.ensures,
          told,
          applied_once tables.dirty tables.redo_lsn (history whole) images tallied.numbered,
          c.end-end.ensures.last text whole marks,
          c.end-end.ensures.low.lsn,
        );
        exist = exist_all whole (length images) tables.redo_lsn tallied.exist;
      },
    )
