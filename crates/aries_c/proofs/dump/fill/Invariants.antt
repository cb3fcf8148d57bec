use Rattle.std.proofs.Common.{ℕ, ◌≡◌, ◌+◌, ◌<◌, ◌≤◌, drop, slice_index_or}
use Rattle.log_laws.specs.Records.{history}
use Rattle.aries_c.specs.declared.record.Record.{Record as Told}
use Rattle.aries_c.specs.Dump.{TellsRecord}
use Rattle.aries_c.proofs.dump.fill.Given as goal

abbrev pub invariant-loop-i : goal.invariant-loop-i
invariant-loop-i l = record {
  each : (k : ℕ) (d : Told) → k < l.i → TellsRecord (history l.log) (l.from + k) (slice_index_or l.out k d);
  behind : (k : ℕ) → l.i ≤ k → drop k l.out ≡ drop k l.fn.out;
}
