use Rattle.std.proofs.Common.{◌≡◌, ◌<◌, ◌-◌, ℕ, Option, length, drop, get_or}
use Rattle.log_laws.specs.Redo.{rec_lsn_of}
use Rattle.audit.proofs.dirty.rec_lsns_in.Given as goal

abbrev pub invariant-loop-behind : goal.invariant-loop-behind
invariant-loop-behind l =
    record {
      count : length l.listed.items ≡ l.count;
      each : (number : ℕ) (d : Option ℕ) → number < l.count → get_or l.listed.items number d ≡ rec_lsn_of number (drop (l.last - l.behind) l.dirty);
    }
