use Rattle.std.proofs.Common.{◌≡◌, map}
use Rattle.analysis.specs.Tables.{redo_lsn_of}
use Rattle.analysis.proofs.pass.redo_lsn_of.Given as goal

abbrev pub invariant-loop-rec_lsn : goal.invariant-loop-rec_lsn
invariant-loop-rec_lsn l = l.smallest ≡ redo_lsn_of l.first (map (λ e. (e.0.now, e.1.now)) l.yielded)
