use Rattle.std.proofs.Common.{◌≡◌, ◌≤◌, ◌<◌, ℕ, true, Option}
use Rattle.std.specs.Prelude.{is_some}
use Rattle.log_laws.specs.Records.{history, first}
use Rattle.log_laws.specs.Redo.{rec_lsn_of}
use Rattle.analysis.specs.Tables.{analysed_rec_lsn}
use Rattle.analysis.specs.Steps.{AreListed}
use Rattle.analysis.proofs.dirty.scan_pages.Given as goal

abbrev pub invariant-loop-lsn : goal.invariant-loop-lsn
invariant-loop-lsn l =
    ((p m : ℕ) (base : Option ℕ) → m ≤ l.from → rec_lsn_of p l.fn.dirty.entries ≡ analysed_rec_lsn p m base (first l.from (history l.log))
    → rec_lsn_of p l.dirty.entries ≡ analysed_rec_lsn p m base (first l.lsn (history l.log)))
    × AreListed l.known l.dirty.entries
    × ((page : ℕ) → page < l.whole → is_some (rec_lsn_of page l.dirty.entries) ≡ true)
