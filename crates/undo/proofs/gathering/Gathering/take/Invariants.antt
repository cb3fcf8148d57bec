use Rattle.std.proofs.Common.{List}
use Rattle.log_laws.specs.Records.{History, TableEntry, history, last_lsn}
use Rattle.tables.specs.Pieces.{IsPieceOf}
use Rattle.undo.specs.Wants.{WantUpTo, wants_in}
use Rattle.undo.specs.Gathering.{IsGathering}
use Rattle.undo.proofs.gathering.Gathering.take.Given as goal

abbrev pub invariant-loop : goal.invariant-loop
invariant-loop l =
    (whole : History) (losers : List TableEntry) → IsPieceOf whole (history l.piece) → WantUpTo (last_lsn (history l.piece)) (wants_in l.initial.self.wants) → IsGathering whole losers l.initial.self
    → WantUpTo (last_lsn (history l.piece)) (wants_in l.self.wants) × IsGathering whole losers l.self
