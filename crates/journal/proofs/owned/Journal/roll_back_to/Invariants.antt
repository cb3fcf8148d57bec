use Rattle.log_laws.specs.Meaning.{BasePages}
use Rattle.journal.specs.Runs.{Run}
use Rattle.journal.specs.JournalState.{Keeps, LeavesRest, OthersStay}
use Rattle.journal.proofs.Rolled.{Rolled}
use Rattle.journal.proofs.owned.Journal.roll_back_to.Given as goal

abbrev pub invariant-loop : goal.invariant-loop
invariant-loop l = record {
  rolls : (base : BasePages) (run : Run) → Keeps base run l.fn.self → Rolled base run l.tx l.savepoint l.counter l.newest l.self;
  rest : LeavesRest l.fn.self l.self;
  others : OthersStay l.fn.self l.self l.tx;
}
