-- UNDO. What undo appends, for any log and any table of losers. ARIES, section 6.3 (undo pass).
use Rattle.std.specs.Prelude.{ℕ, suc, List, [], ◌∷◌, Option, Some, None, Bool, true, false, not, ◌==◌, if◌then◌else◌, map, filter}
use Rattle.log_laws.specs.declared.state.State.{State}
use Rattle.log_laws.specs.declared.state.State.TheVariants.{Active, Prepared, Aborting}
use Rattle.log_laws.specs.Records.{TableEntry, tx_in, LogRecord, History, last_lsn}
use Rattle.log_laws.specs.Hops.{Walk, hops}
use Rattle.log_laws.specs.Tail.{records_for, rollback}

-- a transaction's entry in a table
abbrev pub entry_for : ℕ → List TableEntry → Option TableEntry
entry_for t [] = None
entry_for t (e ∷ entries) = if e.tx == t then Some e else entry_for t entries

-- the hops of its transaction from its undo-next
abbrev pub walk_of : History → Option TableEntry → Walk
walk_of log None = record { met = []; ends = 0 }
walk_of log (Some e) = hops e.tx log e.undo_next

abbrev pub last_in : Option TableEntry → ℕ
last_in None = 0
last_in (Some e) = e.last

-- THE LOSERS of a table of unfinished transactions: those that the table does not have as prepared
abbrev pub is_prepared : State → Bool
is_prepared Active = false
is_prepared Prepared = true
is_prepared Aborting = false

abbrev pub is_lost : TableEntry → Bool
is_lost e = not (is_prepared e.state)

abbrev pub lost_in : List TableEntry → List TableEntry
lost_in entries = filter is_lost entries

-- those in doubt: the numbers of the transactions that the table has as prepared
abbrev pub doubtful_in : List TableEntry → List ℕ
doubtful_in entries = map tx_in (filter (λ e. is_prepared e.state) entries)

-- UNDONE. The transactions of the table are rolled back, each by the updates that its hops meet, and these records are written.
abbrev pub undone_by : History → List TableEntry → List LogRecord
undone_by log entries =
    records_for (λ t. last_in (entry_for t entries)) (suc (last_lsn log)) (rollback (map tx_in entries) (λ t. (walk_of log (entry_for t entries)).met) log)
