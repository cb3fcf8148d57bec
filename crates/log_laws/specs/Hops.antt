-- HOPS. The walk through a transaction's records by their PrevLSNs and UndoNxtLSNs. ARIES, section 6.3.
-- A hop to n (not 0) is bad if, in the log before the record that it comes from, no update or CLR of the transaction is at n: n is past the
-- log's end, or at another record, or not below that record. A bad hop is the last one.
use Rattle.std.specs.Prelude.{ℕ, suc, List, [], ◌∷◌, Option, Some, None, ◌==◌, if◌then◌else◌, option_map, unwrap_or}
use Rattle.log_laws.specs.Records.{LogRecord, Update, Compensation, History, start, ◌▸◌, last_lsn}

-- the updates that a walk meets, and where it ends: 0, or the LSN of a bad hop
pub record Walk : Type 0 where
  pub met : List ℕ
  pub ends : ℕ

abbrev pub meet : ℕ → Walk → Walk
meet lsn w = record { met = lsn ∷ w.met; ends = w.ends }

-- the LSN to which a record of t that is not an update sends a walk of t: a CLR sends it to its UndoNxtLSN, others send it nowhere
abbrev pub sent_on : ℕ → LogRecord → Option ℕ
sent_on t (Compensation c) = if c.tx == t then Some c.undo_next else None
sent_on t _ = None

-- The walk of t from this LSN of the log. An update sends it to its PrevLSN, a CLR to its UndoNxtLSN, in the log before that record. The
-- walk ends at an LSN at which there is no update or CLR of t.
abbrev pub hops : ℕ → History → ℕ → Walk
hops t (start _) lsn = record { met = []; ends = lsn }
hops t (log ▸ Update u) lsn =
    if lsn == suc (last_lsn log)
    then (if u.tx == t then meet lsn (hops t log u.prev) else record { met = []; ends = lsn })
    else hops t log lsn
hops t (log ▸ r) lsn =
    if lsn == suc (last_lsn log)
    then unwrap_or (option_map (λ next. hops t log next) (sent_on t r)) (record { met = []; ends = lsn })
    else hops t log lsn
