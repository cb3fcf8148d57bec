-- CHECKPOINT. What a master names, and whether its tables are true. ARIES, section 5.4 (fuzzy checkpoints).
use Rattle.std.specs.Prelude.{◌≡◌, ◌≤◌, ◌<◌, ◌⊎◌, ℕ, List, map, Option, Some, None, Bool, true, ◌&&◌, ◌==◌, nat_le, if◌then◌else◌, All, false, [], ◌∷◌, ⊤, slice_get}
use Rattle.page.specs.declared.page.Page.{Page}
use Rattle.log_laws.specs.Records.{TableEntry, LogRecord, CheckpointBegin, CheckpointEnd, History, start, ◌▸◌, last_lsn, base_lsn, record_at, first}
use Rattle.log_laws.specs.Meaning.{state_at, last_of, undo_next_of, is_on, is_unfinished}
use Rattle.log_laws.specs.Tail.{unfinished_of}
use Rattle.log_laws.specs.Redo.{rec_lsn_of}

-- THE CHECKPOINT. ARIES, section 5.4 (fuzzy checkpoints). Two rules are own: the tables describe the moment of the begin record, and the
-- first end that names it counts.
abbrev pub or_else : {A : Type 0} → Option A → Option A → Option A
or_else (Some x) other = Some x
or_else None other = other

-- the tables of the first checkpoint end after the LSN m that names m
abbrev pub first_end : ℕ → History → Option (List TableEntry × List (ℕ × ℕ))
first_end m (start _) = None
first_end m (log ▸ CheckpointEnd begin transactions dirty) =
    or_else (first_end m log) (if begin == m && nat_le m (last_lsn log) then Some (transactions, dirty) else None)
first_end m (log ▸ _) = first_end m log

-- CHECKPOINT of the master m: there is a begin record at m, and a later end names it. Its tables are those of the first such end. ARIES,
-- section 5.4 (fuzzy checkpoints); that the first end counts is own.
abbrev pub is_begin : Option LogRecord → Bool
is_begin (Some CheckpointBegin) = true
is_begin _ = false

abbrev pub checkpoint_at : ℕ → History → Option (List TableEntry × List (ℕ × ℕ))
checkpoint_at m log = if is_begin (record_at log m) then first_end m log else None

-- what is true of an unfinished transaction: its state, its last record and its raw undo-next
abbrev pub true_entry : History → ℕ → TableEntry
true_entry log t = record { tx = t; state = state_at t log; last = last_of t log; undo_next = undo_next_of t log }

-- the unfinished transactions of the log with what is true of them, in ascending order of number
abbrev pub true_table : History → List TableEntry
true_table log = map (true_entry log) (unfinished_of log)

-- ENTRIES OF A TABLE
-- each number is smaller than the next
abbrev pub IsRising : List ℕ → Type 0
IsRising [] = ⊤
IsRising (m ∷ []) = ⊤
IsRising (m ∷ n ∷ ns) = (m < n) × IsRising (n ∷ ns)

-- the entry is of an unfinished transaction, and is true of it
abbrev pub IsTrueEntry : History → TableEntry → Type 0
IsTrueEntry log e = (is_unfinished e.tx log ≡ true) × (e ≡ true_entry log e.tx)

-- the table has an entry of the transaction t
abbrev pub Lists : List TableEntry → ℕ → Type 0
Lists transactions t = (place : ℕ) × (e : TableEntry) × (slice_get transactions place ≡ Some e) × (e.tx ≡ t)

-- DIRTY LAW of a checkpoint at m, for a page: its RecLSN is an LSN of the log and at most m, and no record up to m that its image lacks is
-- left out
pub record DirtyLaw (log : History) (m page page_lsn : ℕ) (listed : Option ℕ) : Type 0 where
  pub range : (rec_lsn : ℕ) → listed ≡ Some rec_lsn → (base_lsn log < rec_lsn) × (rec_lsn ≤ m)
  pub covers : (lsn : ℕ) (r : LogRecord) → lsn ≤ m → record_at log lsn ≡ Some r → is_on page r ≡ true
      → (lsn ≤ page_lsn) ⊎ ((rec_lsn : ℕ) × (listed ≡ Some rec_lsn) × (rec_lsn ≤ lsn))

-- the tables are true of the log up to m, and of the pages
pub record TablesLaw (log : History) (pages : List Page) (m : ℕ) : Type 0 where
  pub transactions : List TableEntry
  pub dirty : List (ℕ × ℕ)
  pub named : checkpoint_at m log ≡ Some (transactions, dirty)
  pub transactions_are : transactions ≡ true_table (first m log)
  pub dirty_are : All (λ page. DirtyLaw log m page.number page.lsn (rec_lsn_of page.number dirty)) pages

-- CHECKPOINT LAW for the master m: there is no checkpoint, or its tables are true.
abbrev pub CheckpointLaw : History → List Page → ℕ → Type 0
CheckpointLaw log pages m = (m ≡ 0) ⊎ TablesLaw log pages m
