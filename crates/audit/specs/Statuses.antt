-- What the records so far say of an unfinished transaction (own).
use Rattle.std.specs.Prelude.{◌≡◌, ◌<◌, ◌≤◌, ℕ, zero, suc, List, [], ◌∷◌, length, true, false, slice_index, ◌+◌, ◌-◌, ◌⊎◌}
use Rattle.log_laws.specs.Records.{LogRecord, Update, Compensation, Abort, Prepare, History, base_lsn}
use Rattle.log_laws.specs.Meaning.{finished, aborted, prepared, pending, last_of, undo_next_of}
use Rattle.audit.specs.declared.status.Status.{Status}

-- the LSN below an LSN on a stack, 0 for none: there is a link for each LSN after the base LSN
abbrev pub under : (base : ℕ) → List ℕ → ℕ → ℕ
under base links zero = 0
under base links (suc n) = slice_index links (suc n - base - 1)

-- an LSN that has a link, or 0
abbrev pub IsTop : (base : ℕ) → List ℕ → ℕ → Type 0
IsTop base links top = (top ≡ 0) ⊎ ((base < top) × (top ≤ base + length links))

-- the links, followed from this top, give these LSNs, and nothing more
abbrev pub Linked : (base : ℕ) → List ℕ → List ℕ → ℕ → Type 0
Linked base links [] top = top ≡ 0
Linked base links (n ∷ ns) top = (top ≡ n) × (base < n) × (n ≤ base + length links) × Linked base links ns (under base links n)

-- the status is what the log says of the transaction t, which has not finished
pub record IsStatusOf (links : List ℕ) (t : ℕ) (log : History) (s : Status) : Type 0 where
  pub unfinished : finished t log ≡ false
  pub last : s.last ≡ last_of t log
  pub undo_next : s.undo_next ≡ undo_next_of t log
  pub aborted : s.aborted ≡ aborted t log
  pub prepared : s.prepared ≡ prepared t log
  pub pending : Linked (base_lsn log) links (pending t log) s.newest

-- what is known of a transaction without records
abbrev pub unknown : Status
unknown = record { last = 0; undo_next = 0; newest = 0; aborted = false; prepared = false }

-- the status of a record's unfinished transaction after the record, which does not finish it; `below` is the LSN below its newest
-- pending update
abbrev pub after : LogRecord → (lsn below : ℕ) → Status → Status
after (Update u) lsn below s = record { last = lsn; undo_next = lsn; newest = lsn; aborted = s.aborted; prepared = s.prepared }
after (Compensation c) lsn below s = record { last = lsn; undo_next = c.undo_next; newest = below; aborted = s.aborted; prepared = s.prepared }
after (Abort r) lsn below s = record { last = lsn; undo_next = s.undo_next; newest = s.newest; aborted = true; prepared = s.prepared }
after (Prepare r) lsn below s = record { last = lsn; undo_next = s.undo_next; newest = s.newest; aborted = s.aborted; prepared = true }
after r lsn below s = s
