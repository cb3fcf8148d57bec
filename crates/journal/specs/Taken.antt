-- A checkpoint that is taken (own).
use Rattle.std.specs.Prelude.{◌≡◌, ◌<◌, ◌+◌, ◌++◌, ℕ, List, length}
use Rattle.log_laws.specs.Records.{TableEntry, CheckpointBegin, CheckpointEnd}
use Rattle.log_laws.specs.Meaning.{BasePages}
use Rattle.wal.specs.Spelling.{frame}
use Rattle.journal.specs.declared.refusal.Refusal.{Refusal}
use Rattle.journal.specs.declared.refusal.Refusal.TheVariants.{NoFrameRoom, LogFull}
use Rattle.journal.specs.declared.entries.Head.{Head}
use Rattle.journal.specs.Refusals.{LacksLsns}
use Rattle.journal.specs.Runs.{Run, appended, AreTrueTables}

-- the frames of its begin record, which has this LSN, and of its end record, which has the next one
abbrev pub checkpoint_text : (begin : ℕ) → List TableEntry → List (ℕ × ℕ) → List ℕ
checkpoint_text begin transactions dirty = frame CheckpointBegin begin ++ frame (CheckpointEnd begin transactions dirty) (begin + 1)

abbrev pub run_taken : Run → (begin : ℕ) → List TableEntry → List (ℕ × ℕ) → Run
run_taken run begin transactions dirty = appended (appended run CheckpointBegin) (CheckpointEnd begin transactions dirty)

-- it is refused only if the LSNs do not suffice, or if there is no room for its frames
abbrev pub CheckpointRefused : BasePages → Run → Head → (room : ℕ) → Refusal → Type 0
CheckpointRefused base run head room LogFull = LacksLsns head 2
CheckpointRefused base run head room (NoFrameRoom wanted) = (transactions : List TableEntry) × (dirty : List (ℕ × ℕ)) × AreTrueTables base (appended run CheckpointBegin) (head.last + 1) transactions dirty
    × (wanted ≡ length (checkpoint_text (head.last + 1) transactions dirty)) × (room < wanted)
CheckpointRefused base run head room _ = ⊥
