-- What a call that writes leaves in its caller's buffers (own).
use Rattle.std.specs.Prelude.{◌≡◌, ℕ, ◌<◌, ◌⊎◌, List, ◌++◌, drop, length}
use Rattle.log_laws.specs.Records.{LogRecord}
use Rattle.wal.specs.Spelling.{frame}
use Rattle.journal.specs.Writing.{HasKind}
use Rattle.aries_c.specs.declared.fault.Fault.{Fault as Told}
use Rattle.aries_c.specs.Fault.{done, no_memory, no_room, not_writable, OnDone, OnFailed}

-- a text of which this holds is at the front of the buffer, the rest of the buffer is as before, and the length of the text is returned
pub record Wrote (IsText : List ℕ → Type 0) (before after : List ℕ) (told : ℕ) : Type 0 where
  pub text : List ℕ
  pub is_text : IsText text
  pub stands : after ≡ text ++ drop (length text) before
  pub length_is : told ≡ length text

-- the buffer is too short for a text of which this holds, and the length of the text is returned
pub record LacksRoom (IsText : List ℕ → Type 0) (before : List ℕ) (told : ℕ) : Type 0 where
  pub text : List ℕ
  pub is_text : IsText text
  pub short : length before < length text
  pub length_is : told ≡ length text

-- this holds of no text
abbrev pub HasNoText : (List ℕ → Type 0) → Type 0
HasNoText IsText = (text : List ℕ) → ¬ IsText text

-- after its first places a buffer is as before
abbrev pub KeepsRest : {T : Type 0} → (count : ℕ) → (before after : List T) → Type 0
KeepsRest count before after = drop count after ≡ drop count before

-- the buffer is too short for this text, and is as before
abbrev pub LeavesShort : (text before after : List ℕ) → Type 0
LeavesShort text before after = (length before < length text) × (after ≡ before)

-- what a writer may return if it takes no memory, and if it does
abbrev pub IsAnswer : Told → Type 0
IsAnswer told = (told ≡ done) ⊎ ((told ≡ no_room) ⊎ (told ≡ not_writable))

abbrev pub IsAnswerOrMemory : Told → Type 0
IsAnswerOrMemory told = IsAnswer told ⊎ (told ≡ no_memory)

-- the length of this text is returned; the text is at the front of the buffer and the rest as before, or the buffer is too short and as before
pub record Puts (text before after : List ℕ) (length_told : ℕ) (told : Told) : Type 0 where
  pub length_is : length_told ≡ length text
  pub written : OnDone told (after ≡ text ++ drop (length text) before)
  pub answer : IsAnswer told
  pub short : OnFailed told ((told ≡ no_room) × LeavesShort text before after)

-- the same of a frame, and of the frame of a commit, an abort, an end or a prepare, by the number of its kind
abbrev pub PutsFrame : LogRecord → (lsn : ℕ) → (before after : List ℕ) → (length_told : ℕ) → Told → Type 0
PutsFrame r lsn = Puts (frame r lsn)

abbrev pub PutsPlain : (kind tx prev lsn : ℕ) → (before after : List ℕ) → (length_told : ℕ) → Told → Type 0
PutsPlain kind tx prev lsn before after length_told told =
    (r : LogRecord) → HasKind r kind (record { tx = tx; prev = prev }) → PutsFrame r lsn before after length_told told
