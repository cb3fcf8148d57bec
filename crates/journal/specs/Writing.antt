-- What a call leaves in the buffer to which it writes frames (own).
use Rattle.std.specs.Prelude.{◌≡◌, ◌+◌, ℕ, List, ◌++◌, length, drop}
use Rattle.log_laws.specs.Records.{PlainRecord, LogRecord, Update, Compensation, Commit, Abort, End, Prepare}
use Rattle.wal.specs.Spelling.{frame, image, Fits}
use Rattle.wal.specs.declared.sizes.TheConstants.{CELL_HEAD, LSN_BYTES, PLAIN_FRAME}
use Rattle.journal.specs.declared.image.Image.{Image}
use Rattle.journal.specs.Arrays.{image_of}

-- the text is at the front of the buffer, and the bytes after it are unchanged
abbrev pub Begins : (text before now : List ℕ) → Type 0
Begins text before now = now ≡ text ++ drop (length text) before

-- the frame of the record with this LSN is there, and its length is returned
pub record IsWritten (r : LogRecord) (lsn : ℕ) (before now : List ℕ) (size : ℕ) : Type 0 where
  pub holds : Begins (frame r lsn) before now
  pub size_is : size ≡ length (frame r lsn)

-- it is a commit, an abort, an end or a prepare, by the number of its kind
abbrev pub HasKind : LogRecord → ℕ → PlainRecord → Type 0
HasKind (Commit p) kind plain = (kind ≡ 3) × (p ≡ plain)
HasKind (Abort p) kind plain = (kind ≡ 4) × (p ≡ plain)
HasKind (End p) kind plain = (kind ≡ 5) × (p ≡ plain)
HasKind (Prepare p) kind plain = (kind ≡ 8) × (p ≡ plain)
HasKind r kind plain = ⊥

-- this text was written at this place, after a text that ends there
abbrev pub Continues : (more : List ℕ) → (at : ℕ) → (before now : List ℕ) → Type 0
Continues more at before now = (text began : List ℕ) → length text ≡ at → Begins text began before → Begins (text ++ more) began now

-- FRAMES. How many bytes that of an update with these images takes
abbrev pub update_bytes : (before after : Image) → ℕ
update_bytes before after = CELL_HEAD + length (image (image_of before)) + length (image (image_of after))

-- that of a CLR with this image
abbrev pub clr_bytes : Image → ℕ
clr_bytes restored = CELL_HEAD + LSN_BYTES + length (image (image_of restored))

abbrev pub update_with : (tx prev page slot : ℕ) → (before after : Image) → LogRecord
update_with tx prev page slot before after =
    Update (record { tx = tx; prev = prev; page = page; slot = slot; before = image_of before; after = image_of after })

abbrev pub clr_with : (tx prev page slot undo_next : ℕ) → Image → LogRecord
clr_with tx prev page slot undo_next restored =
    Compensation (record { tx = tx; prev = prev; page = page; slot = slot; undo_next = undo_next; image = image_of restored })

-- the frame of a commit, an abort, an end or a prepare is there
abbrev pub WritesPlain : (kind tx prev lsn : ℕ) → (before now : List ℕ) → Type 0
WritesPlain kind tx prev lsn before now = (r : LogRecord) → HasKind r kind (record { tx = tx; prev = prev }) → IsWritten r lsn before now PLAIN_FRAME

abbrev pub PlainFits : (kind tx prev : ℕ) → Type 0
PlainFits kind tx prev = (r : LogRecord) → HasKind r kind (record { tx = tx; prev = prev }) → Fits r
