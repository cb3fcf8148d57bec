-- What the cells of pages hold, and which record wrote them last (own).
use Rattle.page.specs.Image.{Image}
use Rattle.std.specs.Prelude.{Option, Some, None, ◌≡◌, ◌<◌, ◌+◌, ◌*◌, ℕ, suc, List, length, IfSome, if◌then◌else◌, slice_index_or, slice_set}
use Rattle.std.specs.Option.{option_map_or}
use Rattle.log_laws.specs.Records.{LogRecord, History, start, ◌▸◌, last_lsn}
use Rattle.log_laws.specs.Meaning.{BasePages, owner, change_of, image_of, writes, replay, last_writer}
use Rattle.page.specs.declared.profile.TheConstants.{SLOTS}
use Rattle.audit.specs.declared.cell.Cell.{Cell}

-- the LSN of the last update or CLR in the cell, or 0
abbrev pub last_write : ℕ → ℕ → History → ℕ
last_write page slot (start _) = 0
last_write page slot (log ▸ r) = if writes page slot r then suc (last_lsn log) else last_write page slot log

-- what the record at an LSN left in a cell; without a record, what was there before
abbrev pub image_or : Image → Option LogRecord → Image
image_or before None = before
image_or before (Some r) = image_of r

-- what is kept of a cell
abbrev pub cell_in : BasePages → History → (page slot : ℕ) → Cell
cell_in base log page slot = record { writer = last_writer page slot log; image = replay base log page slot }

-- the list has, for each cell of `count` pages, what `of` says of the cell
pub record KeepsCells {X : Type 0} (count : ℕ) (of : (page slot : ℕ) → X) (cells : List X) : Type 0 where
  pub size_is : length cells ≡ SLOTS * count
  pub each : (page slot : ℕ) (default : X) → page < count → slot < SLOTS → slice_index_or cells (SLOTS * page + slot) default ≡ of page slot

-- the list has, for each cell, its last writer in the log that counts for its page
abbrev pub KeepsWriters : (count : ℕ) → (counts : ℕ → History) → List ℕ → Type 0
KeepsWriters count counts writers = KeepsCells count (λ page slot. last_write page slot (counts page)) writers

-- the cell of a record, if it has one, is below the count
abbrev pub HasCell : ℕ → LogRecord → Type 0
HasCell cells r = IfSome (change_of r) (λ c. SLOTS * c.page + c.slot < cells)

-- what is kept of the cells after a record
abbrev pub cells_after : List Cell → LogRecord → List Cell
cells_after cells r = option_map_or (λ c. slice_set cells (SLOTS * c.page + c.slot) (record { writer = owner r; image = c.image })) (change_of r) cells
