-- The line of a record (own), in the words of the formats.
use Rattle.std.specs.Prelude.{ℕ, List, [], ◌++◌, codes}
use Rattle.log_laws.specs.Records.{LogRecord, Update, Compensation, Commit, Abort, End, Prepare, CheckpointBegin, CheckpointEnd}
use Rattle.dump.specs.declared.style.Style.{Style}
use Rattle.dump.specs.Line.{opening, closing, number_field, image_field}
use Rattle.dump.specs.Tables.{table_field, transaction_entry, dirty_entry}

abbrev pub kind_word : LogRecord → List ℕ
kind_word (Update u) = codes "update"
kind_word (Compensation c) = codes "CLR"
kind_word (Commit r) = codes "commit"
kind_word (Abort r) = codes "abort"
kind_word (End r) = codes "end"
kind_word (Prepare r) = codes "prepare"
kind_word CheckpointBegin = codes "checkpoint begin"
kind_word (CheckpointEnd begin transactions dirty) = codes "checkpoint end"

-- its transaction and PrevLSN
abbrev pub plain_fields : Style → (tx prev : ℕ) → List ℕ
plain_fields style tx prev = number_field style (codes "transaction") tx ++ number_field style (codes "PrevLSN") prev

-- the cell that it changes
abbrev pub cell_fields : Style → (page slot : ℕ) → List ℕ
cell_fields style page slot = number_field style (codes "page") page ++ number_field style (codes "slot") slot

abbrev pub record_fields : Style → LogRecord → List ℕ
record_fields style (Update u) =
    plain_fields style u.tx u.prev
    ++ cell_fields style u.page u.slot
    ++ image_field style (codes "before") u.before
    ++ image_field style (codes "after") u.after
record_fields style (Compensation c) =
    plain_fields style c.tx c.prev
    ++ cell_fields style c.page c.slot
    ++ number_field style (codes "UndoNxtLSN") c.undo_next
    ++ image_field style (codes "image") c.image
record_fields style (Commit r) = plain_fields style r.tx r.prev
record_fields style (Abort r) = plain_fields style r.tx r.prev
record_fields style (End r) = plain_fields style r.tx r.prev
record_fields style (Prepare r) = plain_fields style r.tx r.prev
record_fields style CheckpointBegin = []
record_fields style (CheckpointEnd begin transactions dirty) =
    number_field style (codes "BeginLSN") begin
    ++ table_field style (codes "transactions") transaction_entry transactions
    ++ table_field style (codes "dirty") dirty_entry dirty

-- the fields of a record without the tables of a checkpoint end, which may have any length
abbrev pub short_fields : Style → LogRecord → List ℕ
short_fields style (CheckpointEnd begin transactions dirty) = number_field style (codes "BeginLSN") begin
short_fields style r = record_fields style r

-- and those tables
abbrev pub table_fields : Style → LogRecord → List ℕ
table_fields style (CheckpointEnd begin transactions dirty) =
    table_field style (codes "transactions") transaction_entry transactions
    ++ table_field style (codes "dirty") dirty_entry dirty
table_fields style r = []

-- a record with this LSN, whose frame is at this offset
abbrev pub record_line : Style → (offset lsn : ℕ) → LogRecord → List ℕ
record_line style offset lsn r = opening style offset (kind_word r) ++ number_field style (codes "LSN") lsn ++ record_fields style r ++ closing style
