-- A record of the program, and a record as it is in the bytes of a log, as the laws see them (own).
use Rattle.std.specs.Prelude.{◌≡◌, ℕ, List, ◌++◌, map, option_map}
use Rattle.wal.specs.declared.record.Entry.{Entry}
use Rattle.wal.specs.declared.record.Record.{Record}
use Rattle.wal.specs.declared.record.Record.TheVariants as code
use Rattle.log_laws.specs.Records.{TableEntry, LogRecord, Update, Compensation, Commit, Abort, End, Prepare, CheckpointBegin, CheckpointEnd}
use Rattle.wal.specs.declared.change.Change as put
use Rattle.wal.specs.declared.view.RecordView.{RecordView}
use Rattle.wal.specs.declared.view.RecordView.TheVariants as view
use Rattle.log_laws.specs.Meaning.{Change}

-- a transaction and its entry in a table
abbrev pub entry_of : ℕ × Entry → TableEntry
entry_of p = record { tx = p.0; state = p.1.state; last = p.1.last; undo_next = p.1.undo_next }

abbrev pub content : Record → LogRecord
content (code.Update tx prev page slot before after) = Update (record { tx = tx; prev = prev; page = page; slot = slot; before = before; after = after })
content (code.Compensation tx prev page slot undo_next image) =
    Compensation (record { tx = tx; prev = prev; page = page; slot = slot; undo_next = undo_next; image = image })
content (code.Commit tx prev) = Commit (record { tx = tx; prev = prev })
content (code.Abort tx prev) = Abort (record { tx = tx; prev = prev })
content (code.End tx prev) = End (record { tx = tx; prev = prev })
content (code.Prepare tx prev) = Prepare (record { tx = tx; prev = prev })
content code.CheckpointBegin = CheckpointBegin
content (code.CheckpointEnd begin transactions dirty) = CheckpointEnd begin (map entry_of transactions.items) dirty.items

-- the record that a view shows, without the places of its parts in memory
abbrev pub shown : RecordView → LogRecord
shown (view.Update tx prev page slot before after) =
    Update (record { tx = tx; prev = prev; page = page; slot = slot; before = option_map (λ s. s.now) before; after = option_map (λ s. s.now) after })
shown (view.Compensation tx prev page slot undo_next image) =
    Compensation (record { tx = tx; prev = prev; page = page; slot = slot; undo_next = undo_next; image = option_map (λ s. s.now) image })
shown (view.Commit tx prev) = Commit (record { tx = tx; prev = prev })
shown (view.Abort tx prev) = Abort (record { tx = tx; prev = prev })
shown (view.End tx prev) = End (record { tx = tx; prev = prev })
shown (view.Prepare tx prev) = Prepare (record { tx = tx; prev = prev })
shown view.CheckpointBegin = CheckpointBegin
shown (view.CheckpointEnd begin transactions dirty) = CheckpointEnd begin transactions dirty

-- and what it puts into a cell
abbrev pub shown_change : put.Change → Change
shown_change c = record { page = c.page; slot = c.slot; image = option_map (λ s. s.now) c.image }

-- BYTES
-- the bytes that were there are still in front
pub record Keeps (old new : List ℕ) : Type 0 where
  pub more : List ℕ
  pub is : new ≡ old ++ more
