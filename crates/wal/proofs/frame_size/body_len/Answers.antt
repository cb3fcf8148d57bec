use Rattle.std.proofs.Common.{map, refl, arith, length-append}
use Rattle.std.proofs.lemmas.List.{length-map}
use Rattle.wal.specs.Spelling.{entry, dirty_page, table}
use Rattle.wal.specs.Content.{entry_of}
use Rattle.wal.proofs.TableFields.{table_length}
use Rattle.wal.proofs.Whole.{entry_length}
use Rattle.wal.proofs.frame_size.body_len.Goals as goal

pub returns-in-CheckpointEnd : goal.returns-in-CheckpointEnd
returns-in-CheckpointEnd c =
    let transactions = map entry_of c.in-CheckpointEnd.transactions.items in
    let dirty = c.in-CheckpointEnd.dirty.items in
    let first = table_length entry 21 entry_length transactions in
    let second = table_length dirty_page 12 (λ d. refl) dirty in
    rw c.in-CheckpointEnd.is
    (omega (arith, c.len.ensures, c.len-in-CheckpointEnd.ensures, first, second, length-map c.in-CheckpointEnd.transactions.items entry_of, length-append (table entry transactions) (table dirty_page dirty)))
