use Rattle.std.proofs.Common.{ap, arith, length, length-append, refl}
use Rattle.wal.specs.Content.{shown}
use Rattle.wal.specs.Spelling.{fields, entry, dirty_page, table}
use Rattle.wal.proofs.TableFields.{table_length}
use Rattle.wal.proofs.Whole.{entry_length}
use Rattle.wal.proofs.view.RecordView.frame_bytes.Goals as goal

pub returns-in-CheckpointEnd : goal.returns-in-CheckpointEnd
returns-in-CheckpointEnd c lsn =
    let end = c.in-CheckpointEnd in
    let is = ap (λ view. length (fields (shown view))) end.is in
    let first = table_length entry 21 entry_length end.transactions in
    let second = table_length dirty_page 12 (λ d. refl) end.dirty in
    omega (arith, is, first, second, length-append (table entry end.transactions) (table dirty_page end.dirty), c.len.ensures, c.len-in-CheckpointEnd.ensures)
