use Rattle.std.proofs.Common.{sym, arith}
use Rattle.journal.proofs.Held.{slot_at, writer_at}
use Rattle.journal.proofs.entries.PageEntry.cell.Goals as goal

pub returns-clause-image : goal.returns-clause-image
returns-clause-image c = sym (slot_at c.args.self.now c.args.slot _ (omega (arith, c.requires, c.know_slots.ensures.slots)))

pub returns-clause-writer : goal.returns-clause-writer
returns-clause-writer c = sym (writer_at c.args.self.now c.args.slot 0 (omega (arith, c.requires, c.know_slots.ensures.writers)))
