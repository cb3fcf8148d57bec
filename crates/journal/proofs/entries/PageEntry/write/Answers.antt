use Rattle.journal.proofs.Held.{entry_wrote}
use Rattle.journal.proofs.entries.PageEntry.write.Goals as goal

pub returns : goal.returns
returns c = entry_wrote c.args.self.now c.args.slot c.args.tx c.args.lsn c.requires.lsn
