use Rattle.recovery.proofs.LogTexts.{behind_room}
use Rattle.recovery.proofs.log_text.read_last.Goals as goal

pub returns-in-Ok-clause-front : goal.returns-in-Ok-clause-front
returns-in-Ok-clause-front g c = (behind_room g.S.Source.left c.args.source.now c.read_rest.new.source c.args.filled c.args.bytes.now.items c.read_rest.new.bytes.items c.requires c.in-Ok.ensures.read).0

pub returns-in-Ok-clause-read : goal.returns-in-Ok-clause-read
returns-in-Ok-clause-read g c = (behind_room g.S.Source.left c.args.source.now c.read_rest.new.source c.args.filled c.args.bytes.now.items c.read_rest.new.bytes.items c.requires c.in-Ok.ensures.read).1
