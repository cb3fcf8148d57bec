use Rattle.std.proofs.Common.{◌∙◌}
use Rattle.journal.proofs.Tables.{listed_is}
use Rattle.journal.proofs.table.is_listed.Goals as goal

pub returns : goal.returns
returns c = λ t p own. c.is_some.ensures ∙ listed_is c.args.entries.now c.args.tx c.find.result c.find.ensures.within c.find.ensures.found (c.find.ensures.none t) p own
