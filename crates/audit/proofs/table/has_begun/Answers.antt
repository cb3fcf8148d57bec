use Rattle.audit.proofs.Unfinished.{begun_is}
use Rattle.audit.proofs.table.has_begun.Goals as goal

pub returns : goal.returns
returns c = λ t log links h. begun_is t log links c.args.status h
