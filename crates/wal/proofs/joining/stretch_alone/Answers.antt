use Rattle.wal.proofs.Stretches.{read_to_end}
use Rattle.wal.proofs.joining.stretch_alone.Goals as goal

pub returns-clause-end : goal.returns-clause-end
returns-clause-end c = read_to_end c.args.bytes.now c.read_on.result c.read_on.ensures.end
