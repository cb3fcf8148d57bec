use Rattle.std.proofs.Common.{ap, arith}
use Rattle.log_laws.specs.Records.{lsn_before, LogContent}
use Rattle.log_laws.proofs.Histories.{size_of_log}
use Rattle.wal.proofs.log.Log.last.Goals as goal

pub returns : goal.returns
returns c = omega (arith, c.base.ensures, c.len.ensures, size_of_log c.args.self.now, ap (λ (log : LogContent). lsn_before log.begins) c.self.view_is)
