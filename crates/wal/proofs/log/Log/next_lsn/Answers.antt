use Rattle.std.proofs.Common.{ap, arith}
use Rattle.log_laws.specs.Records.{lsn_before, LogContent}
use Rattle.wal.proofs.Headers.{start_small}
use Rattle.log_laws.proofs.Histories.{size_of_log, base_of_log}
use Rattle.wal.proofs.log.Log.next_lsn.Goals as goal

pub returns-clause-next : goal.returns-clause-next
returns-clause-next c = omega (arith, c.base.ensures, c.len.ensures, size_of_log c.args.self.now, ap (λ (log : LogContent). lsn_before log.begins) c.self.view_is)

pub returns-clause-low : goal.returns-clause-low
returns-clause-low c =
    omega (arith, base_of_log c.args.self.now, ap (λ (log : LogContent). lsn_before log.begins) c.self.view_is, start_small c.self.inside.begins c.self.invariant.starts)
