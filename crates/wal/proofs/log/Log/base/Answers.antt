use Rattle.std.proofs.Common.{sym, ap, ◌∙◌, arith}
use Rattle.log_laws.specs.Records.{lsn_before, LogContent}
use Rattle.wal.proofs.Headers.{start_small}
use Rattle.log_laws.proofs.Histories.{base_of_log}
use Rattle.wal.proofs.log.Log.base.Goals as goal

pub returns-clause-is : goal.returns-clause-is
returns-clause-is c = c.base.ensures ∙ ap (λ (log : LogContent). lsn_before log.begins) c.self.view_is ∙ sym (base_of_log c.args.self.now)

pub returns-clause-low : goal.returns-clause-low
returns-clause-low c = omega (arith, c.base.ensures, start_small c.self.inside.begins c.self.invariant.starts)
