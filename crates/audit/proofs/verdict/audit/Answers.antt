use Rattle.log_laws.specs.Meaning.{no_base}
use Rattle.audit.proofs.Kept.{lawful_kept}
use Rattle.audit.proofs.verdict.audit.Goals as goal

pub returns-clause-lawful : goal.returns-clause-lawful
returns-clause-lawful c = λ lawful. lawful_kept no_base c.args.log.now c.args.store.now c.first_fault.result lawful c.first_fault.ensures.fault
