use Rattle.std.proofs.Common.{IfOk, subst, sym}
use Rattle.clap.specs.Words.{Text, found_of, rows_of}
use Rattle.command.specs.Job.{NamesFiles}
use Rattle.command.proofs.job.job_of.Goals as goal

pub returns-in-recover-clause-files : goal.returns-in-recover-clause-files
returns-in-recover-clause-files c =
    subst (λ (name : Text). IfOk c.recover_job.result (NamesFiles name (rows_of (found_of c.args.matches.now)))) (sym c.in-recover.is) c.recover_job.ensures.files

pub returns-in-audit-clause-files : goal.returns-in-audit-clause-files
returns-in-audit-clause-files c =
    subst (λ (name : Text). IfOk c.audit_job.result (NamesFiles name (rows_of (found_of c.args.matches.now)))) (sym c.in-audit.is) c.audit_job.ensures.files
