use Rattle.std.proofs.Common.{◌≡◌, ◌∙◌, List, Option, Some, codes}
use Rattle.clap.specs.Words.{Row, found_of, rows_of}
use Rattle.command.specs.Job.{FileName, NamesFiles, NamesNewStore}
use Rattle.command.specs.declared.job.Job.{Job}
use Rattle.command.specs.declared.job.Job.TheVariants.{Recover, RecoverInPlace, Audit}
use Rattle.words.proofs.Parses.{error_made}
use Rattle.command.proofs.job.recover_job.Goals as goal

-- the options of a recovery say where the new store goes
new_store_named : (values : List Row) (job : Job) → NamesFiles (codes "recover") values job → (file : Option FileName) × NamesNewStore values file
new_store_named values (Recover log store out_log out_store options may_be_one verbose) names = (Some out_store, names.5)
new_store_named values (RecoverInPlace log store out_store options may_be_one verbose) names = (out_store, names.5)
new_store_named values (Audit log store base verbose) names = absurd (let same : codes "recover" ≡ codes "audit" = names.0 in cc)

pub returns-in_err-out_store-clause-refused : goal.returns-in_err-out_store-clause-refused
returns-in_err-out_store-clause-refused c =
    error_made c.from_residual-in_err-out_store.result _ _ (λ refusal made job names.
    let store = new_store_named (rows_of (found_of c.args.matches.now)) job names in
    made ∙ c.in_err-out_store.ensures.refused store.0 store.1) c.from_residual-in_err-out_store.ensures.1
