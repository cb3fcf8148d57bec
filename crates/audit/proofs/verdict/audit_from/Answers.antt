use Rattle.std.proofs.Common.{◌≡◌, ◌∙◌, List, ap, subst}
use Rattle.std.specs.Prelude.{IfErr}
use Rattle.page.specs.declared.page.Page.{Page}
use Rattle.page.specs.Store.{StoreContent}
use Rattle.log_laws.specs.Pages.{base_pages}
use Rattle.audit.specs.FirstFault.{FirstFault}
use Rattle.audit.proofs.Over.{over_kept}
use Rattle.audit.proofs.verdict.audit_from.Goals as goal

pub returns-clause-lawful : goal.returns-clause-lawful
returns-clause-lawful c = λ lawful.
    let stored : c.deref.result.now ≡ c.args.base.now.pages = c.deref.ensures.value ∙ ap (λ (s : StoreContent). s.pages) c.base.view_is in
    over_kept c.args.log.now c.args.store.now c.args.base.now c.first_fault.result lawful
    (subst (λ (pages : List Page). IfErr c.first_fault.result (FirstFault (base_pages pages) c.args.log.now c.args.store.now)) stored c.first_fault.ensures.fault)
