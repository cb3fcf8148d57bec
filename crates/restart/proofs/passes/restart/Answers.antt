use Rattle.std.proofs.Common.{◌≡◌, List, length, sym, ap, ◌∙◌, subst}
use Rattle.std.proofs.lemmas.Result.{err_from_is_err_and, IfOk-weaker}
use Rattle.page.specs.declared.page.Page.{Page}
use Rattle.page.specs.Store.{StoreContent}
use Rattle.log_laws.specs.Store.{Lawful}
use Rattle.undo.proofs.Told.{told_writable}
use Rattle.restart.specs.Outcome.{OutcomeContent}
use Rattle.restart.specs.Restart.{AreSettings}
use Rattle.restart.proofs.passes.restart.Goals as goal

pub returns-in_err-brief-clause-lawful : goal.returns-in_err-brief-clause-lawful
returns-in_err-brief-clause-lawful g c = λ base lawful fit.
    let exit = err_from_is_err_and c.from_residual-in_err-brief.result c.from_residual-in_err-brief.ensures.1 in
    let same : ◌≡◌ {A = StoreContent} (record { master = c.store.inside.master; pages = c.in_ok-pages.pages.items }) c.args.store.now =
    ap (λ (ps : List Page). record { master = c.store.inside.master; pages = ps }) (c.in_ok-pages.ensures.items ∙ c.deref.ensures.value) ∙ c.store.view_is in
    rw (exit.1, exit.2)
    (c.in_err-brief.ensures.lawful base (subst (Lawful base c.args.log.now) (sym same) lawful)
    (subst (λ (s : StoreContent). AreSettings (length s.pages) c.args.parting.now c.args.workers) (sym same) fit))

pub returns-clause-writable : goal.returns-clause-writable
returns-clause-writable g c =
    IfOk-weaker c.outcome_of.result _ _
    (λ x same. told_writable c.args.log.now c.in_ok-brief.brief.appended.items x.appended.items (ap (λ (o : OutcomeContent). o.appended) same) c.in_ok-brief.ensures.writable)
    c.outcome_of.ensures.ok
