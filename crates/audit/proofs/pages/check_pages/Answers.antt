use Rattle.std.proofs.Common.{◌∙◌, List, length, sym, ap, subst}
use Rattle.std.specs.Prelude.{All}
use Rattle.std.proofs.lemmas.List.{take_all}
use Rattle.std.proofs.lemmas.List.Elements.{All-more}
use Rattle.page.specs.declared.page.Page.{Page}
use Rattle.log_laws.specs.Records.{History, history}
use Rattle.log_laws.specs.Pages.{PageLaw, base_pages}
use Rattle.audit.specs.Cells.{KeepsWriters}
use Rattle.audit.specs.Pages.{log_at}
use Rattle.audit.proofs.PageImages.{keeps_page}
use Rattle.audit.proofs.pages.check_pages.Goals as goal

pub loop-page-preserved : goal.loop-page-preserved
loop-page-preserved c =
    let log : History = history c.args.log.now in
    let base = base_pages c.args.base.now in
    let i = c.loop-page.page-index in
    let cells = subst (λ ws. KeepsWriters (length c.args.pages.now) (log_at c.args.pages.now log) ws) (sym c.deref.ensures.value) c.in_ok-writers.ensures.ok in
    let keeps = keeps_page c.args.pages.now log c.deref.result.now i c.page-item.result c.page-item.is c.loop-page-test.true (ap (λ (p : Page). p.number) c.page-item.is ∙ c.requires.numbered.at_place i c.page-item.result c.loop-page-test.true) cells in
    All-more (PageLaw base log) c.args.pages.now i c.page-item.result c.loop-page-test.true c.loop-page.invariant (subst (PageLaw base log) c.page-item.is (c.in_default.ensures.ok keeps))

pub returns-clause-ok : goal.returns-clause-ok
returns-clause-ok c = subst (λ (ps : List Page). All (PageLaw (base_pages c.args.base.now) (history c.args.log.now)) ps) (take_all c.loop-page.page-index c.args.pages.now c.loop-page-test.false) c.loop-page.invariant
