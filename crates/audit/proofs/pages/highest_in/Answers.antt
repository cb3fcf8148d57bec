use Rattle.std.proofs.Common.{◌≤◌, List, subst, arith}
use Rattle.std.specs.Prelude.{All}
use Rattle.std.proofs.lemmas.List.{take_all}
use Rattle.std.proofs.lemmas.List.Elements.{All-more}
use Rattle.page.specs.declared.page.Page.{Page}
use Rattle.audit.proofs.pages.highest_in.Goals as goal

pub loop-page-preserved : goal.loop-page-preserved
loop-page-preserved c =
    All-more (λ (page : Page). page.lsn ≤ c.max-highest.result) c.args.pages.now c.loop-page.page-index c.page-item.result c.loop-page-test.true
    (λ i d lt. omega (arith, c.loop-page.invariant i d lt, c.max-highest.ensures))
    (subst (λ (page : Page). page.lsn ≤ c.max-highest.result) c.page-item.is (omega (arith, c.max-highest.ensures)))

pub returns : goal.returns
returns c =
    subst (λ (ps : List Page). All (λ page. page.lsn ≤ c.loop-page.highest) ps) (take_all c.loop-page.page-index c.args.pages.now c.loop-page-test.false) c.loop-page.invariant
