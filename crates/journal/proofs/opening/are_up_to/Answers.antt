use Rattle.std.proofs.Common.{◌≤◌, List, subst, refl, arith}
use Rattle.std.specs.Prelude.{All}
use Rattle.std.proofs.lemmas.List.{take_all}
use Rattle.std.proofs.lemmas.List.Elements.{All-more}
use Rattle.page.specs.declared.page.Page.{Page}
use Rattle.journal.proofs.opening.are_up_to.Goals as goal

pub loop-page-init : goal.loop-page-init
loop-page-init c = λ i d lt. absurd (omega (arith, lt))

pub loop-page-preserved : goal.loop-page-preserved
loop-page-preserved c =
    All-more (λ (page : Page). page.lsn ≤ c.args.lsn) c.args.pages.now c.loop-page.page-index c.page-item.result c.loop-page-test.true c.loop-page.invariant
    (subst (λ (page : Page). page.lsn ≤ c.args.lsn) c.page-item.is (omega arith))

pub returns : goal.returns
returns c = (
  λ yes. subst (λ (ps : List Page). All (λ page. page.lsn ≤ c.args.lsn) ps) (take_all c.loop-page.page-index c.args.pages.now c.loop-page-test.false) c.loop-page.invariant,
  λ all. refl,
)
