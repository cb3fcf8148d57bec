use Rattle.std.proofs.Common.{All, subst, sym}
use Rattle.std.proofs.lemmas.List.Elements.{All-push}
use Rattle.passes.specs.Stretches.{IsBegunStretch}
use Rattle.passes.proofs.stretch.stretches_at.Goals as goal

pub loop-number-preserved : goal.loop-number-preserved
loop-number-preserved g c =
    let holds = IsBegunStretch g.P.Pages c.args.pages.now in
    subst (All holds) (sym c.in_ok-push.ensures.items)
    (All-push holds c.loop-number.stretches.items _ c.loop-number.invariant c.in_ok-stretch_at.ensures.begun)
