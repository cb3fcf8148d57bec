use Rattle.std.proofs.Common.{sym, subst}
use Rattle.std.specs.Prelude.{IfOk, IfErr}
use Rattle.passes.specs.InPieces.{GoesForward, StopsForward}
use Rattle.passes.proofs.in_pieces.go_forward.Goals as goal

pub returns-then-master-eq0-clause-answer : goal.returns-then-master-eq0-clause-answer
returns-then-master-eq0-clause-answer g c =
    subst (λ m. IfOk c.go_at_once.result (GoesForward g.P.Pages (g.S.Reread.text c.args.source.now) m c.args.pages.now c.go_at_once.new.pages)) (sym c.if-master-eq0.true) c.go_at_once.ensures.answer

pub returns-then-master-eq0-clause-fault : goal.returns-then-master-eq0-clause-fault
returns-then-master-eq0-clause-fault g c =
    subst (λ m. IfErr c.go_at_once.result (StopsForward g.P.Pages (g.S.Reread.text c.args.source.now) m c.args.pages.now)) (sym c.if-master-eq0.true) c.go_at_once.ensures.fault
