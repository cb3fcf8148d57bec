use Rattle.std.proofs.Common.{subst, arith}
use Rattle.log_laws.specs.Records.{history}
use Rattle.undo.specs.Wants.{WantUpTo, wants_in}
use Rattle.passes.proofs.gather.gather_piece.Goals as goal

pub returns-clause-gathered : goal.returns-clause-gathered
returns-clause-gathered g c = λ text whole before torn is reads mark losers up far.
    c.in_ok-take.ensures.gathered (history whole) losers (c.in_ok-piece.ensures.piece text whole before torn is reads mark)
    (λ k d lt. omega (arith, up k d lt, c.in_ok-piece.ensures.reaches)) far

pub returns-clause-before : goal.returns-clause-before
returns-clause-before g c = subst (λ n. WantUpTo n (wants_in c.take.new.self.wants)) c.in_ok-piece.ensures.base c.in_ok-take.ensures.before
