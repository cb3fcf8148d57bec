use Rattle.std.proofs.Common.{ℕ, List, [], ◌∷◌, ◌++◌, Contains, sym, ap, ◌∙◌, subst}
use Rattle.board.proofs.board.Board.draw_or_stop.Goals as goal

pub returns-in-Some-clause-part : goal.returns-in-Some-clause-part
returns-in-Some-clause-part c =
    let same = c.is_stopped.ensures.same.0 in
    let x = c.in-Some.x in
    let gains = c.in-Some.ensures.some in
    (gains.0, (λ h. gains.1 (subst (λ (l : List ℕ). Contains l x) (sym same) h)), gains.2 ∙ ap (λ (l : List ℕ). l ++ x ∷ []) same)

pub returns-in-Some-clause-ended : goal.returns-in-Some-clause-ended
returns-in-Some-clause-ended c = λ x h. c.in-Some.ensures.ended x (subst (λ (l : List ℕ). Contains l x) (sym c.is_stopped.ensures.same.1) h)
