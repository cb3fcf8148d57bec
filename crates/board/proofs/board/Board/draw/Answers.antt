use Rattle.std.proofs.Common.{◌≡◌, ℕ, ◌∙◌, ap, subst, sym, IfNone, Option, Some, None}
use Rattle.board.specs.Drawn.{SeatState, AllEnded, EndedWithin, IsWithin, IsOfFirst}
use Rattle.board.proofs.Order.{if_some, next_ahead, next_around, next_is_home}
use Rattle.board.proofs.Seats.{if_none, all_ended}
use Rattle.board.proofs.board.Board.draw.Goals as goal

none_left : (o : Option ℕ) (ranges home : ℕ) (first second third : SeatState) → (second.drawn ≡ first.drawn) × EndedWithin home ranges second.ended → IsWithin second.ended third.ended → IfNone o ((third.drawn ≡ second.drawn) × EndedWithin 0 home third.ended)
    → IfNone o ((third.drawn ≡ first.drawn) × AllEnded ranges third.ended)
none_left None ranges home first second third a more b = (b.0 ∙ a.0, all_ended ranges home second.ended third.ended a.1 more b.1)
none_left (Some x) ranges home first second third a more b = tt

pub returns-then-is_some-clause-order : goal.returns-then-is_some-clause-order
returns-then-is_some-clause-order c =
    let ranges = ap (λ p. p.ranges) c.self.invariant.same_plan ∙ ap (λ b. b.ranges) c.self.view_is in
    if_some c.sweep-drawn.result _ _
    (λ x f. next_ahead c.args.self.now c.args.home c.sweep-drawn.new.seat.ended x (subst (λ (n : ℕ). IsOfFirst c.args.self.now c.args.home n c.sweep-drawn.new.seat.ended x) ranges f))
    c.sweep-drawn.ensures.first

pub returns-then-is_some-clause-home : goal.returns-then-is_some-clause-home
returns-then-is_some-clause-home c = if_some c.sweep-drawn.result _ _ (λ x. next_is_home c.args.self.now c.args.home c.sweep-drawn.new.seat.ended x c.requires.home) (returns-then-is_some-clause-order c)

pub returns-clause-order : goal.returns-clause-order
returns-clause-order c =
    let one = if_none c.sweep-drawn.result _ (sym c.is_some.ensures ∙ c.if-is_some.false) c.sweep-drawn.ensures.none in
    let ranges = ap (λ p. p.ranges) c.self.invariant.same_plan ∙ ap (λ b. b.ranges) c.self.view_is in
    let high = subst (λ (n : ℕ). EndedWithin c.args.home n c.sweep-drawn.new.seat.ended) ranges one.1 in
    if_some c.sweep.result _ _ (λ x. next_around c.args.self.now c.args.home c.sweep.new.seat.ended x c.requires.home (λ r low top. c.sweep.ensures.ended r (high r low top))) c.sweep.ensures.first

pub returns-clause-home : goal.returns-clause-home
returns-clause-home c = if_some c.sweep.result _ _ (λ x. next_is_home c.args.self.now c.args.home c.sweep.new.seat.ended x c.requires.home) (returns-clause-order c)

pub returns-clause-none : goal.returns-clause-none
returns-clause-none c =
    let one = if_none c.sweep-drawn.result _ (sym c.is_some.ensures ∙ c.if-is_some.false) c.sweep-drawn.ensures.none in
    let ranges = ap (λ p. p.ranges) c.self.invariant.same_plan ∙ ap (λ b. b.ranges) c.self.view_is in
    none_left c.sweep.result c.args.self.now.ranges c.args.home c.args.seat.now c.sweep-drawn.new.seat c.sweep.new.seat (one.0, subst (λ (n : ℕ). EndedWithin c.args.home n c.sweep-drawn.new.seat.ended) ranges one.1) c.sweep.ensures.ended c.sweep.ensures.none
