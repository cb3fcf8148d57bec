use Rattle.std.proofs.Common.{◌≤◌, sym, ap, ◌∙◌, subst, arith}
use Rattle.board.specs.Claims.{times}
use Rattle.board.proofs.Times.{distinct_from_times}
use Rattle.board.proofs.Places.{joins, looks}
use Rattle.board.proofs.Seats.{joined_seat}
use Rattle.board.specs.declared.sizes.TheConstants.{SEATS}
use Rattle.board.proofs.board.Board.join.Goals as goal

pub join_seat-requires : goal.join_seat-requires
join_seat-requires c =
    let first = ap (λ h. h.board) c.first.view_is ∙ (c.requires.board.0 ∙ sym c.self.view_is) in
    let second = ap (λ h. h.board) c.second.view_is ∙ (c.requires.board.1 ∙ sym c.self.view_is) in (
      ap (λ b. b.table) first,
      ap (λ b. b.table) second,
      c.second.invariant.no_slot,
      (let b = c.self.invariant.words in let d = c.self.invariant.sized in omega arith),
      joins c.self.inside.table.shared.key _ c.first.inside.token.me.0 _ c.second.inside.token.me.0
          (let a = c.first.invariant.some_place in let b = c.first.invariant.same_places in omega arith)
          (let a = c.second.invariant.some_place in let b = c.second.invariant.same_places in omega arith),
    )

pub load-requires : goal.load-requires
load-requires c =
    let first = ap (λ h. h.board) c.first.view_is ∙ (c.requires.board.0 ∙ sym c.self.view_is) in
    let ranges = ap (λ q. q.ranges) c.self.invariant.same_plan in (
      c.join_seat.ensures.0 ∙ ap (λ b. b.table) first,
      (let b = c.self.invariant.words in omega arith),
      rw ranges (looks c.self.inside.table.shared.key _ _ c.join_seat.new.seat.me),
    )

pub invariant_of-result : goal.invariant_of-result
invariant_of-result c =
    joined_seat c.first.inside c.second.inside c.first.invariant c.second.invariant c.load.new.seat c.either_of.result (c.load.ensures.2.0 ∙ c.join_seat.ensures.2)
    (λ x. subst (λ m. times x m.0.drawn ≤ 1) (sym c.load.ensures.2.0) (c.load.ensures.2.1 x))
    (subst (λ m. m.0.places ≤ SEATS) (sym c.load.ensures.2.0) c.load.ensures.2.2)
    (ap (λ h. h.board.parts) c.second.view_is ∙ (ap (λ b. b.parts) (c.requires.board.1 ∙ sym c.requires.board.0) ∙ sym (ap (λ h. h.board.parts) c.first.view_is)))
    c.either_of.ensures

pub returns-clause-distinct : goal.returns-clause-distinct
returns-clause-distinct c = distinct_from_times c.load.new.seat.me.0.drawn (λ x. subst (λ m. times x m.0.drawn ≤ 1) (sym c.load.ensures.2.0) (c.load.ensures.2.1 x))
