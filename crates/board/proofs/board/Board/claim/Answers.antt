use Rattle.std.proofs.Common.{◌≡◌, ℕ, ◌+◌, ◌<◌, ◌≤◌, List, [], ◌∷◌, ◌++◌, Contains, sym, ap, ◌∙◌, subst, length, length-append, arith}
use Rattle.board.specs.Claims.{size, times, with_drawn}
use Rattle.board.proofs.Claims.{claims}
use Rattle.board.proofs.Seats.{times_from_not, not_from_times, size_path, start_path, drew, met, few_drawn}
use Rattle.board.specs.declared.view.View.{View}
use Rattle.board.specs.declared.sizes.TheConstants.{SEATS}
use Rattle.board.proofs.board.Board.claim.Goals as goal

pub fetch_add-found-requires : goal.fetch_add-found-requires
fetch_add-found-requires c =
    let same = c.seat.view_is in
    let ended = ap (λ h. h.ended) same in
    let board = ap (λ h. h.board) same ∙ (c.requires.board ∙ sym c.self.view_is) in (
      ap (λ b. b.table) board,
      (let a = ap (λ b. b.ranges) c.self.view_is in let b = c.self.invariant.words in let d = ap (λ q. q.ranges) c.self.invariant.same_plan in omega (arith, c.requires.range)),
      claims c.self.inside.table.shared.key _ _ c.seat.inside.token.me c.args.range
          (let a = ap (λ b. b.ranges) c.self.view_is in omega (arith, c.requires.range))
          (let a = c.seat.invariant.some_place in let b = c.seat.invariant.same_places in omega arith)
          (times_from_not c.args.range _ (subst (λ (l : List ℕ). Contains l c.args.range → ⊥) (sym ended) c.requires.«open»)),
    )

-- the step's number is the seat's
hits : (c : goal.Then-found-size) → let x = c.range-start.result.0 + c.fetch_add-found.result in (c.fetch_add-found.new.seat.me.0 ≡ with_drawn c.seat.inside.token.me.0 x) × (times x c.seat.inside.token.me.0.drawn ≡ 0)
hits c =
    let v = c.seat.inside.token.me.0 in
    let n = c.fetch_add-found.result in
    let parts = ap (λ h. h.board.parts) c.seat.view_is ∙ ap (λ b. b.parts) c.requires.board in
    let ranges = ap (λ h. h.board.ranges) c.seat.view_is ∙ ap (λ b. b.ranges) c.requires.board in
    let size' = size_path v.plan c.args.self.now.parts c.args.self.now.ranges c.args.range parts ranges in
    let start' = start_path v.plan c.args.self.now.parts c.args.self.now.ranges c.args.range parts ranges in
    let less : n < size v.plan c.args.range = let a = c.if-found-size.true in let b = c.range-start.ensures.size in omega arith in
    subst (λ (y : ℕ). (c.fetch_add-found.new.seat.me.0 ≡ with_drawn v (y + n)) × (times (y + n) v.drawn ≡ 0)) (start' ∙ sym c.range-start.ensures.start) (c.fetch_add-found.ensures.2.1 less)

pub invariant_of-seat : goal.invariant_of-seat
invariant_of-seat c = let h = hits c in drew c.seat.inside c.seat.invariant c.fetch_add-found.new.seat c.fetch_add-found.ensures.2.0 (c.range-start.result.0 + c.fetch_add-found.result) h.0 h.1
    (let a = ap (λ h. h.board.parts) c.seat.view_is ∙ ap (λ b. b.parts) c.requires.board in let b = c.range-start.ensures.below in let d = c.if-found-size.true in omega arith)

pub returns-then-found-size-clause-some : goal.returns-then-found-size-clause-some
returns-then-found-size-clause-some c = let h = hits c in let x = c.range-start.result.0 + c.fetch_add-found.result in (
  (
    (let a = c.if-found-size.true in let b = c.range-start.ensures.below in omega arith),
    subst (λ (l : List ℕ). Contains l x → ⊥) (ap (λ h. h.drawn) c.seat.view_is) (not_from_times x c.seat.inside.token.me.0.drawn h.1),
    ap (λ v. v.drawn) h.0 ∙ ap (λ (l : List ℕ). l ++ x ∷ []) (ap (λ h. h.drawn) c.seat.view_is),
  ),
  ap (λ v. v.ended) h.0 ∙ ap (λ h. h.ended) c.seat.view_is,
)

pub invariant_of-seat-else-found-size : goal.invariant_of-seat-else-found-size
invariant_of-seat-else-found-size c =
    let v = c.seat.inside.token.me.0 in
    let parts = ap (λ h. h.board.parts) c.seat.view_is ∙ ap (λ b. b.parts) c.requires.board in
    let ranges = ap (λ h. h.board.ranges) c.seat.view_is ∙ ap (λ b. b.ranges) c.requires.board in
    let size' = size_path v.plan c.args.self.now.parts c.args.self.now.ranges c.args.range parts ranges in
    let past : size v.plan c.args.range ≤ c.fetch_add-found.result = let a = c.if-found-size.false in let b = c.range-start.ensures.size in omega arith in
    let few : c.args.range < SEATS = let a = ap (λ b. b.ranges) c.self.view_is in let b = c.self.invariant.sized in let d = ap (λ q. q.ranges) c.self.invariant.same_plan in omega (arith, c.requires.range) in
    met c.seat.inside c.seat.invariant c.fetch_add-found.new.seat c.fetch_add-found.ensures.2.0 c.args.range c.seat.told few (c.fetch_add-found.ensures.2.2 past)

pub returns-then-found-size-clause-room : goal.returns-then-found-size-clause-room
returns-then-found-size-clause-room c =
    let h = hits c in
    let x = c.range-start.result.0 + c.fetch_add-found.result in
    let v = c.seat.inside.token.me.0 in
    let few = few_drawn (record { token = c.fetch_add-found.new.seat; places = c.seat.inside.places; ended = c.seat.inside.ended }) (invariant_of-seat c) in
    let fits : length (v.drawn ++ x ∷ []) ≤ v.plan.parts = subst (λ (u : View). length u.drawn ≤ u.plan.parts) h.0 few in
    let parts = ap (λ h. h.board.parts) c.seat.view_is ∙ ap (λ b. b.parts) c.requires.board in
    let same : length v.drawn ≡ length c.args.seat.now.drawn = ap (λ h. length h.drawn) c.seat.view_is in
    omega (arith, length-append v.drawn (x ∷ []))
