use Rattle.std.proofs.Common.{◌≡◌, ◌↔◌, ℕ, ◌+◌, ◌*◌, ◌<◌, ◌≤◌, List, All, Contains, sym, ap, ◌∙◌, subst, sum, take, true, false, Bool, cond, eqb, slice_index, length, get_or-take, arith}
use Rattle.std.specs.Slots.{slots_items}
use Rattle.board.specs.Drawn.{SeatState, AreDistinct, AllEnded, range_start, range_size}
use Rattle.board.proofs.Closing.{Closing, closes}
use Rattle.board.proofs.Seats.{read_word}
use Rattle.board.proofs.board.Board.close.Goals as goal

pub free-requires : goal.free-requires
free-requires c = λ k h. absurd (let a = c.close_with-closed.ensures.counts.1 in let b = c.self.invariant.no_slot in omega arith)

known : (c : goal.After-free) → Closing c.self.inside.table.shared.key c.seat.inside.token.me.0 (slots_items c.close_with-closed.result.words)
known c =
    let places = ap (λ h. h.places) c.seat.view_is in
    let seats = ap (λ b. b.seats) c.self.view_is in
    closes c.self.inside.table.shared.key _ c.seat.inside.token.me.0 _ _ (places ∙ (c.requires.places ∙ sym seats)) (let a = c.seat.invariant.some_place in let b = c.seat.invariant.same_places in omega arith) c.close_with-closed.ensures.values.2

pub returns-clause-distinct : goal.returns-clause-distinct
returns-clause-distinct c = subst AreDistinct (ap (λ h. h.drawn) c.seat.view_is) (known c).distinct

pub returns-clause-below : goal.returns-clause-below
returns-clause-below c = subst (λ (z : ℕ × List ℕ). All (λ x. x < z.0) z.1) (λ i. ((c.self.view_is i).parts, (c.seat.view_is i).drawn)) (known c).below

pub returns-clause-all : goal.returns-clause-all
returns-clause-all c =
    subst (λ (z : (ℕ × ℕ) × (List ℕ × List ℕ)). AllEnded z.0.1 z.1.1 → (x : ℕ) → x < z.0.0 → Contains z.1.0 x)
    (λ i. (((c.self.view_is i).parts, (c.self.view_is i).ranges), ((c.seat.view_is i).drawn, (c.seat.view_is i).ended))) (known c).all

-- the words of the tally are those of the ranges
tallied : (c : goal.After-free) → take c.self.inside.table.shared.key.ranges (slots_items c.close_with-closed.result.words) ≡ take c.self.inside.plan.ranges c.words_of-words.result
tallied c = ap (λ (k : ℕ). take k (slots_items c.close_with-closed.result.words)) (sym (ap (λ q. q.ranges) c.self.invariant.same_plan)) ∙ sym c.words_of-words.ensures

pub returns-clause-claims : goal.returns-clause-claims
returns-clause-claims c =
    let p = c.self.inside.table.shared.key in
    let ws = slots_items c.close_with-closed.result.words in
    let all : (r k : ℕ) → r < p.ranges → k < range_size p.parts p.ranges r → Contains c.seat.inside.token.me.0.drawn (range_start p.parts p.ranges r + k) ↔ (k < slice_index (take p.ranges ws) r) =
    λ r k in' small. subst (λ (n : ℕ). Contains c.seat.inside.token.me.0.drawn (range_start p.parts p.ranges r + k) ↔ (k < n)) (sym (get_or-take p.ranges ws r 0 in')) ((known c).claims r k in' small) in
    subst (λ (z : (ℕ × ℕ) × (List ℕ × List ℕ)). (r k : ℕ) → r < z.0.1 → k < range_size z.0.0 z.0.1 r → Contains z.1.0 (range_start z.0.0 z.0.1 r + k) ↔ (k < slice_index z.1.1 r))
    (λ i. (((c.self.view_is i).parts, (c.self.view_is i).ranges), ((c.seat.view_is i).drawn, tallied c i))) all

pub returns-clause-drawn : goal.returns-clause-drawn
returns-clause-drawn c = subst (λ (z : List ℕ × List ℕ). length z.0 ≤ sum z.1) (λ i. ((c.seat.view_is i).drawn, tallied c i)) (known c).counted

pub returns-clause-bound : goal.returns-clause-bound
returns-clause-bound c =
    subst (λ (z : List ℕ × (ℕ × ℕ × ℕ)). sum z.0 ≤ z.1.0 + z.1.1 * z.1.2)
    (λ i. (tallied c i, ((c.self.view_is i).parts, (c.self.view_is i).seats, (c.self.view_is i).ranges))) (known c).bound

-- the stop word is 1 or 0
flag : (b : Bool) (n : ℕ) → n ≡ cond b 1 0 → eqb n 1 ≡ b
flag true n e = ap (λ (k : ℕ). eqb k 1) e
flag false n e = ap (λ (k : ℕ). eqb k 1) e

pub returns-clause-stopped : goal.returns-clause-stopped
returns-clause-stopped c =
    let word = read_word (slots_items c.close_with-closed.result.words) c.self.inside.plan.ranges c.word-stopped.result c.word-stopped.ensures in
    let counted = ap (slice_index (slots_items c.close_with-closed.result.words)) (ap (λ q. q.ranges) c.self.invariant.same_plan) in
    flag c.seat.inside.token.me.0.stopped c.word-stopped.result (sym word ∙ (counted ∙ (known c).stop)) ∙ ap (λ h. h.stopped) c.seat.view_is

pub returns-clause-told : goal.returns-clause-told
returns-clause-told c = subst (λ (h : SeatState). h.told ≡ true → h.stopped ≡ true) c.seat.view_is (known c).told
