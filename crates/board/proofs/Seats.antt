-- What a seat's fields show, and that they agree with its token after each step.
use Rattle.std.proofs.Common.{◌≡◌, ◌↔◌, ℕ, zero, suc, ◌+◌, ◌<◌, ◌≤◌, Bool, true, false, ◌||◌, List, [], ◌∷◌, ◌++◌, length, get_or, Contains, slice_index_or, slice_index, slice_set, refl, sym, ap, ◌∙◌, subst, ⊎_elim, arith, get_or-set_same, get_or-set_other}
use Rattle.std.proofs.lemmas.Bool.{or_cases}
use Rattle.std.proofs.lemmas.List.{length-replicate, take-replicate}
use mathlib.Core.Logic.{dite}
use mathlib.Core.Option.{some, some-injective, some-ne-none}
use lib.ListN.{get_elem?}
use native.Mathlib.Decide.{ℕ_discrete, dec_lt}
use Rattle.atomic_table.specs.declared.shared.Seat.{Seat as Token}
use Rattle.board.specs.declared.view.Plan.{Plan}
use Rattle.board.specs.declared.view.View.{View}
use Rattle.board.specs.declared.seat.Seat.TheInside.{Inside}
use Rattle.board.specs.Drawn.{AllEnded, EndedWithin, IsWithin, range_start, range_size}
use Rattle.board.specs.Claims.{times, start, size, with_drawn, with_ended, united, opened}
use Rattle.board.specs.Seats.{IsSeat}
use Rattle.std.proofs.Common.{replicate, take, Option, Some, None, is_some, IfNone}
use Rattle.board.proofs.Times.{times-append, times_push_same, times_push_other, times_from_contains, contains_from_times, length_below}
use Rattle.board.specs.declared.sizes.TheConstants.{SEATS}

abbrev Tok : Type 0
Tok = Token (Unit {0}) View

pub times_from_not : (x : ℕ) (xs : List ℕ) → (Contains xs x → ⊥) → times x xs ≡ 0
times_from_not x xs without = dite (dec_lt 0 (times x xs)) (λ h. absurd (without (contains_from_times x xs h))) (λ h. omega arith)

pub not_from_times : (x : ℕ) (xs : List ℕ) → times x xs ≡ 0 → Contains xs x → ⊥
not_from_times x xs z c = let a = times_from_contains x xs c in omega arith

no_flag : (n r : ℕ) → get_or (replicate n false) r false ≡ false
no_flag zero r = refl
no_flag (suc n) zero = refl
no_flag (suc n) (suc r) = no_flag n r

-- the first k of n zeros
pub no_step : (n k : ℕ) (words : List ℕ) → k ≤ n → words ≡ replicate n 0 → (length (take k words) ≡ k) × ((r : ℕ) → slice_index (take k words) r ≡ 0)
no_step n k words h e =
    let zeros : take k words ≡ replicate k 0 = ap (take k) e ∙ take-replicate k n 0 h in
    (ap length zeros ∙ length-replicate k 0, λ r. ap (λ (l : List ℕ). slice_index l r) zeros ∙ no_count k r)
  where
    no_count : (k r : ℕ) → slice_index (replicate {A = ℕ} k 0) r ≡ 0
    no_count zero r = refl
    no_count (suc k) zero = refl
    no_count (suc k) (suc r) = no_count k r

off : false ≡ true → ⊥
off e = cc

-- the seat of a new board
pub first_seat : (t : Tok) (n : ℕ) (p : Plan) (flags : List Bool) → t.me ≡ (opened p, []) → p.seats ≡ n → 0 < n → n ≤ SEATS → flags ≡ replicate SEATS false → IsSeat (record { token = t; places = n; ended = flags })
first_seat t n p flags e size' lives few blank = record {
  no_slot = ap (λ m. m.1) e;
  some_place = lives;
  few_places = few;
  same_places = sym (ap (λ m. m.0.places) e ∙ size');
  distinct = λ x. let a : times x t.me.0.drawn ≡ 0 = ap (λ m. times x m.0.drawn) e in omega arith;
  below = λ x h. let a : times x t.me.0.drawn ≡ 0 = ap (λ m. times x m.0.drawn) e in absurd (omega arith);
  ended = λ r h.
      let a : times r t.me.0.ended ≡ 0 = ap (λ m. times r m.0.ended) e in
      ((λ on. absurd (off (sym (ap (λ (l : List Bool). get_or l r false) blank ∙ no_flag SEATS r) ∙ on))), (λ h. absurd (omega arith)));
}

-- sizes that a seat and its board share
pub size_path : (p : Plan) (parts ranges r : ℕ) → p.parts ≡ parts → p.ranges ≡ ranges → size p r ≡ range_size parts ranges r
size_path p parts ranges r a b = λ i. range_size (a i) (b i) r

pub start_path : (p : Plan) (parts ranges r : ℕ) → p.parts ≡ parts → p.ranges ≡ ranges → start p r ≡ range_start parts ranges r
start_path p parts ranges r a b = λ i. range_start (a i) (b i) r

push_once : (x : ℕ) (xs : List ℕ) → ((y : ℕ) → times y xs ≤ 1) → times x xs ≡ 0 → (y : ℕ) → times y (xs ++ x ∷ []) ≤ 1
push_once x xs one none_yet y = dite (ℕ_discrete x y)
    (λ e. let a = times_push_same x xs in subst (λ (z : ℕ). times z (xs ++ x ∷ []) ≤ 1) e (omega arith))
    (λ ne. let a = times_push_other y x xs ne in let b = one y in omega arith)

push_below : (x n : ℕ) (xs : List ℕ) → ((y : ℕ) → 0 < times y xs → y < n) → x < n → (y : ℕ) → 0 < times y (xs ++ x ∷ []) → y < n
push_below x n xs below less y h = dite (ℕ_discrete x y) (λ e. omega arith) (λ ne. let a = times_push_other y x xs ne in below y (omega arith))

module _ (s : Inside) (sits : IsSeat s) (t : Tok) (empty : t.me.1 ≡ s.token.me.1) where
  -- a step drew x
  pub drew : (x : ℕ) → t.me.0 ≡ with_drawn s.token.me.0 x → times x s.token.me.0.drawn ≡ 0 → x < s.token.me.0.plan.parts → IsSeat (record { token = t; places = s.places; ended = s.ended })
  drew x e fresh less = record {
    no_slot = empty ∙ sits.no_slot;
    some_place = sits.some_place;
    few_places = sits.few_places;
    same_places = sits.same_places ∙ sym (ap (λ (v : View). v.places) e);
    distinct = λ y. subst (λ (v : View). times y v.drawn ≤ 1) (sym e) (push_once x s.token.me.0.drawn sits.distinct fresh y);
    below = λ y. subst (λ (v : View). 0 < times y v.drawn → y < v.plan.parts) (sym e) (push_below x s.token.me.0.plan.parts s.token.me.0.drawn sits.below less y);
    ended = λ r h. subst (λ (v : View). (slice_index_or s.ended r false ≡ true) ↔ (0 < times r v.ended)) (sym e) (sits.ended r h);
  }

  -- a step found the end of range q
  pub met : (q : ℕ) → length s.ended ≡ SEATS → q < SEATS → t.me.0 ≡ with_ended s.token.me.0 q → IsSeat (record { token = t; places = s.places; ended = slice_set s.ended q true })
  met q long few e = record {
    no_slot = empty ∙ sits.no_slot;
    some_place = sits.some_place;
    few_places = sits.few_places;
    same_places = sits.same_places ∙ sym (ap (λ (v : View). v.places) e);
    distinct = λ y. subst (λ (v : View). times y v.drawn ≤ 1) (sym e) (sits.distinct y);
    below = λ y. subst (λ (v : View). 0 < times y v.drawn → y < v.plan.parts) (sym e) (sits.below y);
    ended = λ r h. subst (λ (v : View). (slice_index_or (slice_set s.ended q true) r false ≡ true) ↔ (0 < times r v.ended)) (sym e) (marks r h);
  }
    where
      marks : (r : ℕ) → r < SEATS → (slice_index_or (slice_set s.ended q true) r false ≡ true) ↔ (0 < times r (s.token.me.0.ended ++ q ∷ []))
      marks r h = dite (ℕ_discrete r q)
          (λ (same : r ≡ q).
          subst (λ (z : ℕ). (slice_index_or (slice_set s.ended q true) z false ≡ true) ↔ (0 < times z (s.token.me.0.ended ++ q ∷ []))) (sym same)
          ((λ _. let a = times_push_same q s.token.me.0.ended in omega arith), (λ _. get_or-set_same s.ended q true false (omega arith))))
          (λ ne.
          let old = sits.ended r h in
          let a = times_push_other r q s.token.me.0.ended (λ z. ne (sym z)) in
          let b = get_or-set_other s.ended q r true false ne in
          ((λ on. let c = old.0 (sym b ∙ on) in omega arith), (λ on. b ∙ old.1 (omega arith))))

-- a word, read
pub read_word : (xs : List ℕ) (i x : ℕ) → get_elem? xs i ≡ some x → slice_index xs i ≡ x
read_word [] i x e = absurd (some-ne-none x (sym e))
read_word (y ∷ ys) zero x e = some-injective y x e
read_word (y ∷ ys) (suc i) x e = read_word ys i x e

or_left : (a b : Bool) → a ≡ true → (a || b) ≡ true
or_left true b e = refl
or_left false b e = absurd (cc)

or_right : (a b : Bool) → b ≡ true → (a || b) ≡ true
or_right true b e = refl
or_right false b e = e

-- two seats made one
pub joined_seat : (s u : Inside) → IsSeat s → IsSeat u → (t : Tok) (flags : List Bool) → t.me ≡ (united s.token.me.0 u.token.me.0, s.token.me.1) → ((x : ℕ) → times x t.me.0.drawn ≤ 1) → t.me.0.places ≤ SEATS → u.token.me.0.plan.parts ≡ s.token.me.0.plan.parts
    → ((r : ℕ) → r < SEATS → slice_index_or flags r false ≡ (slice_index_or s.ended r false || slice_index_or u.ended r false))
    → IsSeat (record { token = t; places = s.places + u.places; ended = flags })
joined_seat s u sits sits' t flags e one few parts or = record {
  no_slot = ap (λ m. m.1) e ∙ sits.no_slot;
  some_place = let a = sits.some_place in omega arith;
  few_places = let a = ap (λ m. m.0.places) e in let b = sits.same_places in let c = sits'.same_places in omega arith;
  same_places = let a = ap (λ m. m.0.places) e in let b = sits.same_places in let c = sits'.same_places in omega arith;
  distinct = one;
  below = λ x. subst (λ m. 0 < times x m.0.drawn → x < m.0.plan.parts) (sym e) (λ h.
      let n = times-append x s.token.me.0.drawn u.token.me.0.drawn in
      dite (dec_lt 0 (times x s.token.me.0.drawn)) (λ p. sits.below x p) (λ p. let a = sits'.below x (omega arith) in omega arith));
  ended = λ r h.
      let n = times-append r s.token.me.0.ended u.token.me.0.ended in
      let m : times r t.me.0.ended ≡ times r (s.token.me.0.ended ++ u.token.me.0.ended) = ap (λ m. times r m.0.ended) e in
      let a = slice_index_or s.ended r false in
      let b = slice_index_or u.ended r false in (
        (λ on. ⊎_elim (λ (p : a ≡ true). let c = (sits.ended r h).0 p in omega arith) (λ (p : b ≡ true). let c = (sits'.ended r h).0 p in omega arith) (or_cases a b (sym (or r h) ∙ on))),
        (λ some_time. or r h ∙ dite (dec_lt 0 (times r s.token.me.0.ended)) (λ p. or_left a b ((sits.ended r h).1 p)) (λ p. or_right a b ((sits'.ended r h).1 (omega arith)))),
      );
}

-- what a flag shows
pub open_from_flag : (s : Inside) → IsSeat s → (r : ℕ) → r < SEATS → slice_index_or s.ended r false ≡ false → Contains s.token.me.0.ended r → ⊥
open_from_flag s sits r few clear c = off (sym clear ∙ (sits.ended r few).1 (times_from_contains r s.token.me.0.ended c))

pub ended_from_flag : (s : Inside) → IsSeat s → (r : ℕ) → r < SEATS → slice_index_or s.ended r false ≡ true → Contains s.token.me.0.ended r
ended_from_flag s sits r few marked = contains_from_times r s.token.me.0.ended ((sits.ended r few).0 marked)

pub if_none : (o : Option ℕ) (P : Type 0) → is_some o ≡ false → IfNone o P → P
if_none None P e h = h
if_none (Some x) P e h = absurd (off (sym e))

-- one more range is ended
pub ended_more : (from i : ℕ) (old new : List ℕ) → IsWithin old new → EndedWithin from i old → Contains new i → EndedWithin from (i + 1) new
ended_more from i old new more before here r low high = dite (ℕ_discrete r i) (λ e. subst (Contains new) (sym e) here) (λ ne. more r (before r low (omega arith)))

-- from the home range to the last, and then from the first up to the home range
pub all_ended : (ranges home : ℕ) (old new : List ℕ) → EndedWithin home ranges old → IsWithin old new → EndedWithin 0 home new → AllEnded ranges new
all_ended ranges home old new high more low r within = dite (dec_lt r home) (λ less. low r (omega arith) less) (λ over. more r (high r (omega arith) within))

-- a seat has at most as many numbers as there are
pub few_drawn : (s : Inside) → IsSeat s → length s.token.me.0.drawn ≤ s.token.me.0.plan.parts
few_drawn s sits = length_below s.token.me.0.drawn s.token.me.0.plan.parts sits.distinct sits.below
