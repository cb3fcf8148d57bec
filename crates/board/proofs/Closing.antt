-- What the seat with all places knows at the end.
use Rattle.std.proofs.Common.{◌≡◌, ◌≢◌, ◌↔◌, ℕ, zero, suc, ◌+◌, ◌*◌, ◌<◌, ◌≤◌, List, length, get_or, take, slice_index, sum, All, Contains, refl, sym, ap, ◌∙◌, subst, arith, add-one}
use Rattle.std.proofs.lemmas.List.Sums.{sum_by_more}
use Rattle.std.proofs.lemmas.List.{get_or_default}
use Rattle.std.proofs.Common.{Bool, true, false, cond, min}
use mathlib.Core.Logic.{dite}
use mathlib.Core.Option.{some}
use native.Mathlib.Decide.{dec_lt}
use lib.ListN.{get_elem?}
use Rattle.atomic_table.specs.Table.{State, Final, Seen}
use Rattle.board.specs.declared.view.Plan.{Plan}
use Rattle.board.specs.declared.view.View.{View}
use Rattle.board.specs.Drawn.{AreDistinct, AllEnded}
use Rattle.board.specs.Claims.{times, total, places, draws, if_any, places_past, stops, start, size, KeepsRule, IsDrawn}
use Rattle.board.proofs.Times.{times_contained, contains_from_times, distinct_from_times, total_alone, others_none}
use Rattle.board.proofs.Times.{times_from_contains}
use Rattle.board.proofs.Counts.{among, among_cut, among_few, among_all}
use Rattle.board.proofs.Ranges.{start_zero, start_end, size_ends}
use Rattle.board.proofs.Law.{once, law, if_any-le}

-- what a closing seat knows
pub record Closing (p : Plan) (v : View) (ws : List ℕ) : Type 0 where
  pub distinct : AreDistinct v.drawn
  pub below : All (λ x. x < p.parts) v.drawn
  pub all : AllEnded p.ranges v.ended → (x : ℕ) → x < p.parts → Contains v.drawn x
  pub rows : length ws ≡ p.ranges + 1
  pub claims : (r k : ℕ) → r < p.ranges → k < size p r → Contains v.drawn (start p r + k) ↔ (k < slice_index ws r)
  pub counted : length v.drawn ≤ sum (take p.ranges ws)
  pub bound : sum (take p.ranges ws) ≤ p.parts + p.seats * p.ranges
  pub stop : slice_index ws p.ranges ≡ cond v.stopped 1 0
  pub told : v.told ≡ true → v.stopped ≡ true

module _ (p : Plan) (s : State (Unit {0}) View) (kept : KeepsRule p s) (id : ℕ) (v : View) (at : get_elem? s.views id ≡ some v) (whole : v.places ≡ p.seats) (lives : 0 < v.places) where
  idle : (j : ℕ) (u : View) → j ≢ id → get_elem? s.views j ≡ some u → u.places ≡ 0
  idle = others_none places s.views id v at (kept.all_places ∙ sym whole)

  alone : (x : ℕ) → total (draws x) s.views ≡ times x v.drawn
  alone x = total_alone (draws x) s.views id v at (λ j u ne e. ap (times x) (kept.spent j u e (idle j u ne e)).0)

  past_alone : (r : ℕ) → total (places_past r) s.views ≡ places_past r v
  past_alone r = total_alone (places_past r) s.views id v at (λ j u ne e. ap (λ (l : List ℕ). if_any (times r l) u.places) (kept.spent j u e (idle j u ne e)).1)

  lawful : IsDrawn p.parts p.ranges s.views
  lawful = law p s kept

  below_parts : (x : ℕ) → 0 < times x v.drawn → x < p.parts
  below_parts x h = let b = alone x in lawful.below x (omega arith)

  all_drawn : AllEnded p.ranges v.ended → (x : ℕ) → x < p.parts → Contains v.drawn x
  all_drawn ended x less = let a = lawful.all id v at ended x less in let b = alone x in contains_from_times x v.drawn (omega arith)

  claimed : (r k : ℕ) → r < p.ranges → k < size p r → Contains v.drawn (start p r + k) ↔ (k < slice_index s.words r)
  claimed r k in' small = let x : ℕ = start p r + k in let b = alone x in dite (dec_lt k (slice_index s.words r))
      (λ less. let a = kept.taken r k in' small less in ((λ _. less), (λ _. contains_from_times x v.drawn (omega arith))))
      (λ no. let a = kept.left r k in' small (omega arith) in ((λ c. let t = times_from_contains x v.drawn c in absurd (omega arith)), (λ less. absurd (no less))))

  counted_below : (n : ℕ) → n ≤ p.ranges → among 0 (start p n) v.drawn ≤ sum (take n s.words)
  counted_below zero h = let e : among 0 (start p 0) v.drawn ≡ among 0 0 v.drawn = ap (λ (k : ℕ). among 0 k v.drawn) (start_zero p.parts p.ranges) in omega arith
  counted_below (suc n) h =
      let a = counted_below n (omega arith) in
      let b = sum_by_more (λ x. x) s.words n 0 (let r = kept.rows in omega arith) in
      let c = among_few (0 + start p n) (size p n) (slice_index s.words n) v.drawn
      (λ k small. once_there (0 + start p n + k))
      (λ k small past. none_past n k (omega arith) small past) in
      let d = among_cut 0 (start p n) (size p n) v.drawn in
      let f : among 0 (start p (n + 1)) v.drawn ≡ among 0 (start p n + size p n) v.drawn = ap (λ (k : ℕ). among 0 k v.drawn) (sym (size_ends p.parts p.ranges n kept.sized.1)) in
      let g : sum (take (suc n) s.words) ≡ sum (take (n + 1) s.words) = ap (λ (k : ℕ). sum (take k s.words)) (sym (add-one n)) in
      let i : among 0 (start p (suc n)) v.drawn ≡ among 0 (start p (n + 1)) v.drawn = ap (λ (k : ℕ). among 0 (start p k) v.drawn) (sym (add-one n)) in
      omega arith
    where
      once_there : (x : ℕ) → times x v.drawn ≤ 1
      once_there x = let a = once p s kept x in let b = alone x in omega arith

      none_past : (r k : ℕ) → r < p.ranges → k < size p r → slice_index s.words r ≤ k → times (0 + start p r + k) v.drawn ≡ 0
      none_past r k in' small past =
          let a = kept.left r k in' small past in
          let b = alone (start p r + k) in
          let same : 0 + start p r + k ≡ start p r + k = omega arith in
          let e : times (0 + start p r + k) v.drawn ≡ times (start p r + k) v.drawn = ap (λ (x : ℕ). times x v.drawn) same in
          omega arith

  counted : length v.drawn ≤ sum (take p.ranges s.words)
  counted =
      let a = among_all p.parts v.drawn below_parts in
      let b = counted_below p.ranges (omega arith) in
      let e : among 0 (start p p.ranges) v.drawn ≡ among 0 p.parts v.drawn = ap (λ (k : ℕ). among 0 k v.drawn) (start_end p.parts p.ranges kept.sized.1) in
      omega arith

  summed : (n : ℕ) → n ≤ p.ranges → sum (take n s.words) ≤ start p n + p.seats * n
  summed zero h = omega arith
  summed (suc n) h =
      let a = summed n (omega arith) in
      let b = sum_by_more (λ x. x) s.words n 0 (let r = kept.rows in omega arith) in
      let c = kept.bounded n (omega arith) in
      let d = past_alone n in
      let e = if_any-le (times n v.ended) v.places in
      let f = size_ends p.parts p.ranges n kept.sized.1 in
      let g : sum (take (suc n) s.words) ≡ sum (take (n + 1) s.words) = ap (λ (k : ℕ). sum (take k s.words)) (sym (add-one n)) in
      let i : start p (suc n) ≡ start p (n + 1) = ap (start p) (sym (add-one n)) in
      omega arith

  bounded : sum (take p.ranges s.words) ≤ p.parts + p.seats * p.ranges
  bounded =
      let a = summed p.ranges (omega arith) in
      let b = start_end p.parts p.ranges kept.sized.1 in
      omega arith

  stops_alone : total stops s.views ≡ stops v
  stops_alone = total_alone stops s.views id v at (λ j u ne e. ap (λ (b : Bool). cond b 1 0) (kept.spent j u e (idle j u ne e)).2)

  min_flag : (b : Bool) → min 1 (cond b 1 0) ≡ cond b 1 0
  min_flag true = refl
  min_flag false = refl

  flag_on : (b : Bool) → 0 < cond b 1 0 → b ≡ true
  flag_on true h = refl
  flag_on false h = absurd (omega arith)

  pub ends : Closing p v s.words
  ends = record {
    distinct = distinct_from_times v.drawn (λ x. let a = once p s kept x in let b = alone x in omega arith);
    below = λ k d h. below_parts (get_or v.drawn k d) (times_contained (get_or v.drawn k d) v.drawn k h (get_or_default v.drawn k (get_or v.drawn k d) d h));
    all = all_drawn;
    rows = kept.rows;
    claims = claimed;
    counted = counted;
    bound = bounded;
    stop = kept.stop ∙ (ap (min 1) stops_alone ∙ min_flag v.stopped);
    told = λ h. flag_on v.stopped (let a = kept.told id v at h in let b = stops_alone in omega arith);
  }

pub closes : (p : Plan) (id : ℕ) (v : View) (ws : List ℕ) (xs : List (Unit {0})) → v.places ≡ p.seats → 0 < v.places → Final (Seen (KeepsRule p) id v) ws xs → Closing p v ws
closes p id v ws xs whole lives f = subst (Closing p v) f.2 (ends p f.0 f.1.0 id v f.1.1 whole lives)
