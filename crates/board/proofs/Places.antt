-- Opening a board, splitting a view, joining two, and looking at a word keep the rule.
use Rattle.std.proofs.Common.{◌≡◌, ◌≢◌, ℕ, zero, suc, ◌+◌, ◌-◌, ◌<◌, ◌≤◌, List, [], ◌∷◌, ◌++◌, length, set, slice_index, refl, sym, ap, ◌∙◌, subst, ⊎_elim, arith}
use Rattle.std.proofs.Common.{Bool, true, false, cond, min, ◌||◌}
use mathlib.Core.Logic.{dite}
use mathlib.Core.Option.{none, some, some-injective, some-ne-none}
use native.Mathlib.Decide.{dec_lt}
use lib.ListN.{get_elem?}
use Rattle.atomic_table.specs.Table.{step, keeps, Allows, Splits, Joins, opening}
use Rattle.atomic_table.proofs.Lists.{at_snoc, set_else}
use Rattle.board.specs.declared.view.Plan.{Plan}
use Rattle.board.specs.declared.view.View.{View}
use Rattle.board.specs.Claims.{times, total, places, draws, if_any, places_past, stops, start, Knows, KeepsRule, opened, one_place, other_places, united, nobody, looked}
use Rattle.board.proofs.Times.{times-append, total_set, total_snoc, total_at, total_two}
use Rattle.std.proofs.lemmas.Bool.{or_cases}
use Rattle.board.proofs.Law.{S, M, if_any_cut, if_any_both, once, Live, Spent, Told, all_set, unchanged, flag-le}
use Rattle.board.specs.declared.sizes.TheConstants.{SEATS, PARTS}

-- a load of the stop word that notes nothing changes nothing
pub looks : (p : Plan) (slots id : ℕ) (me : M) → Allows (KeepsRule p) slots id me p.ranges (λ n. n) (looked (step slots p.ranges 0 0 none) me)
looks p slots id me s kept _ at _ = (
  me.0,
  keeps,
  tt,
  unchanged p s id me.0 p.ranges kept at me.1,
  (
    refl,
    (λ x. let a = total_at (draws x) s.views id me.0 at in let b = once p s kept x in omega arith),
    (let a = total_at places s.views id me.0 at in let b = kept.all_places in let c = kept.sized in omega arith),
  ),
)

-- a view is cut in two whose numbers and places add up
module _ (p : Plan) (s : S) (kept : KeepsRule p s) (id : ℕ) (v : View) (at : get_elem? s.views id ≡ some v) (two : 2 ≤ v.places) where
  abbrev cut : List View
  cut = set s.views id (one_place v) ++ other_places v ∷ []

  cut_total : (f : View → ℕ) → f (one_place v) + f (other_places v) ≡ f v → total f cut ≡ total f s.views
  cut_total f e = let a = total_set f s.views id v (one_place v) at in let b = total_snoc f (set s.views id (one_place v)) (other_places v) in omega arith

  cut_all : (F : View → Type 0) → ((j : ℕ) (u : View) → get_elem? s.views j ≡ some u → F u) → F (one_place v) → F (other_places v) → (j : ℕ) (u : View) → get_elem? cut j ≡ some u → F u
  cut_all F was a b j u e = ⊎_elim (all_set F F s.views id (one_place v) was (λ _ f. f) a j u) (λ (t : other_places v ≡ u). subst F t b) (at_snoc (set s.views id (one_place v)) (other_places v) u j e)

  cut_stops : total stops cut ≡ total stops s.views + stops v
  cut_stops = let a = total_set stops s.views id v (one_place v) at in let b = total_snoc stops (set s.views id (one_place v)) (other_places v) in omega arith

  cut_stop : slice_index s.words p.ranges ≡ min 1 (total stops cut)
  cut_stop = let a = cut_stops in let b = total_at stops s.views id v at in let c = kept.stop in omega arith

  cut_told : (u : View) → Told (total stops s.views) u → Told (total stops cut) u
  cut_told u f h = let a = cut_stops in let b = f h in omega arith

  pub halves : KeepsRule p (record { words = s.words; homes = s.homes; views = cut })
  halves = let mine = kept.live id v at (omega arith) in record {
    sized = kept.sized;
    rows = kept.rows;
    all_places = cut_total places (omega arith) ∙ kept.all_places;
    live = cut_all (Live p s.words) kept.live (λ _. mine) (λ _. mine);
    spent = cut_all Spent kept.spent (λ z. absurd (omega arith)) (λ z. absurd (omega arith));
    taken = λ q k within small found. cut_total (draws (start p q + k)) (omega arith) ∙ kept.taken q k within small found;
    left = λ q k within small found. cut_total (draws (start p q + k)) (omega arith) ∙ kept.left q k within small found;
    beyond = λ y past. cut_total (draws y) (omega arith) ∙ kept.beyond y past;
    bounded = λ q within.
        let c : places_past q (one_place v) + places_past q (other_places v) ≡ places_past q v = if_any_cut (times q v.ended) 1 (v.places - 1) ∙ ap (if_any (times q v.ended)) (omega arith) in
        let a = cut_total (places_past q) c in let b = kept.bounded q within in omega arith;
    stop = cut_stop;
    told = cut_all (Told (total stops cut)) (λ j u e. cut_told u (kept.told j u e)) (cut_told v (kept.told id v at)) (cut_told v (kept.told id v at));
  }

pub splits : (p : Plan) (id : ℕ) (v : View) → 2 ≤ v.places → Splits (KeepsRule p) id v (one_place v) (other_places v)
splits p id v two s kept at = halves p s kept id v at two

both_flags : (a b : Bool) → (cond a 1 0 ≤ cond (a || b) 1 0) × (cond b 1 0 ≤ cond (a || b) 1 0) × (cond (a || b) 1 0 ≤ cond a 1 0 + cond b 1 0) × (cond (a || b) 1 0 ≤ 1)
both_flags true b = (omega arith, flag-le b, omega arith, omega arith)
both_flags false true = (omega arith, omega arith, omega arith, omega arith)
both_flags false false = (omega arith, omega arith, omega arith, omega arith)

-- two views become one, and no seat is left over
module _ (p : Plan) (s : S) (kept : KeepsRule p s) (id : ℕ) (v : View) (at : get_elem? s.views id ≡ some v) (by : ℕ) (w : View) (apart' : by ≢ id) (that : get_elem? (set s.views id (united v w)) by ≡ some w) (lives : 0 < v.places) (lives' : 0 < w.places) where
  abbrev one : List View
  one = set (set s.views id (united v w)) by nobody

  there : get_elem? s.views by ≡ some w
  there = sym (set_else s.views id by (united v w) apart') ∙ that

  one_total : (f : View → ℕ) → f nobody ≡ 0 → total f one + (f v + f w) ≡ total f s.views + f (united v w)
  one_total f z = let a = total_set f s.views id v (united v w) at in let b = total_set f (set s.views id (united v w)) by w nobody that in omega arith

  one_all : (F : View → Type 0) → ((j : ℕ) (u : View) → get_elem? s.views j ≡ some u → F u) → F (united v w) → F nobody → (j : ℕ) (u : View) → get_elem? one j ≡ some u → F u
  one_all F was a b = all_set F F (set s.views id (united v w)) by nobody (all_set F F s.views id (united v w) was (λ _ f. f) a) (λ _ f. f) b

  same_draws : (y : ℕ) → total (draws y) one ≡ total (draws y) s.views
  same_draws y = let a = one_total (draws y) refl in let b = times-append y v.drawn w.drawn in omega arith

  known : Knows p s.words (v.ended ++ w.ended)
  known q within some_time = let e = times-append q v.ended w.ended in dite (dec_lt 0 (times q v.ended))
      (λ yes'. (kept.live id v at lives).1 q within yes')
      (λ no'. (kept.live by w there lives').1 q within (omega arith))

  one_stops : min 1 (total stops s.views) ≡ min 1 (total stops one)
  one_stops =
      let a = one_total stops refl in
      let b = total_two stops s.views id v by w at there apart' in
      let c = both_flags v.stopped w.stopped in
      omega arith

  told_one : (u : View) → Told (total stops s.views) u → Told (total stops one) u
  told_one u f h = let a = f h in let b = one_stops in omega arith

  told_both : Told (total stops one) (united v w)
  told_both h = ⊎_elim (λ (e : v.told ≡ true). told_one v (kept.told id v at) e) (λ (e : w.told ≡ true). told_one w (kept.told by w there) e) (or_cases v.told w.told h)

  pub whole : KeepsRule p (record { words = s.words; homes = s.homes; views = one })
  whole = record {
    sized = kept.sized;
    rows = kept.rows;
    all_places = let a = one_total places refl in let b = kept.all_places in omega arith;
    live = one_all (Live p s.words) kept.live (λ _. ((kept.live id v at lives).0, known)) (λ h. absurd (omega arith));
    spent = one_all Spent kept.spent (λ z. absurd (omega arith)) (λ _. (refl, refl, refl, refl));
    taken = λ q k within small found. same_draws (start p q + k) ∙ kept.taken q k within small found;
    left = λ q k within small found. same_draws (start p q + k) ∙ kept.left q k within small found;
    beyond = λ y past. same_draws y ∙ kept.beyond y past;
    bounded = λ q within.
        let a = one_total (places_past q) refl in
        let b = if_any_both (times q v.ended) (times q w.ended) v.places w.places in
        let c : places_past q (united v w) ≡ if_any (times q v.ended + times q w.ended) (v.places + w.places) = ap (λ (k : ℕ). if_any k (v.places + w.places)) (times-append q v.ended w.ended) in
        let d = kept.bounded q within in
        omega arith;
    stop = kept.stop ∙ one_stops;
    told = one_all (Told (total stops one)) (λ j u e. told_one u (kept.told j u e)) told_both (λ e. absurd (cc));
  }

pub joins : (p : Plan) (id : ℕ) (v : View) (by : ℕ) (w : View) → 0 < v.places → 0 < w.places → Joins (KeepsRule p) id v by w (united v w) nobody
joins p id v by w lives lives' s kept at apart' that = whole p s kept id v at by w apart' that lives lives'

-- the words at the start are 0
pub opens : (p : Plan) (ws : List ℕ) → (p.parts ≤ PARTS) × (0 < p.ranges) × (p.ranges ≤ SEATS) × (p.seats ≤ SEATS) → length ws ≡ p.ranges + 1 → ((r : ℕ) → slice_index ws r ≡ 0)
    → KeepsRule p (opening ws [] (opened p))
opens p ws sized rows none_yet = record {
  sized = sized;
  rows = rows;
  all_places = omega arith;
  live = λ id v e h. first_live id v e;
  spent = λ id v e z. first_spent id v e;
  taken = λ q k within small found. let a = none_yet q in absurd (omega arith);
  left = λ q k within small found. refl;
  beyond = λ y past. refl;
  bounded = λ q within. let a = none_yet q in omega arith;
  stop = none_yet p.ranges;
  told = first_told;
}
  where
    first_live : (id : ℕ) (v : View) → get_elem? (opened p ∷ []) id ≡ some v → (v.plan ≡ p) × Knows p ws v.ended
    first_live zero v e = subst (λ (u : View). (u.plan ≡ p) × Knows p ws u.ended) (some-injective (opened p) v e) (refl, λ q within h. absurd (omega arith))
    first_live (suc k) v e = absurd (some-ne-none v (sym e))

    first_spent : (id : ℕ) (v : View) → get_elem? (opened p ∷ []) id ≡ some v → (v.drawn ≡ []) × (v.ended ≡ []) × (v.stopped ≡ false) × (v.told ≡ false)
    first_spent zero v e = subst (λ (u : View). (u.drawn ≡ []) × (u.ended ≡ []) × (u.stopped ≡ false) × (u.told ≡ false)) (some-injective (opened p) v e) (refl, refl, refl, refl)
    first_spent (suc k) v e = absurd (some-ne-none v (sym e))

    first_told : (id : ℕ) (v : View) → get_elem? (opened p ∷ []) id ≡ some v → Told (total stops (opened p ∷ [])) v
    first_told zero v e = subst (λ (u : View). Told (total stops (opened p ∷ [])) u) (some-injective (opened p) v e) (λ h. absurd (cc))
    first_told (suc k) v e = absurd (some-ne-none v (sym e))
