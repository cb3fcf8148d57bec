-- A step on the stop word keeps the rule.
use Rattle.std.proofs.Common.{◌≡◌, ℕ, zero, suc, ◌+◌, ◌<◌, ◌≤◌, List, length, set, slice_index, refl, sym, ap, ◌∙◌, subst, arith, length-set}
use Rattle.std.proofs.lemmas.List.{set-get_or}
use Rattle.std.proofs.Common.{Bool, true, false, cond, min, bit_or}
use mathlib.Core.Logic.{dite}
use mathlib.Core.Option.{none, some}
use native.Mathlib.Decide.{ℕ_discrete}
use lib.ListN.{get_elem?}
use Rattle.atomic_table.specs.Table.{step, keeps, stepped, Allows}
use Rattle.board.specs.declared.view.Plan.{Plan}
use Rattle.board.specs.declared.view.View.{View}
use Rattle.board.specs.Claims.{total, places, draws, places_past, stops, start, Knows, KeepsRule, with_stop, with_told, stop_set, stop_seen}
use Rattle.board.proofs.Times.{total_set, total_at}
use Rattle.board.proofs.Law.{S, M, word_here, word_there, Live, Spent, Told, all_set, unchanged, flag-le}

-- a view gains a note, and no claim word changes
module _ (p : Plan) (s : S) (kept : KeepsRule p s) (id : ℕ) (v : View) (at : get_elem? s.views id ≡ some v) (lives : 0 < v.places) (ws : List ℕ) (rows' : length ws ≡ p.ranges + 1) (same : (q : ℕ) → q < p.ranges → slice_index ws q ≡ slice_index s.words q) (stopped' told' : Bool) where
  abbrev noted : View
  noted = record v { stopped = stopped'; told = told' }

  abbrev views' : List View
  views' = set s.views id noted

  same_total : (f : View → ℕ) → f noted ≡ f v → total f views' ≡ total f s.views
  same_total f e = let a = total_set f s.views id v noted at in omega arith

  known' : (u : View) → Knows p s.words u.ended → Knows p ws u.ended
  known' u knows q within any = let a = knows q within any in let b = same q within in omega arith

  pub notes : slice_index ws p.ranges ≡ min 1 (total stops views') → total stops s.views ≤ total stops views' → Told (total stops views') noted → KeepsRule p (record { words = ws; homes = s.homes; views = views' })
  notes is more new_told = record {
    sized = kept.sized;
    rows = rows';
    all_places = same_total places refl ∙ kept.all_places;
    live = all_set (Live p s.words) (Live p ws) s.views id noted kept.live (λ u f h. let g = f h in (g.0, known' u g.1)) (λ h. let g = kept.live id v at h in (g.0, known' v g.1));
    spent = all_set Spent Spent s.views id noted kept.spent (λ u f. f) (λ z. absurd (omega arith));
    taken = λ q k within small found. same_total (draws (start p q + k)) refl ∙ kept.taken q k within small (let a = same q within in omega arith);
    left = λ q k within small found. same_total (draws (start p q + k)) refl ∙ kept.left q k within small (let a = same q within in omega arith);
    beyond = λ y past. same_total (draws y) refl ∙ kept.beyond y past;
    bounded = λ q within. let a = same_total (places_past q) refl in let b = same q within in let d = kept.bounded q within in omega arith;
    stop = is;
    told = all_set (Told (total stops s.views)) (Told (total stops views')) s.views id noted kept.told (λ u f h. let g = f h in omega arith) new_told;
  }

or_one : (n : ℕ) → n ≤ 1 → bit_or n 1 ≡ 1
or_one zero h = refl
or_one (suc zero) h = refl
or_one (suc (suc n)) h = absurd (omega arith)

-- the stop word becomes 1
pub sets_stop : (p : Plan) (slots id : ℕ) (me : M) → 0 < me.0.places → Allows (KeepsRule p) slots id me p.ranges (λ n. bit_or n 1) (stop_set (step slots p.ranges 1 0 none) me)
sets_stop p slots id me lives s kept _ at _ =
    let n : ℕ = slice_index s.words p.ranges in
    let is = kept.stop in
    let one : bit_or n 1 ≡ 1 = or_one n (omega arith) in
    let long : p.ranges < length s.words = let a = kept.rows in omega arith in
    let ws : List ℕ = set s.words p.ranges 1 in
    let w : View = with_stop me.0 in
    let a = total_set stops s.views id me.0 w at in
    let b = total_at stops s.views id me.0 at in
    let some_stop : 0 < total stops (set s.views id w) = omega arith in (
      w,
      keeps,
      tt,
      subst (λ (z : ℕ). KeepsRule p (stepped s p.ranges z id me.1 w keeps)) (sym one)
          (notes p s kept id me.0 at lives ws (length-set s.words p.ranges 1 ∙ kept.rows) (λ q within. word_there s.words p.ranges q 1 (λ h. omega arith)) true me.0.told
          (word_here s.words p.ranges p.ranges 1 long refl ∙ omega arith) (let c = flag-le me.0.stopped in omega arith) (λ _. some_stop)),
      refl,
    )

clear_from_none : (b : Bool) → cond {A = ℕ} b 1 0 ≡ 0 → b ≡ false
clear_from_none true h = absurd (omega arith)
clear_from_none false h = refl

clear_from_not : (b : Bool) → (b ≡ true → ⊥) → b ≡ false
clear_from_not true h = absurd (h refl)
clear_from_not false h = refl

-- a load of the stop word
pub sees_stop : (p : Plan) (slots id : ℕ) (me : M) → 0 < me.0.places → Allows (KeepsRule p) slots id me p.ranges (λ n. n) (stop_seen (step slots p.ranges 0 0 none) me)
sees_stop p slots id me lives s kept _ at _ =
    let n : ℕ = slice_index s.words p.ranges in
    let is = kept.stop in
    dite (ℕ_discrete n 0)
    (λ none_yet. (
      me.0,
      keeps,
      tt,
      unchanged p s id me.0 p.ranges kept at me.1,
      (
        (λ _. (refl, clear_from_none me.0.stopped (let a = total_at stops s.views id me.0 at in omega arith), clear_from_not me.0.told (λ h. let a = kept.told id me.0 at h in omega arith))),
        (λ h. absurd (omega arith)),
      ),
    ))
    (λ some_stop. let w : View = with_told me.0 in let a = total_set stops s.views id me.0 w at in let same : total stops (set s.views id w) ≡ total stops s.views = omega arith in (
      w,
      keeps,
      tt,
      notes p s kept id me.0 at lives (set s.words p.ranges n) (length-set s.words p.ranges n ∙ kept.rows) (λ q within. word_there s.words p.ranges q n (λ h. omega arith)) me.0.stopped true
          (ap (λ (l : List ℕ). slice_index l p.ranges) (set-get_or s.words p.ranges 0) ∙ (is ∙ ap (min 1) (sym same))) (omega arith) (λ _. omega arith),
      ((λ h. absurd (some_stop h)), (λ _. refl)),
    ))
