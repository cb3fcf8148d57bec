-- A step on a claim word keeps the rule.
use Rattle.std.proofs.Common.{◌≡◌, ◌≢◌, ℕ, ◌+◌, ◌%◌, ◌^◌, ◌<◌, ◌≤◌, List, [], ◌∷◌, ◌++◌, length, set, slice_index, refl, sym, ap, ◌∙◌, subst, arith, length-set, le_refl}
use Rattle.std.proofs.Common.{Bool, cond, min}
use mathlib.Core.Logic.{dite}
use mathlib.Core.Option.{none, some}
use native.Mathlib.Decide.{ℕ_discrete, dec_lt}
use lib.ListN.{get_elem?}
use Rattle.atomic_table.specs.Table.{step, keeps, stepped, Allows}
use Rattle.board.specs.declared.view.Plan.{Plan}
use Rattle.board.specs.declared.view.View.{View}
use Rattle.board.specs.Claims.{times, total, places, draws, if_any, places_past, stops, start, size, Knows, KeepsRule, with_drawn, with_ended, claimed}
use Rattle.board.proofs.Times.{times_push_same, times_push_other, total_set, total_at}
use Rattle.board.proofs.Ranges.{apart}
use Rattle.board.proofs.Law.{S, M, size-le, past-le, word_here, word_there, knows_more, Live, Spent, Told, all_set}

module _ (p : Plan) (s : S) (kept : KeepsRule p s) (id : ℕ) (v : View) (at : get_elem? s.views id ≡ some v) (r : ℕ) (in' : r < p.ranges) (lives : 0 < v.places) where
  abbrev n : ℕ
  n = slice_index s.words r

  abbrev words' : List ℕ
  words' = set s.words r (n + 1)

  long : r < length s.words
  long = let a = kept.rows in omega arith

  rows' : length words' ≡ p.ranges + 1
  rows' = length-set s.words r (n + 1) ∙ kept.rows

  lives' : (w : View) → 0 < w.places → (w.plan ≡ p) × Knows p words' w.ended → (j : ℕ) (u : View) → get_elem? (set s.views id w) j ≡ some u → Live p words' u
  lives' w some_place new = all_set (Live p s.words) (Live p words') s.views id w kept.live
      (λ u f h. let g = f h in (g.0, knows_more p s.words u.ended r (n + 1) long (omega arith) g.1)) (λ _. new)

  spent' : (w : View) → 0 < w.places → (j : ℕ) (u : View) → get_elem? (set s.views id w) j ≡ some u → Spent u
  spent' w some_place = all_set Spent Spent s.views id w kept.spent (λ u f. f) (λ z. absurd (omega arith))

  stop' : (w : View) → w.stopped ≡ v.stopped → slice_index words' p.ranges ≡ min 1 (total stops (set s.views id w))
  stop' w same =
      let a = total_set stops s.views id v w at in
      let b : stops w ≡ stops v = ap (λ (b : Bool). cond b 1 0) same in
      let t : total stops (set s.views id w) ≡ total stops s.views = omega arith in
      word_there s.words r p.ranges (n + 1) (λ h. omega arith) ∙ (kept.stop ∙ ap (min 1) (sym t))

  told' : (w : View) → w.stopped ≡ v.stopped → w.told ≡ v.told → (j : ℕ) (u : View) → get_elem? (set s.views id w) j ≡ some u → Told (total stops (set s.views id w)) u
  told' w same also =
      let a = total_set stops s.views id v w at in
      let b : stops w ≡ stops v = ap (λ (b : Bool). cond b 1 0) same in
      let t : total stops s.views ≡ total stops (set s.views id w) = omega arith in
      all_set (Told (total stops s.views)) (Told (total stops (set s.views id w))) s.views id w kept.told (λ u f h. subst (λ (m : ℕ). 0 < m) t (f h)) (λ h. subst (λ (m : ℕ). 0 < m) t (kept.told id v at (sym also ∙ h)))

  mine : (v.plan ≡ p) × Knows p s.words v.ended
  mine = kept.live id v at lives

  any : 0 < p.ranges
  any = kept.sized.1

  module _ (less : n < size p r) where
    abbrev x : ℕ
    x = start p r + n

    abbrev w : View
    w = with_drawn v x

    moved : (y : ℕ) → y ≢ x → total (draws y) (set s.views id w) ≡ total (draws y) s.views
    moved y ne = let a = total_set (draws y) s.views id v w at in let b = times_push_other y x v.drawn (λ h. ne (sym h)) in omega arith

    here : total (draws x) (set s.views id w) ≡ 1
    here = let a = total_set (draws x) s.views id v w at in let b = times_push_same x v.drawn in let c = kept.left r n in' less (le_refl n) in omega arith

    pub new : times x v.drawn ≡ 0
    new = let a = total_at (draws x) s.views id v at in let c = kept.left r n in' less (le_refl n) in omega arith

    other : (q k : ℕ) → q < p.ranges → k < size p q → q ≢ r → start p q + k ≢ x
    other q k _ small ne = apart p.parts p.ranges r q n k any less small ne

    pub hit : (c : List (ℕ × Unit {0})) → KeepsRule p (stepped s r (n + 1) id c w keeps)
    hit c = record {
      sized = kept.sized;
      rows = rows';
      all_places = let a = total_set places s.views id v w at in let b = kept.all_places in omega arith;
      live = lives' w lives (mine.0, knows_more p s.words v.ended r (n + 1) long (omega arith) mine.1);
      spent = spent' w lives;
      taken = λ q k within small found. dite (ℕ_discrete q r)
          (λ e.
          let a = word_here s.words r q (n + 1) long e in
          let b : start p q ≡ start p r = ap (start p) e in
          let d : slice_index s.words q ≡ n = ap (slice_index s.words) e in
          dite (ℕ_discrete k n)
          (λ same. let f : start p q + k ≡ x = omega arith in subst (λ (y : ℕ). total (draws y) (set s.views id w) ≡ 1) (sym f) here)
          (λ ne. moved (start p q + k) (λ h. ne (omega arith)) ∙ kept.taken q k within small (omega arith)))
          (λ ne. let a = word_there s.words r q (n + 1) ne in moved (start p q + k) (other q k within small ne) ∙ kept.taken q k within small (omega arith));
      left = λ q k within small found. dite (ℕ_discrete q r)
          (λ e.
          let a = word_here s.words r q (n + 1) long e in
          let b : start p q ≡ start p r = ap (start p) e in
          let d : slice_index s.words q ≡ n = ap (slice_index s.words) e in
          moved (start p q + k) (λ h. omega arith) ∙ kept.left q k within small (omega arith))
          (λ ne. let a = word_there s.words r q (n + 1) ne in moved (start p q + k) (other q k within small ne) ∙ kept.left q k within small (omega arith));
      beyond = λ y past. let a = size-le p r any in' in moved y (λ h. omega arith) ∙ kept.beyond y past;
      bounded = λ q within. let t = total_set (places_past q) s.views id v w at in let b = kept.bounded q within in dite (ℕ_discrete q r)
          (λ e. let a = word_here s.words r q (n + 1) long e in let d : size p q ≡ size p r = ap (size p) e in omega arith)
          (λ ne. let a = word_there s.words r q (n + 1) ne in omega arith);
      stop = stop' w refl;
      told = told' w refl refl;
    }

  module _ (past : size p r ≤ n) (open' : times r v.ended ≡ 0) where
    abbrev w' : View
    w' = with_ended v r

    unmoved : (y : ℕ) → total (draws y) (set s.views id w') ≡ total (draws y) s.views
    unmoved y = let a = total_set (draws y) s.views id v w' at in omega arith

    knows' : Knows p words' (v.ended ++ r ∷ [])
    knows' q within some_time = dite (ℕ_discrete q r)
        (λ e. let a = word_here s.words r q (n + 1) long e in let d : size p q ≡ size p r = ap (size p) e in omega arith)
        (λ ne. let a = times_push_other q r v.ended (λ h. ne (sym h)) in knows_more p s.words v.ended r (n + 1) long (omega arith) mine.1 q within (omega arith))

    pub miss : (c : List (ℕ × Unit {0})) → KeepsRule p (stepped s r (n + 1) id c w' keeps)
    miss c = record {
      sized = kept.sized;
      rows = rows';
      all_places = let a = total_set places s.views id v w' at in let b = kept.all_places in omega arith;
      live = lives' w' lives (mine.0, knows');
      spent = spent' w' lives;
      taken = λ q k within small found. unmoved (start p q + k) ∙ kept.taken q k within small (dite (ℕ_discrete q r)
          (λ e. let d : size p q ≡ size p r = ap (size p) e in let f : slice_index s.words q ≡ n = ap (slice_index s.words) e in omega arith)
          (λ ne. let a = word_there s.words r q (n + 1) ne in omega arith));
      left = λ q k within small found. unmoved (start p q + k) ∙ kept.left q k within small (dite (ℕ_discrete q r)
          (λ e. let a = word_here s.words r q (n + 1) long e in let d : size p q ≡ size p r = ap (size p) e in absurd (omega arith))
          (λ ne. let a = word_there s.words r q (n + 1) ne in omega arith));
      beyond = λ y past. unmoved y ∙ kept.beyond y past;
      bounded = λ q within. let t = total_set (places_past q) s.views id v w' at in let b = kept.bounded q within in dite (ℕ_discrete q r)
          (λ e.
          let a = word_here s.words r q (n + 1) long e in
          let d : size p q ≡ size p r = ap (size p) e in
          let f : slice_index s.words q ≡ n = ap (slice_index s.words) e in
          let g : times q v.ended ≡ 0 = ap (λ (z : ℕ). times z v.ended) e ∙ open' in
          let h : times q (v.ended ++ r ∷ []) ≡ 1 = ap (λ (z : ℕ). times z (v.ended ++ r ∷ [])) e ∙ (times_push_same r v.ended ∙ omega arith) in
          let i : places_past q v ≡ 0 = ap (λ (z : ℕ). if_any z v.places) g in
          let j : places_past q w' ≡ v.places = ap (λ (z : ℕ). if_any z v.places) h in
          omega arith)
          (λ ne.
          let a = word_there s.words r q (n + 1) ne in
          let i : places_past q w' ≡ places_past q v = ap (λ (z : ℕ). if_any z v.places) (times_push_other q r v.ended (λ h. ne (sym h))) in
          omega arith);
      stop = stop' w' refl;
      told = told' w' refl refl;
    }

few : (p : Plan) (s : S) → KeepsRule p s → (r : ℕ) → r < p.ranges → slice_index s.words r ≤ 4160
few p s kept r in' = let a = size-le p r kept.sized.1 in' in let b = past-le p s kept r in let c = kept.bounded r in' in let d = kept.sized in omega arith

-- a step that adds 1 to the word of a range which the seat does not know as ended
pub claims : (p : Plan) (slots id : ℕ) (me : M) (r : ℕ) → r < p.ranges → 0 < me.0.places → times r me.0.ended ≡ 0
    → Allows (KeepsRule p) slots id me r (λ n. (n + 1) % 2 ^ 64) (claimed (step slots r 1 0 none) me)
claims p slots id me r in' lives open' s kept _ at _ =
    let n : ℕ = slice_index s.words r in
    let f = few p s kept r in' in
    let fits : n + 1 ≡ (n + 1) % 18446744073709551616 = omega arith in
    let same : me.0.plan ≡ p = (kept.live id me.0 at lives).0 in
    let sized : size me.0.plan r ≡ size p r = ap (λ (q : Plan). size q r) same in
    let started : start p r + n ≡ start me.0.plan r + n = ap (λ (q : Plan). start q r + n) (sym same) in
    dite (dec_lt n (size p r))
    (λ less. (
      with_drawn me.0 (start p r + n),
      keeps,
      tt,
      subst (λ (z : ℕ). KeepsRule p (stepped s r z id me.1 (with_drawn me.0 (start p r + n)) keeps)) fits (hit p s kept id me.0 at r in' lives less me.1),
      (
        refl,
        (λ _. (ap (with_drawn me.0) started, subst (λ (y : ℕ). times y me.0.drawn ≡ 0) started (new p s kept id me.0 at r in' lives less))),
        (λ past. absurd (omega arith)),
      ),
    ))
    (λ no. (
      with_ended me.0 r,
      keeps,
      tt,
      subst (λ (z : ℕ). KeepsRule p (stepped s r z id me.1 (with_ended me.0 r) keeps)) fits (miss p s kept id me.0 at r in' lives (omega arith) open' me.1),
      (refl, (λ less. absurd (no (omega arith))), (λ _. refl)),
    ))
