-- What follows at once from the rule of the words, and what still holds after a word or a view changes.
use Rattle.std.proofs.Common.{◌≡◌, ◌≢◌, ℕ, zero, suc, ◌+◌, ◌<◌, ◌≤◌, List, [], length, set, slice_index, refl, sym, ap, ◌∙◌, subst, ⊎_elim, arith, get_or-set_same, get_or-set_other, le_refl}
use Rattle.std.proofs.lemmas.List.{set-get_or}
use Rattle.std.proofs.Common.{Bool, true, false, cond}
use mathlib.Core.Logic.{dite}
use mathlib.Core.Option.{some}
use native.Mathlib.Decide.{ℕ_discrete, dec_le, dec_lt}
use lib.ListN.{get_elem?}
use Rattle.atomic_table.specs.Table.{State, Me, keeps, stepped}
use Rattle.atomic_table.proofs.Lists.{at_set, set_again}
use Rattle.board.specs.declared.view.Plan.{Plan}
use Rattle.board.specs.declared.view.View.{View}
use Rattle.board.specs.Claims.{times, total, places, draws, if_any, places_past, start, size, Knows, KeepsRule}
use Rattle.board.proofs.Times.{total_le}
use Rattle.board.proofs.Ranges.{start_below, start_end, size_ends, find_range}
use Rattle.board.specs.Claims.{IsDrawn}
use Rattle.board.proofs.Times.{times_from_contains}

abbrev pub S : Type 0
S = State (Unit {0}) View

abbrev pub M : Type 0
M = Me (Unit {0}) View

pub if_any-le : (k n : ℕ) → if_any k n ≤ n
if_any-le zero n = omega arith
if_any-le (suc k) n = le_refl n

pub if_any_some : (k n : ℕ) → 0 < k → if_any k n ≡ n
if_any_some zero n h = absurd (omega arith)
if_any_some (suc k) n h = refl

pub if_any_cut : (k m n : ℕ) → if_any k m + if_any k n ≡ if_any k (m + n)
if_any_cut zero m n = omega arith
if_any_cut (suc k) m n = refl

pub if_any_both : (k l m n : ℕ) → if_any k m + if_any l n ≤ if_any (k + l) (m + n)
if_any_both zero l m n = let e : if_any (zero + l) (m + n) ≡ if_any l (m + n) = ap (λ (j : ℕ). if_any j (m + n)) (omega arith) in let c = if_any_cut l m n in let d = if_any-le l n in omega arith
if_any_both (suc k) l m n = let e : if_any (suc k + l) (m + n) ≡ m + n = if_any_some (suc k + l) (m + n) (omega arith) in let d = if_any-le l n in omega arith

pub size-le : (p : Plan) (r : ℕ) → 0 < p.ranges → r < p.ranges → start p r + size p r ≤ p.parts
size-le p r any in' = let a = start_below p.parts p.ranges (r + 1) any (omega arith) in let b = size_ends p.parts p.ranges r any in omega arith

pub past-le : (p : Plan) (s : S) → KeepsRule p s → (r : ℕ) → total (places_past r) s.views ≤ p.seats
past-le p s kept r = let a = total_le (places_past r) places (λ v. if_any-le (times r v.ended) v.places) s.views in let b = kept.all_places in omega arith

-- each number is at most once among all that were drawn
pub once : (p : Plan) (s : S) → KeepsRule p s → (x : ℕ) → total (draws x) s.views ≤ 1
once p s kept x = dite (dec_le p.parts x)
    (λ le. let a = kept.beyond x le in omega arith)
    (λ no.
    let any = kept.sized.1 in
    let a = start_end p.parts p.ranges any in
    let t = find_range p.parts p.ranges any p.ranges x (omega arith) in
    let one : total (draws (start p t.0 + t.1)) s.views ≤ 1 = dite (dec_lt t.1 (slice_index s.words t.0))
    (λ less. let b = kept.taken t.0 t.1 t.2 t.3 less in omega arith)
    (λ no. let b = kept.left t.0 t.1 t.2 t.3 (omega arith) in omega arith) in
    subst (λ (y : ℕ). total (draws y) s.views ≤ 1) (sym t.4) one)

pub word_here : (ws : List ℕ) (r q n : ℕ) → r < length ws → q ≡ r → slice_index (set ws r n) q ≡ n
word_here ws r q n h e = ap (slice_index (set ws r n)) e ∙ get_or-set_same ws r n 0 h

pub word_there : (ws : List ℕ) (r q n : ℕ) → q ≢ r → slice_index (set ws r n) q ≡ slice_index ws q
word_there ws r q n ne = get_or-set_other ws r q n 0 ne

-- a word that grows keeps what is known of the ends
pub knows_more : (p : Plan) (ws ended : List ℕ) (r n : ℕ) → r < length ws → slice_index ws r ≤ n → Knows p ws ended → Knows p (set ws r n) ended
knows_more p ws ended r n long up knows q in' any = let a = knows q in' any in
    dite (ℕ_discrete q r)
    (λ e. let b = word_here ws r q n long e in let c : slice_index ws q ≡ slice_index ws r = ap (slice_index ws) e in omega arith)
    (λ ne. let b = word_there ws r q n ne in omega arith)

-- what the rule says of one view
abbrev pub Live : Plan → List ℕ → View → Type 0
Live p ws v = 0 < v.places → (v.plan ≡ p) × Knows p ws v.ended

abbrev pub Spent : View → Type 0
Spent v = v.places ≡ 0 → (v.drawn ≡ []) × (v.ended ≡ []) × (v.stopped ≡ false) × (v.told ≡ false)

-- a view that has seen a stop knows that n is not 0
abbrev pub Told : ℕ → View → Type 0
Told n v = v.told ≡ true → 0 < n

-- one view was replaced: a fact of each view
pub all_set : (F G : View → Type 0) (vs : List View) (id : ℕ) (w : View) → ((j : ℕ) (u : View) → get_elem? vs j ≡ some u → F u) → ((u : View) → F u → G u) → G w
    → (j : ℕ) (u : View) → get_elem? (set vs id w) j ≡ some u → G u
all_set F G vs id w was more new j u e = ⊎_elim (λ (t : (j ≡ id) × (w ≡ u)). subst G t.1 new) (λ (t : (j ≢ id) × (get_elem? vs j ≡ some u)). more u (was j u t.1)) (at_set vs id j w u e)

-- the rule keeps the law
pub law : (p : Plan) (s : State (Unit {0}) View) → KeepsRule p s → IsDrawn p.parts p.ranges s.views
law p s kept = record {
  below = λ x h. dite (dec_lt x p.parts) (λ less. less) (λ over. let a = kept.beyond x (omega arith) in absurd (omega arith));
  distinct = once p s kept;
  all = λ id v at ended x less. dite (dec_lt 0 v.places)
      (λ lives.
      let any = kept.sized.1 in
      let e = start_end p.parts p.ranges any in
      let t = find_range p.parts p.ranges any p.ranges x (omega arith) in
      let knows = (kept.live id v at lives).1 t.0 t.2 (times_from_contains t.0 v.ended (ended t.0 t.2)) in
      subst (λ (y : ℕ). total (draws y) s.views ≡ 1) (sym t.4) (kept.taken t.0 t.1 t.2 t.3 (let b = t.3 in omega arith)))
      (λ over.
      let none_ended = (kept.spent id v at (omega arith)).1 in
      let some_time = times_from_contains 0 v.ended (ended 0 kept.sized.1) in
      let none_there : times 0 v.ended ≡ 0 = ap (times 0) none_ended in
      absurd (omega arith));
}

-- nothing changes
pub unchanged : (p : Plan) (s : S) (id : ℕ) (v : View) (i : ℕ) → KeepsRule p s → get_elem? s.views id ≡ some v → (c : List (ℕ × Unit {0})) → KeepsRule p (stepped s i (slice_index s.words i) id c v keeps)
unchanged p s id v i kept at c = subst (λ (z : List ℕ × List View). KeepsRule p (record { words = z.0; homes = s.homes; views = z.1 })) (λ j. (sym (set-get_or s.words i 0) j, sym (set_again s.views id v at) j)) kept

-- a note counts at most one
pub flag-le : (b : Bool) → cond b 1 0 ≤ 1
flag-le true = omega arith
flag-le false = omega arith
