-- The rule of a board's words, and what each step on them shows (own).
-- Claim word r counts the steps on range r: a step that finds k there below the range's size claims its number k, and any other step finds
-- that the range has ended. The last word, the stop word, is 1 if some seat has stopped the board, and 0 otherwise.
use Rattle.std.specs.Prelude.{◌≡◌, ℕ, zero, suc, ◌+◌, ◌-◌, ◌<◌, ◌≤◌, min, true, false, cond, ◌||◌, eqb, List, [], ◌∷◌, ◌++◌, length, slice_index, ⊤}
use mathlib.Core.Option.{some}
use lib.ListN.{get_elem?}
use Rattle.atomic_table.specs.Table.{State, Me, Step}
use Rattle.board.specs.declared.view.Plan.{Plan}
use Rattle.board.specs.declared.view.View.{View}
use Rattle.board.specs.Drawn.{AllEnded, range_start, range_size}
use Rattle.board.specs.declared.sizes.TheConstants.{SEATS, PARTS}

-- how often x is in the list
abbrev pub times : ℕ → List ℕ → ℕ
times x [] = 0
times x (y ∷ ys) = cond (eqb y x) 1 0 + times x ys

-- the sum of f over the views
abbrev pub total : (View → ℕ) → List View → ℕ
total f [] = 0
total f (v ∷ vs) = f v + total f vs

-- the view's places
abbrev pub places : View → ℕ
places v = v.places

-- how often the view's seat drew x
abbrev pub draws : ℕ → View → ℕ
draws x v = times x v.drawn

-- 1 for a view whose seat has stopped the board
abbrev pub stops : View → ℕ
stops v = cond v.stopped 1 0

-- n if k is not 0, otherwise 0
abbrev pub if_any : ℕ → ℕ → ℕ
if_any zero n = 0
if_any (suc k) n = n

-- the places of a seat that has found the end of range r, which bound its steps past the end
abbrev pub places_past : ℕ → View → ℕ
places_past r v = if_any (times r v.ended) v.places

-- the first number of range r
abbrev pub start : Plan → ℕ → ℕ
start p r = range_start p.parts p.ranges r

-- how many numbers range r has
abbrev pub size : Plan → ℕ → ℕ
size p r = range_size p.parts p.ranges r

-- a range is among the ended ones only if its word has reached its size
abbrev pub Knows : Plan → List ℕ → List ℕ → Type 0
Knows p words ended = (r : ℕ) → r < p.ranges → 0 < times r ended → size p r ≤ slice_index words r

-- The rule of the words and of what all seats know.
-- Each number of a range whose step was made is once in the list of one seat, and each other number is in none; a word passes its range's
-- size by at most the places of the seats that found its end; if a seat has seen a stop, some seat has stopped the board.
pub record KeepsRule (p : Plan) (s : State ⊤ View) : Type 0 where
  pub sized : (p.parts ≤ PARTS) × (0 < p.ranges) × (p.ranges ≤ SEATS) × (p.seats ≤ SEATS)
  pub rows : length s.words ≡ p.ranges + 1
  pub all_places : total places s.views ≡ p.seats
  pub live : (id : ℕ) (v : View) → get_elem? s.views id ≡ some v → 0 < v.places → (v.plan ≡ p) × Knows p s.words v.ended
  pub spent : (id : ℕ) (v : View) → get_elem? s.views id ≡ some v → v.places ≡ 0 → (v.drawn ≡ []) × (v.ended ≡ []) × (v.stopped ≡ false) × (v.told ≡ false)
  pub taken : (r k : ℕ) → r < p.ranges → k < size p r → k < slice_index s.words r → total (draws (start p r + k)) s.views ≡ 1
  pub left : (r k : ℕ) → r < p.ranges → k < size p r → slice_index s.words r ≤ k → total (draws (start p r + k)) s.views ≡ 0
  pub beyond : (x : ℕ) → p.parts ≤ x → total (draws x) s.views ≡ 0
  pub bounded : (r : ℕ) → r < p.ranges → slice_index s.words r ≤ size p r + total (places_past r) s.views
  pub stop : slice_index s.words p.ranges ≡ min 1 (total stops s.views)
  pub told : (id : ℕ) (v : View) → get_elem? s.views id ≡ some v → v.told ≡ true → 0 < total stops s.views

-- The numbers that all seats drew are below n and distinct; if some seat knows all ranges as ended, they are all the numbers below n
pub record IsDrawn (n ranges : ℕ) (views : List View) : Type 0 where
  pub below : (x : ℕ) → 0 < total (draws x) views → x < n
  pub distinct : (x : ℕ) → total (draws x) views ≤ 1
  pub all : (id : ℕ) (v : View) → get_elem? views id ≡ some v → AllEnded ranges v.ended → (x : ℕ) → x < n → total (draws x) views ≡ 1

-- The drawn law: this holds whenever the rule holds
abbrev pub DrawnLaw : Type 0
DrawnLaw = (p : Plan) (s : State ⊤ View) → KeepsRule p s → IsDrawn p.parts p.ranges s.views

-- the first seat: all places, and nothing drawn, ended or noted
abbrev pub opened : Plan → View
opened p = record { plan = p; places = p.seats; drawn = []; ended = []; stopped = false; told = false }

-- x is drawn
abbrev pub with_drawn : View → ℕ → View
with_drawn v x = record v { drawn = v.drawn ++ x ∷ [] }

-- range r has ended
abbrev pub with_ended : View → ℕ → View
with_ended v r = record v { ended = v.ended ++ r ∷ [] }

-- the seat has stopped the board
abbrev pub with_stop : View → View
with_stop v = record v { stopped = true }

-- the seat has seen a stop
abbrev pub with_told : View → View
with_told v = record v { told = true }

-- one place, with the numbers
abbrev pub one_place : View → View
one_place v = record v { places = 1 }

-- the other places, with no number
abbrev pub other_places : View → View
other_places v = record v { places = v.places - 1; drawn = [] }

-- what two seats have
abbrev pub united : View → View → View
united v w = record {
  plan = v.plan;
  places = v.places + w.places;
  drawn = v.drawn ++ w.drawn;
  ended = v.ended ++ w.ended;
  stopped = v.stopped || w.stopped;
  told = v.told || w.told;
}

-- what is left of the seat that was joined into another
abbrev pub nobody : View
nobody = record { plan = record { parts = 0; ranges = 0; seats = 0 }; places = 0; drawn = []; ended = []; stopped = false; told = false }

-- what a seat knows and holds
abbrev Own : Type 0
Own = Me ⊤ View

-- a claim found n: if n is below the range's size, its number, which the seat did not have, is drawn; otherwise the range has ended
abbrev pub claimed : Step ⊤ → Own → ℕ → Own → Type 0
claimed st m n m' =
    (m'.1 ≡ m.1)
    × (n < size m.0.plan st.word → (m'.0 ≡ with_drawn m.0 (start m.0.plan st.word + n)) × (times (start m.0.plan st.word + n) m.0.drawn ≡ 0))
    × (size m.0.plan st.word ≤ n → m'.0 ≡ with_ended m.0 st.word)

-- a look at the stop word that notes nothing: it changes nothing, and shows that the seat's numbers are distinct and its places few
abbrev pub looked : Step ⊤ → Own → ℕ → Own → Type 0
looked st m n m' = (m' ≡ m) × ((x : ℕ) → times x m.0.drawn ≤ 1) × (m.0.places ≤ SEATS)

-- a step on the stop word: the seat has stopped the board
abbrev pub stop_set : Step ⊤ → Own → ℕ → Own → Type 0
stop_set st m n m' = m' ≡ (with_stop m.0, m.1)

-- a look at the stop word that notes what it sees: if it is 0, nothing changes, and the seat has not stopped the board and has seen no
-- stop; otherwise the seat notes a stop
abbrev pub stop_seen : Step ⊤ → Own → ℕ → Own → Type 0
stop_seen st m n m' = (n ≡ 0 → (m' ≡ m) × (m.0.stopped ≡ false) × (m.0.told ≡ false)) × (0 < n → m' ≡ (with_told m.0, m.1))
