-- What contracts see of a board, of a seat and of a tally (own).
use Rattle.std.specs.Prelude.{◌≡◌, ◌≢◌, ℕ, ◌+◌, ◌-◌, ◌*◌, ◌/◌, ◌<◌, ◌≤◌, ◌↔◌, ◌⊎◌, Bool, List, [], ◌∷◌, ◌++◌, slice_index}
use Rattle.std.specs.List.{Contains, AllPairs}
use Rattle.atomic_table.specs.Seated.{TableId}

-- The identity of a board: its words, how many numbers it hands out, in how many ranges, and for how many seats at most
pub record BoardId : Type 0 where
  pub table : TableId
  pub parts : ℕ
  pub ranges : ℕ
  pub seats : ℕ

-- What a seat has: its board, its places, the numbers that it drew in order, the ranges that it knows as ended, whether it has stopped the
-- board, and whether it has seen that some seat has
pub record SeatState : Type 0 where
  pub board : BoardId
  pub places : ℕ
  pub drawn : List ℕ
  pub ended : List ℕ
  pub stopped : Bool
  pub told : Bool

-- What is left of a closed board: the number of steps on each range, and whether the closing seat has stopped the board
pub record TallyState : Type 0 where
  pub words : List ℕ
  pub stopped : Bool

-- no number is in the list twice
abbrev pub AreDistinct : List ℕ → Type 0
AreDistinct xs = AllPairs (λ x y. x ≢ y) xs

-- all ranges below this number are among the ended ones
abbrev pub AllEnded : ℕ → List ℕ → Type 0
AllEnded ranges ended = (r : ℕ) → r < ranges → Contains ended r

-- the ranges from `from` up to, not including, `to` are among the ended ones
abbrev pub EndedWithin : ℕ → ℕ → List ℕ → Type 0
EndedWithin from to ended = (r : ℕ) → from ≤ r → r < to → Contains ended r

-- whatever is in the first list is in the second
abbrev pub IsWithin : List ℕ → List ℕ → Type 0
IsWithin xs ys = (x : ℕ) → Contains xs x → Contains ys x

-- between these two states the seat stays at its board and keeps its places
abbrev pub KeepsPlaces : SeatState → SeatState → Type 0
KeepsPlaces old new = (new.board ≡ old.board) × (new.places ≡ old.places)

-- and it keeps its two notes of a stop
abbrev pub KeepsNotes : SeatState → SeatState → Type 0
KeepsNotes old new = (new.stopped ≡ old.stopped) × (new.told ≡ old.told)

-- a draw returned x: a number that the board hands out, which the seat did not have and which is now its last
abbrev pub Gains : BoardId → SeatState → SeatState → ℕ → Type 0
Gains board old new x = (x < board.parts) × (¬ Contains old.drawn x) × (new.drawn ≡ old.drawn ++ x ∷ [])

-- the first number of range r, if `parts` numbers are cut into `ranges` ranges
abbrev pub range_start : ℕ → ℕ → ℕ → ℕ
range_start parts ranges r = r * parts / ranges

-- how many numbers range r has
abbrev pub range_size : ℕ → ℕ → ℕ → ℕ
range_size parts ranges r = range_start parts ranges (r + 1) - range_start parts ranges r

-- x is a number of range r
abbrev pub IsInRange : BoardId → (r x : ℕ) → Type 0
IsInRange board r x = (range_start board.parts board.ranges r ≤ x) × (x < range_start board.parts board.ranges (r + 1))

-- x is a number of the first range, from `from` up to, not including, `to`, that is not among the ended ones
pub record IsOfFirst (board : BoardId) (from to : ℕ) (ended : List ℕ) (x : ℕ) : Type 0 where
  pub range : ℕ
  pub low : from ≤ range
  pub high : range < to
  pub before : EndedWithin from range ended
  pub not_ended : ¬ Contains ended range
  pub number : IsInRange board range x

-- the ranges from `home` up to, not including, r are among the ended ones; range 0 follows the last range
abbrev pub EndedBefore : (ranges home r : ℕ) → List ℕ → Type 0
EndedBefore ranges home r ended = ((home ≤ r) × EndedWithin home r ended) ⊎ ((r < home) × EndedWithin home ranges ended × EndedWithin 0 r ended)

-- x is a number of the first range that is not among the ended ones, from `home` on; range 0 follows the last range
pub record IsNext (board : BoardId) (home : ℕ) (ended : List ℕ) (x : ℕ) : Type 0 where
  pub range : ℕ
  pub within : range < board.ranges
  pub before : EndedBefore board.ranges home range ended
  pub not_ended : ¬ Contains ended range
  pub number : IsInRange board range x

-- exactly the first numbers of each range were drawn: number k of range r if and only if its word counts more than k steps
abbrev pub AreFirstDrawn : BoardId → (words drawn : List ℕ) → Type 0
AreFirstDrawn board words drawn = (r k : ℕ) → r < board.ranges → k < range_size board.parts board.ranges r → Contains drawn (range_start board.parts board.ranges r + k) ↔ (k < slice_index words r)
