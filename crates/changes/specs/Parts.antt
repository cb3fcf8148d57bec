-- How changes are kept: each page that changes has a place among the cells, and each slot that changes a place among the values. Places
-- count from 1, and 0 is none (own).
use Rattle.std.specs.Prelude.{◌≡◌, ℕ, zero, suc, ◌<◌, ◌≤◌, List, [], Option, None, length, map, slice_index_or}
use Rattle.std.specs.List.{slice_get, range_with_len}
use Rattle.page.specs.Image.{Image}
use Rattle.page.specs.declared.profile.TheConstants.{SLOTS}
use Rattle.changes.specs.Changes.{PageChange}

-- the place of a slot's value, if the page has this place among the cells
abbrev pub slot_in : (cells : List (List ℕ)) → (place slot : ℕ) → ℕ
slot_in cells zero slot = 0
slot_in cells (suc n) slot = slice_index_or (slice_index_or cells n []) slot 0

-- the value at a place
abbrev pub value_in : (values : List Image) → (place : ℕ) → Option Image
value_in values zero = None
value_in values (suc n) = slice_get values n

-- the place of a page
abbrev pub place_of : (places : List ℕ) → (page : ℕ) → ℕ
place_of places page = slice_index_or places page 0

-- what is put into a slot
abbrev pub put_at : (places : List ℕ) → (cells : List (List ℕ)) → (values : List Image) → (page slot : ℕ) → Option Image
put_at places cells values page slot = value_in values (slot_in cells (place_of places page) slot)

abbrev pub change_at : (lsns places : List ℕ) → (cells : List (List ℕ)) → (values : List Image) → (page : ℕ) → PageChange
change_at lsns places cells values page = record { lsn = slice_index_or lsns page 0; puts = map (put_at places cells values page) (range_with_len 0 SLOTS) }

-- the change of each page
abbrev pub changes_in : (lsns places : List ℕ) → (cells : List (List ℕ)) → (values : List Image) → List PageChange
changes_in lsns places cells values = map (change_at lsns places cells values) (range_with_len 0 (length lsns))

-- each place of a page is there, and is the place of that page alone
pub record HavePlaces (places : List ℕ) (count : ℕ) : Type 0 where
  pub within : (page : ℕ) → place_of places page ≤ count
  pub apart : (j k : ℕ) → 0 < place_of places j → place_of places j ≡ place_of places k → j ≡ k

-- each place of a slot is there, and is the place of that slot alone
pub record HaveValues (cells : List (List ℕ)) (count : ℕ) : Type 0 where
  pub within : (page slot : ℕ) → slot_in cells page slot ≤ count
  pub apart : (j k s t : ℕ) → 0 < slot_in cells j s → slot_in cells j s ≡ slot_in cells k t → (j ≡ k) × (s ≡ t)

-- all of it
pub record AreParts (lsns places : List ℕ) (cells : List (List ℕ)) (values : List Image) : Type 0 where
  pub count : length places ≡ length lsns
  pub pages : HavePlaces places (length cells)
  pub slots : HaveValues cells (length values)
