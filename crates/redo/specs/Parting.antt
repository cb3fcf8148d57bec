-- A partition of pages, as contracts see it (own).
use Rattle.std.specs.Prelude.{◌≡◌, ℕ, ◌%◌, ◌<◌, ◌≤◌, List, All, Some, Vec, length, vec_len, map, ⊤}
use Rattle.std.specs.declared.alloc.Global.{Global}
use Rattle.std.specs.List.{slice_get, range_with_len}
use Rattle.page.specs.declared.fault.Fault.{Fault}
use Rattle.page.specs.declared.fault.Fault.TheVariants.{NoResource, BadParting}
use Rattle.redo.specs.declared.parting.Parting.TheInside.{Inside}
use Rattle.redo.specs.Lists.{list_at}
use Rattle.page.specs.declared.profile.TheConstants.{PAGES}
use Rattle.redo.specs.declared.parting.TheConstants.{PARTS}

-- how many parts there are, the part of each page, and each page's place among the pages of its part
pub record PartingContent : Type 0 where
  pub parts : ℕ
  pub part_of : List ℕ
  pub place_of : List ℕ

-- the numbers of pages that a partition may have
abbrev pub ArePages : ℕ → Type 0
ArePages n = (1 ≤ n) × (n ≤ PAGES)

-- the numbers of parts that it may have
abbrev pub AreParts : ℕ → Type 0
AreParts n = (1 ≤ n) × (n ≤ PARTS)

-- each page is given one of the parts
pub record IsDealt (pages parts : ℕ) (part_of : List ℕ) : Type 0 where
  pub pages_fit : ArePages pages
  pub parts_fit : AreParts parts
  pub count : length part_of ≡ pages
  pub below : All (λ part. part < parts) part_of

-- the error of a partition, memory aside
abbrev pub PartingFault : ℕ → ℕ → List ℕ → Fault → Type 0
PartingFault pages parts part_of NoResource = ⊤
PartingFault pages parts part_of BadParting = IsDealt pages parts part_of → ⊥
PartingFault pages parts part_of e = ⊥

-- a page is among those of its part, at the place noted for it
pub record IsMember (place_of members : List ℕ) (page : ℕ) : Type 0 where
  pub place : ℕ
  pub noted : slice_get place_of page ≡ Some place
  pub there : slice_get members place ≡ Some page

-- the pages of a part: each of them once, at its place
pub record AreMembers (part_of place_of : List ℕ) (part : ℕ) (members : List ℕ) : Type 0 where
  pub found : (page : ℕ) → page < length place_of → slice_get part_of page ≡ Some part → IsMember place_of members page
  pub only : (place page : ℕ) → slice_get members place ≡ Some page → (slice_get part_of page ≡ Some part) × (slice_get place_of page ≡ Some place)

-- the lists of all parts have their pages
abbrev pub AreLists : List ℕ → List ℕ → List (Vec ℕ Global) → Type 0
AreLists part_of place_of lists = (part : ℕ) → AreMembers part_of place_of part (list_at lists part)

-- what contracts see
abbrev pub parting_of : Inside → PartingContent
parting_of s = record { parts = s.parts; part_of = s.part_of.items; place_of = s.place_of.items }

-- the fields agree
pub record IsParting (s : Inside) : Type 0 where
  pub dealt : IsDealt (vec_len s.part_of) s.parts s.part_of.items
  pub places : length s.place_of.items ≡ length s.part_of.items
  pub count : length s.members.items ≡ s.parts
  pub lists : AreLists s.part_of.items s.place_of.items s.members.items
  pub low : All (λ place. place < PAGES) s.place_of.items

-- page p has part p modulo the count
abbrev pub by_number : (pages parts : ℕ) → List ℕ
by_number pages parts = map (λ page. page % parts) (range_with_len 0 pages)

-- the error of such a partition, memory aside
abbrev pub NumberFault : ℕ → ℕ → Fault → Type 0
NumberFault pages parts NoResource = ⊤
NumberFault pages parts BadParting = (ArePages pages × AreParts parts) → ⊥
NumberFault pages parts e = ⊥
