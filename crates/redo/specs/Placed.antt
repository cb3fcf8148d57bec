-- PLACES. How the tallies of all pages are kept: a page to which a record was applied has a place among the lists of last records. Places
-- count from 1, and 0 is none (own).
use Rattle.std.specs.Prelude.{◌≡◌, ℕ, zero, suc, ◌+◌, ◌<◌, ◌≤◌, List, [], ◌∷◌, ◌++◌, Option, None, Bool, true, false, length, map, replicate, slice_index_or, slice_set}
use Rattle.page.specs.declared.profile.TheConstants.{SLOTS}
use Rattle.redo.specs.declared.tally.Tally.{Tally}
use Rattle.redo.specs.declared.tally_table.PlacedPage.{PlacedPage}

-- the tally of a page to which no record was applied
abbrev pub untouched : (number lsn : ℕ) (rec_lsn : Option ℕ) → Tally
untouched number lsn rec_lsn = record { number = number; lsn = lsn; rec_lsn = rec_lsn; applied = 0; lasts = replicate SLOTS 0 }

-- the last records at a place; none if the place is none
abbrev pub kept_at : (kept : List (List ℕ)) (place : ℕ) → List ℕ
kept_at kept zero = replicate SLOTS 0
kept_at kept (suc n) = slice_index_or kept n (replicate SLOTS 0)

-- the tally of a page; its RecLSN is at its number
abbrev pub tally_of : (kept : List (List ℕ)) (rec_lsns : List (Option ℕ)) → PlacedPage → Tally
tally_of kept rec_lsns page = record { number = page.number; lsn = page.lsn; rec_lsn = slice_index_or rec_lsns page.number None; applied = page.applied; lasts = kept_at kept page.place }

-- the tallies of all pages
abbrev pub tallies_of : (kept : List (List ℕ)) (rec_lsns : List (Option ℕ)) → List PlacedPage → List Tally
tallies_of kept rec_lsns pages = map (tally_of kept rec_lsns) pages

-- a page is at this number; its place is there, and it has one if and only if a record was applied to it
pub record IsPlaced (kept : List (List ℕ)) (k : ℕ) (page : PlacedPage) : Type 0 where
  pub number : page.number ≡ k
  pub within : page.place ≤ length kept
  pub touched : (page.place ≡ 0 → ⊥) → page.applied ≡ 0 → ⊥
  pub idle : page.place ≡ 0 → page.applied ≡ 0

-- the same for all pages; no two have one place, and each has a RecLSN
pub record ArePlaced (kept : List (List ℕ)) (rec_lsns : List (Option ℕ)) (pages : List PlacedPage) : Type 0 where
  pub count : length rec_lsns ≡ length pages
  pub each : (k : ℕ) (page : PlacedPage) → k < length pages → IsPlaced kept k (slice_index_or pages k page)
  pub own : (i k : ℕ) (page : PlacedPage) → i < length pages → k < length pages → ((slice_index_or pages i page).place ≡ 0 → ⊥)
      → (slice_index_or pages i page).place ≡ (slice_index_or pages k page).place → i ≡ k

-- a page that has no place after a record at this LSN, if it lacks the record; this many places are taken
abbrev pub page_first : (lacks : Bool) (count lsn : ℕ) → PlacedPage → PlacedPage
page_first true count lsn page = record { number = page.number; place = count + 1; lsn = lsn; applied = page.applied + 1 }
page_first false count lsn page = page

-- what is kept then
abbrev pub kept_first : (lacks : Bool) (lsn slot : ℕ) → List (List ℕ) → List (List ℕ)
kept_first true lsn slot kept = kept ++ slice_set (replicate SLOTS 0) slot lsn ∷ []
kept_first false lsn slot kept = kept
