-- CHANGES. What becomes of the pages of a store: for each page its new PageLSN, and what is put into its slots (own).
use Rattle.std.specs.Prelude.{◌≡◌, ℕ, ◌<◌, List, Option, Some, None, length, map, replicate, slice_set, slice_index_or}
use Rattle.std.specs.List.{range_with_len}
use Rattle.page.specs.Image.{Image}
use Rattle.page.specs.declared.page.Page.{Page}
use Rattle.page.specs.declared.profile.TheConstants.{SLOTS}

-- what is put into each slot of a page, None for a slot that stays as it is
pub record PageChange : Type 0 where
  pub lsn : ℕ
  pub puts : List (Option Image)

-- a page that keeps all its slots
abbrev pub unchanged : ℕ → PageChange
unchanged lsn = record { lsn = lsn; puts = replicate SLOTS None }

-- something is put into a slot
abbrev pub PutsSome : PageChange → Type 0
PutsSome c = (slot : ℕ) × (value : Image) × (slot < SLOTS) × (slice_index_or c.puts slot None ≡ Some value)

-- a value put into a slot as well, by the record at an LSN
abbrev pub put_in : (slot lsn : ℕ) → Image → PageChange → PageChange
put_in slot lsn value c = record { lsn = lsn; puts = slice_set c.puts slot (Some value) }

-- another PageLSN
abbrev pub lsn_in : (lsn : ℕ) → PageChange → PageChange
lsn_in lsn c = record { lsn = lsn; puts = c.puts }

-- what a slot holds after a change
abbrev pub slot_after : Option Image → Image → Image
slot_after None old = old
slot_after (Some new) old = new

-- the page after its change
abbrev pub changed : PageChange → Page → Page
changed c page = record { number = page.number; lsn = c.lsn; slots = map (λ slot. slot_after (slice_index_or c.puts slot None) (slice_index_or page.slots slot None)) (range_with_len 0 SLOTS) }

-- a page with a value put into a slot, by the record at an LSN
abbrev pub page_put : (slot lsn : ℕ) → Image → Page → Page
page_put slot lsn value page = record { number = page.number; lsn = lsn; slots = slice_set page.slots slot value }

-- a page with another PageLSN
abbrev pub page_lsn : (lsn : ℕ) → Page → Page
page_lsn lsn page = record { number = page.number; lsn = lsn; slots = page.slots }

-- the pages after the changes
pub record AreChanged (changes : List PageChange) (old new : List Page) : Type 0 where
  pub count : length new ≡ length old
  pub each : (k : ℕ) (c : PageChange) (page : Page) → k < length old → slice_index_or new k page ≡ changed (slice_index_or changes k c) (slice_index_or old k page)
