-- The records that a page's image must have (own).
use Rattle.std.specs.Prelude.{◌≡◌, ◌<◌, ◌+◌, ◌*◌, ℕ, List, [], Option, nat_le, if◌then◌else◌, slice_index, slice_index_or, slice_set}
use Rattle.page.specs.declared.page.Page.{Page}
use Rattle.std.specs.Option.{option_map_or}
use Rattle.log_laws.specs.Records.{History, first}
use Rattle.audit.specs.Cells.{last_write}
use Rattle.page.specs.declared.profile.TheConstants.{SLOTS}

-- the PageLSN of the page at a place
abbrev pub page_lsn : List Page → ℕ → ℕ
page_lsn pages number = (slice_index_or pages number (record { number = 0; lsn = 0; slots = [] })).lsn

-- the log up to its PageLSN
abbrev pub log_at : List Page → History → ℕ → History
log_at pages log number = first (page_lsn pages number) log

-- the last writers after the record at an LSN, which is in this cell or in none; it counts if it is at or before its page's PageLSN
abbrev pub writers_after : (ℕ → ℕ) → List ℕ → Option (ℕ × ℕ) → ℕ → List ℕ
writers_after lsn_of writers cell lsn = option_map_or (λ c. if nat_le lsn (lsn_of c.0) then slice_set writers (SLOTS * c.0 + c.1) lsn else writers) cell writers

-- the list has the last writer of each cell of the page, up to its PageLSN
abbrev pub KeepsPage : History → List ℕ → Page → Type 0
KeepsPage log writers page = (slot : ℕ) → slot < SLOTS → slice_index writers (SLOTS * page.number + slot) ≡ last_write page.number slot (first page.lsn log)
