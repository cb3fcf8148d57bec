-- Records that a page's image lacks, and whether a dirty page table covers them (own).
use Rattle.std.specs.Prelude.{◌≡◌, ◌<◌, ◌≤◌, ℕ, suc, List, length, Option, Some, ◌==◌, ◌&&◌, nat_lt, if◌then◌else◌, slice_index, slice_set}
use Rattle.page.specs.declared.page.Page.{Page}
use Rattle.std.specs.Option.{option_map_or}
use Rattle.log_laws.specs.Records.{History, start, ◌▸◌, last_lsn}
use Rattle.log_laws.specs.Meaning.{is_on}
use Rattle.audit.specs.Pages.{page_lsn}

-- the LSN of the first record on the page above its PageLSN, or 0
abbrev pub first_missing : (page page_lsn : ℕ) → History → ℕ
first_missing page page_lsn (start _) = 0
first_missing page page_lsn (log ▸ r) =
    if first_missing page page_lsn log == 0 && (is_on page r && nat_lt page_lsn (suc (last_lsn log))) then suc (last_lsn log) else first_missing page page_lsn log

-- for each page its first missing record
pub record KeepsMissing (pages : List Page) (log : History) (missing : List ℕ) : Type 0 where
  pub size_is : length missing ≡ length pages
  pub each : (page : ℕ) → page < length pages → slice_index missing page ≡ first_missing page (page_lsn pages page) log

-- the first missing records after the record at an LSN, which is in this cell or in none
abbrev pub missing_after : (ℕ → ℕ) → List ℕ → Option (ℕ × ℕ) → ℕ → List ℕ
missing_after lsn_of missing cell lsn =
    option_map_or (λ c. if slice_index missing c.0 == 0 && nat_lt (lsn_of c.0) lsn then slice_set missing c.0 lsn else missing) cell missing

-- a listed RecLSN is above the base LSN, and at most the master
abbrev pub IsRecLsnInRange : (base : ℕ) → Option ℕ → ℕ → Type 0
IsRecLsnInRange base listed master = (rec_lsn : ℕ) → listed ≡ Some rec_lsn → (base < rec_lsn) × (rec_lsn ≤ master)

-- if a record is missing, the listed RecLSN is at or before it
abbrev pub IsCovered : Option ℕ → ℕ → Type 0
IsCovered listed missing = 0 < missing → (rec_lsn : ℕ) × (listed ≡ Some rec_lsn) × (rec_lsn ≤ missing)
