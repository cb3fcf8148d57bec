-- What is known of the transactions that have not finished, by their numbers (own).
use Rattle.std.specs.Prelude.{◌≡◌, ◌<◌, ℕ, Option, Some, None, Bool, true, false, not, ◌==◌, ◌%◌, if◌then◌else◌, is_some, slice_index_or}
use Rattle.std.specs.Ordering.{nat_cmp}
use Rattle.std.specs.BTreeMap.{get}
use Rattle.audit.specs.declared.status.Status.{Status}
use Rattle.audit.specs.declared.unfinished_table.UnfinishedTable.{UnfinishedTable}
use Rattle.audit.specs.declared.unfinished_table.TheConstants.{PLACES}

-- whether a transaction other than t is at a place
abbrev pub is_of_another : ℕ → Option (ℕ × Status) → Bool
is_of_another t None = false
is_of_another t (Some p) = not (p.0 == t)

-- what is known of the transaction t at a place; if t is not there, what is known elsewhere
abbrev pub own_or : ℕ → Option (ℕ × Status) → Option Status → Option Status
own_or t None other = other
own_or t (Some p) other = if p.0 == t then Some p.1 else other

-- what is known of the transaction t: at the place of its number, else among the others
abbrev pub unfinished_in : UnfinishedTable → ℕ → Option Status
unfinished_in table t = own_or t (slice_index_or table.places (t % PLACES) None) (get nat_cmp table.others t)

-- the transaction t is at a place, or among the others
abbrev pub IsPlaced : UnfinishedTable → ℕ → Type 0
IsPlaced table t = (place : ℕ) × (status : Status) × (place < PLACES) × (slice_index_or table.places place None ≡ Some (t, status))

abbrev pub IsOther : UnfinishedTable → ℕ → Type 0
IsOther table t = is_some (get nat_cmp table.others t) ≡ true
