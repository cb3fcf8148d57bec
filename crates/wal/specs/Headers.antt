-- The header of a log file. Own.
use Rattle.std.specs.Prelude.{ℕ, ◌≤◌, List, ◌++◌, drop, Option, Some, None, nat_lt, nat_eq, if◌then◌else◌, ⊤}
use Rattle.std.specs.List.{starts_with}
use Rattle.std.specs.Int.{w64, to_be_bytes}
use Rattle.log_laws.specs.declared.start.LogStart.{LogStart}
use Rattle.log_laws.specs.declared.start.LogStart.TheVariants.{Version1, Version2}
use Rattle.wal.specs.declared.sizes.TheConstants.{HEADER_BYTES, BASED_HEADER_BYTES, LARGEST_BASE}
use Rattle.wal.specs.Reading.{◌>>=◌, number_at}
use Rattle.page.specs.declared.profile.TheConstants.{LOG_MAGIC, BASED_LOG_MAGIC}

-- the header: the magic of the version, and in version 2 the base LSN after it
abbrev pub header_of : LogStart → List ℕ
header_of Version1 = LOG_MAGIC
header_of (Version2 base) = BASED_LOG_MAGIC ++ to_be_bytes w64 base

-- how many bytes it has
abbrev pub header_bytes : LogStart → ℕ
header_bytes Version1 = HEADER_BYTES
header_bytes (Version2 base) = BASED_HEADER_BYTES

-- a base LSN is small enough that LSNs cannot run out
abbrev pub FitsStart : LogStart → Type 0
FitsStart Version1 = ⊤
FitsStart (Version2 base) = base ≤ LARGEST_BASE

-- READING. How the log in these bytes begins, or None if they begin with no header.
unfoldable pub start_at : List ℕ → Option LogStart
start_at bytes =
    if starts_with nat_eq bytes LOG_MAGIC then Some Version1
    else if starts_with nat_eq bytes BASED_LOG_MAGIC then (do
      base ← number_at w64 (drop HEADER_BYTES bytes)
      if nat_lt LARGEST_BASE base.0 then None else Some (Version2 base.0))
    else None
