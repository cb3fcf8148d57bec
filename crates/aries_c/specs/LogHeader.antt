-- The header of a log as C names it (own).
use Rattle.std.specs.Prelude.{◌≡◌, ℕ, List}
use Rattle.log_laws.specs.declared.start.LogStart.{LogStart}
use Rattle.log_laws.specs.declared.start.LogStart.TheVariants.{Version1, Version2}
use Rattle.wal.specs.Headers.{header_of, FitsStart}

-- version 1, whose base LSN is 0, or version 2 with a base LSN
abbrev pub NamesStart : (version base : ℕ) → LogStart → Type 0
NamesStart version base Version1 = (version ≡ 1) × (base ≡ 0)
NamesStart version base (Version2 b) = (version ≡ 2) × (base ≡ b)

-- the header of a log with this start, with a base LSN in range
abbrev pub IsLogHeader : (version base : ℕ) → List ℕ → Type 0
IsLogHeader version base text = (begins : LogStart) × NamesStart version base begins × FitsStart begins × (text ≡ header_of begins)
