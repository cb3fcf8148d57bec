-- A log of which only the records are kept that undo looks at (own).
use Rattle.std.specs.Prelude.{◌≡◌, ⊤, ℕ, suc, ◌+◌, ◌*◌, ◌<◌, ◌≤◌, ◌^◌, List, All, Option, Some, map, length, ◌==◌, option_map, unwrap_or, if◌then◌else◌}
use Rattle.std.specs.List.{range_with_len, slice_get}
use Rattle.std.specs.Map.{lookup}
use Rattle.wal.specs.Reading.{◌>>=◌}
use Rattle.log_laws.specs.declared.start.LogStart.TheVariants.{Version2}
use Rattle.log_laws.specs.Records.{LogRecord, LogContent, History, Update, Compensation, CheckpointBegin, history, base_lsn, last_lsn, record_at}
use Rattle.wal.specs.Spelling.{Fits}
use Rattle.wal.specs.declared.sizes.TheConstants.{HEADER_BYTES, LARGEST_BASE, SMALLEST_FRAME}

-- an update or a CLR, which undo looks at; any other record is replaced by a checkpoint begin, over which undo passes
abbrev pub link_in : LogRecord → LogRecord
link_in (Update u) = Update u
link_in (Compensation c) = Compensation c
link_in _ = CheckpointBegin

-- the place among the links of the one at an LSN
abbrev pub place_of : ℕ → List (ℕ × ℕ) → Option ℕ
place_of lsn places = lookup (λ n. lsn == n) places

-- the record that is kept at an LSN
abbrev pub kept_at : List (ℕ × ℕ) → List LogRecord → ℕ → Option LogRecord
kept_at places links lsn = place_of lsn places >>= λ place. option_map link_in (slice_get links place)

-- Each record that is not kept is replaced by a checkpoint begin.
abbrev pub gathered_log : (base count : ℕ) → List (ℕ × ℕ) → List LogRecord → LogContent
gathered_log base count places links =
    record { begins = Version2 base; records = map (λ n. unwrap_or (kept_at places links n) CheckpointBegin) (range_with_len (suc base) count) }

-- there may be such a log; each place is one of a link, and each link has an encoding
pub record IsGathered (base count : ℕ) (places : List (ℕ × ℕ)) (links : List LogRecord) : Type 0 where
  pub starts : base ≤ LARGEST_BASE
  pub room : HEADER_BYTES + SMALLEST_FRAME * count < 2 ^ 63
  pub placed : (lsn place : ℕ) → place_of lsn places ≡ Some place → place < length links
  pub fits : All Fits links

-- a record of the log has this LSN
abbrev pub HasLsn : History → ℕ → Type 0
HasLsn log lsn = (base_lsn log < lsn) × (lsn ≤ last_lsn log)

-- the link of this record is kept at an LSN; at any other LSN nothing has changed
abbrev pub KeepsLink : (lsn : ℕ) → LogRecord → (old new : LogContent) → Type 0
KeepsLink lsn r old new = (n : ℕ) → record_at (history new) n ≡ (if lsn == n then Some (link_in r) else record_at (history old) n)

-- undo passes over what is there
abbrev pub IsPassedOver : Option LogRecord → Type 0
IsPassedOver (Some (Update u)) = ⊥
IsPassedOver (Some (Compensation c)) = ⊥
IsPassedOver _ = ⊤
