-- A log that is read in pieces: each piece is a small log whose base LSN is that of the last record before it (own).
use Rattle.std.specs.Prelude.{◌≡◌, ℕ, ◌<◌, ◌≤◌}
use Rattle.log_laws.specs.Records.{History, last_lsn, base_lsn, record_at}

-- A PIECE OF A LOG: each of its records is in the log at the same LSN.
pub record IsPieceOf (whole piece : History) : Type 0 where
  pub low : base_lsn whole ≤ base_lsn piece
  pub high : last_lsn piece ≤ last_lsn whole
  pub each : (lsn : ℕ) → base_lsn piece < lsn → lsn ≤ last_lsn piece → record_at piece lsn ≡ record_at whole lsn
