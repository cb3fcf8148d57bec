-- The text of a checkpoint.
use Rattle.std.proofs.Common.{◌≡◌, ◌+◌, ◌*◌, ℕ, List, ◌∷◌, ◌++◌, length, refl, arith, length-append}
use Rattle.std.specs.Prelude.{flat_map}
use Rattle.std.specs.Int.{w32, w64, to_be_bytes}
use Rattle.log_laws.specs.Records.{TableEntry, CheckpointEnd}
use Rattle.wal.specs.Spelling.{entry, dirty_page, body}
use Rattle.wal.proofs.Whole.{entry_length}
use Rattle.journal.proofs.Flat.{flat_length}

module _ (begin lsn : ℕ) (ts : List TableEntry) (ds : List (ℕ × ℕ)) where
  abbrev pub rows_text : List ℕ
  rows_text = flat_map entry ts

  abbrev pub dirty_text : List ℕ
  dirty_text = flat_map dirty_page ds

  pub rows_size : length rows_text ≡ 21 * length ts
  rows_size = flat_length entry 21 entry_length ts

  pub dirty_size : length dirty_text ≡ 12 * length ds
  dirty_size = flat_length dirty_page 12 (λ d. refl) ds

  pub end_size : length (body (CheckpointEnd begin ts ds) lsn) ≡ 25 + 21 * length ts + 12 * length ds
  end_size = omega (arith, rows_size, dirty_size, length-append rows_text (to_be_bytes w32 (length ds) ++ dirty_text))

  -- what comes before the entries, if the body of the end record has this length
  abbrev pub head_text : ℕ → List ℕ
  head_text n = (((to_be_bytes w32 9 ++ 6 ∷ to_be_bytes w64 begin) ++ (to_be_bytes w32 n ++ 7 ∷ to_be_bytes w64 lsn)) ++ to_be_bytes w64 begin) ++ to_be_bytes w32 (length ts)
