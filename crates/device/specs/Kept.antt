-- What a sink over memory keeps (own).
use Rattle.std.specs.Prelude.{ℕ, List, take}
use Rattle.device.specs.declared.kept.Kept.{Kept}

-- the bytes taken so far
abbrev pub bytes_taken : Kept → List ℕ
bytes_taken kept = kept.bytes.items

-- those of them that are flushed
abbrev pub bytes_flushed : Kept → List ℕ
bytes_flushed kept = take kept.flushed kept.bytes.items
