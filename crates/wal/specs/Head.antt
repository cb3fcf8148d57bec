-- The head of a frame (own).
use Rattle.std.specs.Prelude.{ℕ, List, ◌∷◌, ◌++◌}
use Rattle.std.specs.Int.{w32, w64, to_be_bytes}
use Rattle.wal.specs.declared.head.FrameHead.{FrameHead}

-- the length of the body, the kind and the LSN
abbrev pub head_text : FrameHead → List ℕ
head_text h = to_be_bytes w32 h.length ++ (h.kind ∷ to_be_bytes w64 h.lsn)
