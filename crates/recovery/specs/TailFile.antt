-- The file of a tail (own): what a recovery in place keeps on the disk while it continues the log.
use Rattle.std.specs.Prelude.{◌≡◌, ℕ, ◌-◌, ◌*◌, ◌%◌, ◌^◌, ◌<◌, List, [], ◌∷◌, ◌++◌, bit_xor, codes, drop, length}
use Rattle.std.specs.Int.{w64, to_be_bytes}
use Rattle.recovery.specs.declared.tail_file.TailFile.{TailFile}
use Rattle.recovery.specs.declared.tail_file.TheConstants.{END_BYTES}

-- FNV-1a of 64 bits (Fowler, Noll, Vo), continued over more bytes
abbrev pub sum_on : ℕ → List ℕ → ℕ
sum_on sum [] = sum
sum_on sum (byte ∷ rest) = sum_on ((bit_xor sum byte * 0x0000_0100_0000_01b3) % 2 ^ 64) rest

abbrev pub sum_of : List ℕ → ℕ
sum_of bytes = sum_on 0xcbf2_9ce4_8422_2325 bytes

-- the last `END_BYTES`, or all if there are fewer
abbrev pub end_of : List ℕ → List ℕ
end_of bytes = drop (length bytes - END_BYTES) bytes

-- this is the sum of the end of these bytes
abbrev pub IsEndSum : ℕ → List ℕ → Type 0
IsEndSum sum bytes = sum ≡ sum_of (end_of bytes)

-- this is the sum of some bytes that have the first sum, followed by these
abbrev pub IsSumOn : (first sum : ℕ) → List ℕ → Type 0
IsSumOn first sum bytes = sum ≡ sum_on first bytes

-- a magic, how long the log was, how much of it is kept, how long the tail is, the sum of the end of what is kept, and that of what is cut off
unfoldable pub head_of : (log kept tail end cut : ℕ) → List ℕ
head_of log kept tail end cut =
    ((((codes "ARIESTL2" ++ to_be_bytes w64 log) ++ to_be_bytes w64 kept) ++ to_be_bytes w64 tail) ++ to_be_bytes w64 end)
    ++ to_be_bytes w64 cut

-- followed by the tail's frames
unfoldable pub front_of : (log kept end cut : ℕ) (frames : List ℕ) → List ℕ
front_of log kept end cut frames = head_of log kept (length frames) end cut ++ frames

-- followed by the sum of all this
unfoldable pub tail_text : (log kept end cut : ℕ) (frames : List ℕ) → List ℕ
tail_text log kept end cut frames = front_of log kept end cut frames ++ to_be_bytes w64 (sum_of (front_of log kept end cut frames))

-- the bytes before the frames of a file, those before its sum, and all
abbrev pub file_head : TailFile → List ℕ
file_head file = head_of file.length file.kept (length file.frames.now) file.end file.cut

abbrev pub file_front : TailFile → List ℕ
file_front file = front_of file.length file.kept file.end file.cut file.frames.now

abbrev pub file_text : TailFile → List ℕ
file_text file = tail_text file.length file.kept file.end file.cut file.frames.now

-- P is true if these bytes are the file of a tail
abbrev pub IfTailFile : List ℕ → Type 0 → Type 0
IfTailFile bytes P =
    (log kept end cut : ℕ) (frames : List ℕ) → log < 2 ^ 64 → kept < 2 ^ 64 → end < 2 ^ 64 → cut < 2 ^ 64 → bytes ≡ tail_text log kept end cut frames → P
