-- Big endian numbers and their bytes.
use Rattle.std.proofs.Common.{◌≡◌, ℕ, ◌+◌, ◌<◌, ◌^◌, List, ◌++◌, length, get_or, take, drop, sym, ap, ap₂, ◌∙◌, arith, inl, inr}
use Rattle.std.specs.Int.{w32, w64, to_be_bytes, from_be_bytes}
use Rattle.std.proofs.lemmas.Bool.{cases_lt}
use Rattle.std.proofs.lemmas.List.{take-append-drop, length-take, length-drop, get_or-drop, get_or-take, get_or_past}
use Rattle.std.proofs.lemmas.Nat.{be_bytes_4, be_bytes_8, from_be_bytes-to_be_bytes_4, from_be_bytes-to_be_bytes_8}
use Rattle.byteorder.specs.Endian.{big_number}

abbrev pub AreBytes : List ℕ → Type 0
AreBytes bytes = (i : ℕ) → get_or bytes i 0 < 256

pub AreBytes-drop : (n : ℕ) (bytes : List ℕ) → AreBytes bytes → AreBytes (drop n bytes)
AreBytes-drop n bytes h i = rw get_or-drop (h (n + i))

pub AreBytes-take : (n : ℕ) (bytes : List ℕ) → AreBytes bytes → AreBytes (take n bytes)
AreBytes-take n bytes h i =
    elim (cases_lt i n) [
      | inl lt ↦ rw (get_or-take n bytes i 0 lt) (h i)
      | inr le ↦ rw (get_or_past (take n bytes) i 0 (omega (arith, length-take n bytes))) (omega arith)
    ]

-- the encoding of a number that was read is the bytes that it was read from
pub spelled_32 : (bytes : List ℕ) (n : ℕ) → length bytes ≡ 4 → AreBytes bytes → n ≡ big_number 4 bytes → to_be_bytes w32 n ≡ bytes
spelled_32 bytes n len fits e = be_bytes_4 bytes n len fits (omega (arith, e))

pub spelled_64 : (bytes : List ℕ) (n : ℕ) → length bytes ≡ 8 → AreBytes bytes → n ≡ big_number 8 bytes → to_be_bytes w64 n ≡ bytes
spelled_64 bytes n len fits e = be_bytes_8 bytes n len fits (omega (arith, e))

-- the three numbers of 16 bytes
pub spelled_header : (bytes : List ℕ) (a b c : ℕ) → length bytes ≡ 16 → AreBytes bytes
    → a ≡ big_number 4 (take 4 bytes) → b ≡ big_number 4 (take 4 (drop 4 bytes)) → c ≡ big_number 8 (drop 4 (drop 4 bytes))
    → bytes ≡ to_be_bytes w32 a ++ to_be_bytes w32 b ++ to_be_bytes w64 c
spelled_header bytes a b c len fits ea eb ec =
    let rest = drop 4 bytes in
    let rest_fits = AreBytes-drop 4 bytes fits in
    let first = spelled_32 (take 4 bytes) a (omega (arith, length-take 4 bytes)) (AreBytes-take 4 bytes fits) ea in
    let second = spelled_32 (take 4 rest) b (omega (arith, length-take 4 rest, length-drop 4 bytes)) (AreBytes-take 4 rest rest_fits) eb in
    let third = spelled_64 (drop 4 rest) c (omega (arith, length-drop 4 rest, length-drop 4 bytes)) (AreBytes-drop 4 rest rest_fits) ec in
    sym (ap₂ (λ (x y : List ℕ). x ++ y) first (ap₂ (λ (x y : List ℕ). x ++ y) second third ∙ take-append-drop 4 rest) ∙ take-append-drop 4 bytes)

-- numbers that fit and have the same bytes are equal
pub same_32 : (a b : ℕ) → a < 2 ^ 32 → b < 2 ^ 32 → to_be_bytes w32 a ≡ to_be_bytes w32 b → a ≡ b
same_32 a b la lb e = sym (from_be_bytes-to_be_bytes_4 a la) ∙ ap (from_be_bytes w32) e ∙ from_be_bytes-to_be_bytes_4 b lb

pub same_64 : (a b : ℕ) → a < 2 ^ 64 → b < 2 ^ 64 → to_be_bytes w64 a ≡ to_be_bytes w64 b → a ≡ b
same_64 a b la lb e = sym (from_be_bytes-to_be_bytes_8 a la) ∙ ap (from_be_bytes w64) e ∙ from_be_bytes-to_be_bytes_8 b lb
