-- The header that is read is the header that is there, and what was written is read again.
use Rattle.std.proofs.Common.{◌≡◌, ◌≢◌, ℕ, ◌+◌, ◌^◌, ◌<◌, ◌≤◌, true, false, cond, ltb, eqb, List, ◌++◌, length, drop, Option, Some, None, refl, sym, ap, subst, ◌∙◌, append_assoc, arith, inl, inr}
use Rattle.std.specs.List.{starts_with}
use Rattle.std.specs.Int.{w64, to_be_bytes}
use Rattle.std.proofs.lemmas.Slice.Eq.{starts_is}
use Rattle.std.proofs.lemmas.Bool.{ltb-false, le-ltb}
use Rattle.std.proofs.lemmas.Bool.Decides.{Decides-eqb}
use Rattle.std.proofs.lemmas.List.{drop_at, length-append}
use Rattle.std.proofs.lemmas.Option.{same_Some}
use Rattle.page.proofs.BigEndian.{AreBytes, AreBytes-drop}
use Rattle.log_laws.specs.declared.start.LogStart.{LogStart}
use Rattle.log_laws.specs.declared.start.LogStart.TheVariants.{Version1, Version2}
use Rattle.wal.specs.declared.sizes.TheConstants.{LARGEST_BASE, BASED_HEADER_BYTES}
use Rattle.log_laws.specs.Records.{lsn_before}
use Rattle.wal.specs.Headers.{header_of, header_bytes, FitsStart, start_at}
use Rattle.wal.specs.Reading.{◌>>=◌, number_at}
use Rattle.wal.proofs.Loop.{chosen}
use Rattle.wal.proofs.Fields.{field64, first_of_all}
use Rattle.page.specs.declared.profile.TheConstants.{LOG_MAGIC, BASED_LOG_MAGIC}

pub start_small : (begins : LogStart) → FitsStart begins → lsn_before begins < 2 ^ 63
start_small Version1 h = omega arith
start_small (Version2 base) h = omega (arith, h)

pub header_length : (begins : LogStart) → length (header_of begins) ≡ header_bytes begins
header_length Version1 = refl
header_length (Version2 base) = refl

-- it has at least 8 bytes
pub at_least : (begins : LogStart) → 8 ≤ header_bytes begins
at_least Version1 = omega arith
at_least (Version2 base) = omega arith

-- what follows the header
pub header_dropped : (begins : LogStart) (rest : List ℕ) → drop (header_bytes begins) (header_of begins ++ rest) ≡ rest
header_dropped begins rest = drop_at (header_of begins) rest (header_bytes begins) (header_length begins)

-- a header is as long as it says
pub header_room : (begins : LogStart) (bytes rest : List ℕ) → bytes ≡ header_of begins ++ rest → length bytes ≡ header_bytes begins + length rest
header_room begins bytes rest e = omega (arith, ap length e, length-append (header_of begins) rest, header_length begins)

-- AGAIN
abbrev low_start : ℕ → Option LogStart
low_start base = cond (ltb LARGEST_BASE base) None (Some (Version2 base))

pub start_again : (begins : LogStart) (rest : List ℕ) → FitsStart begins → start_at (header_of begins ++ rest) ≡ Some begins
unfolding start_at
start_again Version1 rest h = refl
start_again (Version2 base) rest h =
    let n : number_at w64 (to_be_bytes w64 base ++ rest) ≡ Some (base, rest) = field64.again base rest (omega (arith, h)) in
    let l : ltb LARGEST_BASE base ≡ false = le-ltb LARGEST_BASE base h in
    ap (λ o. o >>= λ x. low_start x.0) n ∙ ap (λ b. cond b None (Some (Version2 base))) l

-- the same bytes have one header
pub one_start : (a b : LogStart) (x y : List ℕ) → FitsStart a → FitsStart b → header_of a ++ x ≡ header_of b ++ y → a ≡ b
one_start a b x y fits_a fits_b e = same_Some a b (sym (start_again a x fits_a) ∙ ap start_at e ∙ start_again b y fits_b)

pub no_start : (bytes : List ℕ) → start_at bytes ≡ None → (begins : LogStart) (rest : List ℕ) → FitsStart begins → bytes ≢ header_of begins ++ rest
no_start bytes none begins rest h text = (let e : None ≡ Some begins = sym none ∙ ap start_at text ∙ start_again begins rest h in absurd cc)

-- TAKEN
pub record Header (bytes : List ℕ) (begins : LogStart) : Type 0 where
  pub fits : FitsStart begins
  pub front : bytes ≡ header_of begins ++ drop (header_bytes begins) bytes

version_1 : (bytes : List ℕ) → starts_with eqb bytes LOG_MAGIC ≡ true → Header bytes Version1
version_1 bytes e = record { fits = tt; front = (starts_is Decides-eqb bytes LOG_MAGIC (starts_with eqb bytes LOG_MAGIC) refl).0 e }

version_2 : (bytes : List ℕ) (base : ℕ) (rest : List ℕ) → starts_with eqb bytes BASED_LOG_MAGIC ≡ true → drop 8 bytes ≡ to_be_bytes w64 base ++ rest → base ≤ LARGEST_BASE → Header bytes (Version2 base)
version_2 bytes base rest e number le =
    let magic : bytes ≡ BASED_LOG_MAGIC ++ drop 8 bytes = (starts_is Decides-eqb bytes BASED_LOG_MAGIC (starts_with eqb bytes BASED_LOG_MAGIC) refl).0 e in
    let text : bytes ≡ header_of (Version2 base) ++ rest = magic ∙ ap (λ (t : List ℕ). BASED_LOG_MAGIC ++ t) number ∙ sym (append_assoc BASED_LOG_MAGIC (to_be_bytes w64 base) rest) in
    record { fits = le; front = text ∙ ap (λ (t : List ℕ). header_of (Version2 base) ++ t) (sym (ap (drop BASED_HEADER_BYTES) text ∙ header_dropped (Version2 base) rest)) }

pub header_taken : (bytes : List ℕ) (begins : LogStart) → AreBytes bytes → start_at bytes ≡ Some begins → Header bytes begins
unfolding start_at
header_taken bytes begins fits e =
    elim (chosen (starts_with eqb bytes LOG_MAGIC) _ _ _ e) [
      | inl p ↦ subst (Header bytes) (same_Some Version1 begins p.1) (version_1 bytes p.0)
      | inr p ↦
          elim (chosen (starts_with eqb bytes BASED_LOG_MAGIC) _ _ _ p.1) [
            | inl q ↦
                (let number = first_of_all (number_at w64) (to_be_bytes w64) (λ n. n < 2 ^ 64) field64 (drop 8 bytes) (λ x. low_start x.0) begins (AreBytes-drop 8 bytes fits) q.1 in
                elim (chosen (ltb LARGEST_BASE number.value) None (Some (Version2 number.value)) (Some begins) number.after) [
                  | inl w ↦ absurd cc
                  | inr w ↦ subst (Header bytes) (same_Some (Version2 number.value) begins w.1) (version_2 bytes number.value number.rest q.0 number.takes.parts (ltb-false _ _ w.0))
                ])
            | inr q ↦ absurd cc
          ]
    ]
