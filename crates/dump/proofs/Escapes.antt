-- The tables of what each byte is between quotes.
use Rattle.std.proofs.Common.{ℕ, zero, suc, ◌≡◌, ◌+◌, ◌-◌, ◌*◌, ◌<◌, Bool, true, false, ◌&&◌, eqb, List, [], ◌∷◌, length, take, drop, refl, sym, ap, ap₂, subst, ◌∙◌, arith}
use Rattle.std.specs.Prelude.{slice_index, leb}
use Rattle.std.proofs.lemmas.Bool.{and_parts, eqb-true, leb-true, false≢true}
use Rattle.std.proofs.lemmas.List.{drop-drop}
use Rattle.hex.specs.Hex.{encode_with}
use Rattle.dump.specs.declared.style.Style.{Style}
use Rattle.dump.specs.declared.style.Style.TheVariants.{Text, Json}
use Rattle.dump.specs.declared.escape.TheConstants.{TEXT, JSON}
use Rattle.dump.specs.Values.{escaped, IsEscape}

-- two texts are the same
same : List ℕ → List ℕ → Bool
same [] [] = true
same (x ∷ xs) (y ∷ ys) = eqb x y && same xs ys
same xs ys = false

same_is : (xs ys : List ℕ) → same xs ys ≡ true → xs ≡ ys
unfolding same
same_is [] [] e = refl
same_is [] (y ∷ ys) e = absurd (false≢true e)
same_is (x ∷ xs) [] e = absurd (false≢true e)
same_is (x ∷ xs) (y ∷ ys) e =
    let (first, rest) = and_parts (eqb x y) (same xs ys) e in
    ap₂ (λ z zs. z ∷ zs) (eqb-true x y first) (same_is xs ys rest)

-- an entry is what a byte is between quotes
is_escape : Style → ℕ → List ℕ → Bool
is_escape style byte entry =
    let last = slice_index entry 7 in
    eqb (length entry) 8 && (leb 48 last && (leb last 54 && same (take (last - 48) entry) (escaped style byte)))

escape_is : (style : Style) (byte : ℕ) (entry : List ℕ) → is_escape style byte entry ≡ true → IsEscape style byte entry
unfolding is_escape
escape_is style byte entry e =
    let last = slice_index entry 7 in
    let text = same (take (last - 48) entry) (escaped style byte) in
    let (size, rest) = and_parts (eqb (length entry) 8) (leb 48 last && (leb last 54 && text)) e in
    let (digit, others) = and_parts (leb 48 last) (leb last 54 && text) rest in
    let (short, own) = and_parts (leb last 54) text others in
    record { size = eqb-true (length entry) 8 size; digit = leb-true 48 last digit; text = same_is _ _ own; short = leb-true last 54 short }

-- each of n entries is an escape, and the first of them is for this byte
are_escapes : Style → (byte n : ℕ) → List ℕ → Bool
are_escapes style byte zero table = true
are_escapes style byte (suc n) table = is_escape style byte (take 8 table) && are_escapes style (suc byte) n (drop 8 table)

escape_at : (style : Style) (byte n k : ℕ) (table : List ℕ) → are_escapes style byte n table ≡ true → k < n → IsEscape style (byte + k) (take 8 (drop (8 * k) table))
unfolding are_escapes
escape_at style byte zero k table e lt = absurd (omega arith)
escape_at style byte (suc n) zero table e lt =
    let own : byte ≡ byte + 0 = omega arith in
    subst (λ b. IsEscape style b (take 8 table)) own (escape_is style byte (take 8 table) (and_parts (is_escape style byte (take 8 table)) (are_escapes style (suc byte) n (drop 8 table)) e).0)
escape_at style byte (suc n) (suc k) table e lt =
    let own : suc byte + k ≡ byte + suc k = omega arith in
    let place : 8 + 8 * k ≡ 8 * suc k = omega arith in
    let there : drop (8 * k) (drop 8 table) ≡ drop (8 * suc k) table = drop-drop (8 * k) 8 table ∙ ap (λ m. drop m table) place in
    let rest = (and_parts (is_escape style byte (take 8 table)) (are_escapes style (suc byte) n (drop 8 table)) e).1 in
    subst (λ b. IsEscape style b (take 8 (drop (8 * suc k) table))) own (subst (λ t. IsEscape style (suc byte + k) (take 8 t)) there (escape_at style (suc byte) n k (drop 8 table) rest (omega arith)))

-- THE TABLES
in_text : are_escapes Text 0 256 TEXT.now ≡ true
unfolding are_escapes is_escape same encode_with
in_text = refl

in_json : are_escapes Json 0 256 JSON.now ≡ true
unfolding are_escapes is_escape same encode_with
in_json = refl

own_entry : (style : Style) (byte : ℕ) (table : List ℕ) → are_escapes style 0 256 table ≡ true → byte < 256 → IsEscape style byte (take (8 * byte + 8 - 8 * byte) (drop (8 * byte) table))
own_entry style byte table e lt =
    let first : 0 + byte ≡ byte = omega arith in
    let eight : 8 ≡ 8 * byte + 8 - 8 * byte = omega arith in
    subst (λ n. IsEscape style byte (take n (drop (8 * byte) table))) eight (subst (λ b. IsEscape style b (take 8 (drop (8 * byte) table))) first (escape_at style 0 256 byte table e lt))

pub text_entry : (byte : ℕ) → byte < 256 → IsEscape Text byte (take (8 * byte + 8 - 8 * byte) (drop (8 * byte) TEXT.now))
text_entry byte lt = own_entry Text byte TEXT.now in_text lt

pub json_entry : (byte : ℕ) → byte < 256 → IsEscape Json byte (take (8 * byte + 8 - 8 * byte) (drop (8 * byte) JSON.now))
json_entry byte lt = own_entry Json byte JSON.now in_json lt
