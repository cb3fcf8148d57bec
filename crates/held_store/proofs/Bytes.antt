-- The bytes of a header and of the images after it.
use Rattle.std.proofs.Common.{◌≡◌, ℕ, ◌+◌, ◌-◌, ◌≤◌, List, [], ◌++◌, length, take, drop, replicate, Option, Some, None, sym, subst, ap, ap₂, ◌∙◌, arith, append_assoc, length-append, length-drop}
use Rattle.std.proofs.Math.Seq.{drop-append-add, take-append-add}
use Rattle.std.proofs.Math.ListN.{drop_of_length-le}
use Rattle.std.proofs.lemmas.List.{append-nil, drop-drop, drop-append-le, take-append-le, take-append-drop, take-take, take_all, take_at, drop-take}
use Rattle.std.specs.Prelude.{IfSome}
use Rattle.std.specs.Io.KnownBytes.{Consumes, IsAtEnd}
use Rattle.std.proofs.KnownBytes.{Consumes-trans}
use Rattle.page.specs.declared.sizes.TheConstants.{STORE_HEADER_BYTES}
use Rattle.held_store.specs.Images.{Grows}

pub grown_bytes : (size : ℕ) (before bytes after : List ℕ) → Grows before bytes after → size ≡ length before + length bytes → take size after ≡ before ++ bytes
grown_bytes size before bytes after g e =
    let zeros = replicate {A = ℕ} g.zeros 0 in
    let split : after ≡ (before ++ bytes) ++ zeros = g.text ∙ sym (append_assoc before bytes zeros) in
    ap (take size) split ∙ take_at (before ++ bytes) zeros size (length-append before bytes ∙ sym e)

-- a room that was written from its beginning to its end
pub whole_room : (size : ℕ) (buffer items : List ℕ) → size ≡ length items → length buffer ≡ length items → take size (buffer ++ drop (length buffer) items) ≡ buffer
whole_room size buffer items e same = take_at buffer (drop (length buffer) items) size (same ∙ sym e)

-- ALL BYTES that were left
all_left : (old now : Option (List ℕ)) (bytes : List ℕ) → Consumes old now bytes → IsAtEnd now → IfSome old (λ left. bytes ≡ left)
all_left None now bytes read end = tt
all_left (Some xs) None bytes read end = absurd read
all_left (Some xs) (Some ys) bytes read end = sym (read ∙ ap (λ (t : List ℕ). bytes ++ t) end ∙ append-nil bytes)

-- a header, and images after it
pub all_held : (old between now : Option (List ℕ)) (header images : List ℕ) (count behind size : ℕ) → count ≡ length header → size ≡ behind + count → Consumes old between (take count header)
    → Consumes between now (take behind images) → IsAtEnd now → IfSome old (λ left. take size (header ++ images) ≡ left)
all_held old between now header images count behind size e sum first next end =
    let whole : take count header ≡ header = take_all count header (omega (arith, e)) in
    let place : size ≡ length header + behind = omega (arith, e, sum) in
    let all : take size (header ++ images) ≡ take count header ++ take behind images =
    ap (λ k. take k (header ++ images)) place ∙ take-append-add header images behind ∙ ap (λ (t : List ℕ). t ++ take behind images) (sym whole) in
    all_left old now (take size (header ++ images)) (subst (Consumes old now) (sym all) (Consumes-trans old between now (take count header) (take behind images) first next)) end

-- PART OF A HELD STORE
-- a part of the first bytes
inside : (size offset n : ℕ) (bytes : List ℕ) → offset + n ≤ size → take n (drop offset (take size bytes)) ≡ take n (drop offset bytes)
inside size offset n bytes le =
    let more = size - offset in
    let split : size ≡ offset + more = omega (arith, le) in
    ap (λ k. take n (drop offset (take k bytes))) split ∙ ap (take n) (drop-take offset more bytes) ∙ take-take n more (drop offset bytes) (omega (arith, le))

-- of the images
pub part_of_images : (header images came behind : List ℕ) (size offset place n : ℕ) → length header ≡ STORE_HEADER_BYTES → STORE_HEADER_BYTES ≤ offset → place ≡ offset - STORE_HEADER_BYTES → offset + n ≤ size
    → n ≤ length came → take n came ≡ take n (drop place images) → take n (came ++ behind) ≡ take n (drop offset (take size (header ++ images)))
part_of_images header images came behind size offset place n long le is end room bytes =
    let at : length header + place ≡ offset = omega (arith, long, le, is) in
    take-append-le n came behind room ∙ bytes ∙ ap (take n) (sym (drop-append-add header images place) ∙ ap (λ k. drop k (header ++ images)) at)
    ∙ sym (inside size offset n (header ++ images) end)

-- of the header
pub part_of_header : (header images came behind : List ℕ) (size offset n : ℕ) → offset ≤ length header → offset + n ≤ length header → offset + n ≤ size → n ≤ length came → take n came ≡ take n (drop offset header)
    → take n (came ++ behind) ≡ take n (drop offset (take size (header ++ images)))
part_of_header header images came behind size offset n le short end room bytes =
    let behind_offset : drop offset (header ++ images) ≡ drop offset header ++ images = drop-append-le offset header images le in
    take-append-le n came behind room ∙ bytes ∙ sym (take-append-le n (drop offset header) images (omega (arith, short, length-drop offset header))) ∙ ap (take n) (sym behind_offset)
    ∙ sym (inside size offset n (header ++ images) end)

-- READING ON from a place: what is left is what was read and what is left then
pub left_after : (place n : ℕ) (text buffer : List ℕ) → take n buffer ≡ take n (drop place text) → drop place text ≡ take n buffer ++ drop (place + n) text
left_after place n text buffer bytes =
    sym (take-append-drop n (drop place text)) ∙ ap₂ (λ (s t : List ℕ). s ++ t) (sym bytes) (drop-drop n place text)

pub none_left : (place n : ℕ) (text : List ℕ) → length text ≤ place → drop (place + n) text ≡ []
none_left place n text le = drop_of_length-le text (omega (arith, le))
