-- Images without the zeros at their ends, one after another.
use Rattle.std.proofs.Common.{◌≡◌, ℕ, ◌+◌, ◌*◌, ◌-◌, ◌/◌, ◌%◌, ◌<◌, ◌≤◌, List, [], ◌∷◌, ◌++◌, length, get_or, take, drop, replicate, All, sym, subst, ap, ap₂, ◌∙◌, arith, refl, append_assoc, length-append, length-drop, length-take, take-append-drop, min, inl, inr}
use Rattle.std.specs.List.{flat_map}
use Rattle.std.proofs.Math.Seq.{take-add, drop-append-add, drop-length, take-append-add}
use Rattle.std.proofs.lemmas.Bool.{cases_lt}
use Rattle.std.proofs.lemmas.Grind.{flat_map-append}
use Rattle.std.proofs.Math.ListN.{drop_of_length-le}
use Rattle.std.proofs.lemmas.List.{append-nil, drop_at, take_at, drop_more, drop-append-le, drop-replicate, take-append-le, take_all, take-replicate, length-replicate, replicate-append-replicate}
use Rattle.std.proofs.lemmas.List.Elements.{All-tail, All-take}
use Rattle.page.specs.declared.profile.TheConstants.{PAGE_BYTES}
use Rattle.page.proofs.Files.{length-pieces}
use Rattle.held_store.specs.declared.block.Block.{Block}
use Rattle.held_store.specs.Images.{Grows}
use Rattle.held_store.specs.Block.{padded, kept_of, image_of, IsWithin}

-- BYTES AND ZEROS
abbrev pub zeros : ℕ → List ℕ
zeros n = replicate n 0

pub length_padded : (bytes : List ℕ) → length bytes ≤ PAGE_BYTES → length (padded bytes) ≡ PAGE_BYTES
length_padded bytes le = omega (arith, le, length-append bytes (zeros (PAGE_BYTES - length bytes)), length-replicate {A = ℕ} (PAGE_BYTES - length bytes) 0)

-- a whole image has no zeros added
pub padded_whole : (bytes : List ℕ) → length bytes ≡ PAGE_BYTES → padded bytes ≡ bytes
padded_whole bytes e =
    let none : PAGE_BYTES - length bytes ≡ 0 = omega (arith, e) in
    ap (λ n. bytes ++ zeros n) none ∙ append-nil bytes

-- zeros at the end may be left out
pub padded_again : (n : ℕ) (bytes : List ℕ) → n ≤ length bytes → length bytes ≤ PAGE_BYTES → drop n bytes ≡ replicate (length bytes - n) 0 → padded (take n bytes) ≡ padded bytes
padded_again n bytes le short e =
    let front = take n bytes in
    let more = length bytes - n in
    let rest = PAGE_BYTES - length bytes in
    let sum : PAGE_BYTES - length front ≡ more + rest = omega (arith, le, short, length-take n bytes) in
    ap (λ k. front ++ zeros k) sum ∙ ap (λ (t : List ℕ). front ++ t) (sym (replicate-append-replicate {A = ℕ} more rest 0))
    ∙ sym (append_assoc front (zeros more) (zeros rest)) ∙ ap (λ (t : List ℕ). (front ++ t) ++ zeros rest) (sym e) ∙ ap (λ (t : List ℕ). t ++ zeros rest) (take-append-drop n bytes)

-- BLOCKS
pub length_kept : (kept : List ℕ) (block : Block) → IsWithin kept block → length (kept_of kept block) ≡ block.kept
length_kept kept block w = omega (arith, w.held, length-take block.kept (drop block.start kept), length-drop block.start kept)

pub length_image : (kept : List ℕ) (block : Block) → IsWithin kept block → length (image_of kept block) ≡ PAGE_BYTES
length_image kept block w = length_padded (kept_of kept block) (omega (arith, w.short, length_kept kept block w))

-- its kept bytes, as a part of a part of all
pub kept_part : (all kept : List ℕ) (block : Block) → all ≡ kept → take block.kept (take (length all - block.start) (drop block.start all)) ≡ kept_of kept block
kept_part all kept block e =
    ap (take block.kept) (take_all (length all - block.start) (drop block.start all) (omega (arith, length-drop block.start all))) ∙ ap (λ (t : List ℕ). take block.kept (drop block.start t)) e

-- bytes that are added at the end change no image
pub same_image : (kept more : List ℕ) (block : Block) → IsWithin kept block → image_of (kept ++ more) block ≡ image_of kept block
same_image kept more block w =
    let behind : drop block.start (kept ++ more) ≡ drop block.start kept ++ more = drop-append-le block.start kept more (omega (arith, w.held)) in
    ap padded (ap (take block.kept) behind ∙ take-append-le block.kept (drop block.start kept) more (omega (arith, w.held, length-drop block.start kept)))

abbrev pub images_of : List ℕ → List Block → List ℕ
images_of kept blocks = flat_map (image_of kept) blocks

pub same_images : (kept more : List ℕ) (blocks : List Block) → All (IsWithin kept) blocks → images_of (kept ++ more) blocks ≡ images_of kept blocks
same_images kept more [] w = refl
same_images kept more (block ∷ blocks) w =
    ap₂ (λ (s t : List ℕ). s ++ t) (same_image kept more block (w 0 block (omega arith))) (same_images kept more blocks (All-tail (IsWithin kept) block blocks w))

pub length_images : (kept : List ℕ) (blocks : List Block) → All (IsWithin kept) blocks → length (images_of kept blocks) ≡ PAGE_BYTES * length blocks
length_images kept blocks w = length-pieces (image_of kept) PAGE_BYTES blocks (λ i d lt. length_image kept (get_or blocks i d) (w i d lt))

-- ONE MORE IMAGE, whose bytes are added at the end
module _ (kept part : List ℕ) (blocks : List Block) (block : Block) (w : All (IsWithin kept) blocks) (start : block.start ≡ length kept) (count : block.kept ≡ length part) where
  last_image : image_of (kept ++ part) block ≡ padded part
  last_image = ap padded (ap (λ n. take block.kept (drop n (kept ++ part))) start ∙ ap (take block.kept) (drop_at kept part (length kept) refl) ∙ take_all block.kept part (omega (arith, count)))

  pub more_images : images_of (kept ++ part) (blocks ++ block ∷ []) ≡ images_of kept blocks ++ padded part
  more_images =
      flat_map-append (image_of (kept ++ part)) blocks (block ∷ [])
      ∙ ap₂ (λ (s t : List ℕ). s ++ t) (same_images kept part blocks w) (append-nil (image_of (kept ++ part) block) ∙ last_image)

-- WHERE AN IMAGE IS: from an offset on come the bytes from there to the end of its image
module _ (kept : List ℕ) (blocks : List Block) (offset : ℕ) (w : All (IsWithin kept) blocks) (lt : offset < length (images_of kept blocks)) where
  pub block_there : offset / PAGE_BYTES < length blocks
  block_there = omega (arith, lt, length_images kept blocks w)

  pub image_there : (d : Block) (n : ℕ) → n ≤ PAGE_BYTES - offset % PAGE_BYTES
      → take n (drop offset (images_of kept blocks)) ≡ take n (drop (offset % PAGE_BYTES) (image_of kept (get_or blocks (offset / PAGE_BYTES) d)))
  image_there d n le =
      let i = offset / PAGE_BYTES in
      let place = offset % PAGE_BYTES in
      let there : i < length blocks = block_there in
      let front = images_of kept (take i blocks) in
      let image = image_of kept (get_or blocks i d) in
      let rest = images_of kept (drop (i + 1) blocks) in
      let count : length front ≡ PAGE_BYTES * i = length_images kept (take i blocks) (All-take (IsWithin kept) i blocks w) ∙ ap (λ k. PAGE_BYTES * k) (length-take i blocks ∙ omega (arith, there)) in
      let long : length image ≡ PAGE_BYTES = length_image kept (get_or blocks i d) (w i d there) in
      let split : images_of kept blocks ≡ front ++ (image ++ rest) =
      ap (images_of kept) (sym (take-append-drop i blocks)) ∙ flat_map-append (image_of kept) (take i blocks) (drop i blocks) ∙ ap (λ (bs : List Block). front ++ images_of kept bs) (drop_more blocks i d there) in
      let behind : drop offset (images_of kept blocks) ≡ drop place image ++ rest =
      ap₂ (λ k (t : List ℕ). drop k t) (omega (arith, count)) split ∙ drop-append-add front (image ++ rest) place ∙ drop-append-le place image rest (omega (arith, long)) in
      ap (take n) behind ∙ take-append-le n (drop place image) rest (omega (arith, long, le, length-drop place image))

  pub block_within : (block : Block) → block ≡ get_or blocks (offset / PAGE_BYTES) block → IsWithin kept block
  block_within block e = subst (IsWithin kept) (sym e) (w (offset / PAGE_BYTES) block block_there)

  -- a buffer that was filled with a part of it
  pub part_there : (block : Block) (n : ℕ) (part came buffer : List ℕ) → block ≡ get_or blocks (offset / PAGE_BYTES) block → part ≡ kept_of kept block → n ≤ PAGE_BYTES - offset % PAGE_BYTES → n ≤ length buffer
      → came ≡ take (length (take n buffer)) (drop (offset % PAGE_BYTES) (padded part)) → take n (came ++ drop n buffer) ≡ take n (drop offset (images_of kept blocks))
  part_there block n part came buffer e is le room filled =
      let place = offset % PAGE_BYTES in
      let image = image_of kept block in
      let here : image_of kept block ≡ padded part = ap padded (sym is) in
      let size : length (take n buffer) ≡ n = omega (arith, room, length-take n buffer) in
      let all : came ≡ take n (drop place image) = filled ∙ ap₂ (λ k (t : List ℕ). take k (drop place t)) size (sym here) in
      let long : length came ≡ n = omega (arith, ap (λ (t : List ℕ). length t) all, length-take n (drop place image), length-drop place image, length_image kept block (block_within block e), le) in
      take_at came (drop n buffer) n long ∙ all ∙ ap (λ (b : Block). take n (drop place (image_of kept b))) e ∙ sym (image_there block n le)

-- IMAGES THAT COME one after another
pub image_more : (i : ℕ) (images before now after : List ℕ) → now ≡ before ++ take (PAGE_BYTES * i) images → PAGE_BYTES * i + PAGE_BYTES ≤ length images
    → after ≡ now ++ padded (take (PAGE_BYTES * i + PAGE_BYTES - PAGE_BYTES * i) (drop (PAGE_BYTES * i) images)) → after ≡ before ++ take (PAGE_BYTES * (i + 1)) images
image_more i images before now after e le more =
    let at = PAGE_BYTES * i in
    let piece = take PAGE_BYTES (drop at images) in
    let count : at + PAGE_BYTES - at ≡ PAGE_BYTES = omega arith in
    let next : at + PAGE_BYTES ≡ PAGE_BYTES * (i + 1) = omega arith in
    let whole : length piece ≡ PAGE_BYTES = omega (arith, le, length-take PAGE_BYTES (drop at images), length-drop at images) in
    more ∙ ap (λ k. now ++ padded (take k (drop at images))) count ∙ ap₂ (λ (s t : List ℕ). s ++ t) e (padded_whole piece whole) ∙ append_assoc before (take at images) piece
    ∙ ap (λ (t : List ℕ). before ++ t) (sym (take-add at PAGE_BYTES images)) ∙ ap (λ k. before ++ take k images) next

-- some are
pub grows_part : (images before now after rest : List ℕ) → now ≡ before ++ take (PAGE_BYTES * (length images / PAGE_BYTES)) images → rest ≡ drop (PAGE_BYTES * (length images / PAGE_BYTES)) images
    → 0 < length rest → after ≡ now ++ padded rest → Grows before images after
grows_part images before now after rest e is some more =
    let at = PAGE_BYTES * (length images / PAGE_BYTES) in
    let behind = zeros (PAGE_BYTES - length rest) in
    let split : take at images ++ (rest ++ behind) ≡ images ++ behind =
    sym (append_assoc (take at images) rest behind) ∙ ap (λ (t : List ℕ). (take at images ++ t) ++ behind) is ∙ ap (λ (t : List ℕ). t ++ behind) (take-append-drop at images) in
    record {
      zeros = PAGE_BYTES - length rest;
      text = more ∙ ap (λ (t : List ℕ). t ++ padded rest) e ∙ append_assoc before (take at images) (padded rest) ∙ ap (λ (t : List ℕ). before ++ t) split;
      whole = λ h. omega (arith, h, some, ap (λ (t : List ℕ). length t) is, length-drop at images);
    }

-- PART OF AN IMAGE: bytes that are kept, and then zeros
take_append : (n : ℕ) (xs ys : List ℕ) → length xs ≤ n → take n (xs ++ ys) ≡ xs ++ take (n - length xs) ys
take_append n xs ys le = ap (λ k. take k (xs ++ ys)) (omega (arith, le)) ∙ take-append-add xs ys (n - length xs)

drop_zeros : (start : ℕ) (kept : List ℕ) → start ≤ PAGE_BYTES → length kept ≤ start → drop start (padded kept) ≡ zeros (PAGE_BYTES - start)
drop_zeros start kept le short =
    ap (λ k. drop k (padded kept)) (omega (arith, short)) ∙ drop-append-add kept (zeros (PAGE_BYTES - length kept)) (start - length kept)
    ∙ drop-replicate (start - length kept) (PAGE_BYTES - length kept) 0 ∙ ap zeros (omega (arith, short, le))

-- of an image from a place on
behind_place : (start : ℕ) (kept rest : List ℕ) → start ≤ PAGE_BYTES → length kept ≤ PAGE_BYTES → rest ≡ drop (min start (length kept)) kept → drop start (padded kept) ≡ rest ++ zeros (PAGE_BYTES - start - length rest)
behind_place start kept rest le short e =
    elim (cases_lt start (length kept)) [
      | inl lt ↦
          let same : rest ≡ drop start kept = e ∙ ap (λ k. drop k kept) (omega (arith, lt)) in
          drop-append-le start kept (zeros (PAGE_BYTES - length kept)) (omega (arith, lt))
          ∙ ap₂ (λ (s : List ℕ) k. s ++ zeros k) (sym same) (omega (arith, lt, short, ap (λ (t : List ℕ). length t) same, length-drop start kept))
      | inr ge ↦
          let none : rest ≡ [] = e ∙ ap (λ k. drop k kept) (omega (arith, ge)) ∙ drop-length kept in
          drop_zeros start kept le ge ∙ ap₂ (λ (s : List ℕ) k. s ++ zeros k) (sym none) (omega (arith, ap (λ (t : List ℕ). length t) none))
    ]

pub part_of_image : (start n count : ℕ) (kept rest : List ℕ) → start + n ≤ PAGE_BYTES → length kept ≤ PAGE_BYTES → rest ≡ drop (min start (length kept)) kept → count ≡ min (length rest) n
    → take count rest ++ zeros (n - count) ≡ take n (drop start (padded kept))
part_of_image start n count kept rest le short e is =
    let more = PAGE_BYTES - start - length rest in
    let all : drop start (padded kept) ≡ rest ++ zeros more = behind_place start kept rest (omega (arith, le)) short e in
    elim (cases_lt n (length rest)) [
      | inl lt ↦
          let full : count ≡ n = omega (arith, is, lt) in
          let none : n - count ≡ 0 = omega (arith, full) in
          ap₂ (λ k j. take k rest ++ zeros j) full none ∙ append-nil (take n rest)
          ∙ sym (take-append-le n rest (zeros more) (omega (arith, lt))) ∙ ap (take n) (sym all)
      | inr ge ↦
          let full : count ≡ length rest = omega (arith, is, ge) in
          ap₂ (λ (s : List ℕ) k. s ++ zeros k) (take_all count rest (omega (arith, full))) (ap (λ k. n - k) full)
          ∙ ap (λ (t : List ℕ). rest ++ t) (sym (take-replicate (n - length rest) more 0 (omega (arith, le))))
          ∙ sym (take_append n rest (zeros more) ge) ∙ ap (take n) (sym all)
    ]

-- a buffer of which the front was copied and the rest was filled
pub filled_parts : (count n : ℕ) (front behind buffer : List ℕ) → length front ≡ count → length buffer ≡ n → count ≤ n → behind ≡ zeros (length (take (length (front ++ drop count buffer) - count) (drop count (front ++ drop count buffer))))
    → take count (front ++ drop count buffer) ++ (behind ++ drop (length (front ++ drop count buffer) - count) (drop count (front ++ drop count buffer))) ≡ front ++ zeros (n - count)
filled_parts count n front behind buffer e1 e2 le e =
    let all = front ++ drop count buffer in
    let rest = drop count all in
    let size : length all ≡ n = omega (arith, e1, e2, le, length-append front (drop count buffer), length-drop count buffer) in
    let k = length all - count in
    let gone : drop k rest ≡ [] = drop_of_length-le rest (omega (arith, length-drop count all)) in
    let filled : length (take k rest) ≡ n - count = omega (arith, size, length-take k rest, length-drop count all) in
    ap₂ (λ (s t : List ℕ). s ++ t) (take_at front (drop count buffer) count e1) (ap₂ (λ (s t : List ℕ). s ++ t) (e ∙ ap zeros filled) gone ∙ append-nil (zeros (n - count)))
