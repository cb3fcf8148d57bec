-- What the loops of the encoder keep.
use Rattle.std.proofs.Common.{◌≡◌, ℕ, ◌+◌, ◌*◌, ◌<◌, ◌≤◌, List, [], ◌∷◌, ◌++◌, length, get_or, take, drop, Some, None, All, sym, ap, ap₂, subst, ◌∙◌, arith}
use Rattle.std.proofs.lemmas.List.{append-nil, take_more, length-append, length-drop, length-take, take-append-le, take_at, drop_all}
use Rattle.std.proofs.Math.Seq.{take-append-add}
use Rattle.std.proofs.lemmas.List.Elements.{All-more}
use Rattle.std.proofs.lemmas.Slice.{take-put_mid, drop-put_mid}
use borrow.Rule.Slice.PartMut.{put_mid}
use Rattle.std.specs.List.{flat_map}
use Rattle.std.proofs.lemmas.Grind.{flat_map-append}
use Rattle.page.specs.Image.{Image, cell, cells, entry, directory, FitsSlot, page_text, FitsPage}
use Rattle.page.specs.declared.page.Page.{Page}
use Rattle.page.specs.Images.{AreImages}
use Rattle.page.proofs.Slots.{cells_more, directory_more, length-entry, short_cell}
use Rattle.page.specs.declared.profile.TheConstants.{PAGE_BYTES, VALUE_BYTES}
use Rattle.page.specs.declared.sizes.TheConstants.{CELLS_AT}

-- the entries of the first i slots are in front, and the next cell has this place
pub record Directed (slots : List Image) (i place : ℕ) (entries : List ℕ) : Type 0 where
  pub next : place ≡ CELLS_AT + length (cells (take i slots))
  pub near : place ≤ CELLS_AT + VALUE_BYTES * i
  pub front : take (4 * i) entries ≡ directory CELLS_AT (take i slots)
  pub fits : All FitsSlot (take i slots)

-- the cells of the first i slots are in front, and end here
pub record Filled (slots : List Image) (i end : ℕ) (room : List ℕ) : Type 0 where
  pub here : end ≡ length (cells (take i slots))
  pub near : end ≤ VALUE_BYTES * i
  pub front : take end room ≡ cells (take i slots)

-- a part that is written after what is there
pub written_behind : (a k n : ℕ) (xs ys front : List ℕ) → take a xs ≡ front → n ≡ a + length ys → a ≤ length xs → take n (put_mid a k xs ys) ≡ front ++ ys
written_behind a k n xs ys front e m le = take-put_mid a k xs ys n m le ∙ ap (λ (t : List ℕ). t ++ ys) e

-- the entry of one more slot is written, and the next cell comes after this one
pub directed_more : (slots : List Image) (i place later : ℕ) (entries next : List ℕ) (d : Image) (k : ℕ)
    → Directed slots i place entries → i < length slots → 4 * i + 4 ≤ length entries
    → next ≡ entry place (get_or slots i d) → later ≡ place + length (cell (get_or slots i d)) → FitsSlot (get_or slots i d)
    → Directed slots (i + 1) later (put_mid (4 * i) k entries next)
directed_more slots i place later entries next d k so_far lt room e after fits =
    let slot = get_or slots i d in
    let more : cells (take (i + 1) slots) ≡ cells (take i slots) ++ cell slot = cells_more slots i d lt in
    let text : directory CELLS_AT (take (i + 1) slots) ≡ directory CELLS_AT (take i slots) ++ entry place slot =
    directory_more CELLS_AT slots i d lt ∙ ap (λ p. directory CELLS_AT (take i slots) ++ entry p slot) (sym so_far.next) in
    let long : length next ≡ 4 = ap length e ∙ length-entry place slot in
    record {
      next = omega (arith, after, so_far.next, ap length more, length-append (cells (take i slots)) (cell slot));
      near = omega (arith, after, so_far.near, short_cell slot fits);
      front = written_behind (4 * i) k (4 * (i + 1)) entries next (directory CELLS_AT (take i slots)) so_far.front (omega arith) (omega arith) ∙ ap (λ (t : List ℕ). directory CELLS_AT (take i slots) ++ t) e ∙ sym text;
      fits = All-more FitsSlot slots i d lt so_far.fits fits;
    }

-- a part that is written after what is there, and of which the first n bytes count
pub written_in_front : (a k n : ℕ) (xs ys front : List ℕ) → take a xs ≡ front → a ≤ length xs → n ≤ length ys → take (a + n) (put_mid a k xs ys) ≡ front ++ take n ys
written_in_front a k n xs ys front e le short =
    let long : length (take a xs) ≡ a = omega (arith, length-take a xs) in
    let rest = drop k (drop a xs) in
    ap (λ m. take (m + n) (put_mid a k xs ys)) (sym long) ∙ take-append-add (take a xs) (ys ++ rest) n ∙ ap₂ (λ (f p : List ℕ). f ++ p) e (take-append-le n ys rest short)

-- a value and the bytes after it are written after the cells
pub filled_value : (slots : List Image) (i end : ℕ) (room all now value : List ℕ) (slot : Image) (k : ℕ)
    → Filled slots i end room → i < length slots → get_or slots i slot ≡ Some value → end ≤ length room
    → now ≡ all → take (length value) all ≡ value → length value ≤ length all → length value ≤ VALUE_BYTES
    → Filled slots (i + 1) (end + length value) (put_mid end k room now)
filled_value slots i end room all now value slot k so_far lt some fits e front long short =
    let same : cell (get_or slots i slot) ≡ value = ap cell some in
    let more : cells (take (i + 1) slots) ≡ cells (take i slots) ++ value = cells_more slots i slot lt ∙ ap (λ (t : List ℕ). cells (take i slots) ++ t) same in
    record {
      here = omega (arith, so_far.here, ap length more, length-append (cells (take i slots)) value);
      near = omega (arith, so_far.near);
      front = ap (λ (t : List ℕ). take (end + length value) (put_mid end k room t)) e ∙ written_in_front end k (length value) room all (cells (take i slots)) so_far.front fits long ∙ ap (λ (t : List ℕ). cells (take i slots) ++ t) front ∙ sym more;
    }

-- an absent slot has no cell
pub filled_none : (slots : List Image) (i end : ℕ) (room : List ℕ) (slot : Image) → Filled slots i end room → i < length slots → get_or slots i slot ≡ None → Filled slots (i + 1) end room
filled_none slots i end room slot so_far lt none =
    let same : cell (get_or slots i slot) ≡ [] = ap cell none in
    let more : cells (take (i + 1) slots) ≡ cells (take i slots) = cells_more slots i slot lt ∙ ap (λ (t : List ℕ). cells (take i slots) ++ t) same ∙ append-nil (cells (take i slots)) in
    record {
      here = so_far.here ∙ ap length (sym more);
      near = omega (arith, so_far.near);
      front = so_far.front ∙ sym more;
    }

-- three parts written one after the other, over what was there
pub three_parts : (xs a b c : List ℕ) (m n k l : ℕ) → length a ≡ m → length b ≡ k → n ≡ m + k → n ≤ length xs → length xs ≤ n + l
    → put_mid n l (put_mid m k (a ++ drop m xs) b) c ≡ a ++ b ++ c
three_parts xs a b c m n k l la lb mn nx all =
    let first = a ++ drop m xs in
    let long : length first ≡ length xs = omega (arith, length-append a (drop m xs), length-drop m xs) in
    let inner = put_mid m k first b in
    let front : take n inner ≡ a ++ b = written_behind m k n first b a (take_at a (drop m xs) m la) (omega arith) (omega arith) in
    let back : drop n inner ≡ drop n first = drop-put_mid m k first b n (omega arith) (omega arith) lb in
    let none : drop l (drop n inner) ≡ [] = drop_all l (drop n inner) (omega (arith, ap length back, length-drop n first)) in
    ap₂ (λ (f p : List ℕ). f ++ (c ++ p)) front none ∙ ap (λ (t : List ℕ). (a ++ b) ++ t) (append-nil c)

-- the image of the next page put after those of the first i pages
pub images_more : (pages : List Page) (i k : ℕ) (images image : List ℕ) (page : Page) → AreImages (take (PAGE_BYTES * i) images) (take i pages) → PAGE_BYTES * i ≤ length images
    → i < length pages → page ≡ get_or pages i page → image ≡ page_text page → FitsPage page → length image ≡ PAGE_BYTES
    → AreImages (take (PAGE_BYTES * (i + 1)) (put_mid (PAGE_BYTES * i) k images image)) (take (i + 1) pages)
images_more pages i k images image page so_far room lt read text fits long =
    let texts = flat_map page_text in
    let more : take (i + 1) pages ≡ take i pages ++ page ∷ [] = take_more pages i page lt ∙ ap (λ p. take i pages ++ p ∷ []) (sym read) in
    let front : texts (take (i + 1) pages) ≡ texts (take i pages) ++ image =
    ap texts more ∙ flat_map-append page_text (take i pages) (page ∷ []) ∙ ap (λ (t : List ℕ). texts (take i pages) ++ t) (append-nil (page_text page) ∙ sym text) in
    record {
      text = written_behind (PAGE_BYTES * i) k (PAGE_BYTES * (i + 1)) images image (texts (take i pages)) so_far.text (omega (arith, long)) room ∙ sym front;
      fits = All-more FitsPage pages i page lt so_far.fits (subst FitsPage read fits);
    }
