-- A store file's header and its page images.
use Rattle.std.proofs.Common.{◌≡◌, ℕ, zero, suc, ◌+◌, ◌*◌, ◌-◌, ◌<◌, ◌^◌, List, [], ◌∷◌, ◌++◌, length, get_or, take, drop, All, sym, ap, ap₂, subst, ◌∙◌, arith, refl, below_more, replicate, inl, inr}
use Rattle.std.specs.Int.{w32, w64, to_be_bytes}
use Rattle.std.specs.List.{flat_map}
use Rattle.std.proofs.Math.Seq.{take-add}
use Rattle.std.proofs.lemmas.Grind.{flat_map-append}
use Rattle.std.proofs.lemmas.List.{append-nil, length-append, length-replicate, take_at, drop_at, take_all, length_push, drop-drop, get_or_append_left, get_or_push}
use Rattle.std.proofs.lemmas.Bool.{cases_lt}
use Rattle.std.proofs.lemmas.List.Elements.{All-push, All-tail}
use Rattle.page.specs.declared.page.Page.{Page}
use Rattle.page.specs.Image.{cells, directory, header, body, page_text, FitsPage, SpellsPage}
use Rattle.page.specs.Images.{image_of, HasPage, SpellPages, FirstBadPage, PagesFault}
use Rattle.page.specs.Pieces.{PagesSoFar}
use Rattle.page.specs.File.{store_header, BeginsWithHeader, SpellsStore}
use Rattle.page.specs.Store.{StoreContent}
use Rattle.page.specs.declared.fault.Fault.{Fault}
use Rattle.page.specs.declared.fault.Fault.TheVariants.{NoResource, BadPage}
use Rattle.page.proofs.Slots.{length-directory, length-cells-le}
use Rattle.page.proofs.Pages.{same_header}
use Rattle.page.specs.declared.profile.TheConstants.{PAGE_BYTES, STORE_MAGIC}
use Rattle.page.specs.declared.sizes.TheConstants.{CELLS_AT, ROOM_BYTES, STORE_HEADER_BYTES}

-- magic and numbers of a header
pub record HasHeaderParts (mark numbers : List ℕ) (count master : ℕ) : Type 0 where
  pub front : mark ≡ STORE_MAGIC
  pub back : numbers ≡ header count master

pub header_parts : (bytes front mark numbers : List ℕ) (count master : ℕ) → BeginsWithHeader bytes count master → front ≡ take STORE_HEADER_BYTES bytes → mark ≡ take 8 front → numbers ≡ drop 8 front
    → HasHeaderParts mark numbers count master
header_parts bytes front mark numbers count master h ef em en = record {
  front = em ∙ ap (take 8) (ef ∙ h.text);
  back = en ∙ ap (drop 8) (ef ∙ h.text);
}

-- what a reader of the header took is what is there
pub one_header : (bytes front mark numbers : List ℕ) (count blank master other lsn : ℕ) → front ≡ take STORE_HEADER_BYTES bytes → mark ≡ take 8 front → numbers ≡ drop 8 front
    → numbers ≡ to_be_bytes w32 count ++ to_be_bytes w32 blank ++ to_be_bytes w64 master → count < 2 ^ 32 → blank < 2 ^ 32 → master < 2 ^ 64
    → BeginsWithHeader bytes other lsn → (count ≡ other) × (blank ≡ 0) × (master ≡ lsn)
one_header bytes front mark numbers count blank master other lsn ef em en n lc lz lm h =
    let parts = header_parts bytes front mark numbers other lsn h ef em en in
    same_header numbers count blank master other lsn n lc lz lm parts.back (omega (arith, h.few)) h.small

-- ---- pieces of one length, one after the other

piece_inside : {X : Type 0} (f : X → List ℕ) (n : ℕ) (xs : List X) (k : ℕ) (d : X) → ((i : ℕ) → i < length xs → length (f (get_or xs i d)) ≡ n) → k < length xs
    → take n (drop (n * k) (flat_map f xs)) ≡ f (get_or xs k d)
piece_inside f n [] k d len lt = absurd (omega arith)
piece_inside f n (x ∷ xs) zero d len lt =
    let none : n * 0 ≡ 0 = omega arith in
    ap (λ m. take n (drop m (f x ++ flat_map f xs))) none ∙ take_at (f x) (flat_map f xs) n (len 0 (omega arith))
piece_inside f n (x ∷ xs) (suc k) d len lt =
    let more : n * suc k ≡ n + n * k = omega arith in
    let rest = flat_map f xs in
    ap (λ m. take n (drop m (f x ++ rest))) more ∙ ap (take n) (sym (drop-drop (n * k) n (f x ++ rest)) ∙ ap (drop (n * k)) (drop_at (f x) rest n (len 0 (omega arith))))
    ∙ piece_inside f n xs k d (λ i h. len (suc i) (omega (arith, h))) (omega arith)

pub length-pieces : {X : Type 0} (f : X → List ℕ) (n : ℕ) (xs : List X) → All (λ x. length (f x) ≡ n) xs → length (flat_map f xs) ≡ n * length xs
length-pieces f n [] len = omega arith
length-pieces f n (x ∷ xs) len = omega (arith, length-append (f x) (flat_map f xs), len 0 x (omega arith), length-pieces f n xs (All-tail (λ y. length (f y) ≡ n) x xs len))

-- ---- images

pub length-page_text : (page : Page) → FitsPage page → length (page_text page) ≡ PAGE_BYTES
length-page_text page fits =
    let first = header page.number page.lsn in
    let entries = directory CELLS_AT page.slots in
    let zeros = ROOM_BYTES - length (cells page.slots) in
    omega (arith, length-append (first ++ entries) (body page.slots), length-append first entries, length-directory CELLS_AT page.slots, fits.slots, length-append (cells page.slots) (replicate {A = ℕ} zeros 0), length-replicate {A = ℕ} zeros 0, length-cells-le page.slots fits.values)

pub image_inside : (images : List ℕ) (count : ℕ) (pages : List Page) (k : ℕ) (d : Page) → SpellPages images count pages → k < length pages → SpellsPage (image_of images k) (get_or pages k d)
image_inside images count pages k d s lt = record {
  fits = s.fits k d lt;
  text = ap (λ (t : List ℕ). image_of t k) s.text ∙ piece_inside page_text PAGE_BYTES pages k d (λ i h. length-page_text (get_or pages i d) (s.fits i d h)) lt;
}

pub length-images : (images : List ℕ) (count : ℕ) (pages : List Page) → SpellPages images count pages → length images ≡ PAGE_BYTES * count
length-images images count pages s = ap length s.text ∙ length-pieces page_text PAGE_BYTES pages (λ k d lt. length-page_text (get_or pages k d) (s.fits k d lt)) ∙ ap (λ n. PAGE_BYTES * n) s.number

at_place_push : (pages : List Page) (page : Page) → ((k : ℕ) (d : Page) → k < length pages → (get_or pages k d).number ≡ k) → page.number ≡ length pages
    → (k : ℕ) (d : Page) → k < length (pages ++ page ∷ []) → (get_or (pages ++ page ∷ []) k d).number ≡ k
at_place_push pages page h e k d lt =
    elim (cases_lt k (length pages)) [
      | inl below ↦ ap (λ p. p.number) (get_or_append_left pages (page ∷ []) d k below) ∙ h k d below
      | inr le ↦
          let last : length pages ≡ k = omega (arith, length_push pages page) in
          ap (λ p. p.number) (get_or_push pages page d k last) ∙ e ∙ last
    ]

pub pages_more : (images rest image : List ℕ) (i : ℕ) (pages new : List Page) (page : Page) → PagesSoFar images i pages
    → rest ≡ drop (PAGE_BYTES * i) images → image ≡ take PAGE_BYTES rest → SpellsPage image page → page.number ≡ i → new ≡ pages ++ page ∷ []
    → PagesSoFar images (i + 1) new
pages_more images rest image i pages new page so_far er ei s n e =
    let s0 = so_far.spelled in
    let here : image ≡ image_of images i = ei ∙ ap (take PAGE_BYTES) er in
    let next : PAGE_BYTES * (i + 1) ≡ PAGE_BYTES * i + PAGE_BYTES = omega arith in
    let text : take (PAGE_BYTES * (i + 1)) images ≡ flat_map page_text (pages ++ page ∷ []) =
    ap (λ m. take m images) next ∙ take-add (PAGE_BYTES * i) PAGE_BYTES images ∙ ap₂ (λ (x y : List ℕ). x ++ y) s0.text (sym here ∙ s.text ∙ sym (append-nil (page_text page))) ∙ sym (flat_map-append page_text pages (page ∷ [])) in
    let P : List Page → Type 0 = λ xs. PagesSoFar images (i + 1) xs in
    subst P (sym e) (record {
      spelled = record {
        number = length_push pages page ∙ ap (λ m. m + 1) s0.number;
        at_place = at_place_push pages page s0.at_place (n ∙ sym s0.number);
        fits = All-push FitsPage pages page s0.fits s.fits;
        text = text;
      };
      good = below_more (HasPage images) i so_far.good (page, subst (λ (t : List ℕ). SpellsPage t page) here s, n);
    })

pub pages_whole : (images : List ℕ) (i count : ℕ) (pages : List Page) → PagesSoFar images i pages → i ≡ count → length images ≡ PAGE_BYTES * count → SpellPages images count pages
pages_whole images i count pages so_far e len =
    let all : take (PAGE_BYTES * i) images ≡ images = take_all (PAGE_BYTES * i) images (omega (arith, len)) in
    let s = so_far.spelled in
    record { number = s.number ∙ e; at_place = s.at_place; fits = s.fits; text = sym all ∙ s.text }

pub first_bad : (images rest image : List ℕ) (i count : ℕ) (pages : List Page) → PagesSoFar images i pages → i < count → rest ≡ drop (PAGE_BYTES * i) images → image ≡ take PAGE_BYTES rest
    → ((page : Page) → SpellsPage image page → page.number ≡ i → ⊥) → FirstBadPage images count i
first_bad images rest image i count pages so_far lt er ei none = record {
  below = lt;
  good = so_far.good;
  bad = λ page s. none page (subst (λ (t : List ℕ). SpellsPage t page) (sym (ei ∙ ap (take PAGE_BYTES) er)) s);
}

-- ---- stores

pub store_header_of : (bytes : List ℕ) (store : StoreContent) → SpellsStore bytes store → BeginsWithHeader bytes (length store.pages) store.master
store_header_of bytes store s = record {
  text = ap (take STORE_HEADER_BYTES) s.text ∙ take_at (store_header (length store.pages) store.master) (flat_map page_text store.pages) STORE_HEADER_BYTES refl;
  some = s.fits.numbered.some;
  few = s.fits.numbered.few;
  small = s.fits.master;
}

pub store_pages_of : (bytes images : List ℕ) (store : StoreContent) → SpellsStore bytes store → images ≡ drop STORE_HEADER_BYTES bytes → SpellPages images (length store.pages) store.pages
store_pages_of bytes images store s e = record {
  number = refl;
  at_place = s.fits.numbered.at_place;
  fits = s.fits.pages;
  text = e ∙ ap (drop STORE_HEADER_BYTES) s.text ∙ drop_at (store_header (length store.pages) store.master) (flat_map page_text store.pages) STORE_HEADER_BYTES refl;
}

-- images that encode pages have no error except a lack of memory
pub spelled_no_fault : (images : List ℕ) (count : ℕ) (pages : List Page) (e : Fault) → SpellPages images count pages → PagesFault images count e → e ≡ NoResource
spelled_no_fault images count pages NoResource s f = refl
spelled_no_fault images count pages (BadPage n) s f =
    let d : Page = record { number = 0; lsn = 0; slots = [] } in
    let inside : n < length pages = omega (arith, s.number, f.below) in
    absurd (f.bad (get_or pages n d) (image_inside images count pages n d s inside) (s.at_place n d inside))
spelled_no_fault images count pages _ s f = absurd f
