-- Images of pages, changed one after the other.
use Rattle.std.proofs.Common.{◌≡◌, ℕ, suc, ◌+◌, ◌*◌, ◌/◌, ◌<◌, ◌≤◌, List, [], ◌∷◌, ◌++◌, length, get_or, take, drop, sym, ap, ap₂, subst, ◌∙◌, arith, inl, inr}
use borrow.Rule.Slice.PartMut.{put_mid}
use Rattle.std.specs.List.{flat_map}
use Rattle.std.proofs.Math.Seq.{drop-cons}
use Rattle.std.proofs.lemmas.Bool.{cases_eq}
use Rattle.std.proofs.lemmas.Grind.{flat_map-append}
use Rattle.std.proofs.lemmas.List.{take-append-drop, take_at, drop_at, take_all, length-append, length-take, length-drop, get_or-drop, get_or_default, drop-drop}
use Rattle.std.proofs.lemmas.List.Elements.{All-take}
use Rattle.std.proofs.lemmas.Slice.{drop-put_mid}
use Rattle.page.specs.declared.page.Page.{Page}
use Rattle.page.specs.declared.profile.TheConstants.{PAGE_BYTES}
use Rattle.page.specs.Image.{page_text, FitsPage, SpellsPage}
use Rattle.page.specs.Images.{image_of, AreImages}
use Rattle.page.proofs.Files.{length-page_text, length-pieces}
use Rattle.page.proofs.Writing.{images_more}
use Rattle.changes.specs.Changes.{PageChange, unchanged, changed, AreChanged}
use Rattle.changes.specs.Images.{AreImagesFrom, IsGoodImage}

-- the length of images
pub length-images : (images : List ℕ) (pages : List Page) → AreImages images pages → length images ≡ PAGE_BYTES * length pages
length-images images pages s = ap length s.text ∙ length-pieces page_text PAGE_BYTES pages (λ i d lt. length-page_text (get_or pages i d) (s.fits i d lt))

-- the image at a place encodes the page there
pub image_there : (images : List ℕ) (pages : List Page) (i : ℕ) (d : Page) → AreImages images pages → i < length pages → SpellsPage (image_of images i) (get_or pages i d)
image_there images pages i d s lt =
    let before = take i pages in
    let page = get_or pages i d in
    let behind = drop (suc i) pages in
    let texts = flat_map page_text in
    let parts : pages ≡ before ++ page ∷ behind = sym (take-append-drop i pages) ∙ ap (λ (xs : List Page). before ++ xs) (drop-cons pages i d lt) in
    let text : images ≡ texts before ++ (page_text page ++ texts behind) = s.text ∙ ap texts parts ∙ flat_map-append page_text before (page ∷ behind) in
    let fits = s.fits i d lt in
    let fit = All-take FitsPage i pages s.fits in
    let long : length (texts before) ≡ PAGE_BYTES * i = length-pieces page_text PAGE_BYTES before (λ k e le. length-page_text (get_or before k e) (fit k e le)) ∙ ap (λ n. PAGE_BYTES * n) (length-take i pages ∙ omega (arith, lt)) in
    record {
      fits = fits;
      text = ap (λ (t : List ℕ). image_of t i) text ∙ ap (take PAGE_BYTES) (drop_at (texts before) (page_text page ++ texts behind) (PAGE_BYTES * i) long) ∙ take_at (page_text page) (texts behind) PAGE_BYTES (length-page_text page fits);
    }

-- the images before this place are those of the pages after their changes, the others are as they were
pub record ChangedSoFar (changes : List PageChange) (first : ℕ) (old : List ℕ) (place : ℕ) (new : List ℕ) : Type 0 where
  pub front : (pages shown : List Page) → AreImagesFrom first old pages → AreChanged (drop first changes) pages shown → AreImages (take (PAGE_BYTES * place) new) (take place shown)
  pub rest : drop (PAGE_BYTES * place) new ≡ drop (PAGE_BYTES * place) old
  pub count : length new ≡ length old

-- the image at a place encodes the page of its number
pub page_there : (first : ℕ) (images : List ℕ) (pages : List Page) (i : ℕ) (d : Page) → AreImagesFrom first images pages → i < length images / PAGE_BYTES
    → (i < length pages) × SpellsPage (image_of images i) (get_or pages i d) × ((get_or pages i d).number ≡ first + i)
page_there first images pages i d s lt =
    let within : i < length pages = omega (arith, lt, length-images images pages s.encoded) in
    (within, image_there images pages i d s.encoded within, s.at_place i d within)

-- each image before this place encoded its page, if something is put into that
abbrev pub GoodSoFar : (changes : List PageChange) → (first : ℕ) → (old : List ℕ) → (place : ℕ) → Type 0
GoodSoFar changes first old place = (i : ℕ) → i < place → IsGoodImage changes (first + i) (image_of old i)

-- and one more
pub good_more : (changes : List PageChange) (first : ℕ) (old : List ℕ) (place : ℕ) → GoodSoFar changes first old place → IsGoodImage changes (first + place) (image_of old place) → GoodSoFar changes first old (place + 1)
good_more changes first old place good one = λ i lt.
    elim (cases_eq i place) [
      | inl e ↦ subst (λ n. IsGoodImage changes (first + n) (image_of old n)) (sym e) one
      | inr other ↦ good i (omega (arith, lt, other))
    ]

-- the image at this place is as it was
pub image_left : (changes : List PageChange) (first : ℕ) (old : List ℕ) (place k : ℕ) (now : List ℕ) → ChangedSoFar changes first old place now → k ≡ PAGE_BYTES → take k (drop (PAGE_BYTES * place) now) ≡ image_of old place
image_left changes first old place k now so_far ek = ap₂ (λ n (t : List ℕ). take n t) ek so_far.rest

-- one image more was changed
pub changed_more : (changes : List PageChange) (first : ℕ) (old : List ℕ) (place k : ℕ) (now image : List ℕ) → ChangedSoFar changes first old place now → place < length old / PAGE_BYTES → k ≡ PAGE_BYTES → length image ≡ PAGE_BYTES
    → ((page : Page) (c : PageChange) → SpellsPage (take k (drop (PAGE_BYTES * place) now)) page → page.number ≡ first + place → SpellsPage image (changed (get_or changes (first + place) c) page))
    → ChangedSoFar changes first old (place + 1) (put_mid (PAGE_BYTES * place) k now image)
changed_more changes first old place k now image so_far lt ek long made =
    let at : ℕ = PAGE_BYTES * place in
    let room : at + PAGE_BYTES ≤ length now = omega (arith, lt, so_far.count) in
    let further : (t : List ℕ) → drop (PAGE_BYTES * (place + 1)) t ≡ drop PAGE_BYTES (drop at t) = λ t. ap (λ n. drop n t) (omega arith) ∙ sym (drop-drop PAGE_BYTES at t) in
    record {
      front = λ pages shown s ch.
          let d : Page = record { number = 0; lsn = 0; slots = [] } in
          let c = unchanged 0 in
          let there = page_there first old pages place d s lt in
          let in_shown : place < length shown = omega (arith, there.0, ch.count) in
          let page = get_or shown place d in
          let before = subst (λ (t : List ℕ). SpellsPage t (get_or pages place d)) (sym (image_left changes first old place k now so_far ek)) there.1 in
          let spelled = made (get_or pages place d) c before there.2 in
          let same : changed (get_or changes (first + place) c) (get_or pages place d) ≡ page = sym (ch.each place c d there.0 ∙ ap (λ x. changed x (get_or pages place d)) (get_or-drop first changes place c)) in
          let whole = subst (SpellsPage image) same spelled in
          images_more shown place k now image page (so_far.front pages shown s ch) (omega (arith, room)) in_shown (get_or_default shown place d page in_shown) whole.text whole.fits long;
      rest = drop-put_mid at k now image (PAGE_BYTES * (place + 1)) (omega (arith, ek)) (omega (arith, room)) (omega (arith, ek, long)) ∙ further now ∙ ap (drop PAGE_BYTES) so_far.rest ∙ sym (further old);
      count = omega (arith, room, ek, long, so_far.count, length-append (take at now) (image ++ drop k (drop at now)), length-append image (drop k (drop at now)), length-take at now, length-drop k (drop at now), length-drop at now);
    }

-- all images were changed
pub changed_all : (changes : List PageChange) (first : ℕ) (old new : List ℕ) (place : ℕ) (pages shown : List Page) → ChangedSoFar changes first old place new → length old / PAGE_BYTES ≤ place
    → AreImagesFrom first old pages → AreChanged (drop first changes) pages shown → AreImagesFrom first new shown
changed_all changes first old new place pages shown so_far all s ch =
    let long : length old ≡ PAGE_BYTES * length pages = length-images old pages s.encoded in
    let front = so_far.front pages shown s ch in
    let texts = take_all (PAGE_BYTES * place) new (omega (arith, long, all, so_far.count)) in
    let pages_all = take_all place shown (omega (arith, long, all, ch.count)) in
    record {
      encoded = subst (AreImages new) pages_all (subst (λ (t : List ℕ). AreImages t (take place shown)) texts front);
      at_place = λ i d lt. ap (λ (p : Page). p.number) (ch.each i (unchanged 0) d (omega (arith, lt, ch.count))) ∙ s.at_place i d (omega (arith, lt, ch.count));
    }
