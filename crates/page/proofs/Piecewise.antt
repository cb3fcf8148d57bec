-- Stores whose bytes come piece by piece.
use Rattle.std.proofs.Common.{◌≡◌, ℕ, ◌+◌, ◌*◌, ◌-◌, ◌%◌, ◌<◌, ◌≤◌, ◌^◌, List, [], ◌∷◌, ◌++◌, Bool, true, false, min, length, take, drop, sym, ap, ap₂, subst, ◌∙◌, arith, refl}
use Rattle.std.proofs.lemmas.List.{length-append, length-drop, take-append-le, drop-append-le, take-append-drop, drop_all, drop-drop, drop_at, length_push}
use Rattle.page.specs.declared.page.Page.{Page}
use Rattle.page.specs.Image.{SpellsPage}
use Rattle.page.specs.Images.{image_of, HasPage, SpellPages, FirstBadPage}
use Rattle.page.specs.Pieces.{PagesSoFar, AreRead, IsSoFar}
use Rattle.page.specs.File.{store_header, BeginsWithHeader, HasStoreHeader, SpellsStore, HasWrongSize, HasBadPage}
use Rattle.page.proofs.Files.{pages_more, first_bad, pages_whole}
use Rattle.page.proofs.Once.{store_of}
use Rattle.page.specs.declared.profile.TheConstants.{PAGES, PAGE_BYTES}
use Rattle.page.specs.declared.sizes.TheConstants.{STORE_HEADER_BYTES}

-- ---- what came stays as it is when more comes

image_stays : (images more : List ℕ) (k : ℕ) → PAGE_BYTES * (k + 1) ≤ length images → image_of (images ++ more) k ≡ image_of images k
image_stays images more k le =
    let rest = drop (PAGE_BYTES * k) images in
    ap (take PAGE_BYTES) (drop-append-le (PAGE_BYTES * k) images more (omega arith)) ∙ take-append-le PAGE_BYTES rest more (omega (arith, length-drop (PAGE_BYTES * k) images))

page_stays : (images more : List ℕ) (k : ℕ) → PAGE_BYTES * (k + 1) ≤ length images → HasPage images k → HasPage (images ++ more) k
page_stays images more k le h =
    subst (λ (t : List ℕ). (page : Page) × SpellsPage t page × (page.number ≡ k)) (sym (image_stays images more k le)) h

pub pages_stay : (images more : List ℕ) (i : ℕ) (pages : List Page) → PAGE_BYTES * i ≤ length images → PagesSoFar images i pages → PagesSoFar (images ++ more) i pages
pages_stay images more i pages le s = record {
  spelled = subst (λ (t : List ℕ). SpellPages t i pages) (sym (take-append-le (PAGE_BYTES * i) images more le)) s.spelled;
  good = λ k lt. page_stays images more k (omega arith) (s.good k lt);
}

bad_stays : (images more : List ℕ) (count n : ℕ) → PAGE_BYTES * (n + 1) ≤ length images → FirstBadPage images count n → FirstBadPage (images ++ more) count n
bad_stays images more count n le b = record {
  below = b.below;
  good = λ k lt. page_stays images more k (omega arith) (b.good k lt);
  bad = λ page s. b.bad page (subst (λ (t : List ℕ). SpellsPage t page) (image_stays images more n le) s);
}

-- if no further page is read, more images change nothing
pub read_stays : (images more : List ℕ) (count : ℕ) (pages : List Page) (bad : Bool) → (bad ≡ false → count ≤ length pages) → AreRead images count pages bad → AreRead (images ++ more) count pages bad
read_stays images more count pages bad all r =
    let long = length-append images more in
    record {
      so_far = pages_stay images more (length pages) pages r.inside r.so_far;
      few = r.few;
      inside = omega (arith, long, r.inside);
      stopped = λ e. bad_stays images more count (length pages) (r.whole e) (r.stopped e);
      whole = λ e. omega (arith, long, r.whole e);
      going = λ e. omega (arith, long, r.going e, all e, r.few);
    }

-- if more images are wanted, those that came are the images of the pages that were read
pub just_these : (images : List ℕ) (count : ℕ) (pages : List Page) → length images % PAGE_BYTES ≡ 0 → length pages < count → AreRead images count pages false → length images ≡ PAGE_BYTES * length pages
just_these images count pages whole lt r = omega (arith, whole, lt, r.going refl)

-- ---- one more page, or a bad one

-- the images that are left, while pages are read of these
pub record IsLeft (images : List ℕ) (count : ℕ) (pages : List Page) (rest : List ℕ) : Type 0 where
  pub so_far : PagesSoFar images (length pages) pages
  pub few : length pages ≤ count
  pub inside : PAGE_BYTES * length pages ≤ length images
  pub left : rest ≡ drop (PAGE_BYTES * length pages) images

pub left_first : (images more : List ℕ) (count : ℕ) (pages : List Page) → length images % PAGE_BYTES ≡ 0 → length pages < count → AreRead images count pages false → IsLeft (images ++ more) count pages more
left_first images more count pages whole lt r =
    let long = just_these images count pages whole lt r in
    record {
      so_far = pages_stay images more (length pages) pages r.inside r.so_far;
      few = r.few;
      inside = omega (arith, length-append images more, r.inside);
      left = sym (drop_at images more (PAGE_BYTES * length pages) long);
    }

-- the next image is a page
pub read_more : (images rest behind image : List ℕ) (count : ℕ) (pages new : List Page) (page : Page) → IsLeft images count pages rest → length pages < count → PAGE_BYTES ≤ length rest → image ≡ take PAGE_BYTES rest → behind ≡ drop PAGE_BYTES rest
    → SpellsPage image page → page.number ≡ length pages → new ≡ pages ++ page ∷ [] → IsLeft images count new behind
read_more images rest behind image count pages new page l lt some ei eb s n e =
    let left = ap length l.left ∙ length-drop (PAGE_BYTES * length pages) images in
    let more : length new ≡ length pages + 1 = ap length e ∙ length_push pages page in
    let next : PAGE_BYTES * length pages + PAGE_BYTES ≡ PAGE_BYTES * length new = omega (arith, more) in
    record {
      so_far = subst (λ i. PagesSoFar images i new) (sym more) (pages_more images rest image (length pages) pages new page l.so_far l.left ei s n e);
      few = omega (arith, more, lt);
      inside = omega (arith, more, left, some, l.inside);
      left = eb ∙ ap (drop PAGE_BYTES) l.left ∙ drop-drop PAGE_BYTES (PAGE_BYTES * length pages) images ∙ ap (λ m. drop m images) next;
    }

-- the next image is bad
pub read_bad : (images rest image : List ℕ) (count : ℕ) (pages : List Page) → IsLeft images count pages rest → length pages < count → PAGE_BYTES ≤ length rest → image ≡ take PAGE_BYTES rest
    → ((page : Page) → SpellsPage image page → page.number ≡ length pages → ⊥) → AreRead images count pages true
read_bad images rest image count pages l lt some ei none =
    let left = ap length l.left ∙ length-drop (PAGE_BYTES * length pages) images in
    record {
      so_far = l.so_far;
      few = l.few;
      inside = l.inside;
      stopped = λ e. first_bad images rest image (length pages) count pages l.so_far lt l.left ei none;
      whole = λ e. omega (arith, left, l.inside, some);
      going = λ e. absurd (cc e);
    }

-- ---- the bytes of a file

header_stays : (bytes more : List ℕ) (count master : ℕ) → STORE_HEADER_BYTES ≤ length bytes → BeginsWithHeader bytes count master → BeginsWithHeader (bytes ++ more) count master
header_stays bytes more count master le h = record { text = take-append-le STORE_HEADER_BYTES bytes more le ∙ h.text; some = h.some; few = h.few; small = h.small }

header_stood : (bytes more : List ℕ) (count master : ℕ) → STORE_HEADER_BYTES ≤ length bytes → BeginsWithHeader (bytes ++ more) count master → BeginsWithHeader bytes count master
header_stood bytes more count master le h = record { text = sym (take-append-le STORE_HEADER_BYTES bytes more le) ∙ h.text; some = h.some; few = h.few; small = h.small }

pub so_far_more : (bytes more : List ℕ) (count master size next : ℕ) (pages new : List Page) (was_bad bad refused : Bool) → STORE_HEADER_BYTES ≤ length bytes → IsSoFar bytes count master pages size was_bad refused
    → next ≡ min (size + length more) (2 ^ 64 - 1) → AreRead (drop STORE_HEADER_BYTES bytes ++ more) count new bad → IsSoFar (bytes ++ more) count master new next bad refused
so_far_more bytes more count master size next pages new was_bad bad refused le s e r = record {
  header = λ some. header_stays bytes more count master le (s.header some);
  none = λ kept z h. s.none kept z (h.0, h.1, header_stood bytes more h.0 h.1 le h.2);
  few = s.few;
  came = omega (arith, e, s.came, length-append bytes more);
  read = subst (λ (t : List ℕ). AreRead t count new bad) (sym (drop-append-le STORE_HEADER_BYTES bytes more le)) r;
}

-- only a header came
pub so_far_first : (bytes : List ℕ) (count master : ℕ) (pages : List Page) (refused : Bool) → length bytes ≤ STORE_HEADER_BYTES → pages ≡ [] → (0 < count → BeginsWithHeader bytes count master)
    → (refused ≡ false → count ≡ 0 → HasStoreHeader bytes → ⊥) → count ≤ PAGES → IsSoFar bytes count master pages (length bytes) false refused
so_far_first bytes count master pages refused short e header none few =
    let images : drop STORE_HEADER_BYTES bytes ≡ [] = drop_all STORE_HEADER_BYTES bytes short in
    record {
      header = header;
      none = none;
      few = few;
      came = omega (arith, short);
      read = rw (images, e) (record {
        so_far = record {
          spelled = record { number = refl; at_place = λ i d lt. absurd (omega (arith, lt)); fits = λ i d lt. absurd (omega (arith, lt)); text = refl };
          good = λ k lt. absurd (omega (arith, lt));
        };
        few = omega arith;
        inside = omega arith;
        stopped = λ b. absurd (cc b);
        whole = λ b. absurd (cc b);
        going = λ b. omega arith;
      });
    }

-- ---- all bytes came

-- as many as the header says
right_size : (bytes : List ℕ) (count size : ℕ) → count ≤ PAGES → size ≡ min (length bytes) (2 ^ 64 - 1) → size ≡ STORE_HEADER_BYTES + PAGE_BYTES * count → length bytes ≡ STORE_HEADER_BYTES + PAGE_BYTES * count
right_size bytes count size few e right = omega (arith, few, e, right)

pub is_wrong_size : (bytes : List ℕ) (count master : ℕ) (pages : List Page) (size : ℕ) (bad refused : Bool) → IsSoFar bytes count master pages size bad refused → 0 < count → (size ≡ STORE_HEADER_BYTES + PAGE_BYTES * count → ⊥) → HasWrongSize bytes
is_wrong_size bytes count master pages size bad refused s some wrong = record {
  count = count;
  master = master;
  header = s.header some;
  size = λ e. wrong (omega (arith, s.few, s.came, e));
}

pub is_bad_page : (bytes : List ℕ) (count master : ℕ) (pages : List Page) (size : ℕ) (bad refused : Bool) → IsSoFar bytes count master pages size bad refused → 0 < count → size ≡ STORE_HEADER_BYTES + PAGE_BYTES * count → bad ≡ true → HasBadPage bytes (length pages)
is_bad_page bytes count master pages size bad refused s some right is = record {
  count = count;
  master = master;
  header = s.header some;
  size = right_size bytes count size s.few s.came right;
  page = s.read.stopped is;
}

pub is_store : (bytes : List ℕ) (count master : ℕ) (pages : List Page) (size : ℕ) (bad refused : Bool) → IsSoFar bytes count master pages size bad refused → 0 < count → size ≡ STORE_HEADER_BYTES + PAGE_BYTES * count → bad ≡ false → SpellsStore bytes (store_of master pages)
is_store bytes count master pages size bad refused s some right is =
    let header = s.header some in
    let long = right_size bytes count size s.few s.came right in
    let images : length (drop STORE_HEADER_BYTES bytes) ≡ PAGE_BYTES * count = length-drop STORE_HEADER_BYTES bytes ∙ omega (arith, long) in
    let all : length pages ≡ count = omega (arith, images, s.read.going is) in
    let spelled = pages_whole (drop STORE_HEADER_BYTES bytes) (length pages) count pages s.read.so_far all images in
    record {
      fits = record {
        master = header.small;
        numbered = record { some = omega (arith, all, some); few = omega (arith, all, s.few); at_place = spelled.at_place };
        pages = spelled.fits;
      };
      text = sym (take-append-drop STORE_HEADER_BYTES bytes) ∙ ap₂ (λ (x y : List ℕ). x ++ y) (header.text ∙ ap (λ n. store_header n master) (sym all)) spelled.text;
    }
