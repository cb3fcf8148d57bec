-- Stores of which only the PageLSNs are read.
use Rattle.std.proofs.Common.{◌≡◌, ℕ, ◌+◌, ◌*◌, ◌-◌, ◌%◌, ◌<◌, ◌≤◌, ◌^◌, List, [], ◌∷◌, ◌++◌, Bool, true, false, min, length, take, drop, sym, ap, ap₂, subst, ◌∙◌, arith, refl}
use Rattle.std.proofs.lemmas.List.{length-map, map-append}
use Rattle.page.specs.declared.page.Page.{Page}
use Rattle.page.specs.declared.profile.TheConstants.{PAGES, PAGE_BYTES}
use Rattle.page.specs.declared.sizes.TheConstants.{STORE_HEADER_BYTES}
use Rattle.page.specs.Image.{SpellsPage}
use Rattle.page.specs.File.{BeginsWithHeader, HasStoreHeader, SpellsStore, HasWrongSize, HasBadPage}
use Rattle.page.proofs.Once.{store_of}
use Rattle.page.proofs.Piecewise.{IsLeft, read_stays, left_first, read_more, read_bad, so_far_more, so_far_first, is_wrong_size, is_bad_page, is_store}
use Rattle.page.specs.Lsns.{lsns_of, LsnsAreRead, LsnsSoFar}

-- as many as there are pages
pub count_lsns : (lsns : List ℕ) (pages : List Page) → lsns ≡ lsns_of pages → length lsns ≡ length pages
count_lsns lsns pages e = ap length e ∙ length-map pages (λ (p : Page). p.lsn)

-- the images that are left, while the PageLSNs in these are read
abbrev pub LsnsLeft : (images : List ℕ) → (count : ℕ) → (lsns rest : List ℕ) → Type 0
LsnsLeft images count lsns rest = (pages : List Page) × (lsns ≡ lsns_of pages) × IsLeft images count pages rest

-- if no further page is read, more images change nothing
pub lsns_stay : (images more : List ℕ) (count : ℕ) (lsns : List ℕ) (bad : Bool) → (bad ≡ false → count ≤ length lsns) → LsnsAreRead images count lsns bad → LsnsAreRead (images ++ more) count lsns bad
lsns_stay images more count lsns bad all r = (r.0, r.1, read_stays images more count r.0 bad (λ e. omega (arith, all e, count_lsns lsns r.0 r.1)) r.2)

pub lsns_first : (images more : List ℕ) (count : ℕ) (lsns : List ℕ) → length images % PAGE_BYTES ≡ 0 → length lsns < count → LsnsAreRead images count lsns false → LsnsLeft (images ++ more) count lsns more
lsns_first images more count lsns whole lt r = (r.0, r.1, left_first images more count r.0 whole (omega (arith, lt, count_lsns lsns r.0 r.1)) r.2)

-- the next image is a page
pub lsns_more : (images rest behind image : List ℕ) (count : ℕ) (lsns new : List ℕ) (lsn : ℕ) (page : Page) → LsnsLeft images count lsns rest → length lsns < count → PAGE_BYTES ≤ length rest → image ≡ take PAGE_BYTES rest → behind ≡ drop PAGE_BYTES rest
    → SpellsPage image page → page.number ≡ length lsns → lsn ≡ page.lsn → new ≡ lsns ++ lsn ∷ [] → LsnsLeft images count new behind
lsns_more images rest behind image count lsns new lsn page l lt some ei eb s n el e =
    let same = count_lsns lsns l.0 l.1 in
    let one : List Page = page ∷ [] in (
      l.0 ++ one,
      e ∙ ap₂ (λ (xs : List ℕ) n. xs ++ n ∷ []) l.1 el ∙ sym (map-append (λ (p : Page). p.lsn) l.0 one),
      read_more images rest behind image count l.0 (l.0 ++ one) page l.2 (omega (arith, lt, same)) some ei eb s (n ∙ same) refl,
    )

-- the next image is bad
pub lsns_bad : (images rest image : List ℕ) (count : ℕ) (lsns : List ℕ) → LsnsLeft images count lsns rest → length lsns < count → PAGE_BYTES ≤ length rest → image ≡ take PAGE_BYTES rest
    → ((page : Page) → SpellsPage image page → page.number ≡ length lsns → ⊥) → LsnsAreRead images count lsns true
lsns_bad images rest image count lsns l lt some ei none =
    let same = count_lsns lsns l.0 l.1 in
    (l.0, l.1, read_bad images rest image count l.0 l.2 (omega (arith, lt, same)) some ei (λ page s n. none page s (n ∙ sym same)))

-- only a header came
pub lsns_begin : (bytes : List ℕ) (count master : ℕ) (lsns : List ℕ) (refused : Bool) → length bytes ≤ STORE_HEADER_BYTES → lsns ≡ [] → (0 < count → BeginsWithHeader bytes count master)
    → (refused ≡ false → count ≡ 0 → HasStoreHeader bytes → ⊥) → count ≤ PAGES → LsnsSoFar bytes count master lsns (length bytes) false refused
lsns_begin bytes count master lsns refused short e header none few = ([], e, so_far_first bytes count master [] refused short refl header none few)

-- more bytes came
pub lsns_so_far : (bytes more : List ℕ) (count master size next : ℕ) (lsns new : List ℕ) (was_bad bad refused : Bool) → STORE_HEADER_BYTES ≤ length bytes → LsnsSoFar bytes count master lsns size was_bad refused
    → next ≡ min (size + length more) (2 ^ 64 - 1) → LsnsAreRead (drop STORE_HEADER_BYTES bytes ++ more) count new bad → LsnsSoFar (bytes ++ more) count master new next bad refused
lsns_so_far bytes more count master size next lsns new was_bad bad refused le s e r = (r.0, r.1, so_far_more bytes more count master size next s.0 r.0 was_bad bad refused le s.2 e r.2)

-- all bytes came, and they are too few or too many
pub lsns_wrong_size : (bytes : List ℕ) (count master : ℕ) (lsns : List ℕ) (size : ℕ) (bad refused : Bool) → LsnsSoFar bytes count master lsns size bad refused → 0 < count → (size ≡ STORE_HEADER_BYTES + PAGE_BYTES * count → ⊥) → HasWrongSize bytes
lsns_wrong_size bytes count master lsns size bad refused s some wrong = is_wrong_size bytes count master s.0 size bad refused s.2 some wrong

-- all bytes came, and an image is bad
pub lsns_bad_page : (bytes : List ℕ) (count master : ℕ) (lsns : List ℕ) (size : ℕ) (bad refused : Bool) → LsnsSoFar bytes count master lsns size bad refused → 0 < count → size ≡ STORE_HEADER_BYTES + PAGE_BYTES * count → bad ≡ true → HasBadPage bytes (length lsns)
lsns_bad_page bytes count master lsns size bad refused s some right is =
    subst (HasBadPage bytes) (sym (count_lsns lsns s.0 s.1)) (is_bad_page bytes count master s.0 size bad refused s.2 some right is)

-- all bytes came, and they encode this store
pub lsns_store : (bytes : List ℕ) (count master : ℕ) (lsns : List ℕ) (size : ℕ) (bad refused : Bool) → (s : LsnsSoFar bytes count master lsns size bad refused) → 0 < count → size ≡ STORE_HEADER_BYTES + PAGE_BYTES * count → bad ≡ false → SpellsStore bytes (store_of master s.0)
lsns_store bytes count master lsns size bad refused s some right is = is_store bytes count master s.0 size bad refused s.2 some right is
