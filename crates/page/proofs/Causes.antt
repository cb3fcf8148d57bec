-- Bytes that are not a store have one error, and the bytes of a store have none.
use Rattle.std.proofs.Common.{◌≡◌, ℕ, ◌+◌, ◌*◌, ◌<◌, List, length, sym, ap, subst, ◌∙◌, arith, refl}
use Rattle.std.proofs.lemmas.List.{length-drop}
use Rattle.page.specs.declared.fault.Fault.TheVariants.{NoResource, BadStoreHeader, StoreSize, BadPage}
use Rattle.page.specs.Images.{FirstBadPage}
use Rattle.page.specs.File.{images_of, HasBadPage}
use Rattle.page.specs.Laws.{OneStoreFault, NoFaultOfAStore}
use Rattle.page.proofs.Files.{store_header_of, store_pages_of, length-images, spelled_no_fault}
use Rattle.page.proofs.Once.{same_numbers}
use Rattle.page.specs.declared.profile.TheConstants.{PAGE_BYTES}
use Rattle.page.specs.declared.sizes.TheConstants.{STORE_HEADER_BYTES}

-- only one page is the first bad one
not_later : (images : List ℕ) (count n m : ℕ) → FirstBadPage images count n → FirstBadPage images count m → n < m → ⊥
not_later images count n m a b lt = (let (page, spells, own) = b.good n lt in a.bad page spells own)

first_bad_page : (images : List ℕ) (count n m : ℕ) → FirstBadPage images count n → FirstBadPage images count m → n ≡ m
first_bad_page images count n m a b = omega (arith, not_later images count n m a b, not_later images count m n b a)

same_bad_page : (bytes : List ℕ) (n m : ℕ) → HasBadPage bytes n → HasBadPage bytes m → n ≡ m
same_bad_page bytes n m a b =
    let numbers = same_numbers bytes a.count a.master b.count b.master a.header b.header in
    first_bad_page (images_of bytes) b.count n m (subst (λ count. FirstBadPage (images_of bytes) count n) numbers.0 a.page) b.page

pub one_store_fault : OneStoreFault
one_store_fault bytes NoResource e some other a b = absurd (some refl)
one_store_fault bytes BadStoreHeader NoResource some other a b = absurd (other refl)
one_store_fault bytes BadStoreHeader BadStoreHeader some other a b = refl
one_store_fault bytes BadStoreHeader StoreSize some other a b = absurd (a (b.count, b.master, b.header))
one_store_fault bytes BadStoreHeader (BadPage m) some other a b = absurd (a (b.count, b.master, b.header))
one_store_fault bytes BadStoreHeader _ some other a b = absurd b
one_store_fault bytes StoreSize NoResource some other a b = absurd (other refl)
one_store_fault bytes StoreSize BadStoreHeader some other a b = absurd (b (a.count, a.master, a.header))
one_store_fault bytes StoreSize StoreSize some other a b = refl
one_store_fault bytes StoreSize (BadPage m) some other a b =
    absurd (a.size (b.size ∙ ap (λ n. STORE_HEADER_BYTES + PAGE_BYTES * n) (same_numbers bytes b.count b.master a.count a.master b.header a.header).0))
one_store_fault bytes StoreSize _ some other a b = absurd b
one_store_fault bytes (BadPage n) NoResource some other a b = absurd (other refl)
one_store_fault bytes (BadPage n) BadStoreHeader some other a b = absurd (b (a.count, a.master, a.header))
one_store_fault bytes (BadPage n) StoreSize some other a b =
    absurd (b.size (a.size ∙ ap (λ n. STORE_HEADER_BYTES + PAGE_BYTES * n) (same_numbers bytes a.count a.master b.count b.master a.header b.header).0))
one_store_fault bytes (BadPage n) (BadPage m) some other a b = ap (λ k. BadPage k) (same_bad_page bytes n m a b)
one_store_fault bytes (BadPage n) _ some other a b = absurd b
one_store_fault bytes _ e some other a b = absurd a

pub no_fault_of_a_store : NoFaultOfAStore
no_fault_of_a_store bytes store s NoResource h = refl
no_fault_of_a_store bytes store s BadStoreHeader h = absurd (h (length store.pages, store.master, store_header_of bytes store s))
no_fault_of_a_store bytes store s StoreSize h =
    let numbers = same_numbers bytes h.count h.master (length store.pages) store.master h.header (store_header_of bytes store s) in
    let images = length-images (images_of bytes) (length store.pages) store.pages (store_pages_of bytes (images_of bytes) store s refl) in
    let header : length (images_of bytes) ≡ PAGE_BYTES * h.count = images ∙ ap (λ n. PAGE_BYTES * n) (sym numbers.0) in
    absurd (h.size (omega (arith, header, length-drop STORE_HEADER_BYTES bytes, h.header.some)))
no_fault_of_a_store bytes store s (BadPage n) h =
    let numbers = same_numbers bytes h.count h.master (length store.pages) store.master h.header (store_header_of bytes store s) in
    spelled_no_fault (images_of bytes) (length store.pages) store.pages (BadPage n) (store_pages_of bytes (images_of bytes) store s refl)
    (subst (λ count. FirstBadPage (images_of bytes) count n) numbers.0 h.page)
no_fault_of_a_store bytes store s _ h = absurd h
