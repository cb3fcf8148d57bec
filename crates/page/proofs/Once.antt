-- The same bytes never encode two slots, two pages or two stores.
use Rattle.std.proofs.Common.{◌≡◌, ℕ, zero, suc, ◌+◌, ◌*◌, ◌<◌, ◌≤◌, ◌^◌, List, [], ◌∷◌, ◌++◌, length, get_or, take, drop, Some, None, sym, ap, ap₂, subst, ◌∙◌, arith, refl, add-one}
use Rattle.std.specs.Int.{w16, to_be_bytes, from_be_bytes}
use Rattle.std.proofs.lemmas.List.{take_all, take_more, same_lists, length-take}
use Rattle.std.proofs.lemmas.List.Elements.{All-take}
use Rattle.std.proofs.lemmas.Nat.{from_be_bytes-to_be_bytes_2}
use Rattle.page.specs.declared.page.Page.{Page}
use Rattle.page.specs.Image.{Image, cells, entry, FitsSlot, SpellsPage}
use Rattle.page.specs.Images.{SpellPages}
use Rattle.page.specs.Store.{StoreContent}
use Rattle.page.specs.Parts.{BeginsWithSlot, SpellsSlots}
use Rattle.page.proofs.Slots.{length-cells-le}
use Rattle.page.proofs.Reading.{slot_inside}
use Rattle.page.proofs.Pages.{page_parts, same_header, same_page}
use Rattle.page.specs.File.{BeginsWithHeader, SpellsStore}
use Rattle.page.proofs.Files.{image_inside, header_parts, store_header_of, store_pages_of}
use Rattle.page.specs.declared.profile.TheConstants.{VALUE_BYTES, SLOTS}
use Rattle.page.specs.declared.sizes.TheConstants.{CELLS_AT, PAGE_HEADER_BYTES, DIRECTORY_BYTES, STORE_HEADER_BYTES}

same_16 : (a b : ℕ) → a < 2 ^ 16 → b < 2 ^ 16 → to_be_bytes w16 a ≡ to_be_bytes w16 b → a ≡ b
same_16 a b la lb e = sym (from_be_bytes-to_be_bytes_2 a la) ∙ ap (from_be_bytes w16) e ∙ from_be_bytes-to_be_bytes_2 b lb

-- an entry of a present slot is not that of an absent one
not_absent : (place : ℕ) (value : List ℕ) → 0 < place → place < 2 ^ 16 → entry place (Some value) ≡ entry place None → ⊥
not_absent place value some small e =
    let none : place ≡ 0 = same_16 place 0 small (omega arith) (ap (take 2) e) in
    omega (arith, none)

one_slot : (entries bytes : List ℕ) (place : ℕ) (x y : Image) → 0 < place → place < 2 ^ 16 → BeginsWithSlot entries bytes place x → BeginsWithSlot entries bytes place y → x ≡ y
one_slot entries bytes place None None some small a b = refl
one_slot entries bytes place None (Some y) some small a b = absurd (not_absent place y some small (sym b.entry ∙ a.entry))
one_slot entries bytes place (Some x) None some small a b = absurd (not_absent place x some small (sym a.entry ∙ b.entry))
one_slot entries bytes place (Some x) (Some y) some small a b =
    let short_x : length x ≤ VALUE_BYTES = a.fits in
    let short_y : length y ≤ VALUE_BYTES = b.fits in
    let len : length x ≡ length y = same_16 (length x) (length y) (omega (arith, short_x)) (omega (arith, short_y)) (ap (drop 2) (sym a.entry ∙ b.entry)) in
    let whole_x : take (length x) bytes ≡ x = a.cell in
    let whole_y : take (length y) bytes ≡ y = b.cell in
    ap (λ v. Some v) (sym whole_x ∙ ap (λ n. take n bytes) len ∙ whole_y)

first_slots : (entries bytes : List ℕ) (xs ys : List Image) (i : ℕ) → SpellsSlots entries bytes xs → SpellsSlots entries bytes ys → i ≤ SLOTS → take i xs ≡ take i ys
first_slots entries bytes xs ys zero a b le = refl
first_slots entries bytes xs ys (suc i) a b le =
    let before = first_slots entries bytes xs ys i a b (omega arith) in
    let place = λ (slots : List Image). CELLS_AT + length (cells (take i slots)) in
    let near : length (cells (take i xs)) ≤ VALUE_BYTES * i = omega (arith, length-cells-le (take i xs) (All-take FitsSlot i xs a.values), length-take i xs) in
    let at_x = slot_inside entries bytes xs i None a (omega arith) in
    let at_y = slot_inside entries bytes ys i None b (omega arith) in
    let P : List Image → Type 0 = λ front. BeginsWithSlot (drop (4 * i) entries) (drop (length (cells front)) bytes) (CELLS_AT + length (cells front)) (get_or ys i None) in
    let same = one_slot _ _ (place xs) (get_or xs i None) (get_or ys i None) (omega arith) (omega (arith, near)) at_x (subst P (sym before) at_y) in
    let next : suc i ≡ i + 1 = sym (add-one i) in
    ap (λ n. take n xs) next ∙ take_more xs i None (omega (arith, a.count)) ∙ ap₂ (λ (front : List Image) slot. front ++ slot ∷ []) before same ∙ sym (take_more ys i None (omega (arith, b.count))) ∙ ap (λ n. take n ys) (sym next)

one_slots : (entries bytes : List ℕ) (xs ys : List Image) → SpellsSlots entries bytes xs → SpellsSlots entries bytes ys → xs ≡ ys
one_slots entries bytes xs ys a b = sym (take_all SLOTS xs (omega (arith, a.count))) ∙ first_slots entries bytes xs ys SLOTS a b (omega arith) ∙ take_all SLOTS ys (omega (arith, b.count))

pub one_page : (bytes : List ℕ) (p q : Page) → SpellsPage bytes p → SpellsPage bytes q → p ≡ q
one_page bytes p q a b =
    let front = take PAGE_HEADER_BYTES bytes in
    let behind = drop PAGE_HEADER_BYTES bytes in
    let in_p = page_parts bytes front behind (take DIRECTORY_BYTES behind) (drop DIRECTORY_BYTES behind) p a refl refl refl refl in
    let in_q = page_parts bytes front behind (take DIRECTORY_BYTES behind) (drop DIRECTORY_BYTES behind) q b refl refl refl refl in
    let numbers = same_header front p.number 0 p.lsn q.number q.lsn in_p.header a.fits.number (omega arith) a.fits.lsn in_q.header b.fits.number b.fits.lsn in
    let slots = one_slots (take DIRECTORY_BYTES behind) (drop DIRECTORY_BYTES behind) p.slots q.slots in_p.slots in_q.slots in
    same_page q p.number p.lsn p.slots numbers.0 numbers.2 slots

pub one_pages : (images : List ℕ) (count : ℕ) (ps qs : List Page) → SpellPages images count ps → SpellPages images count qs → ps ≡ qs
one_pages images count ps qs a b =
    let len : length ps ≡ length qs = a.number ∙ sym b.number in
    same_lists ps qs len (λ k d lt. one_page _ (get_or ps k d) (get_or qs k d) (image_inside images count ps k d a lt) (image_inside images count qs k d b (omega (arith, len, lt))))

abbrev pub store_of : ℕ → List Page → StoreContent
store_of master pages = record { master = master; pages = pages }

-- a store of these parts is this store
pub same_store : (store : StoreContent) (master : ℕ) (pages : List Page) → master ≡ store.master → pages ≡ store.pages → store_of master pages ≡ store
same_store store master pages em ep = ap (λ m. store_of m pages) em ∙ ap (store_of store.master) ep

-- a header has one page count and one master
pub same_numbers : (bytes : List ℕ) (count master other lsn : ℕ) → BeginsWithHeader bytes count master → BeginsWithHeader bytes other lsn → (count ≡ other) × (master ≡ lsn)
same_numbers bytes count master other lsn a b =
    let front = take STORE_HEADER_BYTES bytes in
    let in_a = header_parts bytes front (take 8 front) (drop 8 front) count master a refl refl refl in
    let in_b = header_parts bytes front (take 8 front) (drop 8 front) other lsn b refl refl refl in
    let numbers = same_header (drop 8 front) count 0 master other lsn in_a.back (omega (arith, a.few)) (omega arith) a.small in_b.back (omega (arith, b.few)) b.small in
    (numbers.0, numbers.2)

pub one_store : (bytes : List ℕ) (a b : StoreContent) → SpellsStore bytes a → SpellsStore bytes b → a ≡ b
one_store bytes a b sa sb =
    let numbers = same_numbers bytes (length a.pages) a.master (length b.pages) b.master (store_header_of bytes a sa) (store_header_of bytes b sb) in
    let images = drop STORE_HEADER_BYTES bytes in
    let pages_a = subst (λ n. SpellPages images n a.pages) numbers.0 (store_pages_of bytes images a sa refl) in
    same_store b a.master a.pages numbers.1 (one_pages images (length b.pages) a.pages b.pages pages_a (store_pages_of bytes images b sb refl))
