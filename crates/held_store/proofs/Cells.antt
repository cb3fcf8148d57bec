-- Where the cells of a page's image end.
use Rattle.std.proofs.Common.{◌≡◌, ℕ, ◌+◌, ◌*◌, ◌-◌, ◌<◌, ◌^◌, List, [], ◌∷◌, ◌++◌, length, get_or, take, drop, replicate, Some, None, refl, sym, ap, ap₂, ◌∙◌, arith, length-append}
use Rattle.std.specs.Int.{w16, to_be_bytes, from_be_bytes}
use Rattle.std.proofs.lemmas.Nat.{from_be_bytes-to_be_bytes_2}
use Rattle.std.proofs.lemmas.List.{get_or-drop, get_or-take, get_or_append_left, drop_at, drop-drop, length-replicate}
use Rattle.std.proofs.lemmas.List.Elements.{All-get_or}
use Rattle.page.specs.declared.page.Page.{Page}
use Rattle.page.specs.declared.profile.TheConstants.{PAGE_BYTES, SLOTS}
use Rattle.page.specs.declared.sizes.TheConstants.{CELLS_AT, DIRECTORY_BYTES, PAGE_HEADER_BYTES, ROOM_BYTES}
use Rattle.page.specs.Image.{Image, cell, cells, entry, directory, header, body, FitsSlot, SpellsPage}
use Rattle.page.specs.Parts.{SpellsSlots}
use Rattle.page.proofs.Slots.{length-directory, cells_more, short_cell}
use Rattle.page.proofs.Files.{length-page_text}
use Rattle.page.proofs.Reading.{slot_inside}

-- the second number of an entry is the length of the cell
length_in_entry : (place : ℕ) (slot : Image) → get_or (entry place slot) 2 0 ∷ get_or (entry place slot) 3 0 ∷ [] ≡ to_be_bytes w16 (length (cell slot))
length_in_entry place None = refl
length_in_entry place (Some value) = refl

module _ (image : List ℕ) (page : Page) (s : SpellsPage image page) where
  long_directory : length (directory CELLS_AT page.slots) ≡ DIRECTORY_BYTES
  long_directory = omega (arith, length-directory CELLS_AT page.slots, s.fits.slots)

  behind_header : drop PAGE_HEADER_BYTES image ≡ directory CELLS_AT page.slots ++ body page.slots
  behind_header = ap (drop PAGE_HEADER_BYTES) s.text ∙ drop_at (header page.number page.lsn) (directory CELLS_AT page.slots ++ body page.slots) PAGE_HEADER_BYTES refl

  pub long_image : length image ≡ PAGE_BYTES
  long_image = ap (λ (t : List ℕ). length t) s.text ∙ length-page_text page s.fits

  -- a byte of an entry
  byte_there : (i k : ℕ) → i < SLOTS → k < 4 → get_or image (PAGE_HEADER_BYTES + (4 * i + k)) 0 ≡ get_or (take 4 (drop (4 * i) (directory CELLS_AT page.slots))) k 0
  byte_there i k lt few =
      let entries = directory CELLS_AT page.slots in
      let inside : 4 * i + k < length entries = omega (arith, lt, few, long_directory) in
      sym (get_or-drop PAGE_HEADER_BYTES image (4 * i + k) 0) ∙ ap (λ (t : List ℕ). get_or t (4 * i + k) 0) behind_header ∙ get_or_append_left entries (body page.slots) 0 (4 * i + k) inside
      ∙ sym (get_or-drop (4 * i) entries k 0) ∙ sym (get_or-take 4 (drop (4 * i) entries) k 0 few)

  -- the length that stands in an entry
  pub length_there : (i : ℕ) → i < SLOTS
      → from_be_bytes w16 (get_or image (PAGE_HEADER_BYTES + 4 * i + 2) 0 ∷ get_or image (PAGE_HEADER_BYTES + 4 * i + 3) 0 ∷ []) ≡ length (cell (get_or page.slots i None))
  length_there i lt =
      let slot : Image = get_or page.slots i None in
      let entries = directory CELLS_AT page.slots in
      let place = CELLS_AT + length (cells (take i page.slots)) in
      let spells : SpellsSlots entries (body page.slots) page.slots = record { count = s.fits.slots; values = s.fits.values; directory = refl; body = refl } in
      let here : take 4 (drop (4 * i) entries) ≡ entry place slot = (slot_inside entries (body page.slots) page.slots i None spells lt).entry in
      let at : (k : ℕ) → k < 4 → get_or image (PAGE_HEADER_BYTES + 4 * i + k) 0 ≡ get_or (entry place slot) k 0 =
      λ k few.
      let sum : PAGE_HEADER_BYTES + 4 * i + k ≡ PAGE_HEADER_BYTES + (4 * i + k) = omega arith in
      ap (λ n. get_or image n 0) sum ∙ byte_there i k lt few ∙ ap (λ (t : List ℕ). get_or t k 0) here in
      let short : length (cell slot) < 2 ^ 16 = omega (arith, short_cell slot (All-get_or FitsSlot page.slots i None (omega (arith, lt, s.fits.slots)) s.fits.values)) in
      ap₂ (λ x y. from_be_bytes w16 (x ∷ y ∷ [])) (at 2 (omega arith)) (at 3 (omega arith)) ∙ ap (from_be_bytes w16) (length_in_entry place slot) ∙ from_be_bytes-to_be_bytes_2 (length (cell slot)) short

  -- one slot on
  pub end_more : (i end n later : ℕ) → i < SLOTS → end ≡ CELLS_AT + length (cells (take i page.slots))
      → n ≡ from_be_bytes w16 (get_or image (PAGE_HEADER_BYTES + 4 * i + 2) 0 ∷ get_or image (PAGE_HEADER_BYTES + 4 * i + 3) 0 ∷ []) → later ≡ end + n
      → later ≡ CELLS_AT + length (cells (take (i + 1) page.slots))
  end_more i end n later lt e is sum =
      let slot : Image = get_or page.slots i None in
      let more = cells_more page.slots i None (omega (arith, lt, s.fits.slots)) in
      omega (arith, e, is ∙ length_there i lt, sum, ap (λ (t : List ℕ). length t) more, length-append (cells (take i page.slots)) (cell slot))

  -- zeros follow the cells
  pub zeros_behind : (end : ℕ) → end ≡ CELLS_AT + length (cells page.slots) → drop end image ≡ replicate (length (drop end image)) 0
  zeros_behind end e =
      let inner = cells page.slots in
      let count = ROOM_BYTES - length inner in
      let entries = directory CELLS_AT page.slots in
      let sum : end ≡ PAGE_HEADER_BYTES + (DIRECTORY_BYTES + length inner) = omega (arith, e) in
      let all : drop end image ≡ replicate {A = ℕ} count 0 =
      ap (λ k. drop k image) sum ∙ sym (drop-drop (DIRECTORY_BYTES + length inner) PAGE_HEADER_BYTES image) ∙ ap (drop (DIRECTORY_BYTES + length inner)) behind_header
      ∙ sym (drop-drop (length inner) DIRECTORY_BYTES (entries ++ body page.slots)) ∙ ap (drop (length inner)) (drop_at entries (body page.slots) DIRECTORY_BYTES long_directory)
      ∙ drop_at inner (replicate {A = ℕ} count 0) (length inner) refl in
      all ∙ ap (λ k. replicate {A = ℕ} k 0) (sym (length-replicate {A = ℕ} count 0) ∙ ap (λ (t : List ℕ). length t) (sym all))
