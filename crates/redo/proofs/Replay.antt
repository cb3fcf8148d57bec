-- The records of a stretch, applied by their LSNs in order.
use Rattle.std.proofs.Common.{◌≡◌, ℕ, zero, suc, ◌+◌, ◌-◌, ◌<◌, ◌≤◌, ◌^◌, Bool, true, false, cond, ◌&&◌, not, eqb, leb, ltb, List, [], ◌∷◌, ◌++◌, All, Option, Some, None, map, replicate, length, get_or, min, refl, sym, ap, ◌∙◌, subst, inl, inr, arith, length-append, eq-eqb, eqb-true, max}
use Rattle.std.specs.Prelude.{option_map}
use Rattle.std.specs.List.{fold, slice_get}
use Rattle.std.proofs.lemmas.Bool.{cases_Bool, cond_both, and_right, and_parts, le-leb, leb-true, lt-leb, false≢true, cases_lt}
use Rattle.std.proofs.lemmas.List.{length-map, get_or-map, ext_get_or}
use Rattle.std.proofs.lemmas.List.Elements.{All-push}
use Rattle.std.proofs.lemmas.List.Sums.{fold_push}
use Rattle.std.proofs.lemmas.Option.{slice_get-get_or, slice_get_within, same_Some}
use mathlib.Core.Path.{fun_ext}
use Rattle.page.specs.declared.page.Page.{Page}
use Rattle.page.specs.Store.{AreNumbered}
use Rattle.log_laws.specs.Records.{LogRecord, History, start, ◌▸◌, last_lsn, history, record_at, first, base_lsn}
use Rattle.log_laws.specs.Meaning.{cell_of}
use Rattle.std.proofs.lemmas.List.FromFn.{length-map-range_with_len, get_or-map-range_with_len}
use Rattle.log_laws.specs.Redo.{is_redone, applied, rec_lsn_of, slots_in, held_by}
use Rattle.log_laws.proofs.Histories.{behind, size_of_first, size_of_first_le, first_none, record_in_first, record_more, record_last, record_within, base_within, first_base}
use Rattle.redo.specs.declared.note.Note.{Note}
use Rattle.redo.specs.Changes.{RedoPage, page_named, lsn_in, IsNote, part_of_page, is_part, on_part, lsns_where, redo_page_at, advance, advance_by, step}
use Rattle.redo.specs.Parting.{AreMembers}
use Rattle.redo.specs.Inputs.{InputContent}
use Rattle.redo.specs.Parted.{PartedContent}
use Rattle.redo.specs.Routes.{skipped, skipped_in, Stands}
use Rattle.redo.specs.Parts.{redo_page_in, image_at, numbers_of, IsUpTo}
use Rattle.redo.proofs.Reading.{get_same}
use Rattle.redo.proofs.Routes.{lsns_none}
use Rattle.redo.proofs.Stretches.{skipped_within}
use Rattle.redo.proofs.Advance.{advanced, advance_had, advance_elsewhere, advance_count}
use Rattle.page.specs.declared.profile.TheConstants.{SLOTS}

-- a cell names its page
pub page_of_cell : (r : LogRecord) (page slot : ℕ) → cell_of r ≡ Some (page, slot) → page_named r ≡ Some page
page_of_cell r page slot e = ap (option_map (λ (x : ℕ × ℕ). x.0)) e

-- ONE MORE RECORD OF A STRETCH
pub lsns_more : (test : LogRecord → Bool) (from : ℕ) (log : History) (r : LogRecord) → from ≤ last_lsn log → lsns_where test from (log ▸ r) ≡ cond (test r) (lsns_where test from log ++ suc (last_lsn log) ∷ []) (lsns_where test from log)
lsns_more test from log r le = ap (λ b. cond (b && test r) (lsns_where test from log ++ suc (last_lsn log) ∷ []) (lsns_where test from log)) (le-leb from (last_lsn log) le)

-- a record on no page of a part changes none of them
off_part : (part_of : List ℕ) (part redo_lsn lsn : ℕ) (r : LogRecord) (p : RedoPage) → slice_get part_of p.page.number ≡ Some part → on_part part_of part r ≡ false → advance redo_lsn lsn r p ≡ p
off_part part_of part redo_lsn lsn r p here off =
    advance_elsewhere redo_lsn lsn r p
    (λ page named same.
    let given : on_part part_of part r ≡ true =
    ap (λ n. is_part part (part_of_page part_of n)) named ∙ (ap (λ n. is_part part (slice_get part_of n)) (sym same) ∙ (ap (is_part part) here ∙ eq-eqb part part refl)) in
    false≢true (sym off ∙ given))

-- the image itself, before any record
pub image_begun : (input : InputContent) (base : ℕ) (image : Page) → length image.slots ≡ SLOTS → redo_page_in input (start base) image ≡ record { page = image; rec_lsn = rec_lsn_of image.number input.dirty; applied = 0 }
image_begun input base image count =
    let slots : slots_in (held_by image) image.number ≡ image.slots =
    ext_get_or None (slots_in (held_by image) image.number) image.slots (length-map-range_with_len (held_by image image.number) 0 SLOTS ∙ sym count)
    (λ k lt. get_or-map-range_with_len (held_by image image.number) 0 SLOTS k k None (omega (arith, length-map-range_with_len (held_by image image.number) 0 SLOTS)) (omega arith)) in
    ap (λ xs. record { page = record { number = image.number; lsn = image.lsn; slots = xs }; rec_lsn = rec_lsn_of image.number input.dirty; applied = 0 }) slots

-- A STRETCH
module _ (parted : PartedContent) (part : ℕ) (image : Page) (here : slice_get parted.parting.part_of image.number ≡ Some part) where
  -- the LSNs of the stretch from the first m records to the first m + k, applied in order
  pub stretch : (m k : ℕ) → base_lsn (history parted.input.log) ≤ m → m + k ≤ last_lsn (history parted.input.log)
      → fold (step (history parted.input.log) parted.input.redo_lsn) (redo_page_in parted.input (first m (history parted.input.log)) image) (lsns_where (on_part parted.parting.part_of part) m (first (m + k) (history parted.input.log)))
      ≡ redo_page_in parted.input (first (m + k) (history parted.input.log)) image
  stretch m zero from le =
      let same : first (m + zero) (history parted.input.log) ≡ first m (history parted.input.log) = ap (λ n. first n (history parted.input.log)) (omega arith) in
      let none : lsns_where (on_part parted.parting.part_of part) m (first (m + zero) (history parted.input.log)) ≡ [] =
      lsns_none (on_part parted.parting.part_of part) m (first (m + zero) (history parted.input.log)) (omega (arith, size_of_first_le (m + zero) (history parted.input.log) (omega (arith, from)))) in
      ap (fold (step (history parted.input.log) parted.input.redo_lsn) (redo_page_in parted.input (first m (history parted.input.log)) image)) none ∙ ap (λ h. redo_page_in parted.input h image) (sym same)
  stretch m (suc k) from le =
      let whole = (history parted.input.log) in
      let log = first (m + k) (history parted.input.log) in
      let found = behind (history parted.input.log) (m + k) (omega (arith, from)) (omega (arith, le)) in
      let r = found.entry in
      let begun = redo_page_in parted.input (first m (history parted.input.log)) image in
      let test = on_part parted.parting.part_of part in
      let f = step whole parted.input.redo_lsn in
      let count : last_lsn log ≡ m + k = size_of_first (m + k) (history parted.input.log) (omega (arith, from)) (omega (arith, le)) in
      let next : first (m + suc k) (history parted.input.log) ≡ log ▸ r = ap (λ n. first n (history parted.input.log)) (omega arith) ∙ found.next in
      let lsns : lsns_where test m (first (m + suc k) (history parted.input.log)) ≡ cond (test r) (lsns_where test m log ++ suc (last_lsn log) ∷ []) (lsns_where test m log) =
      ap (lsns_where test m) next ∙ lsns_more test m log r (omega (arith, count)) in
      let before : fold f begun (lsns_where test m log) ≡ redo_page_in parted.input log image = stretch m k from (omega (arith, le)) in
      let after : redo_page_in parted.input (log ▸ r) image ≡ advance parted.input.redo_lsn (suc (last_lsn log)) r (redo_page_in parted.input log image) = advanced (rec_lsn_of image.number parted.input.dirty) parted.input.redo_lsn log r image in
      let there : record_at whole (suc (last_lsn log)) ≡ Some r = ap (record_at whole) (omega (arith, count)) ∙ found.there in
      elim (cases_Bool (test r)) [
        | inl is ↦
            (ap (fold f begun) (lsns ∙ ap (λ b. cond b (lsns_where test m log ++ suc (last_lsn log) ∷ []) (lsns_where test m log)) is)
            ∙ (fold_push f begun (lsns_where test m log) (suc (last_lsn log))
            ∙ (ap (λ p. f p (suc (last_lsn log))) before
            ∙ (ap (λ o. advance_by parted.input.redo_lsn (suc (last_lsn log)) o (redo_page_in parted.input log image)) there ∙ (sym after ∙ ap (λ h. redo_page_in parted.input h image) (sym next))))))
        | inr off ↦
            (ap (fold f begun) (lsns ∙ ap (λ b. cond b (lsns_where test m log ++ suc (last_lsn log) ∷ []) (lsns_where test m log)) off)
            ∙ (before
            ∙ (sym (off_part parted.parting.part_of part parted.input.redo_lsn (suc (last_lsn log)) r (redo_page_in parted.input log image) here off) ∙ (sym after ∙ ap (λ h. redo_page_in parted.input h image) (sym next)))))
      ]

-- a record of the log that passes a test
pub record IsFound (test : LogRecord → Bool) (log : History) (lsn : ℕ) : Type 0 where
  pub entry : LogRecord
  pub there : record_at log lsn ≡ Some entry
  pub passes : test entry ≡ true

-- WHAT REDO DOES NOT LOOK AT
not_looked_at : (rec_lsn : Option ℕ) (base redo_lsn len k n : ℕ) → n ≤ skipped base redo_lsn len → base < n → is_redone rec_lsn redo_lsn k n ≡ false
not_looked_at None base redo_lsn len k n le some = refl
not_looked_at (Some x) base redo_lsn len k n le some =
    and_right (leb x n) (not (eqb redo_lsn 0) && (leb redo_lsn n && ltb k n))
    (elim (cases_Bool (eqb redo_lsn 0)) [
      | inl z ↦ ap (λ b. not b && (leb redo_lsn n && ltb k n)) z
      | inr s ↦
          (let few : n ≤ max base (min len (redo_lsn - 1)) = subst (λ m. n ≤ m) (ap (λ b. cond b len (max base (min len (redo_lsn - 1)))) s) le in
          ap (λ b. not b && (leb redo_lsn n && ltb k n)) s ∙ ap (λ b. b && ltb k n) (lt-leb redo_lsn n (positive redo_lsn s (omega (arith, few, some)))))
    ])
  where
    positive : (r : ℕ) → eqb r 0 ≡ false → n ≤ r - 1 → n < r
    positive zero z le = absurd (false≢true (sym z))
    positive (suc r) z le = omega arith

-- a record that redo skips changes nothing
skips_one : (input : InputContent) (image : Page) (n : ℕ) → base_lsn (history input.log) ≤ n → suc n ≤ skipped_in input → suc n ≤ last_lsn (history input.log)
    → redo_page_in input (first n (history input.log)) image ≡ redo_page_in input (start (base_lsn (history input.log))) image
    → redo_page_in input (first (suc n) (history input.log)) image ≡ redo_page_in input (start (base_lsn (history input.log))) image
skips_one input image n from le within before =
    let log = first n (history input.log) in
    let found = behind (history input.log) n from (omega (arith, within)) in
    let r = found.entry in
    let count : last_lsn log ≡ n = size_of_first n (history input.log) from (omega (arith, within)) in
    let same : suc n ≡ n + 1 = omega arith in
    let next : first (suc n) (history input.log) ≡ log ▸ r = ap (λ k. first k (history input.log)) same ∙ found.next in
    ap (λ h. redo_page_in input h image) next
    ∙ (advanced (rec_lsn_of image.number input.dirty) input.redo_lsn log r image
    ∙ (advance_had input.redo_lsn (suc (last_lsn log)) r (redo_page_in input log image)
    (not_looked_at (rec_lsn_of image.number input.dirty) (base_lsn (history input.log)) input.redo_lsn (last_lsn (history input.log)) (redo_page_in input log image).page.lsn (suc (last_lsn log)) (omega (arith, count, le)) (omega (arith, count, from)))
    ∙ before))

-- the records that redo skips change nothing
pub skips_none : (input : InputContent) (image : Page) (n : ℕ) → n ≤ skipped_in input → n ≤ last_lsn (history input.log) → redo_page_in input (first n (history input.log)) image ≡ redo_page_in input (start (base_lsn (history input.log))) image
skips_none input image zero le within = ap (λ h. redo_page_in input h image) (first_none (history input.log))
skips_none input image (suc n) le within =
    elim (cases_lt (base_lsn (history input.log)) (suc n)) [
      | inl above ↦ skips_one input image n (omega (arith, above)) le within (skips_none input image n (omega (arith, le)) (omega (arith, within)))
      | inr low ↦ ap (λ h. redo_page_in input h image) (first_base (history input.log) (suc n) low)
    ]

-- COUNTS
pub applied_within : (rec_lsn : Option ℕ) (redo_lsn : ℕ) (image : Page) (log : History) → applied rec_lsn redo_lsn image log ≤ last_lsn log
applied_within rec_lsn redo_lsn image (start _) = omega arith
applied_within rec_lsn redo_lsn image (log ▸ r) =
    let fewer = applied_within rec_lsn redo_lsn image log in
    let more : (redo_page_at rec_lsn redo_lsn (log ▸ r) image).applied ≤ suc (applied rec_lsn redo_lsn image log) =
    subst (λ (p : RedoPage). p.applied ≤ suc (applied rec_lsn redo_lsn image log)) (sym (advanced rec_lsn redo_lsn log r image)) (advance_count redo_lsn (suc (last_lsn log)) r (redo_page_at rec_lsn redo_lsn log image)) in
    omega (arith, more, fewer)

pub lsns_few : (test : LogRecord → Bool) (from : ℕ) (log : History) → length (lsns_where test from log) ≤ last_lsn log - from
lsns_few test from (start _) = omega arith
lsns_few test from (log ▸ r) =
    cond_both (leb from (last_lsn log) && test r) (lsns_where test from log ++ suc (last_lsn log) ∷ []) (lsns_where test from log) (λ xs. length xs ≤ suc (last_lsn log) - from)
    (λ e.
    omega
    (arith, length-append (lsns_where test from log) (suc (last_lsn log) ∷ []), lsns_few test from log, leb-true from (last_lsn log) (and_parts (leb from (last_lsn log)) (test r) e).0))
    (λ _. omega (arith, lsns_few test from log))

-- THE PAGES OF A PART
-- what the LSNs of a part name, in a log that continues
pub lsns_found : (test : LogRecord → Bool) (from : ℕ) (log whole : History) → ((n : ℕ) (r : LogRecord) → record_at log n ≡ Some r → record_at whole n ≡ Some r)
    → All (λ lsn. IsFound test whole lsn) (lsns_where test from log)
lsns_found test from (start _) whole on = λ k d lt. absurd (omega arith)
lsns_found test from (log ▸ r) whole on =
    let rest = lsns_found test from log whole (λ n x e. on n x (record_more log r n x e)) in
    cond_both (leb from (last_lsn log) && test r) (lsns_where test from log ++ suc (last_lsn log) ∷ []) (lsns_where test from log) (All (λ lsn. IsFound test whole lsn))
    (λ e. All-push (λ lsn. IsFound test whole lsn) (lsns_where test from log) (suc (last_lsn log)) rest (record { entry = r; there = on (suc (last_lsn log)) r (record_last log r); passes = (and_parts (leb from (last_lsn log)) (test r) e).1 }))
    (λ _. rest)

-- what is in the log up to an LSN is in the log
found_first : (lsn : ℕ) (log : History) → base_lsn log ≤ lsn → lsn ≤ last_lsn log → (k : ℕ) (r : LogRecord) → record_at (first lsn log) k ≡ Some r → record_at log k ≡ Some r
found_first lsn log from le k r e = sym (record_in_first lsn log k (omega (arith, record_within (first lsn log) k r e, size_of_first lsn log from le))) ∙ e

-- an image has its number
pub image_number : (images : List Page) (number : ℕ) → AreNumbered images → number < length images → (image_at images number).number ≡ number
image_number images number numbered lt = numbered.at_place number (record { number = number; lsn = 0; slots = replicate SLOTS None }) lt

module _ (parted : PartedContent) (part : ℕ) (numbered : AreNumbered parted.input.images) (dealt : length parted.parting.part_of ≡ length parted.input.images) (fits : last_lsn (history parted.input.log) < 2 ^ 64) where
  -- a member has an image
  pub member_image : (members : List ℕ) → AreMembers parted.parting.part_of parted.parting.place_of part members → (k d : ℕ) → k < length members
      → (get_or members k d < length parted.input.images) × (slice_get parted.parting.part_of (image_at parted.input.images (get_or members k d)).number ≡ Some part)
  member_image members are k d lt =
      let m = get_or members k d in
      let given = (are.only k m (slice_get-get_or members k d lt)).0 in
      let within : m < length parted.input.images = omega (arith, slice_get_within parted.parting.part_of m part given, dealt) in (
        within,
        ap (slice_get parted.parting.part_of) (image_number parted.input.images m numbered within) ∙ given,
      )

  -- the pages have the members' numbers
  numbers_are : (members : List ℕ) (log : History) → AreMembers parted.parting.part_of parted.parting.place_of part members → numbers_of (map (λ number. redo_page_in parted.input log (image_at parted.input.images number)) members) ≡ members
  numbers_are members log are =
      let at : ℕ → RedoPage = λ number. redo_page_in parted.input log (image_at parted.input.images number) in
      ext_get_or 0 (numbers_of (map at members)) members (length-map (map at members) (λ (p : RedoPage). p.page.number) ∙ length-map members at)
      (λ k lt.
      let below : k < length members = omega (arith, length-map (map at members) (λ (p : RedoPage). p.page.number), length-map members at) in
      get_or-map (λ (p : RedoPage). p.page.number) (map at members) k (at 0) 0 (omega (arith, length-map members at))
      ∙ (ap (λ (p : RedoPage). p.page.number) (get_or-map at members k 0 (at 0) below) ∙ image_number parted.input.images (get_or members k 0) numbered (member_image members are k 0 below).0))

  -- the page of each noted record of the part is among them
  pub all_stand : (m n : ℕ) (ps : List RedoPage) (notes : List Note) → base_lsn (history parted.input.log) ≤ n → n ≤ last_lsn (history parted.input.log) → IsUpTo parted part m ps
      → map lsn_in notes ≡ lsns_where (on_part parted.parting.part_of part) m (first n (history parted.input.log)) → All (IsNote (history parted.input.log) parted.parting.place_of) notes
      → All (Stands (history parted.input.log) parted.parting.place_of (numbers_of ps)) notes
  all_stand m n ps notes from le up are noted k d lt =
      let log = first m (history parted.input.log) in
      let lsns = lsns_where (on_part parted.parting.part_of part) m (first n (history parted.input.log)) in
      let numbers : numbers_of ps ≡ up.members = ap numbers_of up.redone ∙ numbers_are up.members log up.are in
      let note = get_or notes k d in
      let is = noted k d lt in
      let lsn : get_or lsns k 0 ≡ note.lsn = sym (ap (λ xs. get_or xs k 0) are) ∙ get_or-map lsn_in notes k d 0 lt in
      let below : k < length lsns = omega (arith, lt, ap (λ (xs : List ℕ). length xs) are, length-map notes lsn_in) in
      let found = lsns_found (on_part parted.parting.part_of part) m (first n (history parted.input.log)) (history parted.input.log) (found_first n (history parted.input.log) from le) k 0 below in
      let same : found.entry ≡ is.entry = same_Some _ _ (sym found.there ∙ (ap (record_at (history parted.input.log)) lsn ∙ is.there)) in
      let named : page_named is.entry ≡ Some is.page = page_of_cell is.entry is.page note.slot is.cell in
      let given : slice_get parted.parting.part_of is.page ≡ Some part = part_is (slice_get parted.parting.part_of is.page) (sym (ap (λ o. is_part part (part_of_page parted.parting.part_of o)) (ap page_named same ∙ named)) ∙ found.passes) in
      let member = up.are.found is.page (omega (arith, slice_get_within parted.parting.part_of is.page part given, up.all)) given in
      record {
        entry = is.entry;
        there = is.there;
        page = is.page;
        cell = is.cell;
        small = is.small;
        alone = record {
          place = member.place;
          noted = member.noted;
          there = ap (λ xs. slice_get xs member.place) numbers ∙ member.there;
          only = λ j at. get_same parted.parting.place_of is.page j member.place (up.are.only j is.page (sym (ap (λ xs. slice_get xs j) numbers) ∙ at)).1 member.noted;
        };
        place = get_same parted.parting.place_of is.page note.place member.place is.place member.noted;
      }
    where
      part_is : (o : Option ℕ) → is_part part o ≡ true → o ≡ Some part
      part_is None e = absurd (cc)
      part_is (Some x) e = ap Some (eqb-true x part e)

  -- none of their counts can overflow
  pub all_room : (m n : ℕ) (ps : List RedoPage) → base_lsn (history parted.input.log) ≤ m → m ≤ n → n ≤ last_lsn (history parted.input.log) → IsUpTo parted part m ps
      → All (λ p. p.applied + length (lsns_where (on_part parted.parting.part_of part) m (first n (history parted.input.log))) < 2 ^ 64) ps
  all_room m n ps from less le up k d lt =
      let at : ℕ → RedoPage = λ number. redo_page_in parted.input (first m (history parted.input.log)) (image_at parted.input.images number) in
      let below : k < length up.members = omega (arith, ap length up.redone, length-map up.members at) in
      let is : get_or ps k d ≡ at (get_or up.members k 0) = ap (λ xs. get_or xs k d) up.redone ∙ get_or-map at up.members k 0 d below in
      let image = image_at parted.input.images (get_or up.members k 0) in
      let few = applied_within (rec_lsn_of image.number parted.input.dirty) parted.input.redo_lsn image (first m (history parted.input.log)) in
      let count : (get_or ps k d).applied ≡ applied (rec_lsn_of image.number parted.input.dirty) parted.input.redo_lsn image (first m (history parted.input.log)) = ap (λ (p : RedoPage). p.applied) is in
      omega (
        arith,
        few,
        count,
        lsns_few (on_part parted.parting.part_of part) m (first n (history parted.input.log)),
        size_of_first m (history parted.input.log) from (omega (arith, less, le)),
        size_of_first n (history parted.input.log) (omega (arith, from, less)) le,
        fits,
      )

  -- one more stretch
  pub further : (m n : ℕ) (old new : List RedoPage) → base_lsn (history parted.input.log) ≤ m → m ≤ n → n ≤ last_lsn (history parted.input.log) → IsUpTo parted part m old
      → new ≡ map (λ p. fold (step (history parted.input.log) parted.input.redo_lsn) p (lsns_where (on_part parted.parting.part_of part) m (first n (history parted.input.log)))) old → IsUpTo parted part n new
  further m n old new from less le up is =
      let lsns = lsns_where (on_part parted.parting.part_of part) m (first n (history parted.input.log)) in
      let run : RedoPage → RedoPage = λ p. fold (step (history parted.input.log) parted.input.redo_lsn) p lsns in
      let at : ℕ → ℕ → RedoPage = λ i number. redo_page_in parted.input (first i (history parted.input.log)) (image_at parted.input.images number) in
      let sum : m + (n - m) ≡ n = omega (arith, less) in
      record {
        members = up.members;
        are = up.are;
        all = up.all;
        redone = is
            ∙ (ap (map run) up.redone
            ∙ ext_get_or (at 0 0) (map run (map (at m) up.members)) (map (at n) up.members) (length-map (map (at m) up.members) run ∙ (length-map up.members (at m) ∙ sym (length-map up.members (at n))))
            (λ k lt.
            let below : k < length up.members = omega (arith, length-map (map (at m) up.members) run, length-map up.members (at m)) in
            let image = image_at parted.input.images (get_or up.members k 0) in
            let here = (member_image up.members up.are k 0 below).1 in
            get_or-map run (map (at m) up.members) k (at 0 0) (at 0 0) (omega (arith, length-map up.members (at m), below))
            ∙ (ap run (get_or-map (at m) up.members k 0 (at 0 0) below)
            ∙ (subst (λ i. fold (step (history parted.input.log) parted.input.redo_lsn) (at m (get_or up.members k 0)) (lsns_where (on_part parted.parting.part_of part) m (first i (history parted.input.log))) ≡ at i (get_or up.members k 0)) sum
            (stretch parted part image here m (n - m) from (omega (arith, less, le)))
            ∙ sym (get_or-map (at n) up.members k 0 (at 0 0) below)))));
      }

  -- redo begins with the images
  pub begins : (ps : List RedoPage) → IsUpTo parted part 0 ps → IsUpTo parted part (skipped_in parted.input) ps
  begins ps up =
      let at : ℕ → ℕ → RedoPage = λ i number. redo_page_in parted.input (first i (history parted.input.log)) (image_at parted.input.images number) in
      let same : at 0 ≡ at (skipped_in parted.input) =
      fun_ext (λ number. ap (λ h. redo_page_in parted.input h (image_at parted.input.images number)) (first_none (history parted.input.log)) ∙ sym (skips_none parted.input (image_at parted.input.images number) (skipped_in parted.input) (omega arith) (skipped_within (base_lsn (history parted.input.log)) parted.input.redo_lsn (last_lsn (history parted.input.log)) (base_within (history parted.input.log))))) in
      record { members = up.members; are = up.are; all = up.all; redone = up.redone ∙ ap (λ f. map f up.members) same }
