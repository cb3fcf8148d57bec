-- Pages by LSNs only: the page that a tally describes.
use Rattle.std.proofs.Common.{◌≡◌, ℕ, zero, suc, ◌<◌, false, cond, eqb, List, [], ◌∷◌, Option, Some, None, map, replicate, length, get_or, set, refl, sym, ap, ◌∙◌, inl, inr, arith, ne_eqb, eq-eqb}
use Rattle.std.specs.Prelude.{option_map}
use Rattle.std.specs.List.{slice_get}
use Rattle.std.proofs.lemmas.Bool.{cases_Bool}
use Rattle.std.proofs.lemmas.List.{length-map, get_or-map, map-set}
use Rattle.std.proofs.lemmas.Option.{same_Some}
use Rattle.page.specs.Image.{Image}
use Rattle.log_laws.specs.Records.{LogRecord, History, start, history, record_at}
use Rattle.log_laws.specs.Meaning.{cell_of, Change, change_of, image_put, image_of, image_in}
use Rattle.log_laws.specs.Redo.{is_redone, rec_lsn_of}
use Rattle.log_laws.proofs.Histories.{record_none}
use Rattle.redo.specs.declared.tally.Tally.{Tally}
use Rattle.redo.specs.declared.note.Note.{Note}
use Rattle.redo.specs.Changes.{RedoPage, put, changed_by, advance, advance_by, step, counted, held_after, slots_after}
use Rattle.redo.specs.Inputs.{InputContent}
use Rattle.redo.specs.Placed.{untouched}
use Rattle.redo.specs.Routes.{Stands}
use Rattle.redo.specs.Parts.{numbers_of, redo_page_in, image_at, resolved}
use Rattle.redo.proofs.Alone.{alone_within, put_alone}
use Rattle.redo.proofs.Replay.{image_begun, page_of_cell}
use Rattle.page.specs.declared.profile.TheConstants.{SLOTS}

-- no record is at the LSN 0
pub positive : (log : History) (lsn : ℕ) (r : LogRecord) → record_at log lsn ≡ Some r → eqb lsn 0 ≡ false
positive log zero r there = absurd (none (sym (record_none log zero (inl (omega arith))) ∙ there))
  where
    none : None ≡ Some r → ⊥
    none e = cc
positive log (suc n) r there = ne_eqb (suc n) 0 (λ e. omega (arith, e))

-- a record in a cell of a page puts its image there
pub does : (redo_lsn lsn : ℕ) (r : LogRecord) (page slot : ℕ) → cell_of r ≡ Some (page, slot) → (p : RedoPage) → page ≡ p.page.number → advance redo_lsn lsn r p ≡ put redo_lsn lsn slot (image_of r) p
does redo_lsn lsn r page slot e p here = by (change_of r) e
  where
    by : (o : Option Change) → ◌≡◌ {A = Option (ℕ × ℕ)} (option_map (λ c. (c.page, c.slot)) o) (Some (page, slot)) → changed_by redo_lsn lsn o p ≡ put redo_lsn lsn slot (image_put o) p
    by None e = absurd (cc)
    by (Some c) e =
        let own : c.page ≡ page = ap (λ (x : ℕ × ℕ). x.0) (same_Some _ _ e) in
        let at : c.slot ≡ slot = ap (λ (x : ℕ × ℕ). x.1) (same_Some _ _ e) in
        ap (λ b. cond b (put redo_lsn lsn c.slot c.image p) p) (eq-eqb c.page p.page.number (own ∙ here)) ∙ ap (λ s. put redo_lsn lsn s c.image p) at

-- SLOTS
-- one LSN changed is one slot changed
slots_set : (log : History) (ls : List ℕ) (xs : List Image) (i l : ℕ) (v : Image) → ((x : Image) → held_after log l x ≡ v) → slots_after log (set ls i l) xs ≡ set (slots_after log ls xs) i v
slots_set log ls [] i l v h = refl
slots_set log [] (x ∷ xs) i l v h = refl
slots_set log (a ∷ ls) (x ∷ xs) zero l v h = ap (λ y. y ∷ slots_after log ls xs) (h x)
slots_set log (a ∷ ls) (x ∷ xs) (suc i) l v h = ap (λ ys. held_after log a x ∷ ys) (slots_set log ls xs i l v h)

-- no LSN changes nothing
slots_none : (log : History) (xs : List Image) → slots_after log (replicate (length xs) 0) xs ≡ xs
slots_none log [] = refl
slots_none log (x ∷ xs) = ap (λ ys. x ∷ ys) (slots_none log xs)

-- one of them
pub held_none : (log : History) (lsn : ℕ) (image : Image) → lsn ≡ 0 → held_after log lsn image ≡ image
held_none log lsn image none = ap (λ b. cond b image (image_in (record_at log lsn))) (eq-eqb lsn 0 none)

pub held_some : (log : History) (lsn : ℕ) (image : Image) → (lsn ≡ 0 → ⊥) → held_after log lsn image ≡ image_in (record_at log lsn)
held_some log lsn image some = ap (λ b. cond b image (image_in (record_at log lsn))) (ne_eqb lsn 0 some)

-- slot by slot
pub slot_after : (log : History) (ls : List ℕ) (xs : List Image) (k : ℕ) → k < length ls → k < length xs → get_or (slots_after log ls xs) k None ≡ held_after log (get_or ls k 0) (get_or xs k None)
slot_after log ls [] k a b = absurd (omega arith)
slot_after log [] (x ∷ xs) k a b = absurd (omega arith)
slot_after log (l ∷ ls) (x ∷ xs) zero a b = refl
slot_after log (l ∷ ls) (x ∷ xs) (suc k) a b = slot_after log ls xs k (omega (arith, a)) (omega (arith, b))

pub slots_count : (log : History) (ls : List ℕ) (xs : List Image) → length ls ≡ length xs → length (slots_after log ls xs) ≡ length xs
slots_count log ls [] e = refl
slots_count log [] (x ∷ xs) e = absurd (omega (arith, e))
slots_count log (l ∷ ls) (x ∷ xs) e = ap suc (slots_count log ls xs (omega (arith, e)))

-- ONE MORE RECORD
pub counted_put : (input : InputContent) (redo_lsn lsn slot : ℕ) (r : LogRecord) (t : Tally) → record_at (history input.log) lsn ≡ Some r
    → resolved input (counted redo_lsn lsn slot t) ≡ put redo_lsn lsn slot (image_of r) (resolved input t)
counted_put input redo_lsn lsn slot r t there =
    elim (cases_Bool (is_redone t.rec_lsn redo_lsn t.lsn lsn)) [
      | inl lacking ↦
          (let held : (x : Image) → held_after (history input.log) lsn x ≡ image_of r =
          λ x. ap (λ b. cond b x (image_in (record_at (history input.log) lsn))) (positive (history input.log) lsn r there) ∙ ap image_in there in
          let slots = slots_set (history input.log) t.lasts (image_at input.images t.number).slots slot lsn (image_of r) held in
          rw lacking (ap (λ xs. record { page = record { number = t.number; lsn = lsn; slots = xs }; rec_lsn = t.rec_lsn; applied = suc t.applied }) slots))
      | inr over ↦ rw over refl
    ]

-- a noted record, counted for its page, is that record applied to the pages
pub counted_alone : (input : InputContent) (place_of : List ℕ) (ts new : List Tally) (n : Note) → Stands (history input.log) place_of (numbers_of (map (resolved input) ts)) n
    → ((d : Tally) → new ≡ set ts n.place (counted input.redo_lsn n.lsn n.slot (get_or ts n.place d)))
    → map (resolved input) new ≡ map (λ p. step (history input.log) input.redo_lsn p n.lsn) (map (resolved input) ts)
counted_alone input place_of [] new n stands is = absurd (let lt = alone_within place_of [] stands.page stands.alone in omega arith)
counted_alone input place_of (q ∷ qs) new n stands is =
    let ts = q ∷ qs in
    let ps = map (resolved input) ts in
    let r = stands.entry in
    let value = image_of r in
    let long : n.place < length ts = omega (arith, alone_within place_of ps stands.page stands.alone, stands.place, length-map ts (resolved input)) in
    let noted : slice_get place_of stands.page ≡ Some n.place = stands.alone.noted ∙ ap Some (sym stands.place) in
    let one : resolved input (counted input.redo_lsn n.lsn n.slot (get_or ts n.place q)) ≡ put input.redo_lsn n.lsn n.slot value (resolved input (get_or ts n.place q)) =
    counted_put input input.redo_lsn n.lsn n.slot r (get_or ts n.place q) stands.there in
    let written : (d : RedoPage) → map (resolved input) new ≡ set ps n.place (put input.redo_lsn n.lsn n.slot value (get_or ps n.place d)) =
    λ d. ap (map (resolved input)) (is q)
    ∙ (map-set (resolved input) ts n.place (counted input.redo_lsn n.lsn n.slot (get_or ts n.place q))
    ∙ ap (λ p. set ps n.place p) (one ∙ ap (put input.redo_lsn n.lsn n.slot value) (sym (get_or-map (resolved input) ts n.place q d long)))) in
    put_alone input.redo_lsn n.lsn n.slot value r place_of ps (map (resolved input) new) stands.page n.place stands.alone noted (page_of_cell r stands.page n.slot stands.cell)
    (does input.redo_lsn n.lsn r stands.page n.slot stands.cell) written
    ∙ ap (λ o. map (advance_by input.redo_lsn n.lsn o) ps) (sym stands.there)

-- AT THE BEGINNING
pub begun_page : (input : InputContent) (base number : ℕ) (rec_lsn : Option ℕ) → (image_at input.images number).number ≡ number → length (image_at input.images number).slots ≡ SLOTS → rec_lsn ≡ rec_lsn_of number input.dirty
    → resolved input (untouched number (image_at input.images number).lsn rec_lsn) ≡ redo_page_in input (start base) (image_at input.images number)
begun_page input base number rec_lsn own count listed =
    let image = image_at input.images number in
    let slots : slots_after (history input.log) (replicate SLOTS 0) image.slots ≡ image.slots =
    ap (λ n. slots_after (history input.log) (replicate n 0) image.slots) (sym count) ∙ slots_none (history input.log) image.slots in
    ap (λ xs. record { page = record { number = number; lsn = image.lsn; slots = xs }; rec_lsn = rec_lsn; applied = 0 }) slots
    ∙ (ap (λ n. record { page = record { number = n; lsn = image.lsn; slots = image.slots }; rec_lsn = rec_lsn; applied = 0 }) (sym own)
    ∙ (ap (λ o. record { page = image; rec_lsn = o; applied = 0 }) (listed ∙ ap (λ n. rec_lsn_of n input.dirty) (sym own)) ∙ sym (image_begun input base image count)))
