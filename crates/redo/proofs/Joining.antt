-- The tallies of two stretches of a log as those of both.
use Rattle.std.proofs.Common.{◌≡◌, ℕ, suc, ◌+◌, ◌<◌, ◌≤◌, true, false, Bool, cond, ◌&&◌, not, eqb, leb, ltb, ◌-◌, ◌⊎◌, List, [], ◌∷◌, Option, None, Some, map, length, get_or, refl, sym, ap, ap₂, ◌∙◌, subst, inl, inr, arith, ne_eqb, eq-eqb, eqb-true}
use Rattle.std.specs.List.{range_with_len}
use Rattle.std.proofs.lemmas.Bool.{cases_Bool, cases_lt, cond_both, and_parts, le-leb, false≢true}
use Rattle.std.proofs.lemmas.List.{ext_get_or, get_or_past}
use Rattle.std.proofs.lemmas.List.FromFn.{length-map-range_with_len, get_or-map-range_with_len}
use Rattle.page.specs.Image.{Image}
use Rattle.page.specs.declared.page.Page.{Page}
use Rattle.page.specs.Store.{AreNumbered}
use Rattle.page.specs.declared.profile.TheConstants.{SLOTS}
use Rattle.log_laws.specs.Records.{LogContent, History, history, record_at, first, base_lsn, last_lsn}
use Rattle.log_laws.specs.Meaning.{effects}
use Rattle.log_laws.specs.Redo.{rec_lsn_of, is_redone, last_where, applied, slots_in, held_by}
use Rattle.log_laws.proofs.Histories.{first_base, first_first, record_none, record_in_first, base_of_first, size_of_first_le}
use Rattle.tables.specs.Tables.{TablesContent}
use Rattle.redo.specs.declared.tally.Tally.{Tally}
use Rattle.redo.specs.Inputs.{InputContent, input_over}
use Rattle.redo.specs.Changes.{RedoPage, held_after, slots_after}
use Rattle.redo.specs.Parts.{redo_page_in, image_at, resolved}
use Rattle.redo.specs.Counted.{last_in_cell, lasts_in, is_applied, AreCounted}
use Rattle.redo.specs.Passing.{AreScanned, ListEach}
use Rattle.redo.specs.Joined.{last_joined, lasts_joined, joined, Continue}
use Rattle.redo.proofs.Advance.{redone_above}
use Rattle.redo.proofs.Counted.{not_applied}
use Rattle.redo.proofs.Passing.{redone_after}
use Rattle.redo.proofs.Replay.{image_number}
use Rattle.redo.proofs.Slots.{same_below}
use Rattle.redo.proofs.Tallies.{slot_after}
use Rattle.redo.proofs.LastInCell.{held_by_last, last_two, count_two, lsn_two, none_last, lacks_two}

-- THE PAGE of a tally that has the PageLSN, the count and the last records of a page redone
-- slots that are given an LSN each are as many, if the image has as many
slots_long : (log : History) (ls : List ℕ) (xs : List Image) → length ls ≤ length xs → length (slots_after log ls xs) ≡ length ls
slots_long log [] [] le = refl
slots_long log [] (x ∷ xs) le = refl
slots_long log (l ∷ ls) [] le = absurd (omega (arith, le))
slots_long log (l ∷ ls) (x ∷ xs) le = ap suc (slots_long log ls xs (omega (arith, le)))

slots_fit : (log : History) (ls : List ℕ) (xs : List Image) → length ls ≤ length (slots_after log ls xs) → length ls ≤ length xs
slots_fit log [] xs le = omega arith
slots_fit log (l ∷ ls) [] le = absurd (omega (arith, le))
slots_fit log (l ∷ ls) (x ∷ xs) le = omega (arith, slots_fit log ls xs (omega (arith, le)))

module _ (whole log : History) (chosen : ℕ → Bool) (image : Page) (wide : SLOTS ≤ length image.slots) (same : (n : ℕ) → n ≤ last_lsn log → record_at whole n ≡ record_at log n) where
  slots_by_lasts : slots_after whole (lasts_in chosen image.number log) image.slots ≡ slots_in (effects (λ n _. chosen n) (held_by image) log) image.number
  slots_by_lasts =
      let f : ℕ → ℕ = λ slot. last_in_cell chosen image.number slot log in
      let g : ℕ → Image = effects (λ n _. chosen n) (held_by image) log image.number in
      let none : Image = None in
      let count = length-map-range_with_len f 0 SLOTS in
      let long = slots_long whole (lasts_in chosen image.number log) image.slots (omega (arith, count, wide)) in
      ext_get_or none (slots_after whole (lasts_in chosen image.number log) image.slots) (map g (range_with_len 0 SLOTS)) (long ∙ count ∙ sym (length-map-range_with_len g 0 SLOTS))
      (λ k lt.
      let below : k < SLOTS = omega (arith, lt, long, count) in
      slot_after whole (lasts_in chosen image.number log) image.slots k (omega (arith, below, count)) (omega (arith, below, wide))
      ∙ ap (λ l. held_after whole l (get_or image.slots k none)) (get_or-map-range_with_len f 0 SLOTS k k 0 below (omega arith))
      ∙ held_by_last whole log chosen (held_by image) image.number k (get_or image.slots k none) same refl
      ∙ sym (get_or-map-range_with_len g 0 SLOTS k k none below (omega arith)))

-- up to its last LSN the first part of a log has the records of the log
same_front : (to : ℕ) (log : History) (n : ℕ) → n ≤ last_lsn (first to log) → record_at log n ≡ record_at (first to log) n
same_front to log n le =
    elim (cases_lt to (base_lsn log)) [
      | inl low ↦
          (let end : last_lsn (first to log) ≡ base_lsn log = ap last_lsn (first_base log to (omega (arith, low))) in
          record_none log n (inl (omega (arith, le, end))) ∙ sym (record_none (first to log) n (inl (omega (arith, le, end, base_of_first to log)))))
      | inr from ↦ sym (record_in_first to log n (omega (arith, le, size_of_first_le to log from)))
    ]

-- the tally has all that redo makes of the image
record IsExact (rec_lsn : Option ℕ) (redo_lsn : ℕ) (log : History) (image : Page) (t : Tally) : Type 0 where
  number : t.number ≡ image.number
  lsn : t.lsn ≡ last_where (is_redone rec_lsn redo_lsn image.lsn) image.number image.lsn log
  listed : t.rec_lsn ≡ rec_lsn
  count : t.applied ≡ applied rec_lsn redo_lsn image log
  lasts : t.lasts ≡ lasts_in (is_redone rec_lsn redo_lsn image.lsn) image.number log

described : (input : InputContent) (log : History) (image : Page) (t : Tally) → image_at input.images t.number ≡ image → SLOTS ≤ length image.slots
    → ((n : ℕ) → n ≤ last_lsn log → record_at (history input.log) n ≡ record_at log n) → IsExact (rec_lsn_of image.number input.dirty) input.redo_lsn log image t → resolved input t ≡ redo_page_in input log image
described input log image t own wide same exact =
    let whole = history input.log in
    let rec_lsn = rec_lsn_of image.number input.dirty in
    let chosen = is_redone rec_lsn input.redo_lsn image.lsn in
    let slots : slots_after whole t.lasts (image_at input.images t.number).slots ≡ slots_in (effects (λ n _. chosen n) (held_by image) log) image.number =
    ap (λ (p : Page). slots_after whole t.lasts p.slots) own ∙ ap (λ ls. slots_after whole ls image.slots) exact.lasts ∙ slots_by_lasts whole log chosen image wide same in
    ap (λ xs. record { page = record { number = t.number; lsn = t.lsn; slots = xs }; rec_lsn = t.rec_lsn; applied = t.applied }) slots
    ∙ ap₂ (λ n l. record { page = record { number = n; lsn = l; slots = slots_in (effects (λ n _. chosen n) (held_by image) log) image.number }; rec_lsn = t.rec_lsn; applied = t.applied }) exact.number exact.lsn
    ∙ ap₂ (λ o a. record { page = record { number = image.number; lsn = last_where chosen image.number image.lsn log; slots = slots_in (effects (λ n _. chosen n) (held_by image) log) image.number }; rec_lsn = o; applied = a }) exact.listed exact.count

-- what is counted is exact
module _ (input : InputContent) (lsn : ℕ) (tallies : List Tally) (up : AreCounted input lsn tallies) (k : ℕ) (t : Tally) (lt : k < length input.images) where
  exact_at : let image = image_at input.images k in IsExact (rec_lsn_of image.number input.dirty) input.redo_lsn (first lsn (history input.log)) image (get_or tallies k t)
  exact_at =
      let page = up.redone.each k t lt in
      record {
        number = ap (λ (p : RedoPage). p.page.number) page;
        lsn = ap (λ (p : RedoPage). p.page.lsn) page;
        listed = ap (λ (p : RedoPage). p.rec_lsn) page;
        count = ap (λ (p : RedoPage). p.applied) page;
        lasts = up.lasts k t lt;
      }

  -- and the image has all its slots
  wide_at : AreNumbered input.images → SLOTS ≤ length (image_at input.images k).slots
  wide_at numbered =
      let image = image_at input.images k in
      let old = get_or tallies k t in
      let whole = history input.log in
      let chosen = is_applied input.dirty input.redo_lsn image in
      let log = first lsn whole in
      let own : image_at input.images old.number ≡ image = ap (image_at input.images) (exact_at.number ∙ image_number input.images k numbered lt) in
      let slots : slots_after whole old.lasts (image_at input.images old.number).slots ≡ slots_in (effects (λ n _. chosen n) (held_by image) log) image.number = ap (λ (p : RedoPage). p.page.slots) (up.redone.each k t lt) in
      let all = ap (λ (xs : List Image). length xs) slots ∙ length-map-range_with_len (effects (λ n _. chosen n) (held_by image) log image.number) 0 SLOTS in
      let count = ap (λ (xs : List ℕ). length xs) (up.lasts k t lt) ∙ length-map-range_with_len (λ slot. last_in_cell chosen image.number slot log) 0 SLOTS in
      omega (arith, count, ap (λ (p : Page). length p.slots) own, slots_fit whole old.lasts (image_at input.images old.number).slots (omega (arith, all, count)))

-- TWO STRETCHES of a page
-- if records were applied in both
abbrev both_of : (earlier later : Tally) → Tally
both_of earlier later = record { number = earlier.number; lsn = later.lsn; rec_lsn = earlier.rec_lsn; applied = earlier.applied + later.applied; lasts = lasts_joined earlier.lasts later.lasts }

module _ (rec_lsn other : Option ℕ) (redo_lsn begins : ℕ) (image : Page) (mid : ℕ) (after : (n : ℕ) → mid < n → is_redone other begins image.lsn n ≡ is_redone rec_lsn redo_lsn image.lsn n)
    (up_to : (n : ℕ) → n ≤ mid → is_redone other begins image.lsn n ≡ false) (log : History) (earlier later : Tally) (front : IsExact rec_lsn redo_lsn (first mid log) image earlier) (end : IsExact other begins log image later) where
  abbrev chosen : ℕ → Bool
  chosen = is_redone rec_lsn redo_lsn image.lsn

  abbrev rest : ℕ → Bool
  rest = is_redone other begins image.lsn

  -- the last record of a slot
  slot_two : (slot : ℕ) → last_in_cell chosen image.number slot log ≡ cond (eqb (last_in_cell rest image.number slot log) 0) (last_in_cell chosen image.number slot (first mid log)) (last_in_cell rest image.number slot log)
  slot_two slot = last_two chosen rest mid after up_to image.number slot log

  -- no record is applied in the later stretch
  none_joined : applied other begins image log ≡ 0 → IsExact rec_lsn redo_lsn log image earlier
  none_joined none =
      let front_lsn = last_where chosen image.number image.lsn (first mid log) in
      let end_lsn = last_where rest image.number image.lsn log in
      record {
        number = front.number;
        lsn = front.lsn ∙ sym (lsn_two rec_lsn other redo_lsn begins image mid after up_to log ∙ ap (λ k. cond (eqb k 0) front_lsn end_lsn) none);
        listed = front.listed;
        count = omega (arith, front.count, count_two rec_lsn other redo_lsn begins image mid after up_to log, none);
        lasts = front.lasts
            ∙ same_below (λ _ slot. last_in_cell chosen image.number slot (first mid log)) (λ _ slot. last_in_cell chosen image.number slot log) image.number
            (λ slot lt. sym (slot_two slot ∙ ap (λ k. cond (eqb k 0) (last_in_cell chosen image.number slot (first mid log)) k) (none_last rec_lsn other redo_lsn begins image mid after up_to slot log none)));
      }

  -- some are
  abbrev both : Tally
  both = both_of earlier later

  some_joined : (applied other begins image log ≡ 0 → ⊥) → IsExact rec_lsn redo_lsn log image both
  some_joined some =
      let front_lsn = last_where chosen image.number image.lsn (first mid log) in
      let end_lsn = last_where rest image.number image.lsn log in
      let f : ℕ → ℕ = λ slot. last_in_cell chosen image.number slot (first mid log) in
      let g : ℕ → ℕ = λ slot. last_in_cell rest image.number slot log in
      record {
        number = front.number;
        lsn = end.lsn ∙ sym (lsn_two rec_lsn other redo_lsn begins image mid after up_to log ∙ ap (λ b. cond b front_lsn end_lsn) (ne_eqb (applied other begins image log) 0 some));
        listed = front.listed;
        count = omega (arith, front.count, end.count, count_two rec_lsn other redo_lsn begins image mid after up_to log);
        lasts = same_below (λ _ slot. cond (eqb (get_or later.lasts slot 0) 0) (get_or earlier.lasts slot 0) (get_or later.lasts slot 0)) (λ _ slot. last_in_cell chosen image.number slot log) image.number
            (λ slot lt.
            let one : get_or earlier.lasts slot 0 ≡ f slot = ap (λ xs. get_or xs slot 0) front.lasts ∙ get_or-map-range_with_len f 0 SLOTS slot slot 0 lt (omega arith) in
            let two : get_or later.lasts slot 0 ≡ g slot = ap (λ xs. get_or xs slot 0) end.lasts ∙ get_or-map-range_with_len g 0 SLOTS slot slot 0 lt (omega arith) in
            ap₂ (λ a b. cond (eqb b 0) a b) one two ∙ sym (slot_two slot));
      }

  exact_joined : IsExact rec_lsn redo_lsn log image (joined redo_lsn earlier later)
  exact_joined =
      elim (cases_Bool (eqb later.applied 0)) [
        | inl z ↦
            subst (IsExact rec_lsn redo_lsn log image) (sym (ap (λ b. cond (not b && is_redone earlier.rec_lsn redo_lsn earlier.lsn later.lsn) both earlier) z)) (none_joined (sym end.count ∙ eqb-true later.applied 0 z))
        | inr s ↦
            (let some : applied other begins image log ≡ 0 → ⊥ = λ none. false≢true (sym s ∙ eq-eqb later.applied 0 (end.count ∙ none)) in
            let lacks : is_redone earlier.rec_lsn redo_lsn earlier.lsn later.lsn ≡ true =
            ap₂ (λ o l. is_redone o redo_lsn l later.lsn) front.listed front.lsn ∙ ap (is_redone rec_lsn redo_lsn (last_where chosen image.number image.lsn (first mid log))) end.lsn
            ∙ lacks_two rec_lsn other redo_lsn begins image mid after up_to log some in
            subst (IsExact rec_lsn redo_lsn log image) (sym (ap₂ (λ b c. cond (not b && c) both earlier) s lacks)) (some_joined some))
      ]

-- TWO STRETCHES of all pages
module _ (log : LogContent) (images : List Page) (tables others : TablesContent) (from to : ℕ) (earlier later new : List Tally) (on : Continue images from tables others) (le : from ≤ to)
    (front : AreCounted (input_over log images tables) from earlier) (end : AreCounted (input_over log images others) to later) where
  pub all_joined : length new ≡ length earlier → ((k : ℕ) (t : Tally) → k < length earlier → get_or new k t ≡ joined tables.redo_lsn (get_or earlier k t) (get_or later k t)) → AreCounted (input_over log images tables) to new
  all_joined count each = record {
    redone = record {
      count = count ∙ front.redone.count;
      each = λ k t lt.
          let input = input_over log images tables in
          let image = image_at images k in
          let exact = exact_new k t lt in
          described input (first to (history log)) image (get_or new k t) (ap (image_at images) (exact.number ∙ image_number images k on.numbered lt)) (wide_at input from earlier front k t lt on.numbered)
          (same_front to (history log)) exact;
    };
    lasts = λ k t lt. (exact_new k t lt).lasts;
  }
    where
      exact_new : (k : ℕ) (t : Tally) → k < length images → let image = image_at images k in IsExact (rec_lsn_of image.number tables.dirty) tables.redo_lsn (first to (history log)) image (get_or new k t)
      exact_new k t lt =
          let image = image_at images k in
          let rec_lsn = rec_lsn_of image.number tables.dirty in
          let h = first to (history log) in
          let first_one = exact_at (input_over log images tables) from earlier front k t lt in
          subst (IsExact rec_lsn tables.redo_lsn h image) (sym (each k t (omega (arith, lt, front.redone.count))))
          (exact_joined rec_lsn (rec_lsn_of image.number others.dirty) tables.redo_lsn others.redo_lsn image from (λ n past. on.after k n lt past) (λ n low. on.up_to k n lt low) h (get_or earlier k t) (get_or later k t)
          (subst (λ x. IsExact rec_lsn tables.redo_lsn x image (get_or earlier k t)) (sym (first_first from to (history log) le)) first_one)
          (exact_at (input_over log images others) to later end k t lt))

-- A SCAN joined page by page
-- what holds for the earlier tally, and for both together, holds for the joined one
joined_has : (P : Tally → Type 0) (redo_lsn : ℕ) (earlier later : Tally) → P earlier
    → ((later.applied ≡ 0 → ⊥) → is_redone earlier.rec_lsn redo_lsn earlier.lsn later.lsn ≡ true → P (both_of earlier later)) → P (joined redo_lsn earlier later)
joined_has P redo_lsn earlier later one two =
    let lacks = is_redone earlier.rec_lsn redo_lsn earlier.lsn later.lsn in
    cond_both (not (eqb later.applied 0) && lacks) (both_of earlier later) earlier P
    (λ e. (let parts = and_parts (not (eqb later.applied 0)) lacks e in two (λ z. false≢true (sym (ap not (eq-eqb later.applied 0 z)) ∙ parts.0)) parts.1))
    (λ _. one)

lasts_within : (earlier later : List ℕ) (slot most : ℕ) → get_or earlier slot 0 ≤ most → get_or later slot 0 ≤ most → get_or (lasts_joined earlier later) slot 0 ≤ most
lasts_within earlier later slot most one two =
    let f : ℕ → ℕ = λ k. last_joined (get_or earlier k 0) (get_or later k 0) in
    elim (cases_lt slot SLOTS) [
      | inl lt ↦
          (let at : get_or (lasts_joined earlier later) slot 0 ≡ f slot = get_or-map-range_with_len f 0 SLOTS slot slot 0 lt (omega arith) in
          let few : f slot ≤ most = cond_both (eqb (get_or later slot 0) 0) (get_or earlier slot 0) (get_or later slot 0) (λ n. n ≤ most) (λ _. one) (λ _. two) in
          omega (arith, at, few))
      | inr ge ↦ omega (arith, get_or_past (lasts_joined earlier later) slot 0 (omega (arith, length-map-range_with_len f 0 SLOTS, ge)))
    ]

module _ (redo_lsn base upto others begins to : ℕ) (earlier later : List Tally) (front : AreScanned redo_lsn base upto earlier) (end : AreScanned others begins to later) (le : upto ≤ begins)
    (pages : length later ≡ length earlier) where
  -- no count is too large
  pub joined_few : (k : ℕ) (t : Tally) → k < length earlier → (get_or earlier k t).applied + (get_or later k t).applied ≤ to - base
  joined_few k t lt = omega (arith, front.few k t lt, end.few k t (omega (arith, lt, pages)), front.rising, end.rising, le)

  pub scanned_joined : (new : List Tally) → length new ≡ length earlier
      → ((k : ℕ) (t : Tally) → k < length earlier → (get_or new k t ≡ get_or earlier k t) ⊎ (get_or new k t ≡ joined redo_lsn (get_or earlier k t) (get_or later k t))) → AreScanned redo_lsn base to new
  scanned_joined new count each = record {
    numbered = λ k t lt. page_has (λ x. x.number ≡ k) k t (below lt) (front.numbered k t (below lt)) (λ _ _. front.numbered k t (below lt));
    rising = omega (arith, front.rising, end.rising, le);
    few = λ k t lt. page_has (λ x. x.applied ≤ to - base) k t (below lt) (omega (arith, front.few k t (below lt), end.rising, le)) (λ _ _. joined_few k t (below lt));
    lasts = λ k slot t lt.
        page_has (λ x. get_or x.lasts slot 0 ≤ to) k t (below lt) (omega (arith, front.lasts k slot t (below lt), end.rising, le))
        (λ _ _. lasts_within (get_or earlier k t).lasts (get_or later k t).lasts slot to (omega (arith, front.lasts k slot t (below lt), end.rising, le)) (end.lasts k slot t (omega (arith, below lt, pages))));
    later = λ lsn past k t lt.
        page_has (λ x. (x.applied ≡ 0 → ⊥) → is_redone x.rec_lsn redo_lsn x.lsn lsn ≡ true) k t (below lt) (front.later lsn (omega (arith, past, end.rising, le)) k t (below lt))
        (λ some lacks _.
        let old = get_or earlier k t in
        let rest = get_or later k t in
        let above = redone_above rest.rec_lsn others rest.lsn lsn (end.later lsn past k t (omega (arith, below lt, pages)) some) in
        redone_after old.rec_lsn redo_lsn old.lsn rest.lsn rest.lsn lsn lacks (omega (arith, above)) above);
  }
    where
      below : {k : ℕ} → k < length new → k < length earlier
      below lt = omega (arith, lt, count)

      page_has : (P : Tally → Type 0) (k : ℕ) (t : Tally) → k < length earlier → P (get_or earlier k t)
          → (((get_or later k t).applied ≡ 0 → ⊥) → is_redone (get_or earlier k t).rec_lsn redo_lsn (get_or earlier k t).lsn (get_or later k t).lsn ≡ true → P (both_of (get_or earlier k t) (get_or later k t))) → P (get_or new k t)
      page_has P k t lt one two =
          elim (each k t lt) [
            | inl same ↦ subst P (sym same) one
            | inr is ↦ subst P (sym is) (joined_has P redo_lsn (get_or earlier k t) (get_or later k t) one two)
          ]

-- WHICH TABLES CONTINUE OTHERS after an LSN: those of which redo_lsn is the next LSN
some_begun : (redo_lsn k n : ℕ) (b : Bool) → 0 < redo_lsn → redo_lsn ≤ n → (b && (not (eqb redo_lsn 0) && (leb redo_lsn n && ltb k n))) ≡ (b && ltb k n)
some_begun redo_lsn k n b some le =
    ap (λ c. b && (not (eqb redo_lsn 0) && (c && ltb k n))) (le-leb redo_lsn n le) ∙ ap (λ c. b && (not c && ltb k n)) (ne_eqb redo_lsn 0 (λ e. omega (arith, some, e)))

listed_begun : (rec_lsn : Option ℕ) (one two k n : ℕ) → 0 < one → one ≤ n → 0 < two → two ≤ n → is_redone rec_lsn one k n ≡ is_redone rec_lsn two k n
listed_begun None one two k n a b c d = refl
listed_begun (Some x) one two k n a b c d = some_begun one k n (leb x n) a b ∙ sym (some_begun two k n (leb x n) c d)

-- with the same dirty page table
pub dirty_continue : (images : List Page) (from : ℕ) (tables others : TablesContent) → AreNumbered images → others.dirty ≡ tables.dirty → 0 < tables.redo_lsn → tables.redo_lsn ≤ from + 1 → others.redo_lsn ≡ from + 1 → Continue images from tables others
dirty_continue images from tables others numbered dirty some le next = record {
  numbered = numbered;
  after = λ page n lt past.
      let image = image_at images page in
      ap (λ ds. is_applied ds others.redo_lsn image n) dirty
      ∙ listed_begun (rec_lsn_of image.number tables.dirty) others.redo_lsn tables.redo_lsn image.lsn n (omega (arith, next)) (omega (arith, next, past)) some (omega (arith, le, past));
  up_to = λ page n lt low.
      let image = image_at images page in
      not_applied (rec_lsn_of image.number others.dirty) others.redo_lsn image.lsn n (λ looked. omega (arith, looked.1, next, low));
}

-- if both list each page, from where redo begins on
pub listed_continue : (images : List Page) (begins from : ℕ) (tables others : TablesContent) → AreNumbered images → 0 < begins → begins ≤ from + 1
    → ListEach (length images) begins tables → ListEach (length images) (from + 1) others → Continue images from tables others
listed_continue images begins from tables others numbered some le each next = record {
  numbered = numbered;
  after = λ page n lt past.
      let image = image_at images page in
      all_listed_by others (from + 1) next page n lt (omega arith) (omega (arith, past)) ∙ sym (all_listed_by tables begins each page n lt some (omega (arith, le, past)));
  up_to = λ page n lt low.
      let image = image_at images page in
      not_applied (rec_lsn_of image.number others.dirty) others.redo_lsn image.lsn n (λ looked. omega (arith, looked.1, next.begins, low));
}
  where
    all_listed_by : (given : TablesContent) (x : ℕ) → ListEach (length images) x given → (page n : ℕ) → page < length images → 0 < x → x ≤ n
        → is_applied given.dirty given.redo_lsn (image_at images page) n ≡ ltb (image_at images page).lsn n
    all_listed_by given x list page n lt some le =
        let image = image_at images page in
        ap₂ (λ o r. is_redone o r image.lsn n) (ap (λ k. rec_lsn_of k given.dirty) (image_number images page numbered lt) ∙ list.pages page lt) list.begins
        ∙ some_begun x image.lsn n (leb x n) some le ∙ ap (λ b. b && ltb image.lsn n) (le-leb x n le)
