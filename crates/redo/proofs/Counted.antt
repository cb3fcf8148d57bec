-- Tallies that have the last record of each slot: before the first record, and with one more.
use Rattle.std.proofs.Common.{◌≡◌, ℕ, suc, ◌+◌, ◌-◌, ◌<◌, ◌≤◌, false, cond, ◌&&◌, not, eqb, leb, ltb, List, Option, None, Some, length, get_or, set, refl, sym, ap, ◌∙◌, subst, inl, inr, arith, ne_eqb, eq-eqb}
use Rattle.std.proofs.lemmas.Bool.{cases_eq, cases_lt, and_right, lt-leb}
use Rattle.std.proofs.lemmas.List.{get_or-set_same, get_or-set_other}
use Rattle.page.specs.declared.page.Page.{Page}
use Rattle.wal.specs.declared.glance.Glance.{Glance}
use Rattle.wal.specs.Glances.{glance_of}
use Rattle.log_laws.specs.Records.{LogRecord, LogContent, History, start, ◌▸◌, history, record_at, first, base_lsn, last_lsn}
use Rattle.log_laws.specs.Meaning.{cell_of}
use Rattle.log_laws.specs.Redo.{rec_lsn_of, is_redone}
use Rattle.log_laws.proofs.Histories.{base_within, record_above, record_within, first_more, size_of_first, size_of_first_le, base_of_first, first_at_base}
use Rattle.tables.specs.Tables.{TablesContent}
use Rattle.redo.specs.declared.tally.Tally.{Tally}
use Rattle.redo.specs.Inputs.{InputContent, input_over}
use Rattle.redo.specs.Changes.{RedoPage, redo_page_at, advance, counted, counted_by}
use Rattle.redo.specs.Redone.{IsLookedAt}
use Rattle.redo.specs.Parts.{redo_page_in, image_at, resolved}
use Rattle.redo.specs.Counted.{lasts_in, is_applied, AreCounted}
use Rattle.redo.specs.Passing.{AreBegunIn, IsRecordFor}
use Rattle.redo.proofs.Advance.{advanced, advance_had}
use Rattle.redo.proofs.OneMore.{counted_up, passed_over}
use Rattle.redo.proofs.LastInCell.{lasts_none, lasts_over, lasts_more}

-- A RECORD THAT REDO DOES NOT LOOK AT is applied to no page
pub not_applied : (rec_lsn : Option ℕ) (redo_lsn k n : ℕ) → (IsLookedAt redo_lsn n → ⊥) → is_redone rec_lsn redo_lsn k n ≡ false
not_applied None redo_lsn k n front = refl
not_applied (Some x) redo_lsn k n front =
    and_right (leb x n) (not (eqb redo_lsn 0) && (leb redo_lsn n && ltb k n))
    (elim (cases_eq redo_lsn 0) [
      | inl z ↦ ap (λ b. not b && (leb redo_lsn n && ltb k n)) (eq-eqb redo_lsn 0 z)
      | inr some ↦
          elim (cases_lt n redo_lsn) [
            | inl lt ↦ and_right (not (eqb redo_lsn 0)) (leb redo_lsn n && ltb k n) (ap (λ b. b && ltb k n) (lt-leb redo_lsn n lt))
            | inr le ↦ absurd (front (some, le))
          ]
    ])

-- a log of which redo looks at no record changes nothing
abbrev NoneLookedAt : (redo_lsn : ℕ) → History → Type 0
NoneLookedAt redo_lsn log = (n : ℕ) → base_lsn log < n → n ≤ last_lsn log → IsLookedAt redo_lsn n → ⊥

module _ (rec_lsn : Option ℕ) (redo_lsn : ℕ) (image : Page) where
  none_redone : (log : History) → NoneLookedAt redo_lsn log → redo_page_at rec_lsn redo_lsn log image ≡ redo_page_at rec_lsn redo_lsn (start (base_lsn log)) image
  none_redone (start _) none = refl
  none_redone (log ▸ r) none =
      advanced rec_lsn redo_lsn log r image
      ∙ advance_had redo_lsn (suc (last_lsn log)) r (redo_page_at rec_lsn redo_lsn log image)
      (not_applied rec_lsn redo_lsn (redo_page_at rec_lsn redo_lsn log image).page.lsn (suc (last_lsn log)) (none (suc (last_lsn log)) (omega (arith, base_within log)) (omega arith)))
      ∙ none_redone log (λ n above within. none n above (omega (arith, within)))

  pub none_lasts : (log : History) → NoneLookedAt redo_lsn log → lasts_in (is_redone rec_lsn redo_lsn image.lsn) image.number log ≡ lasts_in (is_redone rec_lsn redo_lsn image.lsn) image.number (start (base_lsn log))
  none_lasts (start _) none = refl
  none_lasts (log ▸ r) none =
      lasts_over (is_redone rec_lsn redo_lsn image.lsn) image.number log r (not_applied rec_lsn redo_lsn image.lsn (suc (last_lsn log)) (none (suc (last_lsn log)) (omega (arith, base_within log)) (omega arith)))
      ∙ none_lasts log (λ n above within. none n above (omega (arith, within)))

-- BEFORE THE FIRST RECORD
module _ (images : List Page) (tables : TablesContent) (tallies : List Tally) (are : AreBegunIn images tables tallies) (base : ℕ) (log : LogContent) where
  begun_at : ((k : ℕ) → k < length images → redo_page_in (input_over log images tables) (first base (history log)) (image_at images k) ≡ redo_page_in (input_over log images tables) (start (base_lsn (history log))) (image_at images k))
      → ((k : ℕ) → k < length images → let image = image_at images k in
      lasts_in (is_applied tables.dirty tables.redo_lsn image) image.number (first base (history log)) ≡ lasts_in (is_applied tables.dirty tables.redo_lsn image) image.number (start (base_lsn (history log))))
      → AreCounted (input_over log images tables) base tallies
  begun_at pages lasts = record {
    redone = record { count = are.count; each = λ k t lt. (are.each k t lt).begun log ∙ sym (pages k lt) };
    lasts = λ k t lt.
        let image = image_at images k in
        (are.each k t lt).none ∙ lasts_none (is_applied tables.dirty tables.redo_lsn image) image.number (base_lsn (history log)) ∙ sym (lasts k lt);
  }

  -- the base LSN is that of the log
  pub begun_counted : base_lsn (history log) ≡ base → AreCounted (input_over log images tables) base tallies
  begun_counted at =
      let none : first base (history log) ≡ start (base_lsn (history log)) = first_at_base (history log) base (sym at) ∙ ap start (sym at) in
      begun_at (λ k lt. ap (λ h. redo_page_in (input_over log images tables) h (image_at images k)) none)
      (λ k lt. let image = image_at images k in ap (lasts_in (is_applied tables.dirty tables.redo_lsn image) image.number) none)

  -- or the records up to it are below redo_lsn
  pub ahead_counted : base_lsn (history log) ≤ base → base < tables.redo_lsn → AreCounted (input_over log images tables) base tallies
  ahead_counted from low =
      let front = first base (history log) in
      let below : NoneLookedAt tables.redo_lsn front = λ n above within looked. omega (arith, size_of_first_le base (history log) from, low, within, looked.1) in
      let begins = base_of_first base (history log) in
      begun_at
      (λ k lt.
      let image = image_at images k in
      none_redone (rec_lsn_of image.number tables.dirty) tables.redo_lsn image front below ∙ ap (λ n. redo_page_in (input_over log images tables) (start n) image) begins)
      (λ k lt.
      let image = image_at images k in
      none_lasts (rec_lsn_of image.number tables.dirty) tables.redo_lsn image front below ∙ ap (λ n. lasts_in (is_applied tables.dirty tables.redo_lsn image) image.number (start n)) begins)

-- ONE MORE RECORD
-- in a cell: counted for the page of its number
pub counted_each : (redo_lsn lsn number slot : ℕ) (tallies new : List Tally) → number < length tallies → ((k : ℕ) (t : Tally) → k < length tallies → (get_or tallies k t).number ≡ k)
    → ((d : Tally) → new ≡ set tallies number (counted redo_lsn lsn slot (get_or tallies number d)))
    → (k : ℕ) (t : Tally) → k < length tallies → get_or new k t ≡ counted_by redo_lsn lsn (Some (number, slot)) (get_or tallies k t)
counted_each redo_lsn lsn number slot tallies new below numbers is k t lt =
    let old = get_or tallies k t in
    elim (cases_eq k number) [
      | inl e ↦
          (let one = counted redo_lsn lsn slot (get_or tallies number t) in
          ap (λ ts. get_or ts k t) (is t) ∙ ap (λ i. get_or (set tallies number one) i t) e ∙ get_or-set_same tallies number one t below
          ∙ ap (λ i. counted redo_lsn lsn slot (get_or tallies i t)) (sym e)
          ∙ ap (λ b. cond b (counted redo_lsn lsn slot old) old) (sym (eq-eqb number old.number (sym (numbers k t lt ∙ e)))))
      | inr ne ↦
          (ap (λ ts. get_or ts k t) (is t) ∙ get_or-set_other tallies number k (counted redo_lsn lsn slot (get_or tallies number t)) t ne
          ∙ ap (λ b. cond b (counted redo_lsn lsn slot old) old) (sym (ne_eqb number old.number (λ e. ne (sym (e ∙ numbers k t lt))))))
    ]

module _ (input : InputContent) (redo_lsn lsn : ℕ) (glance : Glance) (tallies : List Tally) where
  pub counted_on : (new : List Tally) → IsRecordFor input redo_lsn lsn glance → length new ≡ length tallies
      → ((r : LogRecord) (k : ℕ) (t : Tally) → glance ≡ glance_of r → record_at (history input.log) lsn ≡ Some r → k < length tallies
      → resolved input (get_or new k t) ≡ advance input.redo_lsn lsn r (resolved input (get_or tallies k t)))
      → ((r : LogRecord) (k : ℕ) (t : Tally) → glance ≡ glance_of r → k < length tallies → get_or new k t ≡ counted_by redo_lsn lsn (cell_of r) (get_or tallies k t))
      → AreCounted input (lsn - 1) tallies → AreCounted input lsn new
  counted_on new own count each exact up = record {
    redone = counted_up input redo_lsn lsn glance tallies new own count each up.redone;
    lasts = λ k t lt.
        let whole = history input.log in
        let r = own.entry in
        let above = record_above whole lsn r own.there in
        let within = record_within whole lsn r own.there in
        let log = first (lsn - 1) whole in
        let at : lsn - 1 + 1 ≡ lsn = omega (arith, above) in
        let next : first lsn whole ≡ log ▸ r = subst (λ n. first n whole ≡ log ▸ r) at (first_more whole (lsn - 1) r (ap (record_at whole) at ∙ own.there)) in
        let size : suc (last_lsn log) ≡ lsn = omega (arith, size_of_first (lsn - 1) whole (omega (arith, above)) (omega (arith, within)), above) in
        let image = image_at input.images k in
        let old = get_or tallies k t in
        let page = up.redone.each k t lt in
        ap (λ (x : Tally). x.lasts) (exact r k t own.seen_of (omega (arith, lt, up.redone.count)))
        ∙ ap (λ n. (counted_by n lsn (cell_of r) old).lasts) (sym own.from)
        ∙ ap (λ n. (counted_by input.redo_lsn n (cell_of r) old).lasts) (sym size)
        ∙ lasts_more (rec_lsn_of image.number input.dirty) input.redo_lsn log r image old (ap (λ (p : RedoPage). p.page.number) page) (ap (λ (p : RedoPage). p.rec_lsn) page) (ap (λ (p : RedoPage). p.page.lsn) page) (up.lasts k t lt)
        ∙ ap (lasts_in (is_applied input.dirty input.redo_lsn image) image.number) (sym next);
  }

  -- a record that redo does not look at changes nothing
  pub passed_on : IsRecordFor input redo_lsn (lsn + 1) glance → (IsLookedAt redo_lsn (lsn + 1) → ⊥) → AreCounted input lsn tallies → AreCounted input (lsn + 1) tallies
  passed_on own front up = record {
    redone = passed_over input redo_lsn lsn glance tallies own front up.redone;
    lasts = λ k t lt.
        let whole = history input.log in
        let r = own.entry in
        let log = first lsn whole in
        let above = record_above whole (lsn + 1) r own.there in
        let within = record_within whole (lsn + 1) r own.there in
        let size : suc (last_lsn log) ≡ lsn + 1 = omega (arith, size_of_first lsn whole (omega (arith, above)) (omega (arith, within))) in
        let image = image_at input.images k in
        up.lasts k t lt
        ∙ sym (ap (lasts_in (is_applied input.dirty input.redo_lsn image) image.number) (first_more whole lsn r own.there)
        ∙ lasts_over (is_applied input.dirty input.redo_lsn image) image.number log r
        (not_applied (rec_lsn_of image.number input.dirty) input.redo_lsn image.lsn (suc (last_lsn log))
        (λ looked. front (subst (λ n. IsLookedAt n (lsn + 1)) own.from (looked.0, omega (arith, looked.1, size))))));
  }
