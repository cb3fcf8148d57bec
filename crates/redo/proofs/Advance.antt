-- One more record, applied to a page that is being redone.
use Rattle.std.proofs.Common.{◌≡◌, ◌≢◌, ℕ, suc, ◌<◌, ◌≤◌, ◌⊎◌, true, false, cond, ◌&&◌, not, eqb, ltb, leb, Option, Some, None, set, refl, sym, ap, ap₂, ◌∙◌, inl, inr, arith, ne_eqb, eq-eqb}
use Rattle.std.specs.Prelude.{option_map}
use Rattle.std.specs.List.{range_with_len}
use Rattle.std.proofs.lemmas.Bool.{cases_Bool, cond_both, and_parts, and_right, ltb-true, lt-ltb}
use Rattle.std.proofs.lemmas.List.{set_past}
use Rattle.std.proofs.lemmas.List.FromFn.{length-map-range_with_len}
use mathlib.Core.Path.{fun_ext}
use mathlib.Core.Logic.{dite}
use native.Mathlib.Decide.{dec_lt}
use Rattle.page.specs.Image.{Image}
use Rattle.page.specs.declared.page.Page.{Page}
use Rattle.log_laws.specs.Records.{LogRecord, Update, Compensation, History, start, ◌▸◌, last_lsn}
use Rattle.log_laws.specs.Meaning.{Change, change_of, effects, writes, is_on, image_of}
use Rattle.log_laws.specs.Redo.{is_redone, slots_in, held_by, last_where, applied}
use Rattle.redo.specs.Changes.{RedoPage, page_named, redo_page_at, put, changed_by, advance}
use Rattle.redo.proofs.Slots.{set-tabulated, map-same, same_below}
use Rattle.page.specs.declared.profile.TheConstants.{SLOTS}

-- a record that is redone has an LSN above the image's
pub redone_above : (rec_lsn : Option ℕ) (redo_lsn k n : ℕ) → is_redone rec_lsn redo_lsn k n ≡ true → k < n
redone_above None redo_lsn k n e = absurd (cc)
redone_above (Some x) redo_lsn k n e = ltb-true k n (and_parts (leb redo_lsn n) (ltb k n) (and_parts (not (eqb redo_lsn 0)) (leb redo_lsn n && ltb k n) (and_parts (leb x n) (not (eqb redo_lsn 0) && (leb redo_lsn n && ltb k n)) e).1).1).1

-- whether a record is redone depends on no more than that
pub redone_same : (rec_lsn : Option ℕ) (redo_lsn k l n : ℕ) → ltb k n ≡ ltb l n → is_redone rec_lsn redo_lsn k n ≡ is_redone rec_lsn redo_lsn l n
redone_same None redo_lsn k l n e = refl
redone_same (Some x) redo_lsn k l n e = ap (λ b. leb x n && (not (eqb redo_lsn 0) && (leb redo_lsn n && b))) e

-- the PageLSN during redo is the image's, or that of a record which was redone
pub last_between : (rec_lsn : Option ℕ) (redo_lsn page k : ℕ) (log : History) → let l = last_where (is_redone rec_lsn redo_lsn k) page k log in (l ≡ k) ⊎ ((k < l) × (l ≤ last_lsn log))
last_between rec_lsn redo_lsn page k (start _) = inl refl
last_between rec_lsn redo_lsn page k (log ▸ r) =
    cond_both (is_on page r && is_redone rec_lsn redo_lsn k (suc (last_lsn log))) (suc (last_lsn log)) (last_where (is_redone rec_lsn redo_lsn k) page k log) (λ l. (l ≡ k) ⊎ ((k < l) × (l ≤ suc (last_lsn log))))
    (λ e. inr (redone_above rec_lsn redo_lsn k (suc (last_lsn log)) (and_parts (is_on page r) (is_redone rec_lsn redo_lsn k (suc (last_lsn log))) e).1, omega arith))
    (λ _. elim (last_between rec_lsn redo_lsn page k log) [ inl e ↦ inl e | inr b ↦ inr (b.0, omega (arith, b.1)) ])

-- a record puts an image into a cell
pub record Puts (r : LogRecord) (page slot : ℕ) (image : Image) : Type 0 where
  pub writes_is : (p s : ℕ) → writes p s r ≡ (eqb page p && eqb slot s)
  pub on_is : (p : ℕ) → is_on p r ≡ eqb page p
  pub image_is : image_of r ≡ image

module _ (rec_lsn : Option ℕ) (redo_lsn : ℕ) (log : History) (r : LogRecord) (image : Page) where
  -- the page during redo lacks a record if and only if its image does
  pub lacks_same : is_redone rec_lsn redo_lsn (last_where (is_redone rec_lsn redo_lsn image.lsn) image.number image.lsn log) (suc (last_lsn log)) ≡ is_redone rec_lsn redo_lsn image.lsn (suc (last_lsn log))
  lacks_same =
      elim (last_between rec_lsn redo_lsn image.number image.lsn log) [
        | inl e ↦ ap (λ l. is_redone rec_lsn redo_lsn l (suc (last_lsn log))) e
        | inr b ↦
            redone_same rec_lsn redo_lsn (last_where (is_redone rec_lsn redo_lsn image.lsn) image.number image.lsn log) image.lsn (suc (last_lsn log))
            (lt-ltb (last_where (is_redone rec_lsn redo_lsn image.lsn) image.number image.lsn log) (suc (last_lsn log)) (omega (arith, b.1)) ∙ sym (lt-ltb image.lsn (suc (last_lsn log)) (omega (arith, b.0, b.1))))
      ]

  -- a record that changes over cell of the page
  unchanged : ((s : ℕ) → (writes image.number s r && is_redone rec_lsn redo_lsn image.lsn (suc (last_lsn log))) ≡ false) → (is_on image.number r && is_redone rec_lsn redo_lsn image.lsn (suc (last_lsn log))) ≡ false
      → redo_page_at rec_lsn redo_lsn (log ▸ r) image ≡ redo_page_at rec_lsn redo_lsn log image
  unchanged none off =
      let same_lsn : last_where (is_redone rec_lsn redo_lsn image.lsn) image.number image.lsn (log ▸ r) ≡ last_where (is_redone rec_lsn redo_lsn image.lsn) image.number image.lsn log =
      ap (λ b. cond b (suc (last_lsn log)) (last_where (is_redone rec_lsn redo_lsn image.lsn) image.number image.lsn log)) off in
      let same_count : applied rec_lsn redo_lsn image (log ▸ r) ≡ applied rec_lsn redo_lsn image log = ap (λ b. cond b (suc (applied rec_lsn redo_lsn image log)) (applied rec_lsn redo_lsn image log)) off in
      let same_cells : (s : ℕ) → effects (λ n _. is_redone rec_lsn redo_lsn image.lsn n) (held_by image) (log ▸ r) image.number s ≡ effects (λ n _. is_redone rec_lsn redo_lsn image.lsn n) (held_by image) log image.number s =
      λ s. ap (λ b. cond b (image_of r) (effects (λ n _. is_redone rec_lsn redo_lsn image.lsn n) (held_by image) log image.number s)) (none s) in
      let same_slots : slots_in (effects (λ n _. is_redone rec_lsn redo_lsn image.lsn n) (held_by image) (log ▸ r)) image.number ≡ slots_in (effects (λ n _. is_redone rec_lsn redo_lsn image.lsn n) (held_by image) log) image.number =
      map-same (effects (λ n _. is_redone rec_lsn redo_lsn image.lsn n) (held_by image) (log ▸ r) image.number) (effects (λ n _. is_redone rec_lsn redo_lsn image.lsn n) (held_by image) log image.number) (range_with_len 0 SLOTS) (fun_ext same_cells) in
      ap₂ (λ n xs. record { page = record { number = image.number; lsn = n; slots = xs }; rec_lsn = rec_lsn; applied = applied rec_lsn redo_lsn image (log ▸ r) }) same_lsn same_slots
      ∙ ap (λ a. record { page = record { number = image.number; lsn = last_where (is_redone rec_lsn redo_lsn image.lsn) image.number image.lsn log; slots = slots_in (effects (λ n _. is_redone rec_lsn redo_lsn image.lsn n) (held_by image) log) image.number }; rec_lsn = rec_lsn; applied = a }) same_count

  module _ (page slot : ℕ) (value : Image) (puts : Puts r page slot value) where
    -- on another page
    elsewhere : eqb page image.number ≡ false → redo_page_at rec_lsn redo_lsn (log ▸ r) image ≡ redo_page_at rec_lsn redo_lsn log image
    elsewhere off = unchanged (λ s. rw (puts.writes_is image.number s, off) refl) (rw (puts.on_is image.number, off) refl)

    -- on this page, but not redone
    had : is_redone rec_lsn redo_lsn image.lsn (suc (last_lsn log)) ≡ false → redo_page_at rec_lsn redo_lsn (log ▸ r) image ≡ redo_page_at rec_lsn redo_lsn log image
    had over = unchanged
        (λ s. ap (λ b. writes image.number s r && b) over ∙ and_right (writes image.number s r) false refl)
        (ap (λ b. is_on image.number r && b) over ∙ and_right (is_on image.number r) false refl)

    -- on this page, and redone
    changed : eqb page image.number ≡ true → is_redone rec_lsn redo_lsn image.lsn (suc (last_lsn log)) ≡ true
        → redo_page_at rec_lsn redo_lsn (log ▸ r) image
        ≡ record {
          page = record { number = image.number; lsn = suc (last_lsn log); slots = set (slots_in (effects (λ n _. is_redone rec_lsn redo_lsn image.lsn n) (held_by image) log) image.number) slot value };
          rec_lsn = rec_lsn;
          applied = suc (applied rec_lsn redo_lsn image log);
        }
    changed here lacking =
        let on : (is_on image.number r && is_redone rec_lsn redo_lsn image.lsn (suc (last_lsn log))) ≡ true = rw (puts.on_is image.number, here, lacking) refl in
        let new_lsn : last_where (is_redone rec_lsn redo_lsn image.lsn) image.number image.lsn (log ▸ r) ≡ suc (last_lsn log) =
        ap (λ b. cond b (suc (last_lsn log)) (last_where (is_redone rec_lsn redo_lsn image.lsn) image.number image.lsn log)) on in
        let one_more : applied rec_lsn redo_lsn image (log ▸ r) ≡ suc (applied rec_lsn redo_lsn image log) = ap (λ b. cond b (suc (applied rec_lsn redo_lsn image log)) (applied rec_lsn redo_lsn image log)) on in
        let other : (s : ℕ) → s ≢ slot → effects (λ n _. is_redone rec_lsn redo_lsn image.lsn n) (held_by image) (log ▸ r) image.number s ≡ effects (λ n _. is_redone rec_lsn redo_lsn image.lsn n) (held_by image) log image.number s =
        λ s ne. (let f : eqb slot s ≡ false = ne_eqb slot s (λ e. ne (sym e)) in rw (puts.writes_is image.number s, here, f) refl) in
        let mine : effects (λ n _. is_redone rec_lsn redo_lsn image.lsn n) (held_by image) (log ▸ r) image.number slot ≡ value =
        (let f : eqb slot slot ≡ true = eq-eqb slot slot refl in rw (puts.writes_is image.number slot, here, f, lacking) puts.image_is) in
        let new_slots : set (slots_in (effects (λ n _. is_redone rec_lsn redo_lsn image.lsn n) (held_by image) log) image.number) slot value ≡ slots_in (effects (λ n _. is_redone rec_lsn redo_lsn image.lsn n) (held_by image) (log ▸ r)) image.number =
        dite (dec_lt slot SLOTS)
        (λ lt. set-tabulated (effects (λ n _. is_redone rec_lsn redo_lsn image.lsn n) (held_by image) log image.number) (effects (λ n _. is_redone rec_lsn redo_lsn image.lsn n) (held_by image) (log ▸ r) image.number) SLOTS slot value lt other mine)
        (λ ge.
        set_past (slots_in (effects (λ n _. is_redone rec_lsn redo_lsn image.lsn n) (held_by image) log) image.number) slot value
        (omega (arith, length-map-range_with_len (effects (λ n _. is_redone rec_lsn redo_lsn image.lsn n) (held_by image) log image.number) 0 SLOTS))
        ∙ sym (same_below (effects (λ n _. is_redone rec_lsn redo_lsn image.lsn n) (held_by image) (log ▸ r)) (effects (λ n _. is_redone rec_lsn redo_lsn image.lsn n) (held_by image) log) image.number (λ s lt. other s (λ e. omega arith)))) in
        ap₂ (λ n xs. record { page = record { number = image.number; lsn = n; slots = xs }; rec_lsn = rec_lsn; applied = applied rec_lsn redo_lsn image (log ▸ r) }) new_lsn (sym new_slots)
        ∙ ap (λ a. record { page = record { number = image.number; lsn = suc (last_lsn log); slots = set (slots_in (effects (λ n _. is_redone rec_lsn redo_lsn image.lsn n) (held_by image) log) image.number) slot value }; rec_lsn = rec_lsn; applied = a }) one_more

    -- the page then has what the record says
    pub put_more : redo_page_at rec_lsn redo_lsn (log ▸ r) image
        ≡ cond (eqb page image.number) (put redo_lsn (suc (last_lsn log)) slot value (redo_page_at rec_lsn redo_lsn log image)) (redo_page_at rec_lsn redo_lsn log image)
    put_more =
        elim (cases_Bool (eqb page image.number)) [
          | inl here ↦
              elim (cases_Bool (is_redone rec_lsn redo_lsn image.lsn (suc (last_lsn log)))) [
                | inl lacking ↦ (let test = lacks_same ∙ lacking in changed here lacking ∙ rw (here, test) refl)
                | inr over ↦ (let test = lacks_same ∙ over in had over ∙ rw (here, test) refl)
              ]
          | inr off ↦ elsewhere off ∙ rw off refl
        ]

  -- a record on no page
  pub idle : ((p s : ℕ) → writes p s r ≡ false) → ((p : ℕ) → is_on p r ≡ false) → redo_page_at rec_lsn redo_lsn (log ▸ r) image ≡ redo_page_at rec_lsn redo_lsn log image
  idle none off = unchanged (λ s. rw (none image.number s) refl) (rw (off image.number) refl)

-- A page redone up to the end of a log that is one record longer is the page after that record.
pub advanced : (rec_lsn : Option ℕ) (redo_lsn : ℕ) (log : History) (r : LogRecord) (image : Page)
    → redo_page_at rec_lsn redo_lsn (log ▸ r) image ≡ advance redo_lsn (suc (last_lsn log)) r (redo_page_at rec_lsn redo_lsn log image)
advanced rec_lsn redo_lsn log (Update u) image =
    put_more rec_lsn redo_lsn log (Update u) image u.page u.slot u.after (record { writes_is = λ p s. refl; on_is = λ p. refl; image_is = refl })
advanced rec_lsn redo_lsn log (Compensation c) image =
    put_more rec_lsn redo_lsn log (Compensation c) image c.page c.slot c.image (record { writes_is = λ p s. refl; on_is = λ p. refl; image_is = refl })
advanced rec_lsn redo_lsn log r image = idle rec_lsn redo_lsn log r image (λ p t. refl) (λ p. refl)

-- IF NOTHING IS DONE
put_idle : (redo_lsn lsn slot : ℕ) (value : Image) (p : RedoPage) → is_redone p.rec_lsn redo_lsn p.page.lsn lsn ≡ false → put redo_lsn lsn slot value p ≡ p
put_idle redo_lsn lsn slot value p over = rw over refl

-- a record that is not redone
pub advance_had : (redo_lsn lsn : ℕ) (r : LogRecord) (p : RedoPage) → is_redone p.rec_lsn redo_lsn p.page.lsn lsn ≡ false → advance redo_lsn lsn r p ≡ p
advance_had redo_lsn lsn r p over = by (change_of r)
  where
    by : (o : Option Change) → changed_by redo_lsn lsn o p ≡ p
    by None = refl
    by (Some c) = cond_both (eqb c.page p.page.number) (put redo_lsn lsn c.slot c.image p) p (λ q. q ≡ p) (λ _. put_idle redo_lsn lsn c.slot c.image p over) (λ _. refl)

-- a record on another page
pub advance_elsewhere : (redo_lsn lsn : ℕ) (r : LogRecord) (p : RedoPage) → ((page : ℕ) → page_named r ≡ Some page → p.page.number ≢ page) → advance redo_lsn lsn r p ≡ p
advance_elsewhere redo_lsn lsn r p = by (change_of r)
  where
    by : (o : Option Change) → ((page : ℕ) → option_map (λ (x : ℕ × ℕ). x.0) (option_map (λ c. (c.page, c.slot)) o) ≡ Some page → p.page.number ≢ page) → changed_by redo_lsn lsn o p ≡ p
    by None other = refl
    by (Some c) other = ap (λ b. cond b (put redo_lsn lsn c.slot c.image p) p) (ne_eqb c.page p.page.number (λ e. other c.page refl (sym e)))

-- WHAT A RECORD LEAVES
put_number : (redo_lsn lsn slot : ℕ) (value : Image) (p : RedoPage) → (put redo_lsn lsn slot value p).page.number ≡ p.page.number
put_number redo_lsn lsn slot value p =
    elim (cases_Bool (is_redone p.rec_lsn redo_lsn p.page.lsn lsn)) [ inl lacking ↦ rw lacking refl | inr over ↦ ap (λ (q : RedoPage). q.page.number) (put_idle redo_lsn lsn slot value p over) ]

put_count : (redo_lsn lsn slot : ℕ) (value : Image) (p : RedoPage) → (put redo_lsn lsn slot value p).applied ≤ suc p.applied
put_count redo_lsn lsn slot value p =
    elim (cases_Bool (is_redone p.rec_lsn redo_lsn p.page.lsn lsn)) [ inl lacking ↦ rw lacking (omega arith) | inr over ↦ omega (arith, ap (λ (q : RedoPage). q.applied) (put_idle redo_lsn lsn slot value p over)) ]

-- the page's number
pub advance_number : (redo_lsn lsn : ℕ) (r : LogRecord) (p : RedoPage) → (advance redo_lsn lsn r p).page.number ≡ p.page.number
advance_number redo_lsn lsn r p = by (change_of r)
  where
    by : (o : Option Change) → (changed_by redo_lsn lsn o p).page.number ≡ p.page.number
    by None = refl
    by (Some c) = cond_both (eqb c.page p.page.number) (put redo_lsn lsn c.slot c.image p) p (λ q. q.page.number ≡ p.page.number) (λ _. put_number redo_lsn lsn c.slot c.image p) (λ _. refl)

-- the count, which grows by at most one
pub advance_count : (redo_lsn lsn : ℕ) (r : LogRecord) (p : RedoPage) → (advance redo_lsn lsn r p).applied ≤ suc p.applied
advance_count redo_lsn lsn r p = by (change_of r)
  where
    by : (o : Option Change) → (changed_by redo_lsn lsn o p).applied ≤ suc p.applied
    by None = omega arith
    by (Some c) = cond_both (eqb c.page p.page.number) (put redo_lsn lsn c.slot c.image p) p (λ q. q.applied ≤ suc p.applied) (λ _. put_count redo_lsn lsn c.slot c.image p) (λ _. omega arith)
