-- Redo of a lawful page.
use Rattle.std.proofs.Common.{ℕ, suc, ◌≡◌, ◌<◌, ◌≤◌, ap₂, Bool, true, false, cond, ◌&&◌, not, Option, Some, None, refl, sym, ap, ◌∙◌, inl, inr, arith, ne_eqb, eqb, ltb, leb, get_or}
use Rattle.std.proofs.lemmas.Bool.{cases_Bool, and_from, and_right, not_from_false, le-leb, ltb-true, ltb-false, lt-ltb, le-ltb, cond-false}
use Rattle.std.specs.Prelude.{slice_index_or}
use Rattle.page.specs.declared.page.Page.{Page}
use Rattle.log_laws.specs.Records.{LogRecord, History, start, ◌▸◌, last_lsn, history, record_at, first}
use Rattle.log_laws.specs.Meaning.{BasePages, Cells, effects, replay, writes, image_of, is_on, last_on}
use Rattle.log_laws.specs.Redo.{rec_lsn_of, is_redone, last_where, slots_in, held_by}
use Rattle.log_laws.specs.Theorems.{RedoReplays, RedoSuffices}
use Rattle.log_laws.proofs.Histories.{record_last, record_more, first_base}
use Rattle.log_laws.proofs.Pages.{writes_on, slot_held, same_slots, on_page_last}

-- if nothing is chosen nothing changes
none_chosen : (chosen : ℕ → Bool) (state : Cells) (log : History) (page slot : ℕ) → ((n : ℕ) → n ≤ last_lsn log → chosen n ≡ false) → effects (λ n _. chosen n) state log page slot ≡ state page slot
none_chosen chosen state (start _) page slot h = refl
none_chosen chosen state (log ▸ r) page slot h =
    cond-false (writes page slot r && chosen (suc (last_lsn log))) (image_of r) (effects (λ n _. chosen n) state log page slot)
    (and_right (writes page slot r) (chosen (suc (last_lsn log))) (h (suc (last_lsn log)) (omega arith)))
    ∙ none_chosen chosen state log page slot (λ n o. h n (omega arith))

-- if records are chosen from after the first k on
redo_from : (base : BasePages) (chosen : ℕ → Bool) (k : ℕ) (state : Cells) (log : History) (page slot : ℕ) → ((n : ℕ) → n ≤ k → chosen n ≡ false)
    → ((n : ℕ) (r : LogRecord) → record_at log n ≡ Some r → is_on page r ≡ true → k < n → chosen n ≡ true)
    → state page slot ≡ replay base (first k log) page slot → effects (λ n _. chosen n) state log page slot ≡ replay base log page slot
redo_from base chosen k state (start _) page slot below above e = e
redo_from base chosen k state (log ▸ r) page slot below above e =
    elim (cases_Bool (ltb (last_lsn log) k)) [
      | inl i ↦
          (let e' : state page slot ≡ replay base (log ▸ r) page slot = e ∙ ap (λ b. replay base (cond b (log ▸ r) (first k log)) page slot) i in
          none_chosen chosen state (log ▸ r) page slot (λ n o. below n (omega (arith, ltb-true (last_lsn log) k i))) ∙ e')
      | inr i ↦
          (let e' : state page slot ≡ replay base (first k log) page slot = e ∙ ap (λ b. replay base (cond b (log ▸ r) (first k log)) page slot) i in
          let older : effects (λ n _. chosen n) state log page slot ≡ replay base log page slot = redo_from base chosen k state log page slot below (λ n x f o l. above n x (record_more log r n x f) o l) e' in
          elim (cases_Bool (writes page slot r)) [
            | inl w ↦
                (let c : chosen (suc (last_lsn log)) ≡ true = above (suc (last_lsn log)) r (record_last log r) (writes_on page slot r w) (omega (arith, ltb-false (last_lsn log) k i)) in
                rw (w, c))
            | inr w ↦ rw (w, older)
          ])
    ]

-- and the PageLSN stays
none_last : (chosen : ℕ → Bool) (page lsn : ℕ) (log : History) → ((n : ℕ) → n ≤ last_lsn log → chosen n ≡ false) → last_where chosen page lsn log ≡ lsn
none_last chosen page lsn (start _) h = refl
none_last chosen page lsn (log ▸ r) h =
    cond-false (is_on page r && chosen (suc (last_lsn log))) (suc (last_lsn log)) (last_where chosen page lsn log) (and_right (is_on page r) (chosen (suc (last_lsn log))) (h (suc (last_lsn log)) (omega arith)))
    ∙ none_last chosen page lsn log (λ n o. h n (omega arith))

-- if records are chosen from after the first k on, the PageLSN is that of the log
last_from : (base : BasePages) (chosen : ℕ → Bool) (k : ℕ) (log : History) (page : ℕ) → ((n : ℕ) → n ≤ k → chosen n ≡ false)
    → ((n : ℕ) (r : LogRecord) → record_at log n ≡ Some r → is_on page r ≡ true → k < n → chosen n ≡ true)
    → k ≡ last_on base page (first k log) → last_where chosen page k log ≡ last_on base page log
last_from base chosen k (start _) page below above e = e
last_from base chosen k (log ▸ r) page below above e =
    elim (cases_Bool (ltb (last_lsn log) k)) [
      | inl i ↦
          (let e' : k ≡ last_on base page (log ▸ r) = e ∙ ap (λ b. last_on base page (cond b (log ▸ r) (first k log))) i in
          none_last chosen page k (log ▸ r) (λ n o. below n (omega (arith, ltb-true (last_lsn log) k i))) ∙ e')
      | inr i ↦
          (let e' : k ≡ last_on base page (first k log) = e ∙ ap (λ b. last_on base page (cond b (log ▸ r) (first k log))) i in
          let older : last_where chosen page k log ≡ last_on base page log = last_from base chosen k log page below (λ n x f o l. above n x (record_more log r n x f) o l) e' in
          elim (cases_Bool (is_on page r)) [
            | inl w ↦
                (let c : chosen (suc (last_lsn log)) ≡ true = above (suc (last_lsn log)) r (record_last log r) w (omega (arith, ltb-false (last_lsn log) k i)) in
                rw (w, c))
            | inr w ↦ rw (w, older)
          ])
    ]

-- what the image has is not redone
not_redone : (listed : Option ℕ) (redo_lsn k n : ℕ) → n ≤ k → is_redone listed redo_lsn k n ≡ false
not_redone None redo_lsn k n h = refl
not_redone (Some rec_lsn) redo_lsn k n h =
    and_right (leb rec_lsn n) (not (eqb redo_lsn 0) && (leb redo_lsn n && ltb k n))
    (and_right (not (eqb redo_lsn 0)) (leb redo_lsn n && ltb k n) (and_right (leb redo_lsn n) (ltb k n) (le-ltb k n h)))

pub redo_replays : RedoReplays
redo_replays base listed redo_lsn log image base_law law skips =
    let chosen = is_redone listed redo_lsn image.lsn in
    let page = image.number in
    let lsn_is : last_where chosen page image.lsn log ≡ last_on base page log = last_from base chosen image.lsn log page (not_redone listed redo_lsn image.lsn) skips at_first in
    let slots_are : slots_in (effects (λ n _. chosen n) (held_by image) log) page ≡ slots_in (replay base log) page =
    same_slots (effects (λ n _. chosen n) (held_by image) log) (replay base log) page
    (λ slot lt. redo_from base chosen image.lsn (held_by image) log page slot (not_redone listed redo_lsn image.lsn) skips (ap (λ xs. slice_index_or xs slot None) law.slots_are ∙ slot_held (replay base (first image.lsn log)) page slot lt)) in
    ap₂ (λ n xs. record { number = page; lsn = n; slots = xs }) lsn_is slots_are
  where
    at_first : image.lsn ≡ last_on base image.number (first image.lsn log)
    at_first =
        elim law.on_page [
          | inl z ↦ z ∙ sym (ap (last_on base image.number) (first_base log image.lsn (omega (arith, z, base_law image.number))))
          | inr p ↦ on_page_last base log image.lsn image.number p.0 p.1 p.2
        ]

-- BY A DIRTY PAGE TABLE
-- what is reached is redone
redone : (rec_lsn redo_lsn page_lsn lsn : ℕ) → rec_lsn ≤ lsn → 1 ≤ redo_lsn → redo_lsn ≤ lsn → page_lsn < lsn → is_redone (Some rec_lsn) redo_lsn page_lsn lsn ≡ true
redone rec_lsn redo_lsn page_lsn lsn a b c d =
    let some : not (eqb redo_lsn 0) ≡ true = not_from_false (eqb redo_lsn 0) (ne_eqb redo_lsn 0 (λ e. omega arith)) in
    and_from (leb rec_lsn lsn) (not (eqb redo_lsn 0) && (leb redo_lsn lsn && ltb page_lsn lsn)) (le-leb rec_lsn lsn a)
    (and_from (not (eqb redo_lsn 0)) (leb redo_lsn lsn && ltb page_lsn lsn) some (and_from (leb redo_lsn lsn) (ltb page_lsn lsn) (le-leb redo_lsn lsn c) (lt-ltb page_lsn lsn d)))

pub redo_suffices : RedoSuffices
redo_suffices base log store dirty redo_lsn h reaches i d lt =
    let page : Page = get_or store.pages i d in
    redo_replays base (rec_lsn_of page.number dirty) redo_lsn (history log) page h.based (h.pages i d lt)
    (λ lsn r f on lower.
    let q = reaches i d lt lsn r f on lower in
    ap (λ listed. is_redone listed redo_lsn page.lsn lsn) q.is_listed ∙ redone q.rec_lsn redo_lsn page.lsn lsn q.from_rec_lsn q.some q.from_redo_lsn lower)
