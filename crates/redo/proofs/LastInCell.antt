-- The last record in each cell: none yet, one more, and after two stretches of a log.
use Rattle.std.proofs.Common.{◌≡◌, ◌≢◌, ℕ, suc, ◌+◌, ◌<◌, ◌≤◌, ◌⊎◌, Bool, true, false, cond, ◌&&◌, eqb, ltb, Option, Some, None, replicate, set, refl, sym, ap, ap₂, ◌∙◌, inl, inr, arith, ne_eqb, eq-eqb}
use Rattle.std.specs.Prelude.{option_map}
use Rattle.std.proofs.lemmas.Bool.{cases_Bool, cases_lt, and_parts, and_right, ltb-true, ltb-false, lt-ltb, false≢true}
use Rattle.std.proofs.lemmas.List.{length-replicate, get_or-replicate, set_past}
use Rattle.std.proofs.lemmas.List.FromFn.{fill_by_all, length-map-range_with_len}
use mathlib.Core.Logic.{dite}
use native.Mathlib.Decide.{dec_lt}
use Rattle.page.specs.Image.{Image}
use Rattle.page.specs.declared.page.Page.{Page}
use Rattle.page.specs.declared.profile.TheConstants.{SLOTS}
use Rattle.log_laws.specs.Records.{LogRecord, History, start, ◌▸◌, last_lsn, record_at, first}
use Rattle.log_laws.specs.Meaning.{Cells, Change, change_of, cell_of, effects, writes, is_on, is_in_cell, image_of, image_in}
use Rattle.log_laws.specs.Redo.{is_redone, last_where, applied}
use Rattle.log_laws.proofs.Histories.{first_older, record_last, record_older}
use Rattle.log_laws.proofs.Pages.{writes_on}
use Rattle.redo.specs.declared.tally.Tally.{Tally}
use Rattle.redo.specs.Changes.{counted, counted_by, held_after}
use Rattle.redo.specs.Counted.{last_in_cell, lasts_in}
use Rattle.redo.proofs.Advance.{redone_above, redone_same, last_between, lacks_same}
use Rattle.redo.proofs.Slots.{set-tabulated, same_below}
use Rattle.redo.proofs.Tallies.{held_some}

-- NONE YET
pub lasts_none : (chosen : ℕ → Bool) (page base : ℕ) → replicate SLOTS 0 ≡ lasts_in chosen page (start base)
lasts_none chosen page base =
    let none : ℕ = 0 in
    fill_by_all (λ slot. last_in_cell chosen page slot (start base)) (replicate SLOTS none) SLOTS none (length-replicate SLOTS none) (λ k lt. get_or-replicate SLOTS k none none lt)

-- ONE MORE RECORD
module _ (chosen : ℕ → Bool) (page : ℕ) (log : History) (r : LogRecord) where
  -- one that is not chosen, or not in the cell
  last_kept : (slot : ℕ) → (writes page slot r && chosen (suc (last_lsn log))) ≡ false → last_in_cell chosen page slot (log ▸ r) ≡ last_in_cell chosen page slot log
  last_kept slot off = ap (λ b. cond b (suc (last_lsn log)) (last_in_cell chosen page slot log)) off

  -- one that is
  last_new : (slot : ℕ) → (writes page slot r && chosen (suc (last_lsn log))) ≡ true → last_in_cell chosen page slot (log ▸ r) ≡ suc (last_lsn log)
  last_new slot on = ap (λ b. cond b (suc (last_lsn log)) (last_in_cell chosen page slot log)) on

  lasts_kept : ((slot : ℕ) → (writes page slot r && chosen (suc (last_lsn log))) ≡ false) → lasts_in chosen page (log ▸ r) ≡ lasts_in chosen page log
  lasts_kept off = same_below (λ _ slot. last_in_cell chosen page slot (log ▸ r)) (λ _ slot. last_in_cell chosen page slot log) page (λ slot _. last_kept slot (off slot))

  -- one that redo does not apply
  pub lasts_over : chosen (suc (last_lsn log)) ≡ false → lasts_in chosen page (log ▸ r) ≡ lasts_in chosen page log
  lasts_over over = lasts_kept (λ slot. ap (λ b. writes page slot r && b) over ∙ and_right (writes page slot r) false refl)

  -- one in a slot of another page, or of none
  lasts_elsewhere : ((slot : ℕ) → writes page slot r ≡ false) → lasts_in chosen page (log ▸ r) ≡ lasts_in chosen page log
  lasts_elsewhere off = lasts_kept (λ slot. ap (λ b. b && chosen (suc (last_lsn log))) (off slot))

  -- one that redo applies to a slot
  lasts_here : (at : ℕ) → ((slot : ℕ) → writes page slot r ≡ eqb at slot) → chosen (suc (last_lsn log)) ≡ true → set (lasts_in chosen page log) at (suc (last_lsn log)) ≡ lasts_in chosen page (log ▸ r)
  lasts_here at only on =
      dite (dec_lt at SLOTS)
      (λ lt.
      set-tabulated (λ slot. last_in_cell chosen page slot log) (λ slot. last_in_cell chosen page slot (log ▸ r)) SLOTS at (suc (last_lsn log)) lt other
      (last_new at (ap (λ b. b && chosen (suc (last_lsn log))) (only at ∙ eq-eqb at at refl) ∙ on)))
      (λ ge.
      set_past (lasts_in chosen page log) at (suc (last_lsn log)) (omega (arith, length-map-range_with_len (λ slot. last_in_cell chosen page slot log) 0 SLOTS))
      ∙ sym (same_below (λ _ slot. last_in_cell chosen page slot (log ▸ r)) (λ _ slot. last_in_cell chosen page slot log) page (λ slot lt. other slot (λ e. omega arith))))
    where
      other : (slot : ℕ) → slot ≢ at → last_in_cell chosen page slot (log ▸ r) ≡ last_in_cell chosen page slot log
      other slot ne = last_kept slot (ap (λ b. b && chosen (suc (last_lsn log))) (only slot ∙ ne_eqb at slot (λ e. ne (sym e))))

-- a tally that has the last records of a page has them with one more record
module _ (rec_lsn : Option ℕ) (redo_lsn : ℕ) (log : History) (r : LogRecord) (image : Page) (t : Tally) (number : t.number ≡ image.number) (listed : t.rec_lsn ≡ rec_lsn)
    (lsn : t.lsn ≡ last_where (is_redone rec_lsn redo_lsn image.lsn) image.number image.lsn log) (lasts : t.lasts ≡ lasts_in (is_redone rec_lsn redo_lsn image.lsn) image.number log) where
  more_by : (o : Option Change) → ((slot : ℕ) → writes image.number slot r ≡ is_in_cell image.number slot o)
      → (counted_by redo_lsn (suc (last_lsn log)) (option_map (λ c. (c.page, c.slot)) o) t).lasts ≡ lasts_in (is_redone rec_lsn redo_lsn image.lsn) image.number (log ▸ r)
  more_by None only = lasts ∙ sym (lasts_elsewhere (is_redone rec_lsn redo_lsn image.lsn) image.number log r only)
  more_by (Some c) only =
      let n = suc (last_lsn log) in
      let chosen = is_redone rec_lsn redo_lsn image.lsn in
      let new : Tally = record { number = t.number; lsn = n; rec_lsn = t.rec_lsn; applied = suc t.applied; lasts = set t.lasts c.slot n } in
      let one : Bool → Tally = λ b. cond b (counted redo_lsn n c.slot t) t in
      let page : eqb c.page t.number ≡ eqb c.page image.number = ap (eqb c.page) number in
      let test : is_redone t.rec_lsn redo_lsn t.lsn n ≡ chosen n = ap₂ (λ o l. is_redone o redo_lsn l n) listed lsn ∙ lacks_same rec_lsn redo_lsn log r image in
      elim (cases_Bool (eqb c.page image.number)) [
        | inl here ↦
            elim (cases_Bool (chosen n)) [
              | inl lacking ↦
                  (ap (λ b. (one b).lasts) (page ∙ here) ∙ ap (λ b. (cond b new t).lasts) (test ∙ lacking) ∙ ap (λ xs. set xs c.slot n) lasts
                  ∙ lasts_here chosen image.number log r c.slot (λ slot. only slot ∙ ap (λ b. b && eqb c.slot slot) here) lacking)
              | inr over ↦ (ap (λ b. (one b).lasts) (page ∙ here) ∙ ap (λ b. (cond b new t).lasts) (test ∙ over) ∙ lasts ∙ sym (lasts_over chosen image.number log r over))
            ]
        | inr off ↦ (ap (λ b. (one b).lasts) (page ∙ off) ∙ lasts ∙ sym (lasts_elsewhere chosen image.number log r (λ slot. only slot ∙ ap (λ b. b && eqb c.slot slot) off)))
      ]

  pub lasts_more : (counted_by redo_lsn (suc (last_lsn log)) (cell_of r) t).lasts ≡ lasts_in (is_redone rec_lsn redo_lsn image.lsn) image.number (log ▸ r)
  lasts_more = more_by (change_of r) (λ slot. refl)

-- WHAT THE SLOTS HOLD, by the last records
pub held_by_last : (whole log : History) (chosen : ℕ → Bool) (state : Cells) (page slot : ℕ) (x : Image) → ((n : ℕ) → n ≤ last_lsn log → record_at whole n ≡ record_at log n) → x ≡ state page slot
    → held_after whole (last_in_cell chosen page slot log) x ≡ effects (λ n _. chosen n) state log page slot
held_by_last whole (start _) chosen state page slot x same is = is
held_by_last whole (log ▸ r) chosen state page slot x same is =
    let n = suc (last_lsn log) in
    let older = effects (λ n _. chosen n) state log page slot in
    elim (cases_Bool (writes page slot r && chosen n)) [
      | inl on ↦
          (ap (λ k. held_after whole k x) (last_new chosen page log r slot on)
          ∙ (held_some whole n x (λ e. omega (arith, e)) ∙ ap image_in (same n (omega arith) ∙ record_last log r) ∙ sym (ap (λ b. cond b (image_of r) older) on)))
      | inr off ↦
          (ap (λ k. held_after whole k x) (last_kept chosen page log r slot off)
          ∙ held_by_last whole log chosen state page slot x (λ k le. same k (omega (arith, le)) ∙ record_older log r k le) is ∙ sym (ap (λ b. cond b (image_of r) older) off))
    ]

-- TWO STRETCHES: the later one begins after an LSN, up to which it chooses no record
module _ (chosen later : ℕ → Bool) (mid : ℕ) (after : (n : ℕ) → mid < n → later n ≡ chosen n) (up_to : (n : ℕ) → n ≤ mid → later n ≡ false) (page slot : ℕ) where
  last_idle : (log : History) → last_lsn log ≤ mid → last_in_cell later page slot log ≡ 0
  last_idle (start _) le = refl
  last_idle (log ▸ r) le =
      last_kept later page log r slot (ap (λ b. writes page slot r && b) (up_to (suc (last_lsn log)) le) ∙ and_right (writes page slot r) false refl) ∙ last_idle log (omega (arith, le))

  pub last_two : (log : History) → last_in_cell chosen page slot log ≡ cond (eqb (last_in_cell later page slot log) 0) (last_in_cell chosen page slot (first mid log)) (last_in_cell later page slot log)
  last_two (start _) = refl
  last_two (log ▸ r) =
      let n = suc (last_lsn log) in
      let front = last_in_cell chosen page slot (first mid (log ▸ r)) in
      elim (cases_Bool (ltb (last_lsn log) mid)) [
        | inl e ↦
            (let whole : first mid (log ▸ r) ≡ log ▸ r = ap (λ b. cond b (log ▸ r) (first mid log)) e in
            let none = last_idle (log ▸ r) (omega (arith, ltb-true (last_lsn log) mid e)) in
            sym (ap (λ k. cond (eqb k 0) front k) none ∙ ap (last_in_cell chosen page slot) whole))
        | inr e ↦
            (let past = ltb-false (last_lsn log) mid e in
            let older : first mid (log ▸ r) ≡ first mid log = first_older log r mid past in
            let same : later n ≡ chosen n = after n (omega (arith, past)) in
            elim (cases_Bool (writes page slot r && chosen n)) [
              | inl on ↦
                  (let there = last_new later page log r slot (ap (λ b. writes page slot r && b) same ∙ on) in
                  last_new chosen page log r slot on ∙ sym (ap (λ k. cond (eqb k 0) front k) there ∙ ap (λ b. cond b front n) (ne_eqb n 0 (λ z. omega (arith, z)))))
              | inr off ↦
                  (let kept = last_kept later page log r slot (ap (λ b. writes page slot r && b) same ∙ off) in
                  last_kept chosen page log r slot off ∙ last_two log
                  ∙ sym (ap (λ k. cond (eqb k 0) front k) kept ∙ ap (λ h. cond (eqb (last_in_cell later page slot log) 0) (last_in_cell chosen page slot h) (last_in_cell later page slot log)) older))
            ])
      ]

-- the same of a page as a whole, by what redo applies to its image
module _ (rec_lsn other : Option ℕ) (redo_lsn begins : ℕ) (image : Page) (mid : ℕ) (after : (n : ℕ) → mid < n → is_redone other begins image.lsn n ≡ is_redone rec_lsn redo_lsn image.lsn n)
    (up_to : (n : ℕ) → n ≤ mid → is_redone other begins image.lsn n ≡ false) where
  abbrev chosen : ℕ → Bool
  chosen = is_redone rec_lsn redo_lsn image.lsn

  abbrev later : ℕ → Bool
  later = is_redone other begins image.lsn

  abbrev lsn_by : (ℕ → Bool) → History → ℕ
  lsn_by test log = last_where test image.number image.lsn log

  abbrev count : History → ℕ
  count log = applied rec_lsn redo_lsn image log

  abbrev more : History → ℕ
  more log = applied other begins image log

  on_by : (log : History) (r : LogRecord) (b : Bool) → (is_on image.number r && chosen (suc (last_lsn log))) ≡ b → mid ≤ last_lsn log → (is_on image.number r && later (suc (last_lsn log))) ≡ b
  on_by log r b e past = ap (λ c. is_on image.number r && c) (after (suc (last_lsn log)) (omega (arith, past))) ∙ e

  none_more : (log : History) → last_lsn log ≤ mid → more log ≡ 0
  none_more (start _) le = refl
  none_more (log ▸ r) le =
      ap (λ b. cond b (suc (more log)) (more log)) (ap (λ b. is_on image.number r && b) (up_to (suc (last_lsn log)) le) ∙ and_right (is_on image.number r) false refl) ∙ none_more log (omega (arith, le))

  whole_first : (log : History) (r : LogRecord) → ltb (last_lsn log) mid ≡ true → first mid (log ▸ r) ≡ log ▸ r
  whole_first log r e = ap (λ b. cond b (log ▸ r) (first mid log)) e

  -- how many records are applied
  pub count_two : (log : History) → count log ≡ count (first mid log) + more log
  count_two (start _) = refl
  count_two (log ▸ r) =
      let n = suc (last_lsn log) in
      elim (cases_Bool (ltb (last_lsn log) mid)) [
        | inl e ↦ omega (arith, none_more (log ▸ r) (omega (arith, ltb-true (last_lsn log) mid e)), ap count (whole_first log r e))
        | inr e ↦
            (let past = ltb-false (last_lsn log) mid e in
            let older : count (first mid (log ▸ r)) ≡ count (first mid log) = ap count (first_older log r mid past) in
            elim (cases_Bool (is_on image.number r && chosen n)) [
              | inl on ↦
                  omega (arith, older, count_two log, ap (λ b. cond b (suc (count log)) (count log)) on, ap (λ b. cond b (suc (more log)) (more log)) (on_by log r true on past))
              | inr off ↦
                  omega (arith, older, count_two log, ap (λ b. cond b (suc (count log)) (count log)) off, ap (λ b. cond b (suc (more log)) (more log)) (on_by log r false off past))
            ])
      ]

  -- the PageLSN
  pub lsn_two : (log : History) → lsn_by chosen log ≡ cond (eqb (more log) 0) (lsn_by chosen (first mid log)) (lsn_by later log)
  lsn_two (start _) = refl
  lsn_two (log ▸ r) =
      let n = suc (last_lsn log) in
      let front = lsn_by chosen (first mid (log ▸ r)) in
      let end = lsn_by later (log ▸ r) in
      elim (cases_Bool (ltb (last_lsn log) mid)) [
        | inl e ↦
            (let none = none_more (log ▸ r) (omega (arith, ltb-true (last_lsn log) mid e)) in sym (ap (λ k. cond (eqb k 0) front end) none ∙ ap (lsn_by chosen) (whole_first log r e)))
        | inr e ↦
            (let past = ltb-false (last_lsn log) mid e in
            let older : front ≡ lsn_by chosen (first mid log) = ap (lsn_by chosen) (first_older log r mid past) in
            elim (cases_Bool (is_on image.number r && chosen n)) [
              | inl on ↦
                  (let on_later = on_by log r true on past in
                  let some : more (log ▸ r) ≡ suc (more log) = ap (λ b. cond b (suc (more log)) (more log)) on_later in
                  let there : end ≡ n = ap (λ b. cond b n (lsn_by later log)) on_later in
                  ap (λ b. cond b n (lsn_by chosen log)) on ∙ sym (ap (λ k. cond (eqb k 0) front end) some ∙ ap (λ b. cond b front end) (ne_eqb (suc (more log)) 0 (λ z. omega (arith, z))) ∙ there))
              | inr off ↦
                  (let off_later = on_by log r false off past in
                  let none : more (log ▸ r) ≡ more log = ap (λ b. cond b (suc (more log)) (more log)) off_later in
                  let there : end ≡ lsn_by later log = ap (λ b. cond b n (lsn_by later log)) off_later in
                  ap (λ b. cond b n (lsn_by chosen log)) off ∙ lsn_two log
                  ∙ sym (ap (λ k. cond (eqb k 0) front end) none ∙ ap₂ (λ a b. cond (eqb (more log) 0) a b) older there))
            ])
      ]

  -- if none is applied in the later stretch, none is the last of a slot
  pub none_last : (slot : ℕ) (log : History) → more log ≡ 0 → last_in_cell later image.number slot log ≡ 0
  none_last slot (start _) none = refl
  none_last slot (log ▸ r) none =
      let n = suc (last_lsn log) in
      elim (cases_Bool (is_on image.number r && later n)) [
        | inl on ↦ absurd (let some : more (log ▸ r) ≡ suc (more log) = ap (λ b. cond b (suc (more log)) (more log)) on in omega (arith, some, none))
        | inr off ↦
            (let before : more log ≡ 0 = sym (ap (λ b. cond b (suc (more log)) (more log)) off) ∙ none in
            last_kept later image.number log r slot
            (elim (cases_Bool (writes image.number slot r)) [
              | inl w ↦ ap (λ b. b && later n) (w ∙ sym (writes_on image.number slot r w)) ∙ off
              | inr w ↦ ap (λ b. b && later n) w
            ])
            ∙ none_last slot log before)
      ]

  -- the last one that is applied is one that is chosen
  last_chosen : (log : History) → (more log ≡ 0 → ⊥) → later (lsn_by later log) ≡ true
  last_chosen (start _) some = absurd (some refl)
  last_chosen (log ▸ r) some =
      let n = suc (last_lsn log) in
      elim (cases_Bool (is_on image.number r && later n)) [
        | inl on ↦ ap later (ap (λ b. cond b n (lsn_by later log)) on) ∙ (and_parts (is_on image.number r) (later n) on).1
        | inr off ↦
            ap later (ap (λ b. cond b n (lsn_by later log)) off)
            ∙ last_chosen log (λ none. some (ap (λ b. cond b (suc (more log)) (more log)) off ∙ none))
      ]

  first_within : (log : History) → (lsn_by chosen (first mid log) ≡ image.lsn) ⊎ (lsn_by chosen (first mid log) ≤ mid)
  first_within (start _) = inl refl
  first_within (log ▸ r) =
      elim (cases_Bool (ltb (last_lsn log) mid)) [
        | inl e ↦
            (let whole = ap (lsn_by chosen) (whole_first log r e) in
            elim (last_between rec_lsn redo_lsn image.number image.lsn (log ▸ r)) [
              | inl same ↦ inl (whole ∙ same)
              | inr b ↦ inr (omega (arith, whole, b.1, ltb-true (last_lsn log) mid e))
            ])
        | inr e ↦
            (let older = ap (lsn_by chosen) (first_older log r mid (ltb-false (last_lsn log) mid e)) in
            elim (first_within log) [ inl same ↦ inl (older ∙ same) | inr le ↦ inr (omega (arith, older, le)) ])
      ]

  -- the page lacks it after the earlier stretch
  pub lacks_two : (log : History) → (more log ≡ 0 → ⊥) → is_redone rec_lsn redo_lsn (lsn_by chosen (first mid log)) (lsn_by later log) ≡ true
  lacks_two log some =
      let l = lsn_by later log in
      let is = last_chosen log some in
      let past : mid < l = elim (cases_lt mid l) [ inl lt ↦ lt | inr le ↦ absurd (false≢true (sym (up_to l le) ∙ is)) ] in
      let lacks : chosen l ≡ true = sym (after l past) ∙ is in
      let above = redone_above rec_lsn redo_lsn image.lsn l lacks in
      elim (first_within log) [
        | inl same ↦ ap (λ k. is_redone rec_lsn redo_lsn k l) same ∙ lacks
        | inr le ↦
            redone_same rec_lsn redo_lsn (lsn_by chosen (first mid log)) image.lsn l (lt-ltb (lsn_by chosen (first mid log)) l (omega (arith, le, past)) ∙ sym (lt-ltb image.lsn l above)) ∙ lacks
      ]
