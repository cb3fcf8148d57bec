-- The law of a page, decided by the last writers of its cells.
use Rattle.std.proofs.Common.{◌-◌, ◌≡◌, ◌<◌, ◌≤◌, ◌+◌, ◌*◌, ◌&&◌, ℕ, suc, Bool, true, false, cond, List, [], length, get_or, set, None, refl, sym, ap, ap₂, ◌∙◌, inl, inr, arith, eqb, eqb-true, ltb, leb}
use Rattle.std.proofs.lemmas.Bool.{cases_Bool, ltb-true, ltb-false, le-leb, lt-leb, and_parts, cases_lt}
use Rattle.std.proofs.lemmas.List.FromFn.{get_or-map-range_with_len, length-map-range_with_len}
use Rattle.std.proofs.lemmas.List.{ext_get_or, get_or_default}
use Rattle.page.specs.Image.{Image}
use Rattle.std.specs.Prelude.{◌⊎◌}
use Rattle.page.specs.declared.page.Page.{Page}
use Rattle.log_laws.specs.Records.{LogRecord, Update, Compensation, History, ◌▸◌, first, last_lsn, record_at, base_lsn}
use Rattle.log_laws.specs.Meaning.{BasePages, cell_of, replay, writes}
use Rattle.log_laws.specs.Redo.{slots_in}
use Rattle.log_laws.specs.Store.{NamesPages}
use Rattle.wal.specs.Spelling.{Fits}
use Rattle.audit.specs.Cells.{image_or, last_write, KeepsWriters}
use Rattle.audit.specs.Pages.{page_lsn, log_at, writers_after, KeepsPage}
use Rattle.audit.proofs.Cells.{last_write_within, image_in_last}
use Rattle.audit.proofs.Noting.{put_there, left_there}
use Rattle.log_laws.proofs.Histories.{first_all, first_first, size_of_first_le, record_in_first, first_base}
use Rattle.page.specs.declared.profile.TheConstants.{SLOTS}

-- BEGINNINGS
-- one more record, for a page whose PageLSN is k
step : (page slot k : ℕ) (log : History) (r : LogRecord) → last_write page slot (first k (log ▸ r)) ≡ cond (writes page slot r && ltb (last_lsn log) k) (suc (last_lsn log)) (last_write page slot (first k log))
step page slot k log r =
    elim (cases_Bool (ltb (last_lsn log) k)) [
      | inl e ↦
          (let l : last_lsn log < k = ltb-true (last_lsn log) k e in
          let f : first k log ≡ log = first_all k log (omega arith) in
          elim (cases_Bool (writes page slot r)) [
            | inl w ↦ rw (e, w) refl
            | inr w ↦ rw (e, w) (ap (last_write page slot) (sym f))
          ])
      | inr e ↦
          elim (cases_Bool (writes page slot r)) [
            | inl w ↦ rw (e, w) refl
            | inr w ↦ rw (e, w) refl
          ]
    ]

le_is_lt : (n m k : ℕ) → n + 1 ≡ m → leb m k ≡ ltb n k
le_is_lt n m k e = elim (cases_Bool (ltb n k)) [ inl h ↦ (let l : n < k = ltb-true n k h in le-leb m k (omega arith) ∙ sym h) | inr h ↦ (let l : k ≤ n = ltb-false n k h in lt-leb m k (omega arith) ∙ sym h) ]

-- the last writers after a record that is in a cell, and after one that is in none
module _ (pages : List Page) (log : History) (r : LogRecord) (lsn : ℕ) (at : last_lsn log + 1 ≡ lsn) (ws : List ℕ) (keeps : KeepsWriters (length pages) (log_at pages log) ws) where
  abbrev Written : (History) → (page slot : ℕ) → ℕ
  Written h page slot = last_write page slot (log_at pages h page)

  -- whether the record counts, by the PageLSN of its page
  counts_there : (p s page slot : ℕ) (b : Bool) → leb lsn (page_lsn pages p) ≡ b → (eqb p page && eqb s slot) ≡ true → ltb (last_lsn log) (page_lsn pages page) ≡ b
  counts_there p s page slot b e w =
      let same : p ≡ page = eqb-true p page (and_parts (eqb p page) (eqb s slot) w).0 in
      ap (λ n. ltb (last_lsn log) (page_lsn pages n)) (sym same) ∙ sym (le_is_lt (last_lsn log) lsn (page_lsn pages p) at) ∙ e

  in_cell : (p s : ℕ) → ((page slot : ℕ) → writes page slot r ≡ (eqb p page && eqb s slot)) → p < length pages → s < SLOTS
      → KeepsWriters (length pages) (log_at pages (log ▸ r)) (cond (leb lsn (page_lsn pages p)) (set ws (SLOTS * p + s) lsn) ws)
  in_cell p s on lp ls =
      elim (cases_Bool (leb lsn (page_lsn pages p))) [
        | inl b ↦
            rw b
            (put_there (length pages) (Written log) (Written (log ▸ r)) ws p s lsn lp ls
            (λ page slot.
            step page slot (page_lsn pages page) log r
            ∙ elim (cases_Bool (eqb p page && eqb s slot)) [
              | inl w ↦
                  (let i : writes page slot r ≡ true = on page slot ∙ w in
                  let k : ltb (last_lsn log) (page_lsn pages page) ≡ true = counts_there p s page slot true b w in
                  let n : suc (last_lsn log) ≡ lsn = omega arith in
                  rw (i, k, w) n)
              | inr w ↦ (let i : writes page slot r ≡ false = on page slot ∙ w in rw (i, w) refl)
            ])
            keeps)
        | inr b ↦
            rw b
            (left_there (length pages) (Written log) (Written (log ▸ r)) ws
            (λ page slot.
            step page slot (page_lsn pages page) log r
            ∙ elim (cases_Bool (eqb p page && eqb s slot)) [
              | inl w ↦
                  (let i : writes page slot r ≡ true = on page slot ∙ w in
                  let k : ltb (last_lsn log) (page_lsn pages page) ≡ false = counts_there p s page slot false b w in
                  rw (i, k) refl)
              | inr w ↦ (let i : writes page slot r ≡ false = on page slot ∙ w in rw i refl)
            ])
            keeps)
      ]

  in_none : ((page slot : ℕ) → writes page slot r ≡ false) → KeepsWriters (length pages) (log_at pages (log ▸ r)) ws
  in_none off = left_there (length pages) (Written log) (Written (log ▸ r)) ws (λ page slot. step page slot (page_lsn pages page) log r ∙ (let i = off page slot in rw i refl)) keeps

pub writers_noted : (pages : List Page) (log : History) (r : LogRecord) (lsn : ℕ) (ws : List ℕ) → last_lsn log + 1 ≡ lsn → NamesPages (length pages) r → Fits r → KeepsWriters (length pages) (log_at pages log) ws
    → KeepsWriters (length pages) (log_at pages (log ▸ r)) (writers_after (page_lsn pages) ws (cell_of r) lsn)
writers_noted pages log (Update u) lsn ws at named fits keeps =
    let s : u.slot ≤ SLOTS - 1 = fits.slot in
    in_cell pages log (Update u) lsn at ws keeps u.page u.slot (λ page slot. refl) named (omega arith)
writers_noted pages log (Compensation u) lsn ws at named fits keeps =
    let s : u.slot ≤ SLOTS - 1 = fits.slot in
    in_cell pages log (Compensation u) lsn at ws keeps u.page u.slot (λ page slot. refl) named (omega arith)
writers_noted pages log r lsn ws at named fits keeps = in_none pages log r lsn at ws keeps (λ page slot. refl)

-- the last write up to an LSN is not above it
write_low : (page slot lsn : ℕ) (log : History) → last_write page slot (first lsn log) ≤ lsn
write_low page slot lsn log =
    elim (cases_lt lsn (base_lsn log)) [
      | inl below ↦ (let none : last_write page slot (first lsn log) ≡ 0 = ap (last_write page slot) (first_base log lsn (omega (arith, below))) in omega (arith, none))
      | inr above ↦ omega (arith, last_write_within page slot (first lsn log), size_of_first_le lsn log above)
    ]

-- SLOTS
module _ (base : BasePages) (log : History) (ws : List ℕ) (page : Page) (keeps : KeepsPage log ws page) where
  value_left : (k : ℕ) → k < SLOTS → image_or (base.cells page.number k) (record_at log (get_or ws (SLOTS * page.number + k) 0)) ≡ replay base (first page.lsn log) page.number k
  value_left k lt =
      let w : ℕ = last_write page.number k (first page.lsn log) in
      let low : w ≤ page.lsn = write_low page.number k page.lsn log in
      ap (λ n. image_or (base.cells page.number k) (record_at log n)) (keeps k lt)
      ∙ ap (image_or (base.cells page.number k)) (sym (record_in_first page.lsn log w low))
      ∙ image_in_last base page.number k (first page.lsn log)

  abbrev pub AreLeft : Type 0
  AreLeft = (k : ℕ) → k < SLOTS → get_or page.slots k None ≡ image_or (base.cells page.number k) (record_at log (get_or ws (SLOTS * page.number + k) 0))

  slot_is : (k : ℕ) → k < SLOTS → get_or (slots_in (replay base (first page.lsn log)) page.number) k None ≡ replay base (first page.lsn log) page.number k
  slot_is k lt = get_or-map-range_with_len (replay base (first page.lsn log) page.number) 0 SLOTS k k None lt (omega arith)

  pub left_slots : length page.slots ≡ SLOTS → AreLeft → page.slots ≡ slots_in (replay base (first page.lsn log)) page.number
  left_slots len left =
      ext_get_or None page.slots (slots_in (replay base (first page.lsn log)) page.number) (len ∙ sym (length-map-range_with_len (replay base (first page.lsn log) page.number) 0 SLOTS))
      (λ k lt. let lt' : k < SLOTS = omega arith in left k lt' ∙ value_left k lt' ∙ sym (slot_is k lt'))

  pub slots_left : page.slots ≡ slots_in (replay base (first page.lsn log)) page.number → AreLeft
  slots_left e k lt = ap (λ (xs : List Image). get_or xs k None) e ∙ slot_is k lt ∙ sym (value_left k lt)

-- the cells of a page at its place
pub keeps_page : (pages : List Page) (log : History) (ws : List ℕ) (i : ℕ) (page : Page) → page ≡ get_or pages i page → i < length pages → page.number ≡ i
    → KeepsWriters (length pages) (log_at pages log) ws → KeepsPage log ws page
keeps_page pages log ws i page is lt number keeps slot lt' =
    let blank : Page = record { number = 0; lsn = 0; slots = [] } in
    let lsn : page_lsn pages i ≡ page.lsn = ap (λ (p : Page). p.lsn) (get_or_default pages i blank page lt ∙ sym is) in
    ap (λ n. get_or ws (SLOTS * n + slot) 0) number
    ∙ keeps.each i slot 0 lt lt'
    ∙ ap₂ (λ n k. last_write n slot (first k log)) (sym number) lsn

-- WRITERS
-- the records up to the highest PageLSN are enough
pub writers_all : (pages : List Page) (log : History) (lsn highest : ℕ) (ws : List ℕ) → ((page : ℕ) → page < length pages → page_lsn pages page ≤ highest) → (last_lsn log ≤ lsn) ⊎ (highest ≤ lsn)
    → KeepsWriters (length pages) (log_at pages (first lsn log)) ws → KeepsWriters (length pages) (log_at pages log) ws
writers_all pages log lsn highest ws low enough keeps = record { size_is = keeps.size_is; each = λ page slot d lt small. keeps.each page slot d lt small ∙ ap (last_write page slot) (same page lt) }
  where
    same : (page : ℕ) → page < length pages → first (page_lsn pages page) (first lsn log) ≡ first (page_lsn pages page) log
    same page lt =
        elim enough [
          | inl all ↦ ap (first (page_lsn pages page)) (first_all lsn log all)
          | inr above ↦ first_first (page_lsn pages page) lsn log (omega (arith, low page lt, above))
        ]
