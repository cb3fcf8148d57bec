-- Redo of a log without a checkpoint, by tables that list each page of the store from the log's first record on.
use Rattle.std.proofs.Common.{◌≡◌, ◌≢◌, ℕ, suc, ◌+◌, ◌<◌, ◌≤◌, max, Bool, true, false, cond, eqb, ltb, eqb-true, eq-eqb, ne_eqb, List, [], ◌∷◌, All, length, map, sum, get_or, Option, Some, None, refl, sym, ap, ap₂, ◌∙◌, subst, inl, inr, arith}
use Rattle.std.specs.Prelude.{option_map}
use Rattle.std.specs.List.{range_with_len}
use Rattle.std.proofs.lemmas.Bool.{cases_Bool, le-leb}
use Rattle.page.specs.declared.fault.Fault.{Fault}
use Rattle.page.specs.declared.fault.Fault.TheVariants.{NoResource, BadWorkers, NoSuchPage}
use Rattle.page.specs.declared.page.Page.{Page}
use Rattle.page.specs.Store.{AreNumbered}
use Rattle.page.specs.declared.profile.TheConstants.{SLOTS}
use Rattle.log_laws.specs.Records.{LogRecord, TableEntry, LogContent, History, start, ◌▸◌, history, last_lsn, base_lsn, record_at}
use Rattle.log_laws.specs.Meaning.{Cells, Change, change_of, effects, is_on, is_on_page, is_in_cell}
use Rattle.log_laws.specs.Redo.{rec_lsn_of, is_redone, last_where, held_by, redo_of, applied}
use Rattle.log_laws.specs.Checkpoint.{or_else}
use Rattle.log_laws.proofs.Histories.{record_last, record_more, record_above, base_within}
use Rattle.tables.specs.Tables.{TablesContent}
use Rattle.analysis.specs.Tables.{AreTablesOf, first_behind, redo_lsn_of}
use Rattle.analysis.proofs.Fresh.{first_next}
use Rattle.analysis.proofs.Smallest.{not_below}
use Rattle.redo.specs.Changes.{page_named}
use Rattle.redo.specs.Redone.{RedoneContent, redone_page, applied_to, IsLookedAt, AllExist, IsFirstMissing, RedoFault, RepeatsHistory}
use Rattle.redo.specs.Passing.{ListEach}

-- ---- a page after redo is the same by two tests that say the same of each record on it
module _ (one other : ℕ → Bool) (page : ℕ) where
  abbrev Agree : History → Type 0
  Agree log = (lsn : ℕ) (r : LogRecord) → record_at log lsn ≡ Some r → is_on page r ≡ true → one lsn ≡ other lsn

  agree_before : (log : History) (r : LogRecord) → Agree (log ▸ r) → Agree log
  agree_before log r agree lsn x there on = agree lsn x (record_more log r lsn x there) on

  last_same : (page_lsn : ℕ) (log : History) → Agree log → last_where one page page_lsn log ≡ last_where other page page_lsn log
  last_same page_lsn (start base) agree = refl
  last_same page_lsn (log ▸ r) agree =
      let before = last_same page_lsn log (agree_before log r agree) in
      elim (cases_Bool (is_on page r)) [
        | inl on ↦ (let now = agree (suc (last_lsn log)) r (record_last log r) on in rw (on, now, before) refl)
        | inr off ↦ rw off before
      ]

  on_if_written : (slot : ℕ) (o : Option Change) → is_on_page page o ≡ false → is_in_cell page slot o ≡ false
  on_if_written slot None off = refl
  on_if_written slot (Some c) off = rw off refl

  effects_same : (cells : Cells) (slot : ℕ) (log : History) → Agree log → effects (λ lsn _. one lsn) cells log page slot ≡ effects (λ lsn _. other lsn) cells log page slot
  effects_same cells slot (start base) agree = refl
  effects_same cells slot (log ▸ r) agree =
      let before = effects_same cells slot log (agree_before log r agree) in
      elim (cases_Bool (is_on page r)) [
        | inl on ↦ (let now = agree (suc (last_lsn log)) r (record_last log r) on in rw (now, before) refl)
        | inr off ↦ (let none = on_if_written slot (change_of r) off in rw none before)
      ]

map_same : {X Y : Type 0} (f g : X → Y) (xs : List X) → All (λ x. f x ≡ g x) xs → map f xs ≡ map g xs
map_same f g [] same = refl
map_same f g (x ∷ xs) same = ap₂ (λ y ys. y ∷ ys) (same 0 x (omega arith)) (map_same f g xs (λ k d lt. same (suc k) d (omega (arith, lt))))

-- two dirty page tables that choose the same of the records on a page
abbrev ChooseSame : (a b : Option ℕ) → (from on : ℕ) → Page → History → Type 0
ChooseSame a b from on image log = (lsn : ℕ) (r : LogRecord) → record_at log lsn ≡ Some r → is_on image.number r ≡ true → is_redone a from image.lsn lsn ≡ is_redone b on image.lsn lsn

redo_same : (a b : Option ℕ) (from on : ℕ) (image : Page) (log : History) → ChooseSame a b from on image log → redo_of a from log image ≡ redo_of b on log image
redo_same a b from on image log same =
    ap₂ (λ lsn slots. record { number = image.number; lsn = lsn; slots = slots })
    (last_same (is_redone a from image.lsn) (is_redone b on image.lsn) image.number image.lsn log same)
    (map_same (effects (λ lsn _. is_redone a from image.lsn lsn) (held_by image) log image.number) (effects (λ lsn _. is_redone b on image.lsn lsn) (held_by image) log image.number) (range_with_len 0 SLOTS) (λ k slot lt. effects_same (is_redone a from image.lsn) (is_redone b on image.lsn) image.number (held_by image) (get_or (range_with_len 0 SLOTS) k slot) log same))

applied_same : (a b : Option ℕ) (from on : ℕ) (image : Page) (log : History) → ChooseSame a b from on image log → applied a from image log ≡ applied b on image log
applied_same a b from on image (start base) same = refl
applied_same a b from on image (log ▸ r) same =
    let before = applied_same a b from on image log (λ lsn x there own. same lsn x (record_more log r lsn x there) own) in
    elim (cases_Bool (is_on image.number r)) [
      | inl own ↦ (let now = same (suc (last_lsn log)) r (record_last log r) own in rw (own, now, before) refl)
      | inr off ↦ rw off before
    ]

-- ---- where a page is listed without a checkpoint: at the first record on it
-- it is a record of the log
first_within : (p x : ℕ) (log : History) → first_behind 0 p log ≡ Some x → (base_lsn log < x) × (x ≤ last_lsn log)
first_within p x (start base) is = absurd cc
first_within p x (log ▸ r) is = by (λ y own. first_within p y log own) (first_behind 0 p log) refl (is_on p r) (sym (first_next p log r) ∙ is)
  where
    by : ((y : ℕ) → first_behind 0 p log ≡ Some y → (base_lsn log < y) × (y ≤ last_lsn log)) → (o : Option ℕ) → first_behind 0 p log ≡ o → (b : Bool) → or_else o (cond b (Some (suc (last_lsn log))) None) ≡ Some x → (base_lsn log < x) × (x ≤ suc (last_lsn log))
    by older (Some y) own b is = (let w = older x (own ∙ is) in (w.0, omega (arith, w.1)))
    by older None own true is = (let at : suc (last_lsn log) ≡ x = cc in (omega (arith, at, base_within log), omega (arith, at)))
    by older None own false is = absurd cc

-- it is not after any record on it
FirstOn : (p lsn : ℕ) → History → Type 0
FirstOn p lsn log = (x : ℕ) × (first_behind 0 p log ≡ Some x) × (base_lsn log < x) × (x ≤ lsn)

first_on : (p lsn : ℕ) (log : History) (r : LogRecord) → record_at log lsn ≡ Some r → is_on p r ≡ true → FirstOn p lsn log
unfolding FirstOn
first_on p lsn (start base) r there on = absurd cc
first_on p lsn (log ▸ own) r there on =
    elim (cases_Bool (eqb lsn (suc (last_lsn log)))) [
      | inl e ↦
          (let same : Some own ≡ Some r = rw e at there in
          let at : own ≡ r = cc in
          let own_on : is_on p own ≡ true = ap (λ x. is_on p x) at ∙ on in
          let last : lsn ≡ suc (last_lsn log) = eqb-true lsn (suc (last_lsn log)) e in
          by_last own_on last (first_behind 0 p log) refl)
      | inr e ↦
          (let before = first_on p lsn log r (rw e at there) on in (
            before.0,
            first_next p log own ∙ ap (λ o. or_else o (cond (is_on p own) (Some (suc (last_lsn log))) None)) before.1,
            before.2,
            before.3,
          ))
    ]
  where
    by_last : is_on p own ≡ true → lsn ≡ suc (last_lsn log) → (o : Option ℕ) → first_behind 0 p log ≡ o → FirstOn p lsn (log ▸ own)
    by_last on last None none = (suc (last_lsn log), first_next p log own ∙ ap₂ (λ o b. or_else o (cond b (Some (suc (last_lsn log))) None)) none on, omega (arith, base_within log), omega (arith, last))
    by_last on last (Some x) some =
        (let w = first_within p x log some in (x, first_next p log own ∙ ap (λ o. or_else o (cond (is_on p own) (Some (suc (last_lsn log))) None)) some, w.0, omega (arith, w.1, last)))

-- redo begins no later than at a page's RecLSN, and not before the log's first LSN
begins_by : (from page x : ℕ) (dirty : List (ℕ × ℕ)) → rec_lsn_of page dirty ≡ Some x → (from ≤ redo_lsn_of from dirty) × (redo_lsn_of from dirty ≤ max from x)
begins_by from page x [] is = absurd cc
begins_by from page x (d ∷ dirty) is = (not_below from d dirty, smallest d dirty is)
  where
    smallest : (d : ℕ × ℕ) (dirty : List (ℕ × ℕ)) → rec_lsn_of page (d ∷ dirty) ≡ Some x → redo_lsn_of from (d ∷ dirty) ≤ max from x
    smallest d [] is =
        elim (cases_Bool (eqb d.0 page)) [
          | inl e ↦ (let f : Some d.1 ≡ Some x = rw e at is in let at : d.1 ≡ x = cc in omega (arith, at))
          | inr e ↦ absurd (let f : None ≡ Some x = rw e at is in cc)
        ]
    smallest d (e ∷ dirty) is =
        elim (cases_Bool (eqb d.0 page)) [
          | inl same ↦ (let f : Some d.1 ≡ Some x = rw same at is in let at : d.1 ≡ x = cc in omega (arith, at))
          | inr other ↦ (let more = smallest e dirty (rw other at is) in omega (arith, more))
        ]

-- a record from the RecLSN of its page and from redo_lsn on is redone if the page lacks it
redone_from : (rec_lsn redo_lsn page_lsn lsn : ℕ) → rec_lsn ≤ lsn → redo_lsn ≢ 0 → redo_lsn ≤ lsn → is_redone (Some rec_lsn) redo_lsn page_lsn lsn ≡ ltb page_lsn lsn
redone_from rec_lsn redo_lsn page_lsn lsn listed some looked =
    let a = le-leb rec_lsn lsn listed in
    let b = ne_eqb redo_lsn 0 some in
    let c = le-leb redo_lsn lsn looked in
    rw (a, b, c) refl

-- a record that is on no page is on none past a count
page_of : (r : LogRecord) (page : ℕ) → page_named r ≡ Some page → is_on page r ≡ true
page_of r page named = by (change_of r) named
  where
    by : (o : Option Change) → option_map (λ (x : ℕ × ℕ). x.0) (option_map (λ (c : Change). (c.page, c.slot)) o) ≡ Some page → is_on_page page o ≡ true
    by None named = absurd cc
    by (Some c) named = (let at : c.page ≡ page = cc in eq-eqb c.page page at)

-- ---- redo from the first record on is redo by the tables that analysis finds
module _ (whole : LogContent) (found : TablesContent) (are : AreTablesOf whole 0 found) where
  abbrev log : History
  log = history whole

  -- the base of tables without a checkpoint is empty
  rec_lsn_found : (p : ℕ) → rec_lsn_of p found.dirty ≡ first_behind 0 p log
  rec_lsn_found p =
      let base : (are.transactions, are.dirty) ≡ ([], []) = cc in
      let none : are.dirty ≡ [] = ap (λ (x : List TableEntry × List (ℕ × ℕ)). x.1) base in
      are.pages p ∙ ap (λ dirty. or_else (rec_lsn_of p dirty) (first_behind 0 p log)) none

  -- each record on a page is looked at by both, and the page is listed by it
  looked_at : (p lsn : ℕ) (r : LogRecord) → record_at log lsn ≡ Some r → is_on p r ≡ true → (x : ℕ) × (rec_lsn_of p found.dirty ≡ Some x) × (x ≤ lsn) × IsLookedAt found.redo_lsn lsn
  unfolding FirstOn
  looked_at p lsn r there on =
      let own = first_on p lsn log r there on in
      let at : rec_lsn_of p found.dirty ≡ Some own.0 = rec_lsn_found p ∙ own.1 in
      let begins = begins_by (suc (base_lsn (history whole))) p own.0 found.dirty at in
      (own.0, at, own.3, ((λ zero. omega (arith, zero, are.redo_lsn, begins.0)), omega (arith, are.redo_lsn, begins.1, own.2, own.3)))

  looked_from_first : (lsn : ℕ) (r : LogRecord) → record_at log lsn ≡ Some r → IsLookedAt (base_lsn log + 1) lsn
  looked_from_first lsn r there = ((λ zero. omega (arith, zero)), omega (arith, record_above log lsn r there))

  exist_by_found : (count : ℕ) → AllExist whole count (base_lsn log + 1) → AllExist whole count found.redo_lsn
  exist_by_found count exist lsn r looked there = exist lsn r (looked_from_first lsn r there) there

  missing_by_found : (count lsn : ℕ) → IsFirstMissing whole count (base_lsn log + 1) lsn → IsFirstMissing whole count found.redo_lsn lsn
  missing_by_found count lsn missing =
      record {
        entry = missing.entry;
        looked_at = by (page_named missing.entry) refl;
        there = missing.there;
        beyond = missing.beyond;
        before = λ n r looked lt there. missing.before n r (looked_from_first n r there) lt there;
      }
    where
      by : (o : Option ℕ) → page_named missing.entry ≡ o → IsLookedAt found.redo_lsn lsn
      by None none = absurd (missing.beyond (λ page named. absurd (let f = sym none ∙ named in cc)))
      by (Some page) named = (looked_at page lsn missing.entry missing.there (page_of missing.entry page named)).3

  pub fault_by_found : (count : ℕ) (e : Fault) → RedoFault whole count (base_lsn log + 1) 1 e → RedoFault whole count found.redo_lsn 1 e
  fault_by_found count NoResource cause = tt
  fault_by_found count BadWorkers cause = cause
  fault_by_found count (NoSuchPage lsn) cause = (cause.0, missing_by_found count lsn cause.1)
  fault_by_found count e cause = absurd cause

  -- with tables that list each page
  module _ (listed : TablesContent) (count : ℕ) (each : ListEach count (base_lsn log + 1) listed) where
    choose_same : (image : Page) → image.number < count → ChooseSame (rec_lsn_of image.number listed.dirty) (rec_lsn_of image.number found.dirty) listed.redo_lsn found.redo_lsn image log
    choose_same image lt lsn r there on =
        let by_found = looked_at image.number lsn r there on in
        let by_listed = looked_from_first lsn r there in
        ap₂ (λ o n. is_redone o n image.lsn lsn) (each.pages image.number lt) each.begins
        ∙ redone_from (base_lsn log + 1) (base_lsn log + 1) image.lsn lsn by_listed.1 by_listed.0 by_listed.1
        ∙ sym (redone_from by_found.0 found.redo_lsn image.lsn lsn by_found.2 by_found.3.0 by_found.3.1)
        ∙ sym (ap (λ o. is_redone o found.redo_lsn image.lsn lsn) by_found.1)

    pub repeats_by_found : (images : List Page) (redone : RedoneContent) → length images ≡ count → AreNumbered images → RepeatsHistory whole listed images redone → RepeatsHistory whole found images redone
    repeats_by_found images redone size numbered repeats =
        let same : (k : ℕ) (d : Page) → k < length images → (get_or images k d).number < count = λ k d lt. omega (arith, numbered.at_place k d lt, lt, size) in
        let exist : AllExist whole (length images) (base_lsn log + 1) = subst (AllExist whole (length images)) each.begins repeats.exist in
        record {
          pages = repeats.pages ∙ map_same (redone_page whole listed) (redone_page whole found) images
              (λ k d lt. redo_same (rec_lsn_of (get_or images k d).number listed.dirty) (rec_lsn_of (get_or images k d).number found.dirty) listed.redo_lsn found.redo_lsn (get_or images k d) log (choose_same (get_or images k d) (same k d lt)));
          applied = repeats.applied ∙ ap sum (map_same (applied_to whole listed) (applied_to whole found) images
              (λ k d lt. applied_same (rec_lsn_of (get_or images k d).number listed.dirty) (rec_lsn_of (get_or images k d).number found.dirty) listed.redo_lsn found.redo_lsn (get_or images k d) log (choose_same (get_or images k d) (same k d lt))));
          exist = exist_by_found (length images) exist;
        }
