-- A log without a checkpoint: there is a table of its dirty pages, by which redo begins at the first record that changes a page.
use Rattle.std.proofs.Common.{ℕ, suc, ◌≡◌, ◌+◌, ◌<◌, ◌≤◌, Bool, true, false, cond, eqb, ltb, eq-eqb, eqb-true, ne_eqb, is_some, option_map, List, [], ◌∷◌, map, min, max, Option, Some, None, refl, sym, ap, ap₂, ◌∙◌, subst, inl, inr, arith}
use Rattle.std.specs.List.Sorted.{IsStrictlySortedBy}
use Rattle.std.specs.Map.{keys_of}
use Rattle.std.specs.Ordering.{nat_cmp}
use Rattle.std.proofs.lemmas.Bool.{cases_Bool, cases_eq, ltb-true, ltb-false, le-leb, le-ltb}
use Rattle.wal.specs.declared.record.Entry.{Entry}
use Rattle.wal.specs.Content.{entry_of}
use Rattle.log_laws.specs.Records.{LogRecord, History, start, ◌▸◌, ◌▸▸◌, LogContent, history, last_lsn, base_lsn, page_in}
use Rattle.log_laws.specs.Meaning.{Change, change_of, cell_of, is_on, is_on_page}
use Rattle.log_laws.specs.Redo.{rec_lsn_of}
use Rattle.log_laws.specs.Checkpoint.{or_else}
use Rattle.log_laws.proofs.Histories.{base_within}
use Rattle.log_laws.proofs.Rising.{RisesFrom, rises_rising}
use Rattle.tables.specs.Tables.{TablesContent}
use Rattle.analysis.specs.Tables.{entry_at, first_behind, redo_lsn_of, AreTablesOf}
use Rattle.analysis.specs.Steps.{lower}
use Rattle.analysis.specs.Fresh.{first_with, first_change, FreshTables, HasFound, AreFreshTables, FoundStretch, ContinuesFresh}
use Rattle.analysis.specs.Stretch.{ContinuesLog}
use Rattle.analysis.proofs.Rising.{entries_rise}
use Rattle.analysis.proofs.Scanned.{or_else-none}
use Rattle.analysis.proofs.Smallest.{not_below, lower-min}
use Rattle.analysis.proofs.Truth.{tables_true}

-- A PAGE LISTED among others, which are in ascending order and do not have it
abbrev listed_in : (page lsn : ℕ) → List (ℕ × ℕ) → List (ℕ × ℕ)
listed_in page lsn [] = (page, lsn) ∷ []
listed_in page lsn (d ∷ dirty) = cond (ltb page d.0) ((page, lsn) ∷ d ∷ dirty) (d ∷ listed_in page lsn dirty)

-- it is neither the first of them nor among the rest
not_first : (page : ℕ) (d : ℕ × ℕ) (dirty : List (ℕ × ℕ)) → rec_lsn_of page (d ∷ dirty) ≡ None → (eqb d.0 page ≡ false) × (rec_lsn_of page dirty ≡ None)
not_first page d dirty none =
    elim (cases_Bool (eqb d.0 page)) [
      | inl e ↦ absurd (let f : Some d.1 ≡ None = rw e at none in cc)
      | inr e ↦ (e, (rw e at none))
    ]

-- their RecLSNs, and its own
listed_lsn : (page lsn p : ℕ) (dirty : List (ℕ × ℕ)) → rec_lsn_of page dirty ≡ None → rec_lsn_of p (listed_in page lsn dirty) ≡ or_else (rec_lsn_of p dirty) (cond (eqb page p) (Some lsn) None)
listed_lsn page lsn p [] none = refl
listed_lsn page lsn p (d ∷ dirty) none =
    elim (cases_Bool (ltb page d.0)) [
      | inl before ↦
          elim (cases_Bool (eqb page p)) [
            | inl e ↦
                (let own : rec_lsn_of p (d ∷ dirty) ≡ None = subst (λ q. rec_lsn_of q (d ∷ dirty) ≡ None) (eqb-true page p e) none in
                rw (before, e) (ap (λ o. or_else o (Some lsn)) (sym own)))
            | inr e ↦ rw (before, e) (sym (or_else-none (rec_lsn_of p (d ∷ dirty))))
          ]
      | inr behind ↦
          (let more = listed_lsn page lsn p dirty (not_first page d dirty none).1 in
          elim (cases_Bool (eqb d.0 p)) [
            | inl e ↦ rw (behind, e) refl
            | inr e ↦ rw (behind, e) more
          ])
    ]

listed_rises : (page lsn low : ℕ) (dirty : List (ℕ × ℕ)) → rec_lsn_of page dirty ≡ None → low ≤ page → RisesFrom low (map page_in dirty) → RisesFrom low (map page_in (listed_in page lsn dirty))
listed_rises page lsn low [] none le rises = (le, tt)
listed_rises page lsn low (d ∷ dirty) none le rises =
    let other = not_first page d dirty none in
    elim (cases_Bool (ltb page d.0)) [
      | inl before ↦ rw before (le, (omega (arith, ltb-true page d.0 before), rises.1))
      | inr behind ↦
          (let ne : d.0 ≡ page → ⊥ = λ e. (let f : eqb d.0 page ≡ true = eq-eqb d.0 page e in cc) in
          rw behind (rises.0, listed_rises page lsn (d.0 + 1) dirty other.1 (omega (arith, ltb-false page d.0 behind, ne)) rises.1))
    ]

-- WHERE REDO BEGINS: the lower of two
min_swap : (x y : ℕ) → min x y ≡ min y x
min_swap x y = omega arith

min_three : (a x y : ℕ) → min (min a x) y ≡ min (min a y) x
min_three a x y = omega arith

lower-swap : (a x y : ℕ) → 1 ≤ x → 1 ≤ y → lower (lower a x) y ≡ lower (lower a y) x
lower-swap a x y some other =
    elim (cases_eq a 0) [
      | inl none ↦ ap (λ n. lower (lower n x) y) none ∙ (lower-min x y some ∙ (min_swap x y ∙ sym (lower-min y x other))) ∙ sym (ap (λ n. lower (lower n y) x) none)
      | inr positive ↦
          (let first = lower-min a x (omega (arith, positive)) in
          let second = lower-min a y (omega (arith, positive)) in
          ap (λ n. lower n y) first ∙ lower-min (min a x) y (omega (arith, positive, some))
          ∙ min_three a x y
          ∙ sym (ap (λ n. lower n x) second ∙ lower-min (min a y) x (omega (arith, positive, other))))
    ]

begins_with : (first : ℕ) (d : ℕ × ℕ) (dirty : List (ℕ × ℕ)) → 1 ≤ first → redo_lsn_of first (d ∷ dirty) ≡ lower (redo_lsn_of first dirty) (max first d.1)
begins_with first d [] some = refl
begins_with first d (e ∷ dirty) some =
    min_swap (max first d.1) (redo_lsn_of first (e ∷ dirty)) ∙ sym (lower-min (redo_lsn_of first (e ∷ dirty)) (max first d.1) (omega (arith, some, not_below first e dirty)))

listed_begins : (first page lsn : ℕ) (dirty : List (ℕ × ℕ)) → 1 ≤ first → redo_lsn_of first (listed_in page lsn dirty) ≡ lower (redo_lsn_of first dirty) (max first lsn)
listed_begins first page lsn [] some = refl
listed_begins first page lsn (d ∷ dirty) some =
    elim (cases_Bool (ltb page d.0)) [
      | inl before ↦ rw before (begins_with first (page, lsn) (d ∷ dirty) some)
      | inr behind ↦
          rw behind
          (begins_with first d (listed_in page lsn dirty) some
          ∙ ap (λ n. lower n (max first d.1)) (listed_begins first page lsn dirty some)
          ∙ lower-swap (redo_lsn_of first dirty) (max first lsn) (max first d.1) (omega (arith, some)) (omega (arith, some))
          ∙ ap (λ n. lower n (max first lsn)) (sym (begins_with first d dirty some)))
    ]

-- a table that lists a page does not begin before the first LSN
begins_late : (first p x : ℕ) (dirty : List (ℕ × ℕ)) → rec_lsn_of p dirty ≡ Some x → first ≤ redo_lsn_of first dirty
begins_late first p x [] is = absurd cc
begins_late first p x (d ∷ dirty) is = not_below first d dirty

-- ONE MORE RECORD
pub first_next : (p : ℕ) (log : History) (r : LogRecord) → first_behind 0 p (log ▸ r) ≡ or_else (first_behind 0 p log) (cond (is_on p r) (Some (suc (last_lsn log))) None)
first_next p log r = (let behind = le-leb 0 (last_lsn log) (omega arith) in rw behind refl)

chosen_within : (a b : Bool) (n x : ℕ) → x ≤ n → cond a (cond b (suc n) 0) x ≤ suc n
chosen_within true true n x le = omega arith
chosen_within true false n x le = omega arith
chosen_within false b n x le = omega (arith, le)

change_within : (log : History) → first_change log ≤ last_lsn log
change_within (start base) = omega arith
change_within (log ▸ r) = chosen_within (eqb (first_change log) 0) (is_some (cell_of r)) (last_lsn log) (first_change log) (change_within log)

-- the first one that changes a page
changes_none : (n : ℕ) → cond (eqb n 0) 0 n ≡ n
changes_none n = elim (cases_Bool (eqb n 0)) [ inl e ↦ rw e (sym (eqb-true n 0 e)) | inr e ↦ rw e refl ]

changes_later : (n lsn : ℕ) → 1 ≤ n → cond (eqb n 0) lsn n ≡ n
changes_later n lsn some = (let e : eqb n 0 ≡ false = ne_eqb n 0 (λ none. omega (arith, none, some)) in rw e refl)

lower_later : (n lsn : ℕ) → n < lsn → lower n lsn ≡ cond (eqb n 0) lsn n
lower_later n lsn lt =
    let later : ltb lsn n ≡ false = le-ltb lsn n (omega (arith, lt)) in
    elim (cases_Bool (eqb n 0)) [ inl e ↦ rw e refl | inr e ↦ rw (e, later) refl ]

pub first_more : (log : History) (r : LogRecord) (first lsn now : ℕ) → last_lsn log ≡ lsn → first ≡ first_change log → now ≡ first_with first (lsn + 1) r → now ≡ first_change (log ▸ r)
first_more log r first lsn now at same step = (let next : lsn + 1 ≡ suc (last_lsn log) = omega (arith, at) in step ∙ ap₂ (λ n l. first_with n l r) same next)

-- MORE RECORDS: the first one that changes a page is the one that was found, or the first of them that does
first_step : (n : ℕ) (a b : History) (r : LogRecord) → last_lsn a ≡ last_lsn b
    → first_change a ≡ cond (eqb n 0) (first_change b) n → first_change (a ▸ r) ≡ cond (eqb n 0) (first_change (b ▸ r)) n
first_step n a b r at same =
    elim (cases_Bool (eqb n 0)) [
      | inl i ↦ (let found : first_change a ≡ first_change b = rw i at same in rw i (ap₂ (λ k l. first_with k (suc l) r) found at))
      | inr i ↦
          (let found : first_change a ≡ n = rw i at same in
          rw i (ap (λ k. first_with k (suc (last_lsn a)) r) found ∙ ap (λ c. cond c (cond (is_some (cell_of r)) (suc (last_lsn a)) 0) n) i))
    ]

first_after : (n : ℕ) (a b : History) (records : List LogRecord) → last_lsn a ≡ last_lsn b
    → first_change a ≡ cond (eqb n 0) (first_change b) n → first_change (a ▸▸ records) ≡ cond (eqb n 0) (first_change (b ▸▸ records)) n
first_after n a b [] at same = same
first_after n a b (r ∷ records) at same = first_after n (a ▸ r) (b ▸ r) records (ap suc at) (first_step n a b r at same)

pub first_goes_on : (log : History) (records : List LogRecord)
    → first_change (log ▸▸ records) ≡ cond (eqb (first_change log) 0) (first_change (start (last_lsn log) ▸▸ records)) (first_change log)
first_goes_on log records = first_after (first_change log) log (start (last_lsn log)) records refl (sym (changes_none (first_change log)))

-- JOINED: a stretch to what was found before it
pub stretch_joined : (later : FoundStretch) (old new : FreshTables) → ContinuesLog later.stretch old.entries new.entries
    → new.first_change ≡ cond (eqb old.first_change 0) later.first_change old.first_change → ContinuesFresh later old new
stretch_joined later old new entries first log records told found = record {
  entries_are = λ t. entries t 0 None log records (omega arith) told.describes (found.entries_are t);
  first_is = first ∙ ap₂ (λ n l. cond (eqb n 0) l n) found.first_is told.first_is ∙ sym (first_goes_on log records);
}

-- THE TABLE
record IsListed (log : History) : Type 0 where
  dirty : List (ℕ × ℕ)
  pages : (p : ℕ) → rec_lsn_of p dirty ≡ first_behind 0 p log
  rises : RisesFrom 0 (map page_in dirty)
  begins : redo_lsn_of (suc (base_lsn log)) dirty ≡ first_change log

-- whether there is a cell
abbrev in_cell : Option Change → Bool
in_cell o = is_some {T = ℕ × ℕ} (option_map (λ (c : Change). (c.page, c.slot)) o)

module _ (log : History) (r : LogRecord) (old : IsListed log) where
  abbrev lsn : ℕ
  lsn = suc (last_lsn log)

  pages_next : (o : Option Change) → change_of r ≡ o → (p : ℕ) → first_behind 0 p (log ▸ r) ≡ or_else (rec_lsn_of p old.dirty) (cond (is_on_page p o) (Some lsn) None)
  pages_next o is p = first_next p log r ∙ ap₂ (λ a x. or_else a (cond (is_on_page p x) (Some lsn) None)) (sym (old.pages p)) is

  begins_next : (o : Option Change) → change_of r ≡ o → first_change (log ▸ r) ≡ cond (eqb (first_change log) 0) (cond (in_cell o) lsn 0) (first_change log)
  begins_next o is = ap (λ x. cond (eqb (first_change log) 0) (cond (in_cell x) lsn 0) (first_change log)) is

  -- it changes no page
  listed_none : change_of r ≡ None → IsListed (log ▸ r)
  listed_none is = record {
    dirty = old.dirty;
    pages = λ p. sym (pages_next None is p ∙ or_else-none (rec_lsn_of p old.dirty));
    rises = old.rises;
    begins = old.begins ∙ sym (begins_next None is ∙ changes_none (first_change log));
  }

  -- one that is listed
  listed_there : (c : Change) (x : ℕ) → change_of r ≡ Some c → rec_lsn_of c.page old.dirty ≡ Some x → IsListed (log ▸ r)
  listed_there c x is there = record {
    dirty = old.dirty;
    pages = λ p. sym (pages_next (Some c) is p
        ∙ elim (cases_Bool (eqb c.page p)) [
          | inl e ↦
              (let own : rec_lsn_of p old.dirty ≡ Some x = subst (λ q. rec_lsn_of q old.dirty ≡ Some x) (eqb-true c.page p e) there in
              ap (λ a. or_else a (cond (eqb c.page p) (Some lsn) None)) own ∙ sym own)
          | inr e ↦ ap (λ b. or_else (rec_lsn_of p old.dirty) (cond b (Some lsn) None)) e ∙ or_else-none (rec_lsn_of p old.dirty)
        ]);
    rises = old.rises;
    begins = old.begins ∙ sym (begins_next (Some c) is ∙ changes_later (first_change log) lsn (omega (arith, begins_late (suc (base_lsn log)) c.page x old.dirty there, old.begins)));
  }

  -- one that is not
  listed_more : (c : Change) → change_of r ≡ Some c → rec_lsn_of c.page old.dirty ≡ None → IsListed (log ▸ r)
  listed_more c is none = record {
    dirty = listed_in c.page lsn old.dirty;
    pages = λ p. listed_lsn c.page lsn p old.dirty none ∙ sym (pages_next (Some c) is p);
    rises = listed_rises c.page lsn 0 old.dirty none (omega arith) old.rises;
    begins =
        listed_begins (suc (base_lsn log)) c.page lsn old.dirty (omega arith)
        ∙ ap₂ lower old.begins (let late : max (suc (base_lsn log)) lsn ≡ lsn = omega (arith, base_within log) in late)
        ∙ lower_later (first_change log) lsn (omega (arith, change_within log))
        ∙ sym (begins_next (Some c) is);
  }

  listed_next : (o : Option Change) → change_of r ≡ o → IsListed (log ▸ r)
  listed_next None is = listed_none is
  listed_next (Some c) is = by (rec_lsn_of c.page old.dirty) refl
    where
      by : (x : Option ℕ) → rec_lsn_of c.page old.dirty ≡ x → IsListed (log ▸ r)
      by None none = listed_more c is none
      by (Some x) there = listed_there c x is there

all_listed : (log : History) → IsListed log
all_listed (start base) = record { dirty = []; pages = λ p. refl; rises = tt; begins = refl }
all_listed (log ▸ r) = listed_next log r (all_listed log) (change_of r) refl

-- ALL OF IT: a map with the entries that were found is the transaction table
pub found_all : (log : LogContent) (scan : FreshTables) (entries : List (ℕ × Entry)) (given : List (ℕ × ℕ)) → ((t : ℕ) → entry_at t entries ≡ entry_at t scan.entries)
    → IsStrictlySortedBy nat_cmp (keys_of entries) → HasFound (history log) scan
    → AreFreshTables log (record { transactions = map entry_of entries; dirty = given; redo_lsn = scan.first_change })
found_all log scan entries given same in_order found =
    let listed = all_listed (history log) in
    let tables : TablesContent = record { transactions = map entry_of entries; dirty = listed.dirty; redo_lsn = scan.first_change } in
    let are : AreTablesOf log 0 tables = record {
      transactions = [];
      dirty = [];
      base = refl;
      entries = λ t. same t ∙ found.entries_are t;
      pages = listed.pages;
      entries_rise = entries_rise entries in_order;
      pages_rise = rises_rising 0 (map page_in listed.dirty) listed.rises;
      redo_lsn = found.first_is ∙ sym listed.begins;
    } in
    record {
      dirty = listed.dirty;
      are = are;
      truth = λ over store lawful none. tables_true over log store tables lawful (subst (λ m. AreTablesOf log m tables) (sym none) are);
    }
