-- A dirty page table that was found in the first records of a log, and the whole one.
use Rattle.std.proofs.Common.{ℕ, suc, ◌≡◌, ◌≢◌, ◌+◌, ◌<◌, ◌≤◌, ◌⊎◌, inl, inr, Bool, true, false, cond, eqb, ltb, eqb-true, eq-eqb, List, [], ◌∷◌, length, map, Option, Some, None, refl, sym, ap, ◌∙◌, arith, min, max}
use Rattle.std.specs.Prelude.{is_some}
use Rattle.std.proofs.lemmas.Bool.{cases_Bool, ltb-true, ltb-false}
use Rattle.log_laws.specs.Records.{LogRecord, History, start, ◌▸◌, LogContent, TableEntry, history, last_lsn, base_lsn, record_at, first, page_in}
use Rattle.log_laws.specs.Meaning.{Change, change_of, is_on}
use Rattle.log_laws.specs.Redo.{rec_lsn_of}
use Rattle.log_laws.specs.Checkpoint.{or_else, IsRising}
use Rattle.log_laws.proofs.Histories.{first_all, first_older, record_last, record_more}
use Rattle.log_laws.proofs.Rising.{RisesFrom, rises_rising, rising_from_0}
use Rattle.analysis.specs.Tables.{base_of, analysed_rec_lsn, redo_lsn_of, AreAllListed, ServesRedo}
use Rattle.analysis.specs.Steps.{rec_lsn_after}
use Rattle.analysis.proofs.Maps.{listed_stays}
use Rattle.analysis.proofs.Rising.{same_pages}
use Rattle.analysis.proofs.Scanned.{or_else-none, rec_lsn_next}

-- ---- one more page in a table with ascending numbers, at its place
abbrev listed_in : (page lsn : ℕ) → List (ℕ × ℕ) → List (ℕ × ℕ)
listed_in page lsn [] = (page, lsn) ∷ []
listed_in page lsn (d ∷ ds) = cond (ltb page d.0) ((page, lsn) ∷ d ∷ ds) (d ∷ listed_in page lsn ds)

-- a page that is not listed is not the first, and is not listed after it
unlisted_behind : (page : ℕ) (d : ℕ × ℕ) (ds : List (ℕ × ℕ)) → rec_lsn_of page (d ∷ ds) ≡ None → (eqb d.0 page ≡ false) × (rec_lsn_of page ds ≡ None)
unlisted_behind page d ds none =
    elim (cases_Bool (eqb d.0 page)) [
      | inl e ↦ absurd (let f : Some d.1 ≡ None = rw e at none in cc)
      | inr e ↦ (e, rw e at none)
    ]

in_front : (p page lsn : ℕ) (ds : List (ℕ × ℕ)) → rec_lsn_of page ds ≡ None → cond (eqb page p) (Some lsn) (rec_lsn_of p ds) ≡ or_else (rec_lsn_of p ds) (cond (eqb page p) (Some lsn) None)
in_front p page lsn ds none =
    elim (cases_Bool (eqb page p)) [
      | inl e ↦ (let here : rec_lsn_of p ds ≡ None = ap (λ q. rec_lsn_of q ds) (sym (eqb-true page p e)) ∙ none in rw (e, here) refl)
      | inr e ↦ rw e (sym (or_else-none (rec_lsn_of p ds)))
    ]

listed_in-lists : (p page lsn : ℕ) (ds : List (ℕ × ℕ)) → rec_lsn_of page ds ≡ None → rec_lsn_of p (listed_in page lsn ds) ≡ or_else (rec_lsn_of p ds) (cond (eqb page p) (Some lsn) None)
listed_in-lists p page lsn [] none = refl
listed_in-lists p page lsn (d ∷ ds) none =
    elim (cases_Bool (ltb page d.0)) [
      | inl l ↦ rw l (in_front p page lsn (d ∷ ds) none)
      | inr l ↦ rw l (behind (eqb d.0 p) (listed_in-lists p page lsn ds (unlisted_behind page d ds none).1))
    ]
  where
    behind : (b : Bool) → rec_lsn_of p (listed_in page lsn ds) ≡ or_else (rec_lsn_of p ds) (cond (eqb page p) (Some lsn) None) → cond b (Some d.1) (rec_lsn_of p (listed_in page lsn ds)) ≡ or_else (cond b (Some d.1) (rec_lsn_of p ds)) (cond (eqb page p) (Some lsn) None)
    behind true others = refl
    behind false others = others

listed_in-rises : (low page lsn : ℕ) (ds : List (ℕ × ℕ)) → low ≤ page → rec_lsn_of page ds ≡ None → RisesFrom low (map page_in ds) → RisesFrom low (map page_in (listed_in page lsn ds))
listed_in-rises low page lsn [] le none rises = (le, tt)
listed_in-rises low page lsn (d ∷ ds) le none rises =
    elim (cases_Bool (ltb page d.0)) [
      | inl l ↦ rw l (le, (omega (arith, ltb-true page d.0 l), rises.1))
      | inr l ↦
          (let apart = unlisted_behind page d ds none in
          let other : d.0 ≢ page = λ same. (let e : eqb d.0 page ≡ true = eq-eqb d.0 page same in let f = apart.0 in cc) in
          rw l (rises.0, listed_in-rises (d.0 + 1) page lsn ds (omega (arith, ltb-false page d.0 l, other)) apart.1 rises.1))
    ]

-- the smallest RecLSN is the smaller of this one and the smallest of the others
redo_lsn_of-cons : (from : ℕ) (d : ℕ × ℕ) (ds : List (ℕ × ℕ)) → 1 ≤ length ds → redo_lsn_of from (d ∷ ds) ≡ min (max from d.1) (redo_lsn_of from ds)
redo_lsn_of-cons from d [] some = absurd (omega (arith, some))
redo_lsn_of-cons from d (e ∷ ds) some = refl

listed_in-some : (page lsn : ℕ) (ds : List (ℕ × ℕ)) → 1 ≤ length (listed_in page lsn ds)
listed_in-some page lsn [] = omega arith
listed_in-some page lsn (d ∷ ds) =
    elim (cases_Bool (ltb page d.0)) [
      | inl l ↦ rw l (omega arith)
      | inr l ↦ rw l (omega arith)
    ]

listed_in-redo : (from page lsn : ℕ) (d : ℕ × ℕ) (ds : List (ℕ × ℕ)) → redo_lsn_of from (listed_in page lsn (d ∷ ds)) ≡ min (max from lsn) (redo_lsn_of from (d ∷ ds))
listed_in-redo from page lsn d [] =
    elim (cases_Bool (ltb page d.0)) [
      | inl l ↦ rw l refl
      | inr l ↦ rw l (omega arith)
    ]
listed_in-redo from page lsn d (e ∷ ds) =
    elim (cases_Bool (ltb page d.0)) [
      | inl l ↦ rw l refl
      | inr l ↦
          rw l (redo_lsn_of-cons from d (listed_in page lsn (e ∷ ds)) (listed_in-some page lsn (e ∷ ds)) ∙ ap (min (max from d.1)) (listed_in-redo from page lsn e ds) ∙ turned (max from d.1) (max from lsn) (redo_lsn_of from (e ∷ ds)))
    ]
  where
    turned : (x y z : ℕ) → min x (min y z) ≡ min y (min x z)
    turned x y z = omega arith

-- ---- the whole table
-- a table of a log's dirty pages by which redo begins at the same LSN
record Whole (from m : ℕ) (dirty found : List (ℕ × ℕ)) (log : History) : Type 0 where
  table : List (ℕ × ℕ)
  pages : (page : ℕ) → rec_lsn_of page table ≡ analysed_rec_lsn page m (rec_lsn_of page dirty) log
  rises : RisesFrom 0 (map page_in table)
  begins : redo_lsn_of from table ≡ redo_lsn_of from found

-- after one more record, which comes after the LSN at which redo begins
one_more : (from m : ℕ) (dirty found : List (ℕ × ℕ)) (log : History) (r : LogRecord) → m ≤ last_lsn log → 1 ≤ redo_lsn_of from found → redo_lsn_of from found ≤ last_lsn log
    → Whole from m dirty found log → Whole from m dirty found (log ▸ r)
one_more from m dirty found log r le some low whole = by_change (change_of r) refl
  where
    lsn : ℕ
    lsn = last_lsn log + 1

    next : (table : List (ℕ × ℕ)) → ((p : ℕ) → rec_lsn_of p table ≡ rec_lsn_after lsn r p (rec_lsn_of p whole.table)) → (p : ℕ) → rec_lsn_of p table ≡ analysed_rec_lsn p m (rec_lsn_of p dirty) (log ▸ r)
    next table step p = rec_lsn_next p m (rec_lsn_of p dirty) _ _ log r lsn le refl (whole.pages p) (step p)

    as_it_is : ((p : ℕ) → rec_lsn_of p whole.table ≡ rec_lsn_after lsn r p (rec_lsn_of p whole.table)) → Whole from m dirty found (log ▸ r)
    as_it_is step = record { table = whole.table; pages = next whole.table step; rises = whole.rises; begins = whole.begins }

    with_page : (page : ℕ) (table : List (ℕ × ℕ)) → table ≡ whole.table → redo_lsn_of from (listed_in page lsn table) ≡ redo_lsn_of from found
    with_page page [] same = absurd (omega (arith, some, whole.begins, ap (redo_lsn_of from) same))
    with_page page (d ∷ ds) same = listed_in-redo from page lsn d ds ∙ omega (arith, low, whole.begins, ap (redo_lsn_of from) same)

    by_listed : (c : Change) → change_of r ≡ Some c → (o : Option ℕ) → rec_lsn_of c.page whole.table ≡ o → Whole from m dirty found (log ▸ r)
    by_listed c e (Some x) is = as_it_is (λ p. rw e (listed_stays p c.page lsn whole.table (ap is_some is)))
    by_listed c e None is =
        record {
          table = listed_in c.page lsn whole.table;
          pages = next (listed_in c.page lsn whole.table) (λ p. rw e (listed_in-lists p c.page lsn whole.table is));
          rises = listed_in-rises 0 c.page lsn whole.table (omega arith) is whole.rises;
          begins = with_page c.page whole.table refl;
        }

    by_change : (o : Option Change) → change_of r ≡ o → Whole from m dirty found (log ▸ r)
    by_change None e = as_it_is (λ p. rw e (sym (or_else-none (rec_lsn_of p whole.table))))
    by_change (Some c) e = by_listed c e (rec_lsn_of c.page whole.table) refl

-- what was found in the first records, as far as an LSN
record Found (m upto : ℕ) (dirty found : List (ℕ × ℕ)) (log : History) : Type 0 where
  behind : m ≤ upto
  pages : (page : ℕ) → rec_lsn_of page found ≡ analysed_rec_lsn page m (rec_lsn_of page dirty) (first upto log)

-- and in a log that is one record shorter
older : (m upto : ℕ) (dirty found : List (ℕ × ℕ)) (log : History) (r : LogRecord) → upto ≤ last_lsn log → Found m upto dirty found (log ▸ r) → Found m upto dirty found log
older m upto dirty found log r le is =
    record { behind = is.behind; pages = λ p. is.pages p ∙ ap (analysed_rec_lsn p m (rec_lsn_of p dirty)) (first_older log r upto le) }

-- these are all, if no record comes after
all : (m upto : ℕ) (dirty found : List (ℕ × ℕ)) (log : History) → last_lsn log ≤ upto → Found m upto dirty found log → (p : ℕ) → rec_lsn_of p found ≡ analysed_rec_lsn p m (rec_lsn_of p dirty) log
all m upto dirty found log le is p = is.pages p ∙ ap (analysed_rec_lsn p m (rec_lsn_of p dirty)) (first_all upto log le)

-- there is a whole one
whole : (from m upto : ℕ) (dirty found : List (ℕ × ℕ)) (log : History) → RisesFrom 0 (map page_in found) → 1 ≤ redo_lsn_of from found → redo_lsn_of from found ≤ upto
    → Found m upto dirty found log → Whole from m dirty found log
whole from m upto dirty found log rises some low is =
    elim (cases_Bool (ltb upto (last_lsn log))) [
      | inl l ↦ longer log (ltb-true upto (last_lsn log) l) is
      | inr l ↦ found_whole log (ltb-false upto (last_lsn log) l) is
    ]
  where
    found_whole : (log : History) → last_lsn log ≤ upto → Found m upto dirty found log → Whole from m dirty found log
    found_whole log le is = record { table = found; pages = all m upto dirty found log le is; rises = rises; begins = refl }

    longer : (log : History) → upto < last_lsn log → Found m upto dirty found log → Whole from m dirty found log
    longer (start base) lt is = record { table = found; pages = is.pages; rises = rises; begins = refl }
    longer (log ▸ r) lt is =
        (let before = older m upto dirty found log r (omega (arith, lt)) is in
        one_more from m dirty found log r (omega (arith, lt, is.behind)) some (omega (arith, lt, low))
        (elim (cases_Bool (ltb upto (last_lsn log))) [
          | inl l ↦ longer log (ltb-true upto (last_lsn log) l) before
          | inr l ↦ found_whole log (ltb-false upto (last_lsn log) l) before
        ]))

-- it has for a page what was found, if the page is listed whenever a later record is on it
same : (m upto : ℕ) (dirty found : List (ℕ × ℕ)) (p : ℕ) (log : History) → ((lsn : ℕ) (r : LogRecord) → upto ≤ lsn → record_at log lsn ≡ Some r → is_on p r ≡ true → is_some (rec_lsn_of p found) ≡ true)
    → Found m upto dirty found log → rec_lsn_of p found ≡ analysed_rec_lsn p m (rec_lsn_of p dirty) log
same m upto dirty found p (start base) listed is = is.pages p
same m upto dirty found p (log ▸ r) listed is =
    elim (cases_Bool (ltb upto (last_lsn (log ▸ r)))) [
      | inl l ↦
          (let lt = ltb-true upto (last_lsn (log ▸ r)) l in
          let before = same m upto dirty found p log (λ n x behind there on. listed n x behind (record_more log r n x there) on) (older m upto dirty found log r (omega (arith, lt)) is) in
          rec_lsn_next p m (rec_lsn_of p dirty) _ _ log r (last_lsn log + 1) (omega (arith, lt, is.behind)) refl before
          (elim (cases_Bool (is_on p r)) [
            | inl on ↦ kept (rec_lsn_of p found) (listed (suc (last_lsn log)) r (omega (arith, lt)) (record_last log r) on) (cond (is_on p r) (Some (last_lsn log + 1)) None)
            | inr off ↦ rw off (sym (or_else-none (rec_lsn_of p found)))
          ]))
      | inr l ↦ all m upto dirty found (log ▸ r) (ltb-false upto (last_lsn (log ▸ r)) l) is p
    ]
  where
    kept : (o : Option ℕ) → is_some o ≡ true → (other : Option ℕ) → o ≡ or_else o other
    kept None e other = absurd cc
    kept (Some x) e other = refl

-- ---- what redo needs
-- a table found in all records, or in the first of them if each page of the store is listed by then and redo has begun
pub serves : (log : LogContent) (m upto count : ℕ) (transactions : List TableEntry) (dirty found : List (ℕ × ℕ)) → base_of m (history log) ≡ Some (transactions, dirty) → m ≤ upto → IsRising (map page_in found)
    → ((p : ℕ) → rec_lsn_of p found ≡ analysed_rec_lsn p m (rec_lsn_of p dirty) (first upto (history log)))
    → (last_lsn (history log) ≤ upto) ⊎ (AreAllListed count found × (1 ≤ redo_lsn_of (suc (base_lsn (history log))) found) × (redo_lsn_of (suc (base_lsn (history log))) found ≤ upto))
    → ServesRedo log m count found (redo_lsn_of (suc (base_lsn (history log))) found)
serves log m upto count transactions dirty found base behind rising pages (inl le) =
    let is : Found m upto dirty found (history log) = record { behind = behind; pages = pages } in
    record {
      whole = found;
      are = record { transactions = transactions; dirty = dirty; base = base; pages = all m upto dirty found (history log) le is; pages_rise = rising; begins = refl };
      each = λ page lt. refl;
      is_whole = λ below. refl;
    }
serves log m upto count transactions dirty found base behind rising pages (inr (listed, some, low)) =
    let from = suc (base_lsn (history log)) in
    let is : Found m upto dirty found (history log) = record { behind = behind; pages = pages } in
    let w = whole from m upto dirty found (history log) (rising_from_0 (map page_in found) rising) some low is in
    let rises = rises_rising 0 (map page_in w.table) w.rises in
    record {
      whole = w.table;
      are = record { transactions = transactions; dirty = dirty; base = base; pages = w.pages; pages_rise = rises; begins = sym w.begins };
      each = λ page lt. same m upto dirty found page (history log) (λ n r behind there on. listed page lt) is ∙ sym (w.pages page);
      is_whole = λ below. same_pages found w.table rising rises (λ p. same m upto dirty found p (history log) (λ n r behind there on. listed p (below n r p some (omega (arith, low, behind)) there on)) is ∙ sym (w.pages p));
    }
