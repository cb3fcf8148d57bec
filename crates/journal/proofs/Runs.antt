-- What is true of each run of a journal.
use Rattle.std.proofs.Common.{◌≡◌, ◌≢◌, ◌<◌, ◌≤◌, ◌&&◌, ◌⊎◌, ℕ, suc, Bool, true, false, cond, List, [], ◌∷◌, get_or, Option, Some, None, refl, sym, ap, subst, ◌∙◌, inl, inr, arith, eqb, eqb-true, ltb, leb}
use Rattle.std.proofs.lemmas.Bool.{cases_Bool, and_parts, le-ltb}
use Rattle.page.specs.declared.page.Page.{Page}
use Rattle.page.specs.Store.{StoreContent}
use Rattle.page.specs.declared.profile.TheConstants.{PAGES}
use Rattle.log_laws.specs.Records.{TableEntry, LogRecord, CheckpointBegin, CheckpointEnd, History, start, ◌▸◌, LogContent, history, last_lsn, base_lsn, record_at, first, EachRecord}
use Rattle.log_laws.specs.Meaning.{BasePages, BaseLaw, last_on}
use Rattle.log_laws.specs.Laws.{IsLawful}
use Rattle.log_laws.specs.Redo.{rec_lsn_of}
use Rattle.log_laws.specs.Checkpoint.{DirtyLaw, CheckpointLaw, first_end, or_else, true_table}
use Rattle.log_laws.specs.Store.{NamesPages}
use Rattle.log_laws.proofs.Histories.{history_push, record_older, record_more, record_within, first_older}
use Rattle.log_laws.proofs.Checkpoints.{first_end_none, first_end_after, checkpoint_begins, checkpoint_ends}
use Rattle.log_laws.proofs.Appended.{each_more}
use Rattle.journal.specs.Runs.{Run, opened, appended, reported, log_before, store_before, count_of, content_of, log_of, on_disk, run_at, AreTrueTables, MayOpen, IsRun}

pub log_is : (run : Run) → history (content_of run) ≡ log_of run
log_is (opened log store) = refl
log_is (appended run r) = history_push (content_of run) r ∙ ap (λ log. log ▸ r) (log_is run)
log_is (reported run page page_lsn) = log_is run

pub run_lawful : (base : BasePages) (run : Run) → IsRun base run → IsLawful base (log_of run)
run_lawful base (opened log store) h = h.lawful.log
run_lawful base (appended run r) h = (run_lawful base run h.0, h.1.obeys)
run_lawful base (reported run page page_lsn) h = run_lawful base run h

pub run_named : (base : BasePages) (run : Run) → IsRun base run → EachRecord (NamesPages (count_of run)) (log_of run)
run_named base (opened log store) h = h.lawful.names_pages
run_named base (appended run r) h = each_more (NamesPages (count_of run)) (log_of run) r (run_named base run h.0) h.1.names_pages
run_named base (reported run page page_lsn) h = run_named base run h

pub run_few : (base : BasePages) (run : Run) → IsRun base run → count_of run ≤ PAGES
run_few base (opened log store) h = h.numbered.few
run_few base (appended run r) h = run_few base run h.0
run_few base (reported run page page_lsn) h = run_few base run h

pub run_based : (base : BasePages) (run : Run) → IsRun base run → BaseLaw base (log_of run)
run_based base (opened log store) h = h.lawful.based
run_based base (appended run r) h = run_based base run h.0
run_based base (reported run page page_lsn) h = run_based base run h

-- its log continues the log that it was opened with
pub before_within : (run : Run) → last_lsn (history (log_before run)) ≤ last_lsn (log_of run)
before_within (opened log store) = omega arith
before_within (appended run r) = omega (arith, before_within run)
before_within (reported run page page_lsn) = before_within run

pub base_before : (run : Run) → base_lsn (history (log_before run)) ≡ base_lsn (log_of run)
base_before (opened log store) = refl
base_before (appended run r) = base_before run
base_before (reported run page page_lsn) = base_before run

-- TRUE TABLES stay true
-- what a longer log says of a page up to m
pub dirty_more : (log : History) (r : LogRecord) (m page page_lsn : ℕ) (listed : Option ℕ) → m ≤ last_lsn log → DirtyLaw log m page page_lsn listed → DirtyLaw (log ▸ r) m page page_lsn listed
dirty_more log r m page page_lsn listed le d =
    record {
      range = d.range;
      covers = λ n x up f on. d.covers n x up (sym (record_older log r n (omega (arith, up, le))) ∙ f) on;
    }

-- the moment of a begin record is the same later
pub at_more : (run : Run) (r : LogRecord) (m : ℕ) → m ≤ last_lsn (log_of run) → run_at m (appended run r) ≡ run_at m run
at_more run r m le = (let e : ltb (last_lsn (log_of run)) m ≡ false = le-ltb (last_lsn (log_of run)) m le in rw e refl)

pub at_told : (run : Run) (page page_lsn m : ℕ) → m ≤ last_lsn (log_of run) → run_at m (reported run page page_lsn) ≡ run_at m run
at_told run page page_lsn m le = (let e : ltb (last_lsn (log_of run)) m ≡ false = le-ltb (last_lsn (log_of run)) m le in rw e refl)

pub true_more : (base : BasePages) (run : Run) (r : LogRecord) (m : ℕ) (ts : List TableEntry) (d : List (ℕ × ℕ)) → AreTrueTables base run m ts d → AreTrueTables base (appended run r) m ts d
true_more base run r m ts d h =
    let le : m ≤ last_lsn (log_of run) = record_within (log_of run) m CheckpointBegin h.begins in
    record {
      begins = record_more (log_of run) r m CheckpointBegin h.begins;
      transactions_are = h.transactions_are ∙ ap true_table (sym (first_older (log_of run) r m le));
      dirty_are = λ page lt.
          subst (λ x. DirtyLaw (log_of run ▸ r) m page (on_disk base x page) (rec_lsn_of page d)) (sym (at_more run r m le))
          (dirty_more (log_of run) r m page (on_disk base (run_at m run) page) (rec_lsn_of page d) le (h.dirty_are page lt));
    }

pub true_told : (base : BasePages) (run : Run) (p page_lsn m : ℕ) (ts : List TableEntry) (d : List (ℕ × ℕ)) → AreTrueTables base run m ts d → AreTrueTables base (reported run p page_lsn) m ts d
true_told base run p page_lsn m ts d h =
    let le : m ≤ last_lsn (log_of run) = record_within (log_of run) m CheckpointBegin h.begins in
    record {
      begins = h.begins;
      transactions_are = h.transactions_are;
      dirty_are = λ page lt. subst (λ x. DirtyLaw (log_of run) m page (on_disk base x page) (rec_lsn_of page d)) (sym (at_told run p page_lsn m le)) (h.dirty_are page lt);
    }

-- CHECKPOINTS
abbrev Both : Type 0
Both = List TableEntry × List (ℕ × ℕ)

-- a checkpoint that the journal took: the first end record that names the begin record has true tables
abbrev pub TakenTrue : BasePages → Run → ℕ → Type 0
TakenTrue base run m = (x : Both) → record_at (log_of run) m ≡ Some CheckpointBegin → first_end m (log_of run) ≡ Some x → AreTrueTables base run m x.0 x.1

begin_older : (log : History) (r : LogRecord) (m : ℕ) → record_at (log ▸ r) m ≡ Some CheckpointBegin → (record_at log m ≡ Some CheckpointBegin) ⊎ ((m ≡ suc (last_lsn log)) × (r ≡ CheckpointBegin))
begin_older log r m f =
    elim (cases_Bool (eqb m (suc (last_lsn log)))) [
      | inl e ↦ (let g : Some r ≡ Some CheckpointBegin = rw e at f in inr (eqb-true m (suc (last_lsn log)) e, cc))
      | inr e ↦ inl (rw e at f)
    ]

-- a record other than a checkpoint end changes nothing
no_end : (base : BasePages) (run : Run) (r : LogRecord) (m : ℕ) → first_end m (log_of run ▸ r) ≡ first_end m (log_of run) → TakenTrue base run m → TakenTrue base (appended run r) m
no_end base run r m same ih x f e =
    let older : first_end m (log_of run) ≡ Some x = sym same ∙ e in
    elim (begin_older (log_of run) r m f) [
      | inl b ↦ true_more base run r m x.0 x.1 (ih x b older)
      | inr new ↦ absurd (let none : first_end m (log_of run) ≡ None = first_end_none m (log_of run) (omega (arith, new.0)) in cc)
    ]

-- a checkpoint end is the first that names its begin record, or it is not
an_end : (base : BasePages) (run : Run) (begin : ℕ) (ts : List TableEntry) (d : List (ℕ × ℕ)) (m : ℕ) → AreTrueTables base run begin ts d → TakenTrue base run m → TakenTrue base (appended run (CheckpointEnd begin ts d)) m
an_end base run begin ts d m reports ih x f e =
    elim (begin_older (log_of run) (CheckpointEnd begin ts d) m f) [
      | inr new ↦ absurd (let bad : CheckpointEnd begin ts d ≡ CheckpointBegin = new.1 in cc)
      | inl b ↦ true_more base run (CheckpointEnd begin ts d) m x.0 x.1 (by_older (first_end m (log_of run)) refl b)
    ]
  where
    by_name : (named : Bool) → named ≡ (eqb begin m && leb m (last_lsn (log_of run))) → cond named (Some (ts, d)) None ≡ Some x → AreTrueTables base run m x.0 x.1
    by_name true i e' =
        (let same : begin ≡ m = eqb-true begin m (and_parts (eqb begin m) (leb m (last_lsn (log_of run))) (sym i)).0 in
        let got : (ts, d) ≡ x = cc in
        subst (λ y. AreTrueTables base run m y.0 y.1) got (subst (λ k. AreTrueTables base run k ts d) same reports))
    by_name false i e' = absurd (cc)

    by_older : (o : Option Both) → first_end m (log_of run) ≡ o → record_at (log_of run) m ≡ Some CheckpointBegin → AreTrueTables base run m x.0 x.1
    by_older (Some y) i b =
        (let got : Some y ≡ Some x = sym (ap (λ (z : Option Both). or_else z (cond (eqb begin m && leb m (last_lsn (log_of run))) (Some (ts, d)) None)) i) ∙ e in
        ih x b (i ∙ got))
    by_older None i b =
        by_name (eqb begin m && leb m (last_lsn (log_of run))) refl
        (sym (ap (λ (z : Option Both). or_else z (cond (eqb begin m && leb m (last_lsn (log_of run))) (Some (ts, d)) None)) i) ∙ e)

pub taken_true : (base : BasePages) (run : Run) → IsRun base run → (m : ℕ) → last_lsn (history (log_before run)) < m → TakenTrue base run m
taken_true base (opened log store) h m lt x f e = absurd (omega (arith, lt, record_within (history log) m CheckpointBegin f))
taken_true base (appended run (CheckpointEnd begin ts d)) h m lt x f e = an_end base run begin ts d m h.1.tables (taken_true base run h.0 m lt) x f e
taken_true base (appended run r) h m lt x f e = no_end base run r m refl (taken_true base run h.0 m lt) x f e
taken_true base (reported run page page_lsn) h m lt x f e = true_told base run page page_lsn m x.0 x.1 (taken_true base run h m lt x f e)

-- the checkpoint that it was opened with
abbrev OpenedTrue : BasePages → Run → ℕ → Type 0
OpenedTrue base run m = (y : Both) × (first_end m (log_of run) ≡ Some y) × AreTrueTables base run m y.0 y.1

opened_tables : (base : BasePages) (log : LogContent) (store : StoreContent) → MayOpen base log store → (m : ℕ) → m ≢ 0 → m ≡ store.master → OpenedTrue base (opened log store) m
opened_tables base log store h m some is = by_law (subst (CheckpointLaw (history log) store.pages) (sym is) h.lawful.checkpoint)
  where
    by_law : CheckpointLaw (history log) store.pages m → OpenedTrue base (opened log store) m
    by_law (inl none) = absurd (some none)
    by_law (inr t) =
        (let tables : Both = (t.transactions, t.dirty) in (
          tables,
          checkpoint_ends m (history log) tables t.named,
          record {
            begins = checkpoint_begins m (history log) tables t.named;
            transactions_are = t.transactions_are;
            dirty_are = λ page lt.
                (let own : Page = record { number = 0; lsn = 0; slots = [] } in
                let at : Page = get_or store.pages page own in
                let number : at.number ≡ page = h.numbered.at_place page own lt in
                let lsn : at.lsn ≡ last_on base at.number (history log) = ap (λ p. p.lsn) (h.current page own lt) in
                let lsn' : at.lsn ≡ last_on base page (history log) = lsn ∙ ap (λ n. last_on base n (history log)) number in
                let law : DirtyLaw (history log) m at.number at.lsn (rec_lsn_of at.number t.dirty) = t.dirty_are page own lt in
                subst (λ k. DirtyLaw (history log) m page k (rec_lsn_of page t.dirty)) lsn'
                (subst (λ n. DirtyLaw (history log) m n at.lsn (rec_lsn_of n t.dirty)) number law));
          },
        ))

pub opened_true : (base : BasePages) (run : Run) → IsRun base run → (m : ℕ) → m ≢ 0 → m ≡ (store_before run).master → OpenedTrue base run m
opened_true base (opened log store) h m some is = opened_tables base log store h m some is
opened_true base (appended run r) h m some is =
    let y = opened_true base run h.0 m some is in
    (y.0, first_end_after m (log_of run) (r ∷ []) y.0 y.1, true_more base run r m y.0.0 y.0.1 y.2)
opened_true base (reported run page page_lsn) h m some is =
    let y = opened_true base run h m some is in
    (y.0, y.1, true_told base run page page_lsn m y.0.0 y.0.1 y.2)

-- the tables of both are true
pub master_true : (base : BasePages) (run : Run) → IsRun base run → (m : ℕ) → m ≢ 0 → (m ≡ (store_before run).master) ⊎ (last_lsn (history (log_before run)) < m) → (x : Both)
    → record_at (log_of run) m ≡ Some CheckpointBegin → first_end m (log_of run) ≡ Some x → AreTrueTables base run m x.0 x.1
master_true base run h m some (inl is) x b e =
    let y = opened_true base run h m some is in
    let same : y.0 ≡ x = (let f : first_end m (log_of run) ≡ Some y.0 = y.1 in cc) in
    subst (λ z. AreTrueTables base run m z.0 z.1) same y.2
master_true base run h m some (inr lt) x b e = taken_true base run h m lt x b e

-- the first end record up to an LSN is the first of the log
pub first_end_before : (m lsn : ℕ) (log : History) (x : Both) → first_end m (first lsn log) ≡ Some x → first_end m log ≡ Some x
first_end_before m lsn (start _) x e = e
first_end_before m lsn (log ▸ r) x e =
    elim (cases_Bool (ltb (last_lsn log) lsn)) [
      | inl i ↦ sym (ap (λ b. first_end m (cond b (log ▸ r) (first lsn log))) i) ∙ e
      | inr i ↦ first_end_after m log (r ∷ []) x (first_end_before m lsn log x (sym (ap (λ b. first_end m (cond b (log ▸ r) (first lsn log))) i) ∙ e))
    ]
