-- The begin record of a checkpoint, and its end record.
use Rattle.std.proofs.Common.{◌≡◌, ◌<◌, ◌+◌, ◌^◌, ℕ, suc, true, List, [], length, get_or, None, refl, sym, ap, subst, ◌∙◌, arith, ltb}
use Rattle.std.specs.Prelude.{flat_map, All}
use Rattle.std.specs.Ordering.{nat_cmp}
use Rattle.std.specs.List.Sorted.{IsStrictlySortedBy}
use Rattle.std.specs.Map.{keys_of}
use Rattle.std.proofs.lemmas.Bool.{lt-ltb}
use Rattle.page.specs.declared.page.Page.{Page}
use Rattle.log_laws.specs.Records.{TableEntry, CheckpointBegin, CheckpointEnd, last_lsn, record_at, first}
use Rattle.log_laws.specs.Meaning.{BasePages}
use Rattle.log_laws.specs.Redo.{rec_lsn_of}
use Rattle.log_laws.specs.Laws.{Obeys}
use Rattle.wal.specs.Spelling.{Fits}
use Rattle.log_laws.specs.Checkpoint.{DirtyLaw, true_table}
use Rattle.log_laws.proofs.Histories.{record_last, first_all}
use Rattle.journal.specs.PageStates.{PageState}
use Rattle.journal.specs.Runs.{Run, appended, count_of, log_of, on_disk, run_at, AreTrueTables, MayFollow}
use Rattle.journal.specs.Transactions.{AreTransactions}
use Rattle.journal.specs.PageStates.{ArePageStates}
use Rattle.journal.specs.Listed.{listed_page}
use Rattle.journal.proofs.Standing.{standing_same}
use Rattle.journal.proofs.PageStates.{pages_same}
use Rattle.journal.proofs.Listed.{Row, at, table, transactions_true, rec_lsns_are}

-- the numbers of the pages ascend
pub numbers_are : (base : BasePages) (run : Run) (ps : List PageState) → ArePageStates base run ps → (k : ℕ) (d : PageState) → k < length ps → (get_or ps k d).page.number ≡ k
numbers_are base run ps h k d lt = ap (λ (p : Page). p.number) (h.each k d lt).image

module _ (base : BasePages) (run : Run) (next : ℕ) (es : List Row) (ps : List PageState) (transactions : AreTransactions (log_of run) next (λ t. at t es)) (pages : ArePageStates base run ps) where
  abbrev then : Run
  then = appended run CheckpointBegin

  pub transactions_then : AreTransactions (log_of then) next (λ t. at t es)
  transactions_then = standing_same (log_of run) next (λ t. at t es) CheckpointBegin (λ t. refl) transactions

  pub pages_then : ArePageStates base then ps
  pages_then = pages_same base run CheckpointBegin ps (λ number. refl) pages

  -- the tables that are taken are true at the begin record
  pub taken_true : (lsn : ℕ) → last_lsn (log_of run) + 1 ≡ lsn → IsStrictlySortedBy nat_cmp (keys_of es) → AreTrueTables base then lsn (table es) (flat_map listed_page ps)
  taken_true lsn next_is ordered =
      let n : lsn ≡ suc (last_lsn (log_of run)) = omega (arith, next_is) in
      let whole : first lsn (log_of then) ≡ log_of then = first_all lsn (log_of then) (omega (arith, n)) in
      let moment : run_at lsn then ≡ then = (let l : ltb (last_lsn (log_of run)) lsn ≡ true = lt-ltb (last_lsn (log_of run)) lsn (omega (arith, n)) in rw l refl) in
      record {
        begins = ap (record_at (log_of then)) n ∙ record_last (log_of run) CheckpointBegin;
        transactions_are =
            transactions_true (log_of then) es ordered (λ t x e. transactions_then.each t x e) (λ t e begun. transactions_then.others t e begun)
            ∙ ap true_table (sym whole);
        dirty_are = λ page lt.
            (let blank : PageState = record { page = record { number = 0; lsn = 0; slots = [] }; writers = []; rec_lsn = None } in
            let within : page < length ps = omega (arith, lt, pages.count) in
            let law = (pages_then.each page blank within).dirty in
            let listed_is = rec_lsns_are ps (numbers_are base run ps pages) page blank within in
            subst (λ k. DirtyLaw (log_of then) k page (on_disk base (run_at lsn then) page) (rec_lsn_of page (flat_map listed_page ps))) (sym n)
            (subst (λ x. DirtyLaw (log_of then) (suc (last_lsn (log_of run))) page (on_disk base x page) (rec_lsn_of page (flat_map listed_page ps))) (sym moment)
            (subst (λ o. DirtyLaw (log_of then) (suc (last_lsn (log_of run))) page (on_disk base then page) o) (sym listed_is) law)));
      }

-- WHAT MAY FOLLOW
begin_obeys : (base : BasePages) (run : Run) → Obeys base (log_of run) CheckpointBegin
begin_obeys base run = record { chain = tt; finish = tt; compensation = tt; before = tt; strict = tt }

pub begin_follows : (base : BasePages) (run : Run) → suc (last_lsn (log_of run)) < 2 ^ 64 → MayFollow base run CheckpointBegin
begin_follows base run few = record { obeys = begin_obeys base run; fits = tt; few = few; names_pages = tt; tables = tt }

pub end_follows : (base : BasePages) (run : Run) (begin : ℕ) (ts : List TableEntry) (dirty : List (ℕ × ℕ)) → AreTrueTables base run begin ts dirty → All (λ (d : ℕ × ℕ). d.0 < count_of run) dirty → Fits (CheckpointEnd begin ts dirty) → suc (last_lsn (log_of run)) < 2 ^ 64 → MayFollow base run (CheckpointEnd begin ts dirty)
end_follows base run begin ts dirty tables named fits few = record { obeys = record { chain = tt; finish = tt; compensation = tt; before = tt; strict = tt }; fits = fits; few = few; names_pages = named; tables = tables }
