-- A checkpoint of a journal in its arrays.
use Rattle.std.proofs.Common.{◌≡◌, ◌<◌, ◌≤◌, ◌+◌, ◌*◌, ◌^◌, ℕ, List, [], ◌∷◌, length, take, map, Option, refl, sym, ap, subst, inl, inr, arith, eqb}
use Rattle.std.specs.Prelude.{All, flat_map}
use Rattle.std.specs.Map.{keys_of}
use Rattle.std.specs.List.Sorted.{IsStrictlySortedBy}
use Rattle.std.specs.Ordering.{nat_cmp}
use Rattle.std.proofs.lemmas.Bool.{cases_Bool}
use Rattle.std.proofs.lemmas.List.{get_or-map, length-map, length-take}
use Rattle.std.proofs.lemmas.Map.Keys.{sorted_from_strictly_increasing}
use Rattle.page.specs.declared.profile.TheConstants.{TRANSACTIONS}
use Rattle.log_laws.specs.Records.{TableEntry, LogRecord, CheckpointBegin, CheckpointEnd, last_lsn}
use Rattle.log_laws.specs.Meaning.{BasePages}
use Rattle.wal.specs.Spelling.{Fits}
use Rattle.journal.specs.declared.entries.Head.{Head}
use Rattle.journal.specs.declared.entries.TransactionEntry.{TransactionEntry}
use Rattle.journal.specs.declared.entries.PendingEntry.{PendingEntry}
use Rattle.journal.specs.declared.entries.PageEntry.{PageEntry}
use Rattle.journal.specs.Runs.{Run, appended, count_of, log_of, AreTrueTables}
use Rattle.journal.specs.Listed.{listed_page, table_entry, entries_listed, dirty_listed}
use Rattle.journal.specs.Taken.{run_taken}
use Rattle.journal.specs.PageStates.{PageState}
use Rattle.journal.specs.Transactions.{Transaction}
use Rattle.journal.specs.Arrays.{page_state_of, kept_of, row_of, Ascends}
use Rattle.journal.specs.State.{Agrees, IsJournal}
use Rattle.journal.proofs.Listed.{Row, at, table, dirty_named}
use Rattle.journal.proofs.Standing.{standing_same}
use Rattle.journal.proofs.PageStates.{pages_same}
use Rattle.journal.proofs.TakenTables.{taken_true, begin_follows, end_follows, numbers_are}
use Rattle.journal.proofs.TablesFit.{tables_fit}
use Rattle.journal.proofs.Appending.{stands_appends}
use Rattle.journal.proofs.Tables.{rises_at}
use Rattle.journal.proofs.Owed.{owed_bound}
use Rattle.journal.proofs.Journals.{no_entry}

-- THE ENTRIES that are kept
keys_rows : (es : List TransactionEntry) (ps : List PendingEntry) → keys_of (map (row_of ps) es) ≡ map (λ (e : TransactionEntry). e.tx) es
keys_rows [] ps = refl
keys_rows (e ∷ es) ps = ap (λ (ns : List ℕ). e.tx ∷ ns) (keys_rows es ps)

pub rows_sorted : (es : List TransactionEntry) (ps : List PendingEntry) → Ascends es → IsStrictlySortedBy nat_cmp (keys_of (map (row_of ps) es))
rows_sorted es ps h =
    subst (IsStrictlySortedBy nat_cmp) (sym (keys_rows es ps))
    (sorted_from_strictly_increasing (map (λ (e : TransactionEntry). e.tx) es)
    (λ k lt.
    let size = length-map es (λ (e : TransactionEntry). e.tx) in
    let less = rises_at es h k (k + 1) no_entry (omega arith) (omega (arith, lt, size)) in
    let a = get_or-map (λ (e : TransactionEntry). e.tx) es k no_entry 0 (omega (arith, lt, size)) in
    let b = get_or-map (λ (e : TransactionEntry). e.tx) es (k + 1) no_entry 0 (omega (arith, lt, size)) in
    omega (arith, less, a, b)))

-- what is listed of them
pub table_rows : (es : List TransactionEntry) (ps : List PendingEntry) → table (map (row_of ps) es) ≡ entries_listed es
table_rows [] ps = refl
table_rows (e ∷ es) ps =
    elim (cases_Bool (eqb e.last 0)) [
      | inl z ↦ rw z (table_rows es ps)
      | inr n ↦ rw n (ap (λ (ts : List TableEntry). table_entry e ∷ ts) (table_rows es ps))
    ]

pub dirty_rows : (ps : List PageEntry) → flat_map listed_page (map page_state_of ps) ≡ dirty_listed ps
dirty_rows [] = refl
dirty_rows (p ∷ ps) =
    elim (cases_Bool (eqb p.rec_lsn 0)) [
      | inl z ↦ rw z (dirty_rows ps)
      | inr n ↦ rw n (ap (λ (ds : List (ℕ × ℕ)). (p.page.number, p.rec_lsn) ∷ ds) (dirty_rows ps))
    ]

module _ (base : BasePages) (run : Run) (head : Head) (ts : List TransactionEntry) (pages : List PageEntry) (ps : List PendingEntry) (h : IsJournal base run head ts pages ps) (begin : ℕ) (is : begin ≡ head.last + 1) (small : begin + 1 < 2 ^ 64) where
  abbrev es : List TransactionEntry
  es = take head.transactions ts

  abbrev rows : List Row
  rows = map (row_of (take head.pending ps)) es

  abbrev held : List PageState
  held = map page_state_of pages

  by_rows : Agrees base run head.last head.next (λ t. at t rows) held
  unfolding kept_of
  by_rows = h.holds

  sorted : IsStrictlySortedBy nat_cmp (keys_of rows)
  sorted = rows_sorted es (take head.pending ps) h.arrays.used.table.rising

  few_rows : length rows ≤ TRANSACTIONS
  few_rows = omega (arith, h.arrays.few, length-map es (row_of (take head.pending ps)), length-take head.transactions ts)

  here : last_lsn (log_of run) + 1 ≡ begin
  here = omega (arith, is, h.holds.last_is)

  -- the tables are true at the begin record, and can be written
  pub tables_true : AreTrueTables base (appended run CheckpointBegin) begin (entries_listed es) (dirty_listed pages)
  tables_true =
      subst (λ (xs : List TableEntry). AreTrueTables base (appended run CheckpointBegin) begin xs (dirty_listed pages)) (table_rows es (take head.pending ps))
      (subst (λ (ds : List (ℕ × ℕ)). AreTrueTables base (appended run CheckpointBegin) begin (table rows) ds) (dirty_rows pages)
      (taken_true base run head.next rows held by_rows.transactions by_rows.pages_are begin here sorted))

  tables_writable : Fits (CheckpointEnd begin (entries_listed es) (dirty_listed pages))
  tables_writable =
      subst (λ (xs : List TableEntry). Fits (CheckpointEnd begin xs (dirty_listed pages))) (table_rows es (take head.pending ps))
      (subst (λ (ds : List (ℕ × ℕ)). Fits (CheckpointEnd begin (table rows) ds)) (dirty_rows pages)
      (tables_fit base run head.last head.next rows held by_rows sorted few_rows begin is (omega (arith, small))))

  tables_named : All (λ (d : ℕ × ℕ). d.0 < count_of run) (dirty_listed pages)
  tables_named = subst (λ (ds : List (ℕ × ℕ)). All (λ d. d.0 < count_of run) ds) (dirty_rows pages) (dirty_named (count_of run) held (numbers_are base run held h.holds.pages_are) (omega (arith, h.holds.pages_are.count)))

  pub taken : head.last + 2 + 2 * head.transactions + head.pending < 2 ^ 64 → IsJournal base (run_taken run begin (entries_listed es) (dirty_listed pages)) (record { last = begin + 1; written = head.written; transactions = head.transactions; pending = head.pending; next = head.next }) ts pages ps
  taken enough =
      let kept : ℕ → Option Transaction = kept_of es (take head.pending ps) in
      let r : LogRecord = CheckpointEnd begin (entries_listed es) (dirty_listed pages) in
      let first : Agrees base (appended run CheckpointBegin) begin head.next kept held =
      stands_appends base run head.last head.next kept kept held held CheckpointBegin begin is (begin_follows base run (omega (arith, here, small)))
      (standing_same (log_of run) head.next kept CheckpointBegin (λ t. refl) h.holds.transactions) (pages_same base run CheckpointBegin held (λ number. refl) h.holds.pages_are) h.holds in
      let second : Agrees base (run_taken run begin (entries_listed es) (dirty_listed pages)) (begin + 1) head.next kept held =
      stands_appends base (appended run CheckpointBegin) begin head.next kept kept held held r (begin + 1) refl
      (end_follows base (appended run CheckpointBegin) begin (entries_listed es) (dirty_listed pages) tables_true tables_named tables_writable (omega (arith, first.last_is, small)))
      (standing_same (log_of (appended run CheckpointBegin)) head.next kept r (λ t. refl) first.transactions) (pages_same base (appended run CheckpointBegin) r held (λ number. refl) first.pages_are) first in
      record {
        holds = second;
        arrays = record { room = h.arrays.room; few = h.arrays.few; pending_room = h.arrays.pending_room; some = h.arrays.some; used = h.arrays.used };
        reserve = (let b = owed_bound es (take head.pending ps) h.arrays.used.table.rising in omega (arith, b, is, enough, length-take head.transactions ts, length-take head.pending ps));
      }
