-- The tables of a checkpoint have room in its end record.
use Rattle.std.proofs.Common.{◌≡◌, ◌<◌, ◌≤◌, ◌+◌, ◌^◌, ℕ, suc, true, List, [], ◌∷◌, ◌++◌, length, get_or, map, Option, Some, None, refl, ap, subst, ◌∙◌, inl, inr, arith, eqb, eqb-true}
use Rattle.std.specs.Prelude.{All, flat_map}
use Rattle.std.specs.List.{AllByRecursion}
use Rattle.std.specs.List.Sorted.{IsStrictlySortedBy}
use Rattle.std.specs.Map.{keys_of}
use Rattle.std.specs.Ordering.{nat_cmp}
use Rattle.std.proofs.lemmas.Bool.{cases_Bool, or_cases}
use Rattle.std.proofs.lemmas.List.Elements.{All-head, All-tail}
use Rattle.page.specs.declared.profile.TheConstants.{PAGES}
use Rattle.page.specs.declared.profile.TheConstants.{TRANSACTIONS}
use Rattle.log_laws.specs.Records.{TableEntry, tx_in, page_in, LogRecord, Update, Compensation, CheckpointBegin, CheckpointEnd, History, start, ◌▸◌, last_lsn, EachRecord}
use Rattle.log_laws.specs.Meaning.{BasePages, is_of, has, undo_next_of}
use Rattle.wal.specs.Spelling.{FitsEntry, FitsDirty, FitsTable, Fits}
use Rattle.log_laws.proofs.Histories.{record_last, record_more, last_within}
use Rattle.log_laws.proofs.Holders.{unfinished_has}
use Rattle.log_laws.proofs.Rising.{RisesFrom, rises_rising, rises_more}
use Rattle.log_laws.specs.Checkpoint.{IsTrueEntry}
use Rattle.journal.specs.Transactions.{Transaction}
use Rattle.journal.specs.PageStates.{PageState}
use Rattle.journal.specs.Transactions.{IsTransaction}
use Rattle.journal.specs.Listed.{listed_from, listed_page}
use Rattle.journal.specs.Runs.{Run, log_of}
use Rattle.journal.specs.State.{Agrees}
use Rattle.journal.proofs.Runs.{run_few}
use Rattle.journal.proofs.Fitting.{each_fits}
use Rattle.journal.proofs.TakenTables.{numbers_are}
use Rattle.journal.proofs.Listed.{Row, at, table, Heads, rises, entries_true, CountFrom, count_behind, first_number}

-- NUMBERS IN A LOG whose records can be written
fits_before : (log : History) (r : LogRecord) → EachRecord Fits (log ▸ r) → EachRecord Fits log
fits_before log r h = λ n x f. h n x (record_more log r n x f)

fits_last : (log : History) (r : LogRecord) → EachRecord Fits (log ▸ r) → Fits r
fits_last log r h = h (suc (last_lsn log)) r (record_last log r)

number_in : (t : ℕ) (r : LogRecord) → Fits r → is_of t r ≡ true → (0 < t) × (t < 2 ^ 32)
number_in t CheckpointBegin f e = absurd (cc)
number_in t (CheckpointEnd begin ts d) f e = absurd (cc)
number_in t r f e =
    let same = eqb-true _ t e in
    let some = f.some_tx in
    let few = f.tx in
    (omega (arith, same, some), omega (arith, same, few))

number_fits : (t : ℕ) (log : History) → EachRecord Fits log → has (is_of t) log ≡ true → (0 < t) × (t < 2 ^ 32)
number_fits t (start _) h e = absurd (cc)
number_fits t (log ▸ r) h e =
    elim (or_cases (is_of t r) (has (is_of t) log) e) [
      | inl own ↦ number_in t r (fits_last log r h) own
      | inr older ↦ number_fits t log (fits_before log r h) older
    ]

undo_next_fits : (t : ℕ) (log : History) → EachRecord Fits log → last_lsn log < 2 ^ 64 → undo_next_of t log < 2 ^ 64
undo_next_fits t (start _) h few = omega arith
undo_next_fits t (log ▸ Update u) h few =
    let older : undo_next_of t log < 2 ^ 64 = undo_next_fits t log (fits_before log (Update u) h) (omega (arith, few)) in
    elim (cases_Bool (eqb u.tx t)) [ inl e ↦ rw e few | inr e ↦ rw e older ]
undo_next_fits t (log ▸ Compensation c) h few =
    let older : undo_next_of t log < 2 ^ 64 = undo_next_fits t log (fits_before log (Compensation c) h) (omega (arith, few)) in
    let own : Fits (Compensation c) = fits_last log (Compensation c) h in
    elim (cases_Bool (eqb c.tx t)) [ inl e ↦ rw e own.undo_next | inr e ↦ rw e older ]
undo_next_fits t (log ▸ r) h few = undo_next_fits t log (fits_before log r h) (omega (arith, few))

-- TRANSACTIONS
module _ (log : History) (fit : EachRecord Fits log) (few : last_lsn log < 2 ^ 64) where
  entry_fits : (e : TableEntry) → IsTrueEntry log e → FitsEntry e
  entry_fits e h =
      let number = number_fits e.tx log fit (unfinished_has e.tx log h.0) in
      let last = ap (λ (x : TableEntry). x.last) h.1 in
      let undo_next = ap (λ (x : TableEntry). x.undo_next) h.1 in
      record {
        some_tx = number.0;
        tx = number.1;
        last = omega (arith, last, last_within e.tx log, few);
        undo_next = (let small = undo_next_fits e.tx log fit few in omega (arith, undo_next, small));
      }

  entries_fit : (es : List TableEntry) → All (IsTrueEntry log) es → AllByRecursion FitsEntry es
  entries_fit [] h = tt
  entries_fit (e ∷ es) h = (entry_fits e (All-head (IsTrueEntry log) e es h), entries_fit es (All-tail (IsTrueEntry log) e es h))

  few_listed : (es : List Row) → length (table es) ≤ length es
  few_listed [] = omega arith
  few_listed (e ∷ es) =
      let rest = few_listed es in
      elim (cases_Bool (eqb e.1.entry.last 0)) [ inl z ↦ rw z (omega (arith, rest)) | inr n ↦ rw n (omega (arith, rest)) ]

  pub transactions_fit : (es : List Row) → IsStrictlySortedBy nat_cmp (keys_of es) → ((t : ℕ) (x : Transaction) → at t es ≡ Some x → IsTransaction log t x) → length es ≤ TRANSACTIONS
      → FitsTable TRANSACTIONS tx_in FitsEntry (table es)
  transactions_fit es sorted each le =
      record {
        few = omega (arith, le, few_listed es);
        each = entries_fit (table es) (entries_true log es sorted each);
        rising = rises_rising 0 (map tx_in (table es)) (rises 0 es sorted (heads es));
      }
    where
      heads : (fs : List Row) → Heads 0 fs
      heads [] = tt
      heads (f ∷ fs) = omega arith

-- PAGES
abbrev Bounded : List PageState → Type 0
Bounded ps = (k : ℕ) (d : PageState) (rec_lsn : ℕ) → k < length ps → (get_or ps k d).rec_lsn ≡ Some rec_lsn → rec_lsn < 2 ^ 64

few_pages : (ps : List PageState) → length (flat_map listed_page ps) ≤ length ps
few_pages [] = omega arith
few_pages (p ∷ ps) = by_rec_lsn p.rec_lsn (few_pages ps)
  where
    by_rec_lsn : (o : Option ℕ) → length (flat_map listed_page ps) ≤ length ps → length (listed_from p.page.number o ++ flat_map listed_page ps) ≤ suc (length ps)
    by_rec_lsn None rest = omega (arith, rest)
    by_rec_lsn (Some r) rest = omega (arith, rest)

abbrev Listable : ℕ → List (ℕ × ℕ) → Type 0
Listable b entries = AllByRecursion FitsDirty entries × RisesFrom b (map page_in entries)

pages_listable : (b : ℕ) (ps : List PageState) → CountFrom b ps → b + length ps ≤ PAGES → Bounded ps → Listable b (flat_map listed_page ps)
pages_listable b [] count le bounded = (tt, tt)
pages_listable b (p ∷ ps) count le bounded =
    by_rec_lsn p.rec_lsn refl (pages_listable (b + 1) ps (count_behind b p ps count) (omega (arith, le)) (λ k d r lt e. bounded (suc k) d r (omega (arith, lt)) e))
  where
    number : p.page.number ≡ b
    number = first_number b p ps count

    by_rec_lsn : (o : Option ℕ) → p.rec_lsn ≡ o → Listable (b + 1) (flat_map listed_page ps) → Listable b (listed_from p.page.number o ++ flat_map listed_page ps)
    by_rec_lsn None e rest = (rest.0, rises_more b (b + 1) (map page_in (flat_map listed_page ps)) (omega arith) rest.1)
    by_rec_lsn (Some r) e rest =
        (let small : r < 2 ^ 64 = bounded 0 p r (omega arith) e in
        let page : p.page.number < 2 ^ 32 = omega (arith, number, le) in
        let next : b + 1 ≡ p.page.number + 1 = omega (arith, number) in
        ((record { page = page; rec_lsn = small }, rest.0), (omega (arith, number), subst (λ n. RisesFrom n (map page_in (flat_map listed_page ps))) next rest.1)))

pub dirty_fit : (ps : List PageState) → ((k : ℕ) (d : PageState) → k < length ps → (get_or ps k d).page.number ≡ k) → length ps ≤ PAGES → Bounded ps → FitsTable PAGES page_in FitsDirty (flat_map listed_page ps)
dirty_fit ps numbers le bounded =
    let l : Listable 0 (flat_map listed_page ps) = pages_listable 0 ps (λ k d lt. numbers k d lt ∙ omega arith) (omega (arith, le)) bounded in
    record { few = omega (arith, le, few_pages ps); each = l.0; rising = rises_rising 0 (map page_in (flat_map listed_page ps)) l.1 }

-- A CHECKPOINT
pub tables_fit : (base : BasePages) (run : Run) (last next : ℕ) (es : List Row) (ps : List PageState) → Agrees base run last next (λ t. at t es) ps → IsStrictlySortedBy nat_cmp (keys_of es) → length es ≤ TRANSACTIONS → (lsn : ℕ) → lsn ≡ last + 1 → lsn < 2 ^ 64
    → Fits (CheckpointEnd lsn (table es) (flat_map listed_page ps))
tables_fit base run last next es ps h ordered le lsn is small =
    let few : last_lsn (log_of run) < 2 ^ 64 = omega (arith, is, h.last_is, small) in
    record {
      begin_fits = small;
      transactions_fit = transactions_fit (log_of run) (each_fits base run h.runs) few es ordered (λ t x e. h.transactions.each t x e) le;
      dirty_fit = dirty_fit ps (numbers_are base run ps h.pages_are) (omega (arith, h.pages_are.count, run_few base run h.runs)) (λ k d r lt e. (let range = (h.pages_are.each k d lt).dirty.range r e in omega (arith, range.1, few)));
    }
