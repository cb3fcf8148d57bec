-- A transaction can be rolled back.
use Rattle.std.proofs.Common.{◌≡◌, ◌≢◌, ◌<◌, ◌+◌, ◌^◌, not, ℕ, suc, true, false, List, [], ◌∷◌, length, get_or, take, drop, map, Option, Some, None, refl, ap, ◌∙◌, inl, inr, arith, eqb, eq-eqb, eqb-true}
use Rattle.std.proofs.lemmas.Bool.{false≢true, or_parts, or_cases, or_left, or_right, and_from, both_ways}
use Rattle.std.proofs.lemmas.List.{length-map}
use lib.ListN.{length-reverse}
use Rattle.log_laws.specs.declared.state.State.TheVariants.{Prepared}
use Rattle.log_laws.specs.Records.{UpdateRecord, CompensationRecord, PlainRecord, LogRecord, Update, Compensation, Commit, Abort, End, Prepare, CheckpointBegin, CheckpointEnd, History, start, ◌▸◌, last_lsn, record_at, EachRecord}
use Rattle.log_laws.specs.Meaning.{BasePages, is_of, has, committed, ended, finished, is_unfinished, state_at, pending, last_of}
use Rattle.log_laws.specs.Laws.{Compensates}
use Rattle.log_laws.specs.Store.{NamesPages}
use Rattle.log_laws.specs.Tail.{is_among}
use Rattle.wal.specs.Spelling.{Fits}
use Rattle.log_laws.proofs.Histories.{record_last, record_more, last_within}
use Rattle.log_laws.proofs.Stacks.{pending_found}
use Rattle.log_laws.proofs.Holders.{unfinished_has, unfinished_open}
use Rattle.journal.specs.declared.entries.TransactionEntry.{TransactionEntry}
use Rattle.journal.specs.declared.entries.PendingEntry.{PendingEntry}
use Rattle.journal.specs.Runs.{Run, appended, count_of, log_of, MayFollow, IsRun}
use Rattle.journal.specs.Transactions.{Transaction, lsn_in}
use Rattle.journal.specs.Arrays.{kept_of, pending_of}
use Rattle.journal.specs.Rollbacks.{RollsBack, CanRollBack, JournalCanRollBack}
use Rattle.journal.proofs.Runs.{run_named}
use Rattle.journal.proofs.Fitting.{each_fits}
use Rattle.journal.proofs.Transactions.{unprepared_flags}
use Rattle.journal.proofs.Tables.{standing, kept_where, kept_at}
use Rattle.journal.proofs.Owed.{owed_some, weight_some}
use Rattle.journal.proofs.Journals.{no_entry}

-- NUMBERS of transactions that have a record
number_of : (t : ℕ) (r : LogRecord) → Fits r → is_of t r ≡ true → (0 < t) × (t < 2 ^ 32)
number_of t (Update u) f own = (let same = eqb-true u.tx t own in let a = f.some_tx in let b = f.tx in (omega (arith, same, a), omega (arith, same, b)))
number_of t (Compensation u) f own = (let same = eqb-true u.tx t own in let a = f.some_tx in let b = f.tx in (omega (arith, same, a), omega (arith, same, b)))
number_of t (Commit u) f own = (let same = eqb-true u.tx t own in let a = f.some_tx in let b = f.tx in (omega (arith, same, a), omega (arith, same, b)))
number_of t (Abort u) f own = (let same = eqb-true u.tx t own in let a = f.some_tx in let b = f.tx in (omega (arith, same, a), omega (arith, same, b)))
number_of t (End u) f own = (let same = eqb-true u.tx t own in let a = f.some_tx in let b = f.tx in (omega (arith, same, a), omega (arith, same, b)))
number_of t (Prepare u) f own = (let same = eqb-true u.tx t own in let a = f.some_tx in let b = f.tx in (omega (arith, same, a), omega (arith, same, b)))
number_of t CheckpointBegin f own = absurd (false≢true own)
number_of t (CheckpointEnd begin ts d) f own = absurd (false≢true own)

has_number : (t : ℕ) (log : History) → EachRecord Fits log → has (is_of t) log ≡ true → (0 < t) × (t < 2 ^ 32)
has_number t (start base) fits some = absurd (false≢true some)
has_number t (log ▸ r) fits some =
    elim (or_cases (is_of t r) (has (is_of t) log) some) [
      | inl own ↦ number_of t r (fits (suc (last_lsn log)) r (record_last log r)) own
      | inr old ↦ has_number t log (λ n x f. fits n x (record_more log r n x f)) old
    ]

module _ (base : BasePages) (run : Run) (t : ℕ) (runs : IsRun base run) (going : is_unfinished t (log_of run) ≡ true) (free : state_at t (log_of run) ≢ Prepared) where
  abbrev log : History
  log = log_of run

  open_still : finished t log ≡ false
  open_still = unfinished_open t log going

  number : (0 < t) × (t < 2 ^ 32)
  number = has_number t log (each_fits base run runs) (unfinished_has t log going)

  -- AN END, where nothing is pending
  ends : last_lsn log + 1 < 2 ^ 64 → pending t log ≡ [] → (rs : List LogRecord) × RollsBack base run t rs
  ends enough none =
      let s : PlainRecord = record { tx = t; prev = last_of t log } in
      let follows : MayFollow base run (End s) =
      record {
        obeys = record { chain = refl; finish = ((or_parts (committed t log) (ended t log) open_still).1, unprepared_flags t log free); compensation = λ _. none; before = tt; strict = tt };
        fits = record { some_tx = number.0; tx = number.1; prev = omega (arith, last_within t log, enough) };
        few = omega (arith, enough);
        names_pages = tt;
        tables = tt;
      } in (
        End s ∷ [],
        record {
          rollback = (refl, none);
          count = (let size = ap length none in omega (arith, size));
          runs = (runs, follows);
          finishes = or_right (committed t (log ▸ End s)) (ended t (log ▸ End s)) (or_left (eqb t t) (ended t log) (eq-eqb t t refl));
        },
      )

  -- A CLR of the newest pending update
  module _ (lsn : ℕ) (below : List ℕ) (newest : pending t log ≡ lsn ∷ below) (enough : last_lsn log + 1 < 2 ^ 64) where
    update : (u : UpdateRecord) × (record_at log lsn ≡ Some (Update u)) × (u.tx ≡ t)
    update = pending_found t log lsn (rw newest (or_left (eqb lsn lsn) (is_among lsn below) (eq-eqb lsn lsn refl)))

    abbrev clr : CompensationRecord
    clr = record { tx = t; prev = last_of t log; page = update.0.page; slot = update.0.slot; undo_next = update.0.prev; image = update.0.before }

    compensates : Compensates log clr
    compensates = record { lsn = lsn; below = below; update = update.0; newest = newest; found = update.1; page = refl; slot = refl; image = refl; undo_next = refl }

    follows : MayFollow base run (Compensation clr)
    follows =
        let fits : Fits (Update update.0) = each_fits base run runs lsn (Update update.0) update.1 in
        let named : NamesPages (count_of run) (Update update.0) = run_named base run runs lsn (Update update.0) update.1 in
        record {
          obeys = record { chain = refl; finish = (open_still, unprepared_flags t log free); compensation = compensates; before = tt; strict = tt };
          fits = record {
            some_tx = number.0;
            tx = number.1;
            prev = omega (arith, last_within t log, enough);
            page = fits.page;
            slot = fits.slot;
            undo_next = fits.prev;
            image = fits.before;
          };
          few = omega (arith, enough);
          names_pages = named;
          tables = tt;
        }

    still_going : is_unfinished t (log ▸ Compensation clr) ≡ true
    still_going = and_from (has (is_of t) (log ▸ Compensation clr)) (not (finished t log)) (or_left (eqb t t) (has (is_of t) log) (eq-eqb t t refl)) (ap not open_still)

    left : pending t (log ▸ Compensation clr) ≡ below
    left = (let own : eqb t t ≡ true = eq-eqb t t refl in rw own (ap (drop 1) newest))

-- BY THE UPDATES that are left
rolls_back : (stack : List ℕ) (base : BasePages) (run : Run) (t : ℕ) → IsRun base run → is_unfinished t (log_of run) ≡ true → state_at t (log_of run) ≢ Prepared → pending t (log_of run) ≡ stack
    → last_lsn (log_of run) + length stack + 1 < 2 ^ 64 → (rs : List LogRecord) × RollsBack base run t rs
rolls_back [] base run t runs going free none enough = ends base run t runs going free (omega (arith, enough)) none
rolls_back (lsn ∷ below) base run t runs going free newest enough =
    let few : last_lsn (log_of run) + 1 < 2 ^ 64 = omega (arith, enough) in
    let c : CompensationRecord = clr base run t runs going free lsn below newest few in
    let rest =
    rolls_back below base (appended run (Compensation c)) t (runs, follows base run t runs going free lsn below newest few) (still_going base run t runs going free lsn below newest few) free
    (left base run t runs going free lsn below newest few) (omega (arith, enough)) in (
      Compensation c ∷ rest.0,
      record {
        rollback = (refl, compensates base run t runs going free lsn below newest few, rest.1.rollback);
        count = (let size = ap length newest in let less = ap length (left base run t runs going free lsn below newest few) in let more = rest.1.count in omega (arith, size, less, more));
        runs = rest.1.runs;
        finishes = rest.1.finishes;
      },
    )

pub can_roll_back : CanRollBack
can_roll_back base run t runs going free enough = rolls_back (pending t (log_of run)) base run t runs going free refl enough

-- A JOURNAL has the LSNs for it
some_kept : (kept : Option Transaction) → kept ≢ None → (x : Transaction) × (kept ≡ Some x)
some_kept None n = absurd (n refl)
some_kept (Some x) n = (x, refl)

pub journal_can_roll_back : JournalCanRollBack
journal_can_roll_back base run head ts pages ps t h going free =
    let es : List TransactionEntry = take head.transactions ts in
    let xs : List PendingEntry = take head.pending ps in
    let there = some_kept (kept_of es xs t) (λ none. both_ways (finished t (log_of run)) (unfinished_open t (log_of run) going) (h.holds.transactions.others t none (unfinished_has t (log_of run) going))) in
    let at = kept_where es xs t there.0 there.1 in
    let e : TransactionEntry = get_or es at.0 no_entry in
    let x : Transaction = standing e xs in
    let kept_is : kept_of es xs t ≡ Some x = kept_at es xs at.0 no_entry t h.arrays.used.table.rising at.1 (at.2 no_entry) in
    let its = h.holds.transactions.each t x kept_is in
    let size : length (pending t (log_of run)) ≡ length (pending_of e.tx xs) = ap length its.stack ∙ length-reverse (map lsn_in (pending_of e.tx xs)) ∙ length-map (pending_of e.tx xs) lsn_in in
    let owes = owed_some es at.0 no_entry xs at.1 in
    let w = weight_some e.state in
    can_roll_back base run t h.holds.runs going free (omega (arith, size, owes, w, h.reserve, h.holds.last_is))
