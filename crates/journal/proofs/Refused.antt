-- Why operations are refused.
use Rattle.std.proofs.Common.{◌≡◌, ◌≢◌, ◌<◌, ◌-◌, not, ℕ, suc, true, false, List, [], ◌∷◌, length, take, map, get_or, Option, Some, None, refl, sym, ap, ◌∙◌, inl, inr, arith, eqb-true}
use Rattle.std.specs.Prelude.{is_some, reverse}
use Rattle.std.proofs.lemmas.Bool.{cases_Bool, and_left, and_right, and_from, or_from, false_from_ne_true}
use Rattle.std.proofs.lemmas.List.Elements.{All-pop}
use Rattle.log_laws.specs.declared.state.State.{State}
use Rattle.log_laws.specs.declared.state.State.TheVariants.{Active, Aborting, Prepared}
use Rattle.log_laws.specs.Records.{LogRecord, Update, CheckpointBegin, CheckpointEnd, History, start, ◌▸◌, last_lsn, EachRecord}
use Rattle.log_laws.specs.Meaning.{BasePages, is_of, has, finished, is_unfinished, pending, touches, last_writer}
use Rattle.wal.specs.Spelling.{Fits}
use Rattle.log_laws.proofs.Histories.{record_last, record_more}
use Rattle.page.specs.declared.profile.TheConstants.{SLOTS}
use Rattle.log_laws.proofs.Holders.{last_touches}
use Rattle.journal.specs.declared.refusal.Refusal.{Refusal}
use Rattle.journal.specs.declared.refusal.Refusal.TheVariants.{UnknownTransaction, Forbidden, NoSuchPage, NoSuchSlot, Held}
use Rattle.journal.specs.declared.table.Need.{Need}
use Rattle.journal.specs.declared.table.Need.TheVariants.{Working, NotAborting, NotPrepared}
use Rattle.journal.specs.Transactions.{Pending}
use Rattle.journal.specs.Transactions.{Transaction}
use Rattle.journal.specs.PageStates.{PageState}
use Rattle.journal.specs.declared.image.Image.{Image}
use Rattle.journal.specs.declared.entries.Head.{Head}
use Rattle.journal.specs.declared.entries.TransactionEntry.{TransactionEntry}
use Rattle.journal.specs.declared.entries.PendingEntry.{PendingEntry}
use Rattle.journal.specs.Runs.{Run, count_of, log_of}
use Rattle.journal.specs.Transactions.{IsPending, lsn_in, IsNewest}
use Rattle.journal.specs.State.{Agrees}
use Rattle.journal.specs.Refusals.{StepRefused, allows, EntryRefused, RefusedFor, PrepareRefused, UpdateRefused, UndoRefused, EndRefused, CellRefused}
use Rattle.journal.proofs.Runs.{run_named}
use Rattle.journal.proofs.Fitting.{each_fits}
use Rattle.journal.proofs.Transactions.{none_pending, stack_push}
use Rattle.journal.proofs.Obeying.{touches_has}

-- WHAT IS ALLOWED
pub is_working : (s : State) → allows Working s ≡ true → s ≡ Active
is_working Active e = refl
is_working Aborting e = absurd (cc)
is_working Prepared e = absurd (cc)

pub not_aborting : (s : State) → allows NotAborting s ≡ true → s ≢ Aborting
not_aborting s e a = (let f : allows NotAborting Aborting ≡ true = ap (allows NotAborting) (sym a) ∙ e in cc)

pub not_prepared : (s : State) → allows NotPrepared s ≡ true → s ≢ Prepared
not_prepared s e a = (let f : allows NotPrepared Prepared ≡ true = ap (allows NotPrepared) (sym a) ∙ e in cc)

-- RECORDS that can be written are of transactions from 1 on
not_of_zero : (r : LogRecord) → Fits r → is_of 0 r ≡ false
not_of_zero CheckpointBegin f = refl
not_of_zero (CheckpointEnd begin ts d) f = refl
not_of_zero r f = false_from_ne_true (is_of 0 r) (λ e. (let some = f.some_tx in let zero_is = eqb-true _ 0 e in omega (arith, some, zero_is)))

pub none_of_zero : (log : History) → EachRecord Fits log → has (is_of 0) log ≡ false
none_of_zero (start base) h = refl
none_of_zero (log ▸ r) h =
    or_from (is_of 0 r) (has (is_of 0) log) (not_of_zero r (h (suc (last_lsn log)) r (record_last log r))) (none_of_zero log (λ n x f. h n x (record_more log r n x f)))

pub some_of : {T : Type 0} (o : Option T) → is_some o ≡ true → (x : T) × (o ≡ Some x)
some_of None e = absurd (cc)
some_of (Some x) e = (x, refl)

-- A TRANSACTION THAT IS NOT KEPT is not unfinished
module _ (base : BasePages) (run : Run) (last next : ℕ) (kept : ℕ → Option Transaction) (pages : List PageState) (h : Agrees base run last next kept pages) where
  absent : (tx : ℕ) → kept tx ≡ None → is_unfinished tx (log_of run) ≡ false
  absent tx e =
      elim (cases_Bool (has (is_of tx) (log_of run))) [
        | inl some ↦ and_right (has (is_of tx) (log_of run)) (not (finished tx (log_of run))) (ap not (h.transactions.others tx e some))
        | inr none ↦ and_left (has (is_of tx) (log_of run)) (not (finished tx (log_of run))) none
      ]

  zero_absent : (tx : ℕ) → tx ≡ 0 → is_unfinished tx (log_of run) ≡ false
  zero_absent tx e =
      ap (λ t. is_unfinished t (log_of run)) e ∙ and_left (has (is_of 0) (log_of run)) (not (finished 0 (log_of run))) (none_of_zero (log_of run) (each_fits base run h.runs))

  pub entry_refused : (need : Need) (tx size room : ℕ) (e : Refusal) → EntryRefused need kept tx e → RefusedFor need run tx size room e
  entry_refused need tx size room UnknownTransaction r = elim r [ inl z ↦ zero_absent tx z | inr n ↦ absent tx n ]
  entry_refused need tx size room (Forbidden state) r = (sym r.2 ∙ (h.transactions.each tx r.0 r.1).state, r.3)
  entry_refused need tx size room e r = absurd r

  pub step_refused : (need : Need) (tx : ℕ) (e : Refusal) → EntryRefused need kept tx e → StepRefused need run tx e
  step_refused need tx UnknownTransaction r = elim r [ inl z ↦ zero_absent tx z | inr n ↦ absent tx n ]
  step_refused need tx (Forbidden state) r = (sym r.2 ∙ (h.transactions.each tx r.0 r.1).state, r.3)
  step_refused need tx e r = absurd r

  pub prepare_refused : (tx : ℕ) (head : Head) (room : ℕ) (e : Refusal) → EntryRefused Working kept tx e → PrepareRefused run tx head room e
  prepare_refused tx head room UnknownTransaction r = entry_refused Working tx 25 room UnknownTransaction r
  prepare_refused tx head room (Forbidden state) r = entry_refused Working tx 25 room (Forbidden state) r
  prepare_refused tx head room e r = absurd r

  pub update_refused : (tx page slot : ℕ) (after : Image) (size room : ℕ) (head : Head) (ts : List TransactionEntry) (ps : List PendingEntry) (e : Refusal) → EntryRefused Working kept tx e → UpdateRefused run tx page slot after size room head ts ps e
  update_refused tx page slot after size room head ts ps UnknownTransaction r = entry_refused Working tx size room UnknownTransaction r
  update_refused tx page slot after size room head ts ps (Forbidden state) r = entry_refused Working tx size room (Forbidden state) r
  update_refused tx page slot after size room head ts ps e r = absurd r

  pub undo_refused : (tx room : ℕ) (e : Refusal) → EntryRefused NotPrepared kept tx e → UndoRefused run tx room e
  undo_refused tx room UnknownTransaction r = entry_refused NotPrepared tx 0 room UnknownTransaction r
  undo_refused tx room (Forbidden state) r = entry_refused NotPrepared tx 0 room (Forbidden state) r
  undo_refused tx room e r = absurd r

  pub end_refused : (tx room : ℕ) (e : Refusal) → EntryRefused NotPrepared kept tx e → EndRefused run tx room e
  end_refused tx room UnknownTransaction r = entry_refused NotPrepared tx 25 room UnknownTransaction r
  end_refused tx room (Forbidden state) r = entry_refused NotPrepared tx 25 room (Forbidden state) r
  end_refused tx room e r = absurd r

  -- A CELL
  pub holds : (other page slot : ℕ) (d : PageState) → (x : Transaction) × (kept other ≡ Some x) → page < length pages → slot < SLOTS → get_or (get_or pages page d).writers slot None ≡ Some other
      → (is_unfinished other (log_of run) ≡ true) × (touches other page slot (log_of run) ≡ true)
  holds other page slot d k page_is slot_is wrote =
      let log : History = log_of run in
      let last : last_writer page slot log ≡ Some other = sym ((h.pages_are.each page d page_is).writers slot slot_is) ∙ wrote in
      let touched : touches other page slot log ≡ true = last_touches page slot other log last in
      let going : not (finished other log) ≡ true = ap not (h.transactions.each other k.0 k.1).unfinished in
      (and_from (has (is_of other) log) (not (finished other log)) (touches_has other page slot log touched) going, touched)

  pub cell_refused : (tx page slot : ℕ) (after : Image) (size room : ℕ) (head : Head) (ts : List TransactionEntry) (ps : List PendingEntry) (e : Refusal) → CellRefused pages kept tx page slot e → UpdateRefused run tx page slot after size room head ts ps e
  cell_refused tx page slot after size room head ts ps NoSuchPage r = omega (arith, r, h.pages_are.count)
  cell_refused tx page slot after size room head ts ps NoSuchSlot r = r
  cell_refused tx page slot after size room head ts ps (Held other) r =
      let blank : PageState = record { page = record { number = 0; lsn = 0; slots = [] }; writers = []; rec_lsn = None } in
      let is = holds other page slot blank (some_of (kept other) r.1) r.2 r.3 (r.4 blank) in
      (r.0, is.0, is.1)
  cell_refused tx page slot after size room head ts ps e r = absurd r

  -- THE NEWEST PENDING UPDATE
  module _ (tx : ℕ) (x : Transaction) (was : kept tx ≡ Some x) where
    pub nothing_pending : x.pending ≡ [] → pending tx (log_of run) ≡ []
    nothing_pending none = none_pending (log_of run) tx x none (h.transactions.each tx x was)

    module _ (p : Pending) (items : IsNewest x.pending (Some p)) where
      pub still_pending : pending tx (log_of run) ≢ []
      still_pending empty =
          let below : List Pending = take (length x.pending - 1) x.pending in
          let stacked : pending tx (log_of run) ≡ p.lsn ∷ reverse (map lsn_in below) =
          (h.transactions.each tx x was).stack ∙ ap (λ (ps : List Pending). reverse (map lsn_in ps)) items ∙ stack_push below p in
          let no : [] ≡ p.lsn ∷ reverse (map lsn_in below) = sym empty ∙ stacked in
          cc

      pub pending_cell : (p.page < length pages) × (p.slot < SLOTS)
      pending_cell =
          let below : List Pending = take (length x.pending - 1) x.pending in
          let logged : IsPending (log_of run) tx p = (All-pop (IsPending (log_of run) tx) x.pending below (Some p) items (h.transactions.each tx x was).found).1 in
          let r : LogRecord = Update (record { tx = tx; prev = p.prev; page = p.page; slot = p.slot; before = p.before; after = logged.after }) in
          let page : p.page < count_of run = run_named base run h.runs p.lsn r logged.found in
          let slot : Fits r = each_fits base run h.runs p.lsn r logged.found in
          (omega (arith, page, h.pages_are.count), omega (arith, slot.slot))
