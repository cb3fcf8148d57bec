use Rattle.std.proofs.Common.{◌≡◌, true, map, ◌<◌, ◌+◌, ℕ, false, List, length, get_or, take, sym, ap, subst, ◌∙◌, arith, refl}
use Rattle.std.proofs.lemmas.Result.{err_from_is_err_and}
use Rattle.log_laws.specs.Records.{CompensationRecord, Compensation, last_lsn}
use Rattle.log_laws.specs.Meaning.{last_of}
use Rattle.wal.specs.Spelling.{Fits, frame}
use Rattle.journal.specs.declared.entries.Head.{Head}
use Rattle.journal.specs.declared.entries.TransactionEntry.{TransactionEntry}
use Rattle.journal.specs.declared.entries.PageEntry.{PageEntry}
use Rattle.journal.specs.declared.entries.PendingEntry.{PendingEntry}
use Rattle.journal.specs.declared.table.Need.TheVariants.{NotPrepared}
use Rattle.journal.specs.Refusals.{allows, EntryRefused, UndoRefused}
use Rattle.journal.specs.Runs.{log_of}
use Rattle.journal.specs.Arrays.{bound_of, state_of, kept_of, page_state_of, image_of, IsTable}
use Rattle.journal.specs.Writing.{IsWritten}
use Rattle.journal.proofs.Refused.{undo_refused, nothing_pending}
use Rattle.journal.proofs.Journals.{no_entry, no_update, kept_is, owes, no_pending, its_cell, undo_record, undone_is, undone_owes, undone_others, its_last}
use Rattle.journal.proofs.operations.undo.Goals as goal

pub returns-in_err-place : goal.returns-in_err-place
returns-in_err-place c =
    let exit = err_from_is_err_and c.from_residual-in_err-place.result c.from_residual-in_err-place.ensures.1 in
    let ts : List TransactionEntry = c.args.transactions.now in
    let e : take c.in_ok-count.count ts ≡ take c.args.head.now.transactions ts = ap (λ n. take n ts) c.in_ok-count.ensures.ok in
    rw exit.1 (record {
      ok = tt;
      enough = λ _. rw exit.2 c.in_err-place.ensures.kind;
      count = refl;
      updates = refl;
      rest = record { written = refl; next = refl };
      same = record { head = refl; transactions = refl; pages = refl; pending = refl; out = refl };
      refused = rw exit.2 (λ base run h.
          let xs = take c.args.head.now.pending c.args.pending.now in
          let table = subst IsTable (sym e) h.arrays.used.table in
          undo_refused base run c.args.head.now.last c.args.head.now.next _ (map page_state_of c.args.pages.now) h.holds c.args.tx (length c.args.out.now) c.in_err-place.field-0.0
          (subst (λ (zs : List TransactionEntry). EntryRefused NotPrepared (kept_of zs xs) c.args.tx c.in_err-place.field-0.0) e (c.in_err-place.ensures.err xs table)));
    })

pub returns-in_default : goal.returns-in_default
returns-in_default c = record {
  ok = tt;
  enough = λ _. tt;
  count = refl;
  updates = refl;
  rest = record { written = refl; next = refl };
  same = record { head = refl; transactions = refl; pages = refl; pending = refl; out = refl };
  refused = λ base run h.
      let ts : List TransactionEntry = c.args.transactions.now in
      let place : ℕ = c.in_ok-place.place in
      let e : take c.in_ok-count.count ts ≡ take c.args.head.now.transactions ts = ap (λ n. take n ts) c.in_ok-count.ensures.ok in
      let within : place < length (take c.args.head.now.transactions ts) = subst (λ (xs : List TransactionEntry). place < length xs) e c.in_ok-place.ensures.within in
      let found : (get_or (take c.args.head.now.transactions ts) place no_entry).tx ≡ c.args.tx = subst (λ (xs : List TransactionEntry). (get_or xs place no_entry).tx ≡ c.args.tx) e (c.in_ok-place.ensures.found no_entry) in
      let below : c.bound-below.result ≡ bound_of (get_or (take c.args.head.now.transactions ts) place no_entry) c.args.head.now.pending =
      c.bound-below.ensures ∙ ap (λ (xs : List TransactionEntry). bound_of (get_or xs place no_entry) c.args.head.now.pending) e in
      let none = no_pending base run c.args.head.now ts c.args.pages.now c.args.pending.now h c.args.tx place within found c.bound-below.result below (c.newest.ensures.none c.in_default.is) in
      nothing_pending base run c.args.head.now.last c.args.head.now.next _ (map page_state_of c.args.pages.now) h.holds c.args.tx _
      (kept_is base run c.args.head.now ts c.args.pages.now c.args.pending.now h c.args.tx place within found) none;
}

pub returns-then-not-is_cell : goal.returns-then-not-is_cell
returns-then-not-is_cell c = record {
  ok = tt;
  enough = λ _. tt;
  count = refl;
  updates = refl;
  rest = record { written = refl; next = refl };
  same = record { head = refl; transactions = refl; pages = refl; pending = refl; out = refl };
  refused = λ base run h.
      let ts : List TransactionEntry = c.args.transactions.now in
      let place : ℕ = c.in_ok-place.place in
      let e : take c.in_ok-count.count ts ≡ take c.args.head.now.transactions ts = ap (λ n. take n ts) c.in_ok-count.ensures.ok in
      let within : place < length (take c.args.head.now.transactions ts) = subst (λ (xs : List TransactionEntry). place < length xs) e c.in_ok-place.ensures.within in
      let found : (get_or (take c.args.head.now.transactions ts) place no_entry).tx ≡ c.args.tx = subst (λ (xs : List TransactionEntry). (get_or xs place no_entry).tx ≡ c.args.tx) e (c.in_ok-place.ensures.found no_entry) in
      let below : c.bound-below.result ≡ bound_of (get_or (take c.args.head.now.transactions ts) place no_entry) c.args.head.now.pending =
      c.bound-below.ensures ∙ ap (λ (xs : List TransactionEntry). bound_of (get_or xs place no_entry) c.args.head.now.pending) e in
      let cell = its_cell base run c.args.head.now ts c.args.pages.now c.args.pending.now h c.args.tx place within found c.bound-below.result below c.in-Some.top c.in-Some.ensures.within (c.in-Some.ensures.found no_update) c.in-Some.ensures.above in
      let yes = c.is_cell.ensures.1 cell in
      let no : c.is_cell.result ≡ false = c.if-not-is_cell.true in
      cc;
}

pub returns-in_err-room_for : goal.returns-in_err-room_for
returns-in_err-room_for c =
    let exit = err_from_is_err_and c.from_residual-in_err-room_for.result c.from_residual-in_err-room_for.ensures.1 in
    let ts : List TransactionEntry = c.args.transactions.now in
    let ps : List PendingEntry = c.args.pending.now in
    let place : ℕ = c.in_ok-place.place in
    let e : take c.in_ok-count.count ts ≡ take c.args.head.now.transactions ts = ap (λ n. take n ts) c.in_ok-count.ensures.ok in
    let within : place < length (take c.args.head.now.transactions ts) = subst (λ (xs : List TransactionEntry). place < length xs) e c.in_ok-place.ensures.within in
    let found : (get_or (take c.args.head.now.transactions ts) place no_entry).tx ≡ c.args.tx = subst (λ (xs : List TransactionEntry). (get_or xs place no_entry).tx ≡ c.args.tx) e (c.in_ok-place.ensures.found no_entry) in
    let below : c.bound-below.result ≡ bound_of (get_or (take c.args.head.now.transactions ts) place no_entry) c.args.head.now.pending =
    c.bound-below.ensures ∙ ap (λ (xs : List TransactionEntry). bound_of (get_or xs place no_entry) c.args.head.now.pending) e in
    let update : PendingEntry = get_or ps c.in-Some.top no_update in
    let short = c.in_err-room_for.ensures.short in
    rw exit.1 (record {
      ok = tt;
      enough = λ h. absurd (omega (arith, h, c.in_err-room_for.ensures.short, c.compensation_size.ensures.short));
      count = refl;
      updates = refl;
      rest = record { written = refl; next = refl };
      same = record { head = refl; transactions = refl; pages = refl; pending = refl; out = refl };
      refused = rw exit.2 (λ base run h.
          let clr : CompensationRecord = record { tx = c.args.tx; prev = last_of c.args.tx (log_of run); page = update.page; slot = update.slot; undo_next = update.prev; image = image_of update.before } in
          let undoes = undo_record base run c.args.head.now ts c.args.pages.now ps h c.args.tx place within found c.bound-below.result below c.in-Some.top c.in-Some.ensures.within (c.in-Some.ensures.found no_update) c.in-Some.ensures.above in
          let size : c.compensation_size.result ≡ length (frame (Compensation clr) (last_lsn (log_of run) + 1)) = omega (arith, c.compensation_size.ensures.size) in
          subst (UndoRefused run c.args.tx (length c.args.out.now)) (sym c.in_err-room_for.ensures.err) (Compensation clr, undoes, size, short));
    })

pub returns-in_err-lsn : goal.returns-in_err-lsn
returns-in_err-lsn c =
    let exit = err_from_is_err_and c.from_residual-in_err-lsn.result c.from_residual-in_err-lsn.ensures.1 in
    let full = c.in_err-lsn.ensures.full in
    let ts : List TransactionEntry = c.args.transactions.now in
    let place : ℕ = c.in_ok-place.place in
    let e : take c.in_ok-count.count ts ≡ take c.args.head.now.transactions ts = ap (λ n. take n ts) c.in_ok-count.ensures.ok in
    let within : place < length (take c.args.head.now.transactions ts) = subst (λ (xs : List TransactionEntry). place < length xs) e c.in_ok-place.ensures.within in
    let found : (get_or (take c.args.head.now.transactions ts) place no_entry).tx ≡ c.args.tx = subst (λ (xs : List TransactionEntry). (get_or xs place no_entry).tx ≡ c.args.tx) e (c.in_ok-place.ensures.found no_entry) in
    rw exit.1 (record {
      ok = tt;
      enough = λ _. rw (exit.2, c.in_err-lsn.ensures.err) tt;
      count = refl;
      updates = refl;
      rest = record { written = refl; next = refl };
      same = record { head = refl; transactions = refl; pages = refl; pending = refl; out = refl };
      refused = rw exit.2 (λ base run h.
          let owed = owes base run c.args.head.now ts c.args.pages.now c.args.pending.now h c.args.tx place within found in
          absurd (omega (arith, owed, full, h.reserve)));
    })

pub returns-clause-ok : goal.returns-clause-ok
returns-clause-ok c =
    let head : Head = c.args.head.now in
    let ts : List TransactionEntry = c.args.transactions.now in
    let ps : List PendingEntry = c.args.pending.now in
    let pages : List PageEntry = c.args.pages.now in
    let tx : ℕ = c.args.tx in
    let place : ℕ = c.in_ok-place.place in
    let top : ℕ = c.in-Some.top in
    let lsn : ℕ = c.in_ok-lsn.lsn in
    let es : List TransactionEntry = take head.transactions ts in
    let e : take c.in_ok-count.count ts ≡ es = ap (λ n. take n ts) c.in_ok-count.ensures.ok in
    let within : place < length es = subst (λ (xs : List TransactionEntry). place < length xs) e c.in_ok-place.ensures.within in
    let found : (get_or es place no_entry).tx ≡ tx = subst (λ (xs : List TransactionEntry). (get_or xs place no_entry).tx ≡ tx) e (c.in_ok-place.ensures.found no_entry) in
    let below : c.bound-below.result ≡ bound_of (get_or es place no_entry) head.pending =
    c.bound-below.ensures ∙ ap (λ (xs : List TransactionEntry). bound_of (get_or xs place no_entry) head.pending) e in
    let allowed = subst (λ (xs : List TransactionEntry). allows NotPrepared (state_of (get_or xs place no_entry).state) ≡ true) e (c.in_ok-place.ensures.allowed no_entry) in
    let update : PendingEntry = get_or ps top no_update in
    let clr : ℕ → CompensationRecord = λ prev. record { tx = tx; prev = prev; page = update.page; slot = update.slot; undo_next = update.prev; image = image_of update.before } in
    let prev : (get_or (take c.in_ok-count.count ts) place no_entry).last ≡ (get_or es place no_entry).last = ap (λ (xs : List TransactionEntry). (get_or xs place no_entry).last) e in
    let fits = subst (λ k. Fits (Compensation (clr k))) prev c.put_compensation-size.ensures.fits in
    record {
      journal = λ base run h.
          let last = its_last base run head ts pages ps h tx place within found c.bound-below.result below top c.in-Some.ensures.within (c.in-Some.ensures.found no_update) c.in-Some.ensures.above in
          let written = subst (λ k. IsWritten (Compensation (clr k)) lsn c.args.out.now c.put_compensation-size.new.out c.put_compensation-size.result) (prev ∙ last) c.put_compensation-size.ensures.written in (
            Compensation (clr (last_of tx (log_of run))),
            undo_record base run head ts pages ps h tx place within found c.bound-below.result below top c.in-Some.ensures.within (c.in-Some.ensures.found no_update) c.in-Some.ensures.above,
            undone_is base run head ts pages ps h tx place within found c.bound-below.result below top c.in-Some.ensures.within (c.in-Some.ensures.found no_update) c.in-Some.ensures.above
                lsn c.in_ok-lsn.ensures.ok c.in_ok-lsn.ensures.few c.note_undo.new.transactions c.note_undo.new.pending c.change_cell.new.pages (c.note_undo.ensures.transaction no_entry) (c.note_undo.ensures.pending no_update) c.change_cell.ensures allowed fits,
            subst (λ k. IsWritten (Compensation (clr (last_of tx (log_of run)))) k c.args.out.now c.put_compensation-size.new.out c.put_compensation-size.result) c.in_ok-lsn.ensures.ok written,
          );
      others = λ base run h.
          undone_others base run head ts pages ps h tx place within found c.bound-below.result below top c.in-Some.ensures.within (c.in-Some.ensures.found no_update) c.in-Some.ensures.above
          lsn c.in_ok-lsn.ensures.ok c.in_ok-lsn.ensures.few c.note_undo.new.transactions c.note_undo.new.pending c.change_cell.new.pages (c.note_undo.ensures.transaction no_entry) (c.note_undo.ensures.pending no_update);
      owes = λ base run h.
          undone_owes base run head ts pages ps h tx place within found c.bound-below.result below top c.in-Some.ensures.within (c.in-Some.ensures.found no_update) c.in-Some.ensures.above
          lsn c.in_ok-lsn.ensures.ok c.in_ok-lsn.ensures.few c.note_undo.new.transactions c.note_undo.new.pending c.change_cell.new.pages (c.note_undo.ensures.transaction no_entry) (c.note_undo.ensures.pending no_update);
      lsn = c.in_ok-lsn.ensures.ok;
      fits = omega (arith, c.in_ok-room_for.ensures, c.put_compensation-size.ensures.written.size_is, c.compensation_size.ensures.size);
      short = omega (arith, c.compensation_size.ensures.short, c.put_compensation-size.ensures.written.size_is, c.compensation_size.ensures.size);
    }
