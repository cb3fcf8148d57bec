use Rattle.std.proofs.Common.{◌≡◌, true, ◌<◌, ℕ, List, length, get_or, take, refl, sym, ap, subst, ◌∙◌, arith, le_refl}
use Rattle.std.proofs.lemmas.List.{get_or-take, length-take}
use Rattle.std.proofs.lemmas.Result.{err_from_is_err_and}
use Rattle.log_laws.specs.Records.{PlainRecord}
use Rattle.log_laws.specs.Meaning.{last_of}
use Rattle.wal.specs.Spelling.{Fits}
use Rattle.journal.specs.declared.entries.Head.{Head}
use Rattle.journal.specs.declared.entries.TransactionEntry.{TransactionEntry}
use Rattle.journal.specs.declared.entries.PendingEntry.{PendingEntry}
use Rattle.journal.specs.declared.turns.Turn.{Turn}
use Rattle.journal.specs.declared.turns.Turn.TheVariants.{End}
use Rattle.journal.specs.Refusals.{allows, EntryRefused}
use Rattle.journal.specs.Runs.{appended, log_of}
use Rattle.journal.specs.Arrays.{bound_of, state_of, kept_of, IsTable, NoneBy, LeavesOthers, OwesLess}
use Rattle.journal.specs.Writing.{IsWritten, HasKind}
use Rattle.journal.specs.State.{IsJournal, plain_by}
use Rattle.journal.specs.TurnsTaken.{turn_record, need_of, left_after, IsTaken, HoldsUp}
use Rattle.journal.proofs.Journals.{no_entry, kept_is, owes}
use Rattle.journal.proofs.Turned.{has_kind, room_refused, lsns_refused, turn_refused, held_up, turned, turned_owes, others_stay}
use Rattle.journal.proofs.turns.take_turn.Goals as goal

pub returns-in_err-check_lsns : goal.returns-in_err-check_lsns
returns-in_err-check_lsns c =
    let exit = err_from_is_err_and c.from_residual-in_err-check_lsns.result c.from_residual-in_err-check_lsns.ensures.1 in
    rw exit.1 (record {
      ok = tt;
      rest = record { written = refl; next = refl };
      count = le_refl _;
      updates = refl;
      enough = λ _. rw (exit.2, c.in_err-check_lsns.ensures.err) tt;
      same = record { head = refl; transactions = refl; out = refl };
      refused = rw (exit.2, c.in_err-check_lsns.ensures.err) (λ base run pages h. lsns_refused c.args.turn run c.args.tx c.args.head.now (length c.args.out.now) c.in_err-check_lsns.ensures.prepares c.in_err-check_lsns.ensures.full);
    })

pub returns-in_err-place : goal.returns-in_err-place
returns-in_err-place c =
    let exit = err_from_is_err_and c.from_residual-in_err-place.result c.from_residual-in_err-place.ensures.1 in
    let head : Head = c.args.head.now in
    let ts : List TransactionEntry = c.args.transactions.now in
    let e : take c.in_ok-count.count ts ≡ take head.transactions ts = ap (λ n. take n ts) c.in_ok-count.ensures.ok in
    rw exit.1 (record {
      ok = tt;
      rest = record { written = refl; next = refl };
      count = le_refl _;
      updates = refl;
      enough = λ _. rw exit.2 c.in_err-place.ensures.kind;
      same = record { head = refl; transactions = refl; out = refl };
      refused = rw exit.2 (λ base run pages h.
          let xs : List PendingEntry = take head.pending c.args.pending.now in
          let why = c.in_err-place.ensures.err xs (subst IsTable (sym e) h.arrays.used.table) in
          turn_refused base run head ts pages c.args.pending.now h c.args.tx c.args.turn (length c.args.out.now) c.in_err-place.field-0.0
          (subst (λ (zs : List TransactionEntry). EntryRefused (need_of c.args.turn) (kept_of zs xs) c.args.tx c.in_err-place.field-0.0) e
          (subst (λ need. EntryRefused need (kept_of (take c.in_ok-count.count ts) xs) c.args.tx c.in_err-place.field-0.0) c.need.ensures why)));
    })

pub returns-in_err-check_pending : goal.returns-in_err-check_pending
returns-in_err-check_pending c =
    let exit = err_from_is_err_and c.from_residual-in_err-check_pending.result c.from_residual-in_err-check_pending.ensures.1 in
    let head : Head = c.args.head.now in
    let ts : List TransactionEntry = c.args.transactions.now in
    let place : ℕ = c.in_ok-place.place in
    let es : List TransactionEntry = take head.transactions ts in
    let e : take c.in_ok-count.count ts ≡ es = ap (λ n. take n ts) c.in_ok-count.ensures.ok in
    let within : place < length es = subst (λ (xs : List TransactionEntry). place < length xs) e c.in_ok-place.ensures.within in
    let found : (get_or es place no_entry).tx ≡ c.args.tx = subst (λ (xs : List TransactionEntry). (get_or xs place no_entry).tx ≡ c.args.tx) e (c.in_ok-place.ensures.found no_entry) in
    let under : place < head.transactions = omega (arith, within, length-take head.transactions ts) in
    let entry : get_or ts place no_entry ≡ get_or es place no_entry = sym (get_or-take head.transactions ts place no_entry under) in
    rw exit.1 (record {
      ok = tt;
      rest = record { written = refl; next = refl };
      count = le_refl _;
      updates = refl;
      enough = λ _. rw exit.2 c.in_err-check_pending.ensures.kind;
      same = record { head = refl; transactions = refl; out = refl };
      refused = rw exit.2 (λ base run pages h.
          held_up base run head ts pages c.args.pending.now h c.args.tx place within found c.args.turn (length c.args.out.now) c.in_err-check_pending.field-0.0
          (subst (λ (x : TransactionEntry). HoldsUp c.args.turn head x c.args.pending.now c.args.tx c.in_err-check_pending.field-0.0) entry c.in_err-check_pending.ensures.err));
    })

pub returns-in_err-lsn : goal.returns-in_err-lsn
returns-in_err-lsn c =
    let exit = err_from_is_err_and c.from_residual-in_err-lsn.result c.from_residual-in_err-lsn.ensures.1 in
    let full = c.in_err-lsn.ensures.full in
    let head : Head = c.args.head.now in
    let ts : List TransactionEntry = c.args.transactions.now in
    let place : ℕ = c.in_ok-place.place in
    let es : List TransactionEntry = take head.transactions ts in
    let e : take c.in_ok-count.count ts ≡ es = ap (λ n. take n ts) c.in_ok-count.ensures.ok in
    let within : place < length es = subst (λ (xs : List TransactionEntry). place < length xs) e c.in_ok-place.ensures.within in
    let found : (get_or es place no_entry).tx ≡ c.args.tx = subst (λ (xs : List TransactionEntry). (get_or xs place no_entry).tx ≡ c.args.tx) e (c.in_ok-place.ensures.found no_entry) in
    rw exit.1 (record {
      ok = tt;
      rest = record { written = refl; next = refl };
      count = le_refl _;
      updates = refl;
      enough = λ _. rw (exit.2, c.in_err-lsn.ensures.err) tt;
      same = record { head = refl; transactions = refl; out = refl };
      refused = rw exit.2 (λ base run pages h.
          let owed = owes base run head ts pages c.args.pending.now h c.args.tx place within found in
          absurd (omega (arith, owed, full, h.reserve)));
    })

pub returns-in_err-room_for : goal.returns-in_err-room_for
returns-in_err-room_for c =
    let exit = err_from_is_err_and c.from_residual-in_err-room_for.result c.from_residual-in_err-room_for.ensures.1 in
    rw exit.1 (record {
      ok = tt;
      rest = record { written = refl; next = refl };
      count = le_refl _;
      updates = refl;
      enough = λ h. absurd (omega (arith, h, c.in_err-room_for.ensures.short));
      same = record { head = refl; transactions = refl; out = refl };
      refused = rw (exit.2, c.in_err-room_for.ensures.err) (λ base run pages h. room_refused c.args.turn run c.args.tx c.args.head.now (length c.args.out.now) c.in_err-room_for.ensures.short);
    })

pub returns-clause-ok : goal.returns-clause-ok
returns-clause-ok c =
    let head : Head = c.args.head.now in
    let ts : List TransactionEntry = c.args.transactions.now in
    let ps : List PendingEntry = c.args.pending.now in
    let tx : ℕ = c.args.tx in
    let turn : Turn = c.args.turn in
    let place : ℕ = c.in_ok-place.place in
    let lsn : ℕ = c.in_ok-lsn.lsn in
    let now : List TransactionEntry = c.note_turn-head.new.transactions in
    let es : List TransactionEntry = take head.transactions ts in
    let e : take c.in_ok-count.count ts ≡ es = ap (λ n. take n ts) c.in_ok-count.ensures.ok in
    let within : place < length es = subst (λ (xs : List TransactionEntry). place < length xs) e c.in_ok-place.ensures.within in
    let found : (get_or es place no_entry).tx ≡ tx = subst (λ (xs : List TransactionEntry). (get_or xs place no_entry).tx ≡ tx) e (c.in_ok-place.ensures.found no_entry) in
    let under : place < head.transactions = omega (arith, within, length-take head.transactions ts) in
    let entry : get_or ts place no_entry ≡ get_or es place no_entry = sym (get_or-take head.transactions ts place no_entry under) in
    let prev : (get_or ts place no_entry).last ≡ (get_or es place no_entry).last = ap (λ (x : TransactionEntry). x.last) entry in
    let allowed = subst (λ need. allows need (state_of (get_or es place no_entry).state) ≡ true) c.need.ensures
    (subst (λ (xs : List TransactionEntry). allows c.need.result (state_of (get_or xs place no_entry).state) ≡ true) e (c.in_ok-place.ensures.allowed no_entry)) in
    let taken : IsTaken turn head.transactions place lsn ts now = subst (λ n. IsTaken turn n place lsn ts now) c.in_ok-count.ensures.ok c.note_turn-head.ensures.taken in
    let plain : PlainRecord = record { tx = tx; prev = (get_or ts place no_entry).last } in
    let kind : HasKind (turn_record turn plain) c.kind.result plain = subst (λ k. HasKind (turn_record turn plain) k plain) (sym c.kind.ensures) (has_kind turn plain) in
    let left = c.note_turn-head.ensures.left ∙ ap (left_after turn) c.in_ok-count.ensures.ok in
    record {
      journal = λ base run pages h.
          let fits = subst (λ n. Fits (turn_record turn (record { tx = tx; prev = n }))) prev (c.put_plain.ensures.fits (turn_record turn plain) kind) in
          let none : turn ≡ End → NoneBy tx (take (bound_of (get_or es place no_entry) head.pending) ps) = λ z. subst (λ (x : TransactionEntry). NoneBy tx (take (bound_of x head.pending) ps)) entry (c.in_ok-check_pending.ensures.none z) in
          subst (λ n. IsJournal base (appended run (turn_record turn (plain_by run tx))) (record { last = lsn; written = head.written; transactions = n; pending = head.pending; next = head.next }) now pages ps) (sym left)
          (turned base run head ts pages ps h tx place within found lsn c.in_ok-lsn.ensures.ok c.in_ok-lsn.ensures.few now c.note_turn-head.auto.transactions turn allowed c.in_ok-check_lsns.ensures.ok none taken fits);
      written = λ base run pages h.
          let last : (get_or ts place no_entry).last ≡ last_of tx (log_of run) = prev ∙ (h.holds.transactions.each tx _ (kept_is base run head ts pages ps h tx place within found)).last in
          let one = subst (λ n. IsWritten (turn_record turn (record { tx = tx; prev = n })) lsn c.args.out.now c.put_plain.new.out 25) last (c.put_plain.ensures.written (turn_record turn plain) kind) in
          subst (λ n. IsWritten (turn_record turn (record { tx = tx; prev = last_of tx (log_of run) })) n c.args.out.now c.put_plain.new.out 25) c.in_ok-lsn.ensures.ok one;
      others = λ base run pages xs h.
          subst (λ n. LeavesOthers tx es (take head.pending xs) (take n now) (take head.pending xs)) (sym left)
          (others_stay base run head ts pages xs h tx place within found lsn now turn taken);
      owes = λ owed base run pages h.
          subst (λ n. OwesLess es (take head.pending ps) (take n now) (take head.pending ps)) (sym left)
          (turned_owes base run head ts pages ps h tx place within found lsn c.in_ok-lsn.ensures.ok c.in_ok-lsn.ensures.few now c.note_turn-head.auto.transactions turn owed allowed taken);
      count = left;
      lsn = c.in_ok-lsn.ensures.ok;
      fits = c.in_ok-room_for.ensures.ok;
      short = refl;
    }
