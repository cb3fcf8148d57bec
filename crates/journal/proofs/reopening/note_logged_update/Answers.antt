use Rattle.std.proofs.Common.{◌≡◌, ◌<◌, ◌≤◌, ◌+◌, ℕ, List, length, take, Some, refl, sym, ap, subst, arith}
use Rattle.std.proofs.lemmas.Result.{err_from_is_err_and}
use Rattle.log_laws.specs.Records.{Update, last_lsn}
use Rattle.journal.proofs.Counting.{too_many}
use Rattle.journal.specs.declared.entries.TransactionEntry.{TransactionEntry}
use Rattle.journal.specs.declared.entries.PendingEntry.{PendingEntry}
use Rattle.journal.specs.Arrays.{IsTable}
use Rattle.std.proofs.Common.{false}
use Rattle.log_laws.specs.Meaning.{finished}
use Rattle.journal.proofs.Scanned.{no_entry, fs_table, scan_updates, room_refused}
use Rattle.journal.proofs.reopening.note_logged_update.Goals as goal

pub returns-clause-ok : goal.returns-clause-ok
returns-clause-ok c = λ base log next u keeps obeys fits held h.
    let k : ℕ = c.in_ok-place.count in
    let place : ℕ = c.in_ok-place.place in
    let before : List TransactionEntry = c.enter.new.transactions in
    let p : PendingEntry = c.args.update.now in
    let some : 0 < p.tx = (let s = fits.some_tx in omega (arith, s, keeps.tx)) in
    let open_still = subst (λ t. finished t log ≡ false) (sym keeps.tx) obeys.finish.0 in
    let room : k ≤ length before = omega (arith, c.in_ok-place.ensures.within, c.enter.auto.transactions) in
    let entered = c.in_ok-place.ensures.entered h.used.table in
    let few = c.in_ok-place.ensures.few h.few in
    let table : IsTable (take k before) = fs_table base log (last_lsn log + 1) next c.args.transactions.now c.args.count c.args.pending.now c.args.held refl h p.tx some open_still before k few place c.in_ok-place.ensures.place room entered in
    scan_updates base log (last_lsn log + 1) next c.args.transactions.now c.args.count c.args.pending.now c.args.held refl h p.tx some open_still before k few place c.in_ok-place.ensures.place room entered c.note_update.new.transactions
    c.in_ok-top.top c.room_for_one.new.pending c.in_ok-top.ensures.within c.room_for_one.auto.pending (c.in_ok-top.ensures.kept table) u p c.note_update.new.pending keeps (sym keeps.tx) obeys (c.note_update.ensures.transaction no_entry) c.note_update.ensures.pending

pub returns-in_err-place-clause-err : goal.returns-in_err-place-clause-err
returns-in_err-place-clause-err c =
    let exit = err_from_is_err_and c.from_residual.result c.from_residual.ensures.1 in
    rw (exit.1, exit.2, c.in_err-place.ensures.err) (λ base log next u keeps obeys fits held h.
    too_many log next c.args.transactions.now c.args.count c.args.pending.now c.args.held c.requires h (Update u) c.args.update.now.tx (ap Some (sym keeps.tx)) (subst (λ t. finished t log ≡ false) (sym keeps.tx) obeys.finish.0)
    (c.in_err-place.ensures.stranger h.used.table) c.in_err-place.ensures.full)

pub returns-in_err-top-clause-err : goal.returns-in_err-top-clause-err
returns-in_err-top-clause-err c =
    let exit = err_from_is_err_and c.from_residual-in_err-top.result c.from_residual-in_err-top.ensures.1 in
    let k : ℕ = c.in_ok-place.count in
    let place : ℕ = c.in_ok-place.place in
    let before : List TransactionEntry = c.enter.new.transactions in
    rw (exit.1, exit.2) (λ base log next u keeps obeys fits held h.
    let some : 0 < c.args.update.now.tx = (let s = fits.some_tx in omega (arith, s, keeps.tx)) in
    let open_still = subst (λ t. finished t log ≡ false) (sym keeps.tx) obeys.finish.0 in
    let room : k ≤ length before = omega (arith, c.in_ok-place.ensures.within, c.enter.auto.transactions) in
    room_refused base log (last_lsn log + 1) next c.args.transactions.now c.args.count c.args.pending.now c.args.held refl h c.args.update.now.tx some open_still before k (c.in_ok-place.ensures.few h.few) place c.in_ok-place.ensures.place room
    (c.in_ok-place.ensures.entered h.used.table) u (length c.args.transactions.now) (sym keeps.tx) held c.in_err-top.field-0.0 c.in_err-top.ensures.causes)
