use Rattle.std.proofs.Common.{◌≡◌, ◌+◌, length, refl, sym, ap, subst, arith}
use Rattle.log_laws.specs.Records.{UpdateRecord, CompensationRecord, PlainRecord, LogRecord, Update, Compensation, Abort, Prepare, Commit, End, CheckpointBegin, CheckpointEnd, ◌▸◌, last_lsn}
use Rattle.log_laws.specs.Laws.{Obeys}
use Rattle.wal.specs.Spelling.{Fits}
use Rattle.wal.specs.Content.{shown}
use Rattle.journal.specs.Transactions.{next_after}
use Rattle.journal.specs.Scan.{IsScan, IsKeptOf, NoteRefused}
use Rattle.std.specs.Prelude.{option_map}
use Rattle.std.proofs.lemmas.Result.{err_from_is_err_and}
use Rattle.journal.proofs.Scanned.{scan_commits, scan_ends, scan_same, on_ok_at, on_err_at}
use Rattle.journal.proofs.reopening.note_record.Goals as goal

pub returns-in-Update-clause-ok : goal.returns-in-Update-clause-ok
returns-in-Update-clause-ok c =
    let u : UpdateRecord = record { tx = c.in-Update.tx; prev = c.in-Update.prev; page = c.in-Update.page; slot = c.in-Update.slot; before = option_map (λ s. s.now) c.in-Update.before; after = option_map (λ s. s.now) c.in-Update.after } in
    let is : shown c.args.view.now ≡ Update u = ap shown c.in-Update.is in
    on_ok_at c.note_logged_update.result
    (λ r n base log next at obeys h.
    let keeps : IsKeptOf (record { lsn = c.args.lsn; prev = u.prev; tx = u.tx; page = u.page; slot = u.slot; before = c.lent.result }) (last_lsn log + 1) u =
    record { lsn_is = sym at; prev = refl; tx = refl; page = refl; slot = refl; before = c.lent.ensures.image } in
    subst (λ x. IsScan (log ▸ x) (next_after next x) c.note_logged_update.new.transactions r.0 c.note_logged_update.new.pending r.1) (sym is)
    (n base log next u keeps (subst (Obeys base log) is obeys) (subst Fits is c.requires.fits) c.requires.held h))
    c.note_logged_update.ensures.ok

pub returns-in_ok-count-in-Compensation-clause-ok : goal.returns-in_ok-count-in-Compensation-clause-ok
returns-in_ok-count-in-Compensation-clause-ok c = λ base log next at obeys h.
    let clr : CompensationRecord = record { tx = c.in-Compensation.tx; prev = c.in-Compensation.prev; page = c.in-Compensation.page; slot = c.in-Compensation.slot; undo_next = c.in-Compensation.undo_next; image = option_map (λ s. s.now) c.in-Compensation.image } in
    let is : shown c.args.view.now ≡ Compensation clr = ap shown c.in-Compensation.is in
    subst (λ x. IsScan (log ▸ x) (next_after next x) c.note_logged_undo.new.transactions c.in_ok-count-in-Compensation.count c.note_logged_undo.new.pending c.args.held) (sym is)
    (c.in_ok-count-in-Compensation.ensures.ok base log next clr at refl refl (subst (Obeys base log) is obeys) (subst Fits is c.requires.fits) h)

pub returns-in_ok-count-in-Abort-clause-ok : goal.returns-in_ok-count-in-Abort-clause-ok
returns-in_ok-count-in-Abort-clause-ok c = λ base log next at obeys h.
    let p : PlainRecord = record { tx = c.in-Abort.tx; prev = c.in-Abort.prev } in
    let is : shown c.args.view.now ≡ Abort p = ap shown c.in-Abort.is in
    subst (λ x. IsScan (log ▸ x) (next_after next x) c.note_logged_state.new.transactions c.in_ok-count-in-Abort.count c.args.pending.now c.args.held) (sym is)
    (c.in_ok-count-in-Abort.ensures.aborts base log next p c.args.pending.now c.args.held at refl refl (subst (Obeys base log) is obeys) (subst Fits is c.requires.fits) h)

pub returns-in_ok-count-in-Prepare-clause-ok : goal.returns-in_ok-count-in-Prepare-clause-ok
returns-in_ok-count-in-Prepare-clause-ok c = λ base log next at obeys h.
    let p : PlainRecord = record { tx = c.in-Prepare.tx; prev = c.in-Prepare.prev } in
    let is : shown c.args.view.now ≡ Prepare p = ap shown c.in-Prepare.is in
    subst (λ x. IsScan (log ▸ x) (next_after next x) c.note_logged_state-in-Prepare.new.transactions c.in_ok-count-in-Prepare.count c.args.pending.now c.args.held) (sym is)
    (c.in_ok-count-in-Prepare.ensures.prepares base log next p c.args.pending.now c.args.held at refl refl (subst (Obeys base log) is obeys) (subst Fits is c.requires.fits) h)

pub returns-in-Commit-clause-ok : goal.returns-in-Commit-clause-ok
returns-in-Commit-clause-ok c = λ base log next at obeys h.
    let p : PlainRecord = record { tx = c.in-Commit.tx; prev = c.in-Commit.prev } in
    let is : shown c.args.view.now ≡ Commit p = ap shown c.in-Commit.is in
    subst (λ x. IsScan (log ▸ x) (next_after next x) c.leave.new.transactions c.leave.result c.args.pending.now c.args.held) (sym is)
    (scan_commits base log c.args.lsn next c.args.transactions.now c.args.count c.args.pending.now c.args.held at h p c.leave.new.transactions c.leave.result c.leave.ensures.few (c.leave.ensures.left h.used.table))

pub returns-in-End-clause-ok : goal.returns-in-End-clause-ok
returns-in-End-clause-ok c = λ base log next at obeys h.
    let p : PlainRecord = record { tx = c.in-End.tx; prev = c.in-End.prev } in
    let is : shown c.args.view.now ≡ End p = ap shown c.in-End.is in
    subst (λ x. IsScan (log ▸ x) (next_after next x) c.leave-in-End.new.transactions c.leave-in-End.result c.args.pending.now c.args.held) (sym is)
    (scan_ends base log c.args.lsn next c.args.transactions.now c.args.count c.args.pending.now c.args.held at h p c.leave-in-End.new.transactions c.leave-in-End.result c.leave-in-End.ensures.few (c.leave-in-End.ensures.left h.used.table))

pub returns-in-CheckpointBegin-clause-ok : goal.returns-in-CheckpointBegin-clause-ok
returns-in-CheckpointBegin-clause-ok c = λ base log next at obeys h.
    let is : shown c.args.view.now ≡ CheckpointBegin = ap shown c.in-CheckpointBegin.is in
    subst (λ x. IsScan (log ▸ x) (next_after next x) c.args.transactions.now c.args.count c.args.pending.now c.args.held) (sym is)
    (scan_same base log c.args.lsn next c.args.transactions.now c.args.count c.args.pending.now c.args.held at h CheckpointBegin (λ t. refl) (omega arith))

pub returns-in-CheckpointEnd-clause-ok : goal.returns-in-CheckpointEnd-clause-ok
returns-in-CheckpointEnd-clause-ok c = λ base log next at obeys h.
    let r : LogRecord = CheckpointEnd c.in-CheckpointEnd.begin c.in-CheckpointEnd.transactions c.in-CheckpointEnd.dirty in
    let is : shown c.args.view.now ≡ r = ap shown c.in-CheckpointEnd.is in
    subst (λ x. IsScan (log ▸ x) (next_after next x) c.args.transactions.now c.args.count c.args.pending.now c.args.held) (sym is)
    (scan_same base log c.args.lsn next c.args.transactions.now c.args.count c.args.pending.now c.args.held at h r (λ t. refl) (omega arith))

-- WHY IT IS REFUSED
pub returns-in-Update-clause-err : goal.returns-in-Update-clause-err
returns-in-Update-clause-err c =
    let u : UpdateRecord = record { tx = c.in-Update.tx; prev = c.in-Update.prev; page = c.in-Update.page; slot = c.in-Update.slot; before = option_map (λ s. s.now) c.in-Update.before; after = option_map (λ s. s.now) c.in-Update.after } in
    let is : shown c.args.view.now ≡ Update u = ap shown c.in-Update.is in
    on_err_at c.note_logged_update.result
    (λ e n base log next at obeys h.
    let keeps : IsKeptOf (record { lsn = c.args.lsn; prev = u.prev; tx = u.tx; page = u.page; slot = u.slot; before = c.lent.result }) (last_lsn log + 1) u =
    record { lsn_is = sym at; prev = refl; tx = refl; page = refl; slot = refl; before = c.lent.ensures.image } in
    subst (λ x. NoteRefused (log ▸ x) (length c.args.transactions.now) (length c.args.pending.now) e) (sym is)
    (n base log next u keeps (subst (Obeys base log) is obeys) (subst Fits is c.requires.fits) c.requires.held h))
    c.note_logged_update.ensures.err

pub returns-in_err-count-in-Compensation-clause-err : goal.returns-in_err-count-in-Compensation-clause-err
returns-in_err-count-in-Compensation-clause-err c =
    let exit = err_from_is_err_and c.from_residual.result c.from_residual.ensures.1 in
    let clr : CompensationRecord = record { tx = c.in-Compensation.tx; prev = c.in-Compensation.prev; page = c.in-Compensation.page; slot = c.in-Compensation.slot; undo_next = c.in-Compensation.undo_next; image = option_map (λ s. s.now) c.in-Compensation.image } in
    let is : shown c.args.view.now ≡ Compensation clr = ap shown c.in-Compensation.is in
    rw (exit.1, exit.2) (λ base log next at obeys h.
    subst (λ x. NoteRefused (log ▸ x) (length c.args.transactions.now) (length c.args.pending.now) c.in_err-count-in-Compensation.field-0.0) (sym is)
    (c.in_err-count-in-Compensation.ensures.err base log next clr at refl (subst (Obeys base log) is obeys) (subst Fits is c.requires.fits) h))

pub returns-in_err-count-in-Abort-clause-err : goal.returns-in_err-count-in-Abort-clause-err
returns-in_err-count-in-Abort-clause-err c =
    let exit = err_from_is_err_and c.from_residual-in_err-count-in-Abort.result c.from_residual-in_err-count-in-Abort.ensures.1 in
    let p : PlainRecord = record { tx = c.in-Abort.tx; prev = c.in-Abort.prev } in
    let is : shown c.args.view.now ≡ Abort p = ap shown c.in-Abort.is in
    rw (exit.1, exit.2) (λ base log next at obeys h.
    let o : Obeys base log (Abort p) = subst (Obeys base log) is obeys in
    subst (λ x. NoteRefused (log ▸ x) (length c.args.transactions.now) (length c.args.pending.now) c.in_err-count-in-Abort.field-0.0) (sym is)
    (c.in_err-count-in-Abort.ensures.err log next (Abort p) c.args.pending.now c.args.held (length c.args.pending.now) refl o.finish.0 h))

pub returns-in_err-count-in-Prepare-clause-err : goal.returns-in_err-count-in-Prepare-clause-err
returns-in_err-count-in-Prepare-clause-err c =
    let exit = err_from_is_err_and c.from_residual-in_err-count-in-Prepare.result c.from_residual-in_err-count-in-Prepare.ensures.1 in
    let p : PlainRecord = record { tx = c.in-Prepare.tx; prev = c.in-Prepare.prev } in
    let is : shown c.args.view.now ≡ Prepare p = ap shown c.in-Prepare.is in
    rw (exit.1, exit.2) (λ base log next at obeys h.
    let o : Obeys base log (Prepare p) = subst (Obeys base log) is obeys in
    subst (λ x. NoteRefused (log ▸ x) (length c.args.transactions.now) (length c.args.pending.now) c.in_err-count-in-Prepare.field-0.0) (sym is)
    (c.in_err-count-in-Prepare.ensures.err log next (Prepare p) c.args.pending.now c.args.held (length c.args.pending.now) refl o.finish.0 h))
