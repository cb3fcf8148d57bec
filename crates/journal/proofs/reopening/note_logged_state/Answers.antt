use Rattle.std.proofs.Common.{◌≡◌, ◌<◌, ◌≤◌, ◌+◌, ℕ, max, List, length, get_or, set, take, sym, ap, subst, ◌∙◌, arith, eq-eqb}
use Rattle.std.proofs.lemmas.Result.{err_from_is_err_and}
use Rattle.journal.proofs.Counting.{too_many}
use Rattle.log_laws.specs.Records.{Abort, Prepare, ◌▸◌}
use Rattle.journal.specs.declared.entries.TransactionEntry.{TransactionEntry}
use Rattle.journal.specs.Transactions.{AreTransactions, next_after}
use Rattle.journal.specs.Arrays.{kept_of, in_state}
use Rattle.journal.specs.Scan.{IsScan}
use Rattle.std.proofs.Common.{false}
use Rattle.log_laws.specs.Meaning.{finished}
use Rattle.log_laws.specs.declared.state.State.TheVariants.{Aborting, Prepared}
use Rattle.journal.specs.Transactions.{Noted, HasChangedState}
use Rattle.journal.proofs.Continued.{logged_abort, logged_prepare}
use Rattle.journal.proofs.Scanned.{no_entry, turned_noted, scan_turns}
use Rattle.journal.proofs.reopening.note_logged_state.Goals as goal

pub returns-clause-aborts : goal.returns-clause-aborts
returns-clause-aborts c = λ base log next p pending held at own kind obeys fits h.
    let k : ℕ = c.in_ok-place.count in
    let place : ℕ = c.in_ok-place.place in
    let before : List TransactionEntry = c.enter.new.transactions in
    let some : 0 < c.args.tx = (let s = fits.some_tx in omega (arith, s, own)) in
    let open_still = subst (λ t. finished t log ≡ false) own obeys.finish.0 in
    let room : k ≤ length before = omega (arith, c.in_ok-place.ensures.within, c.enter.auto.transactions) in
    let entered = c.in_ok-place.ensures.entered h.used.table in
    let few = c.in_ok-place.ensures.few h.few in
    let same : c.args.tx ≡ p.tx = sym own in
    let now_is = c.note_state.ensures no_entry ∙ ap (λ s. set before place (in_state (get_or before place no_entry) s c.args.lsn)) kind in
    let fs : List TransactionEntry = take k before in
    let after = kept_of (set fs place (in_state (get_or fs place no_entry) 1 c.args.lsn)) (take held pending) in
    let noted_is = turned_noted base log c.args.lsn next c.args.transactions.now c.args.count pending held at h c.args.tx some open_still before k few place c.in_ok-place.ensures.place room entered c.note_state.new.transactions 1 in
    let holds : AreTransactions (log ▸ Abort p) (next_after next (Abort p)) after =
    logged_abort base log c.args.lsn next (kept_of (take c.args.count c.args.transactions.now) (take held pending)) after at h.standing p obeys
    (subst (λ t. Noted (kept_of (take c.args.count c.args.transactions.now) (take held pending)) after t (HasChangedState Aborting c.args.lsn)) same noted_is) in
    subst (λ t. IsScan (log ▸ Abort p) (max next (t + 1)) c.note_state.new.transactions k pending held) same
    (scan_turns base log c.args.lsn next c.args.transactions.now c.args.count pending held at h c.args.tx some open_still before k few place c.in_ok-place.ensures.place room entered c.note_state.new.transactions (Abort p) 1 (eq-eqb p.tx c.args.tx own) now_is
    (subst (λ t. AreTransactions (log ▸ Abort p) (max next (t + 1)) after) own holds))

pub returns-clause-prepares : goal.returns-clause-prepares
returns-clause-prepares c = λ base log next p pending held at own kind obeys fits h.
    let k : ℕ = c.in_ok-place.count in
    let place : ℕ = c.in_ok-place.place in
    let before : List TransactionEntry = c.enter.new.transactions in
    let some : 0 < c.args.tx = (let s = fits.some_tx in omega (arith, s, own)) in
    let open_still = subst (λ t. finished t log ≡ false) own obeys.finish.0 in
    let room : k ≤ length before = omega (arith, c.in_ok-place.ensures.within, c.enter.auto.transactions) in
    let entered = c.in_ok-place.ensures.entered h.used.table in
    let few = c.in_ok-place.ensures.few h.few in
    let same : c.args.tx ≡ p.tx = sym own in
    let now_is = c.note_state.ensures no_entry ∙ ap (λ s. set before place (in_state (get_or before place no_entry) s c.args.lsn)) kind in
    let fs : List TransactionEntry = take k before in
    let after = kept_of (set fs place (in_state (get_or fs place no_entry) 2 c.args.lsn)) (take held pending) in
    let noted_is = turned_noted base log c.args.lsn next c.args.transactions.now c.args.count pending held at h c.args.tx some open_still before k few place c.in_ok-place.ensures.place room entered c.note_state.new.transactions 2 in
    let holds : AreTransactions (log ▸ Prepare p) (next_after next (Prepare p)) after =
    logged_prepare base log c.args.lsn next (kept_of (take c.args.count c.args.transactions.now) (take held pending)) after at h.standing p obeys
    (subst (λ t. Noted (kept_of (take c.args.count c.args.transactions.now) (take held pending)) after t (HasChangedState Prepared c.args.lsn)) same noted_is) in
    subst (λ t. IsScan (log ▸ Prepare p) (max next (t + 1)) c.note_state.new.transactions k pending held) same
    (scan_turns base log c.args.lsn next c.args.transactions.now c.args.count pending held at h c.args.tx some open_still before k few place c.in_ok-place.ensures.place room entered c.note_state.new.transactions (Prepare p) 2 (eq-eqb p.tx c.args.tx own) now_is
    (subst (λ t. AreTransactions (log ▸ Prepare p) (max next (t + 1)) after) own holds))

pub returns-in_err-place-clause-err : goal.returns-in_err-place-clause-err
returns-in_err-place-clause-err c =
    let exit = err_from_is_err_and c.from_residual.result c.from_residual.ensures.1 in
    rw (exit.1, exit.2, c.in_err-place.ensures.err) (λ log next r pending held room owned going h.
    too_many log next c.args.transactions.now c.args.count pending held c.requires h r c.args.tx owned going (c.in_err-place.ensures.stranger h.used.table) c.in_err-place.ensures.full)
