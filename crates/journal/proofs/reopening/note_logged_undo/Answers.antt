use Rattle.std.proofs.Common.{◌≡◌, ◌<◌, ◌≤◌, ℕ, min, List, length, get_or, set, take, Some, [], ◌∷◌, refl, sym, ap, subst, ◌∙◌, arith}
use Rattle.std.proofs.lemmas.List.{get_or-take}
use Rattle.journal.specs.declared.entries.TransactionEntry.{TransactionEntry}
use Rattle.std.proofs.lemmas.Result.{err_from_is_err_and}
use Rattle.log_laws.specs.Records.{Compensation}
use Rattle.journal.proofs.Counting.{too_many}
use Rattle.journal.specs.Arrays.{undone}
use Rattle.std.proofs.Common.{false}
use Rattle.log_laws.specs.Meaning.{finished, pending}
use Rattle.log_laws.specs.Laws.{Compensates}
use Rattle.journal.proofs.Scanned.{no_entry, no_update, scan_undoes, nothing_left}
use Rattle.journal.proofs.reopening.note_logged_undo.Goals as goal

pub returns-clause-ok : goal.returns-clause-ok
returns-clause-ok c = λ base log next clr at own next_is obeys fits h.
    let k : ℕ = c.in_ok-place.count in
    let place : ℕ = c.in_ok-place.place in
    let before : List TransactionEntry = c.enter.new.transactions in
    let some : 0 < c.args.tx = (let s = fits.some_tx in omega (arith, s, own)) in
    let open_still = subst (λ t. finished t log ≡ false) own obeys.finish.0 in
    let room : k ≤ length before = omega (arith, c.in_ok-place.ensures.within, c.enter.auto.transactions) in
    let entered = c.in_ok-place.ensures.entered h.used.table in
    let few = c.in_ok-place.ensures.few h.few in
    let from_is : c.min-below.result ≡ min (get_or (take k before) place no_entry).below c.args.held = c.min-below.ensures ∙ ap (λ (e : TransactionEntry). min e.below c.args.held) (sym (get_or-take k before place no_entry c.in_ok-place.ensures.place)) in
    let now_is = c.note_undo.ensures.transaction no_entry ∙ ap (λ s. set before place (undone (get_or before place no_entry) c.args.lsn s c.in-Some.top)) (sym next_is) in
    scan_undoes base log c.args.lsn next c.args.transactions.now c.args.count c.args.pending.now c.args.held at h c.args.tx some open_still before k few place c.in_ok-place.ensures.place room entered c.note_undo.new.transactions
    c.min-below.result from_is c.requires.held c.in-Some.top c.in-Some.ensures.within (c.in-Some.ensures.found no_update) c.in-Some.ensures.above clr c.note_undo.new.pending own obeys now_is (c.note_undo.ensures.pending no_update)

pub returns-in_err-place-clause-err : goal.returns-in_err-place-clause-err
returns-in_err-place-clause-err c =
    let exit = err_from_is_err_and c.from_residual.result c.from_residual.ensures.1 in
    rw (exit.1, exit.2, c.in_err-place.ensures.err) (λ base log next clr at own obeys fits h.
    too_many log next c.args.transactions.now c.args.count c.args.pending.now c.args.held c.requires.count h (Compensation clr) c.args.tx (ap Some own) (subst (λ t. finished t log ≡ false) own obeys.finish.0)
    (c.in_err-place.ensures.stranger h.used.table) c.in_err-place.ensures.full)

pub returns-in_default-clause-err : goal.returns-in_default-clause-err
returns-in_default-clause-err c = λ base log next clr at own obeys fits h.
    let k : ℕ = c.in_ok-place.count in
    let place : ℕ = c.in_ok-place.place in
    let before : List TransactionEntry = c.enter.new.transactions in
    let some : 0 < c.args.tx = (let s = fits.some_tx in omega (arith, s, own)) in
    let open_still = subst (λ t. finished t log ≡ false) own obeys.finish.0 in
    let room : k ≤ length before = omega (arith, c.in_ok-place.ensures.within, c.enter.auto.transactions) in
    let from_is : c.min-below.result ≡ min (get_or (take k before) place no_entry).below c.args.held = c.min-below.ensures ∙ ap (λ (e : TransactionEntry). min e.below c.args.held) (sym (get_or-take k before place no_entry c.in_ok-place.ensures.place)) in
    let empty : pending c.args.tx log ≡ [] =
    nothing_left base log c.args.lsn next c.args.transactions.now c.args.count c.args.pending.now c.args.held at h c.args.tx some open_still before k (c.in_ok-place.ensures.few h.few) place c.in_ok-place.ensures.place room
    (c.in_ok-place.ensures.entered h.used.table) c.min-below.result from_is c.requires.held (c.in_default.ensures.none refl) in
    let undoes : Compensates log clr = obeys.compensation in
    let full : pending c.args.tx log ≡ undoes.lsn ∷ undoes.below = ap (λ t. pending t log) (sym own) ∙ undoes.newest in
    let no : [] ≡ undoes.lsn ∷ undoes.below = sym empty ∙ full in
    cc
