use Rattle.std.proofs.Common.{◌≡◌, length, ap, ◌∙◌, subst}
use Rattle.std.proofs.lemmas.Result.{err_from_is_err_and, IfOk-weaker, IfOk-at_ok, IfErr-at_err, MatchResult-at_ok, MatchResult-at_err, MatchResult-from_both}
use Rattle.page.specs.Store.{StoreContent}
use Rattle.page.specs.File.{SpellsStore, StoreFault, store_text}
use Rattle.wal.specs.Reads.{Reads}
use Rattle.restart.specs.Restart.{IsPartingOf}
use Rattle.recovery.specs.Recovery.{Decoded, Recovered, log_of}
use Rattle.recovery.proofs.Alike.{same_log}
use Rattle.recovery.proofs.Bytes.{restart_cause, store_cause, is_lawful, none_read, one_read, dealt_by_number}
use Rattle.recovery.proofs.recovery.remake.Goals as goal

pub returns-in_err-records-clause-lawful : goal.returns-in_err-records-clause-lawful
returns-in_err-records-clause-lawful g c = λ base log text reads_as decodes bytes.
    let exit = err_from_is_err_and c.from_residual.result c.from_residual.ensures.1 in
    rw (exit.1, exit.2)
    (none_read log _ c.in_err-records.field-0.0 bytes.decoded.read bytes.decoded.torn c.in_err-records.was reads_as bytes.decoded.reads)

pub returns-in_err-before-clause-lawful : goal.returns-in_err-before-clause-lawful
returns-in_err-before-clause-lawful g c = λ base log text reads_as decodes bytes.
    let exit = err_from_is_err_and c.from_residual-in_err-before.result c.from_residual-in_err-before.ensures.1 in
    rw (exit.1, exit.2)
    (MatchResult-at_err _ _ _ c.in_err-before.was (decodes.only bytes.decoded.before bytes.decoded.spells))

pub returns-in_err-before-clause-cause : goal.returns-in_err-before-clause-cause
returns-in_err-before-clause-cause g c =
    let exit = err_from_is_err_and c.from_residual-in_err-before.result c.from_residual-in_err-before.ensures.1 in
    rw (exit.1, exit.2)
    (λ log text reads_as decodes. store_cause log text c.args.options.now c.in_err-before.field-0.0 c.requires c.in_ok-records.records c.in_ok-records.torn (IfOk-at_ok (λ x. Reads log x.0 x.1) c.in_ok-records.was reads_as.found) (IfErr-at_err (StoreFault text) c.in_err-before.was decodes.fault))

pub returns-in_err-outcome-clause-lawful : goal.returns-in_err-outcome-clause-lawful
returns-in_err-outcome-clause-lawful g c = λ base log text reads_as decodes bytes.
    let exit = err_from_is_err_and c.from_residual-in_err-outcome.result c.from_residual-in_err-outcome.ensures.1 in
    let read = c.in_ok-records.records in
    let before = c.in_ok-before.before in
    let one = one_read log _ (read, c.in_ok-records.torn) bytes.decoded.read bytes.decoded.torn c.in_ok-records.was reads_as bytes.decoded.reads in
    let same : before ≡ bytes.decoded.before = MatchResult-at_ok _ _ _ c.in_ok-before.was (decodes.only bytes.decoded.before bytes.decoded.spells) in
    let dealt : IsPartingOf (length before.pages) c.in_ok-parting.parting =
    dealt_by_number c.len.result c.args.options.now.parts c.in_ok-parting.parting.part_of c.in_ok-parting.ensures.ok.1
    ∙ (c.len.ensures ∙ (c.before-2.inside.pages.ok.0 ∙ ap (λ (s : StoreContent). length s.pages) c.before-2.view_is)) in
    rw (exit.1, exit.2) (c.in_err-outcome.ensures.lawful base (is_lawful bytes read before (ap (λ x. x.0) one) same) (record { fit = c.requires.workers; dealt = dealt }))

pub returns-in_err-outcome-clause-cause : goal.returns-in_err-outcome-clause-cause
returns-in_err-outcome-clause-cause g c =
    let exit = err_from_is_err_and c.from_residual-in_err-outcome.result c.from_residual-in_err-outcome.ensures.1 in
    let before = c.in_ok-before.before in
    let range = c.requires in
    let dealt : IsPartingOf (length before.pages) c.in_ok-parting.parting =
    dealt_by_number c.len.result c.args.options.now.parts c.in_ok-parting.parting.part_of c.in_ok-parting.ensures.ok.1
    ∙ (c.len.ensures ∙ (c.before-2.inside.pages.ok.0 ∙ ap (λ (s : StoreContent). length s.pages) c.before-2.view_is)) in
    rw (exit.1, exit.2)
    (λ log text reads_as decodes.
    let decoded : Decoded log text = record { read = c.in_ok-records.records; torn = c.in_ok-records.torn; before = before; reads = (IfOk-at_ok (λ x. Reads log x.0 x.1) c.in_ok-records.was reads_as.found); spells = IfOk-at_ok (SpellsStore text) c.in_ok-before.was decodes.found } in
    restart_cause log text c.args.options.now c.in_ok-parting.parting c.in_err-outcome.field-0.0 range decoded (record { fit = c.requires.workers; dealt = dealt }) c.in_err-outcome.ensures.fault)

pub returns-clause-answer : goal.returns-clause-answer
returns-clause-answer g c =
    let before = c.in_ok-before.before in
    IfOk-weaker c.remade_of.result _ _
    (λ x made log text reads_as decodes. made c.in_ok-records.records log text before (same_log c.in_ok-records.records c.in_ok-outcome.outcome.appended.items) (IfOk-at_ok (λ y. Reads log y.0 y.1) c.in_ok-records.was reads_as.found) (IfOk-at_ok (SpellsStore text) c.in_ok-before.was decodes.found) c.in_ok-outcome.ensures.restarts)
    c.remade_of.ensures.answer

pub returns-clause-lawful : goal.returns-clause-lawful
returns-clause-lawful g c = λ base log text reads_as decodes bytes.
    let read = c.in_ok-records.records in
    let before = c.in_ok-before.before in
    let one = one_read log _ (read, c.in_ok-records.torn) bytes.decoded.read bytes.decoded.torn c.in_ok-records.was reads_as bytes.decoded.reads in
    let same : before ≡ bytes.decoded.before = MatchResult-at_ok _ _ _ c.in_ok-before.was (decodes.only bytes.decoded.before bytes.decoded.spells) in
    let dealt : IsPartingOf (length before.pages) c.in_ok-parting.parting =
    dealt_by_number c.len.result c.args.options.now.parts c.in_ok-parting.parting.part_of c.in_ok-parting.ensures.ok.1
    ∙ (c.len.ensures ∙ (c.before-2.inside.pages.ok.0 ∙ ap (λ (s : StoreContent). length s.pages) c.before-2.view_is)) in
    let restored = c.in_ok-outcome.ensures.lawful base (is_lawful bytes read before (ap (λ x. x.0) one) same) (record { fit = c.requires.workers; dealt = dealt }) in
    MatchResult-from_both c.remade_of.result _ _
    (IfOk-weaker c.remade_of.result _ _ (λ x made.
    subst (λ rs. Recovered base rs bytes.decoded.before (log_of log x) (store_text x.store) x.report) (ap (λ x. x.0) one)
    (subst (λ b. Recovered base read b (log_of log x) (store_text x.store) x.report) same (made read base log before (same_log read c.in_ok-outcome.outcome.appended.items) (IfOk-at_ok (λ y. Reads log y.0 y.1) c.in_ok-records.was reads_as.found) restored)))
    c.remade_of.ensures.lawful)
    c.remade_of.ensures.err
