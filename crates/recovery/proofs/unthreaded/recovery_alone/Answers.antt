use Rattle.std.proofs.Common.{◌≡◌, ◌-◌, ℕ, List, ◌++◌, length, take, sym, ap, ◌∙◌, subst, arith}
use Rattle.std.proofs.lemmas.Result.{err_from_is_err_and}
use Rattle.page.specs.File.{SpellsStore}
use Rattle.restart.specs.declared.options.Options.{Options}
use Rattle.restart.specs.Options.{AreInRange}
use Rattle.recovery.specs.Text.{ReportContent}
use Rattle.recovery.specs.Recovery.{Decoded, Recovers, Recovered, log_of}
use Rattle.recovery.proofs.Alike.{same_log}
use Rattle.recovery.proofs.Bytes.{input_cause, is_lawful, read_alone, read_same}
use Rattle.recovery.proofs.unthreaded.recovery_alone.Goals as goal

-- valid options
alone : Options
alone = record { workers = 1; parts = 1 }

in_range : AreInRange alone
unfolding alone
in_range = record { workers = (omega arith, omega arith); parts = (omega arith, omega arith) }

pub returns-in_err-records-clause-lawful : goal.returns-in_err-records-clause-lawful
returns-in_err-records-clause-lawful c = λ base bytes.
    let exit = err_from_is_err_and c.from_residual.result c.from_residual.ensures.1 in
    rw (exit.1, exit.2)
    (read_alone (λ x. x) c.in_err-records.field-0.0 (bytes.decoded.read, bytes.decoded.torn) (c.in_err-records.ensures.only bytes.decoded.read bytes.decoded.torn bytes.decoded.reads))

pub returns-in_err-outcome-clause-lawful : goal.returns-in_err-outcome-clause-lawful
returns-in_err-outcome-clause-lawful c = λ base bytes.
    let exit = err_from_is_err_and c.from_residual-in_err-outcome.result c.from_residual-in_err-outcome.ensures.1 in
    let read = c.in_ok-records.records in
    let before = c.in_ok-before.before in
    let one = read_same (read, c.in_ok-records.torn) (bytes.decoded.read, bytes.decoded.torn) (c.in_ok-records.ensures.only bytes.decoded.read bytes.decoded.torn bytes.decoded.reads) in
    let same : before ≡ bytes.decoded.before = c.in_ok-before.ensures.only bytes.decoded.before (subst (λ (text : List ℕ). SpellsStore text bytes.decoded.before) (sym c.deref.ensures.value) bytes.decoded.spells) in
    rw (exit.1, exit.2) (c.in_err-outcome.ensures.lawful base (is_lawful bytes read before (ap (λ x. x.0) one) same))

pub returns-in_err-outcome-clause-cause : goal.returns-in_err-outcome-clause-cause
unfolding alone
returns-in_err-outcome-clause-cause c =
    let exit = err_from_is_err_and c.from_residual-in_err-outcome.result c.from_residual-in_err-outcome.ensures.1 in
    let before = c.in_ok-before.before in
    let decoded : Decoded c.args.log.now c.args.store.items = record { read = c.in_ok-records.records; torn = c.in_ok-records.torn; before = before; reads = c.in_ok-records.ensures.found; spells = subst (λ (text : List ℕ). SpellsStore text c.in_ok-before.before) c.deref.ensures.value c.in_ok-before.ensures.found } in
    rw (exit.1, exit.2)
    (input_cause c.args.log.now c.args.store.items alone c.in_err-outcome.field-0.0 in_range decoded c.in_err-outcome.ensures.fault)

pub returns-clause-answer : goal.returns-clause-answer
returns-clause-answer c =
    let log = c.args.log.now in
    let before = c.in_ok-before.before in
    let made = c.in_ok-frames.field-0 in
    let kept : take c.saturating_sub-kept.result log ≡ take (length log - made.report.torn) log = ap (λ n. take n log) (c.saturating_sub-kept.ensures ∙ ap (λ n. length log - n) (ap (λ (report : ReportContent). report.torn) c.report.view_is)) in
    subst (λ (kept : List ℕ). Recovers log c.args.store.items (kept ++ made.frames.items) c.encode_store_into.new.bytes.items made.report) (sym kept)
    (subst (λ new. Recovers log c.args.store.items (log_of log made) new made.report) (sym c.in_ok-encode_store_into.ensures.ok)
    (c.in_ok-frames.ensures.answer c.in_ok-records.records log c.args.store.items before (same_log c.in_ok-records.records c.in_ok-outcome.outcome.appended.items) c.in_ok-records.ensures.found (subst (λ (text : List ℕ). SpellsStore text before) c.deref.ensures.value c.in_ok-before.ensures.found) c.in_ok-outcome.ensures.restarts))

pub returns-clause-lawful : goal.returns-clause-lawful
returns-clause-lawful c = λ base bytes.
    let log = c.args.log.now in
    let read = c.in_ok-records.records in
    let before = c.in_ok-before.before in
    let made = c.in_ok-frames.field-0 in
    let one = read_same (read, c.in_ok-records.torn) (bytes.decoded.read, bytes.decoded.torn) (c.in_ok-records.ensures.only bytes.decoded.read bytes.decoded.torn bytes.decoded.reads) in
    let same : before ≡ bytes.decoded.before = c.in_ok-before.ensures.only bytes.decoded.before (subst (λ (text : List ℕ). SpellsStore text bytes.decoded.before) (sym c.deref.ensures.value) bytes.decoded.spells) in
    let restored = c.in_ok-outcome.ensures.lawful base (is_lawful bytes read before (ap (λ x. x.0) one) same) in
    let kept : take c.saturating_sub-kept.result log ≡ take (length log - made.report.torn) log = ap (λ n. take n log) (c.saturating_sub-kept.ensures ∙ ap (λ n. length log - n) (ap (λ (report : ReportContent). report.torn) c.report.view_is)) in
    subst (λ (kept : List ℕ). Recovered base bytes.decoded.read bytes.decoded.before (kept ++ made.frames.items) c.encode_store_into.new.bytes.items made.report) (sym kept)
    (subst (λ rs. Recovered base rs bytes.decoded.before (log_of log made) c.encode_store_into.new.bytes.items made.report) (ap (λ x. x.0) one)
    (subst (λ b. Recovered base read b (log_of log made) c.encode_store_into.new.bytes.items made.report) same
    (subst (λ new. Recovered base read before (log_of log made) new made.report) (sym c.in_ok-encode_store_into.ensures.ok)
    (c.in_ok-frames.ensures.lawful read base log before (same_log c.in_ok-records.records c.in_ok-outcome.outcome.appended.items) c.in_ok-records.ensures.found restored))))

pub returns-clause-short : goal.returns-clause-short
returns-clause-short c = λ base bytes.
    let read = c.in_ok-records.records in
    let before = c.in_ok-before.before in
    let one = read_same (read, c.in_ok-records.torn) (bytes.decoded.read, bytes.decoded.torn) (c.in_ok-records.ensures.only bytes.decoded.read bytes.decoded.torn bytes.decoded.reads) in
    let same : before ≡ bytes.decoded.before = c.in_ok-before.ensures.only bytes.decoded.before (subst (λ (text : List ℕ). SpellsStore text bytes.decoded.before) (sym c.deref.ensures.value) bytes.decoded.spells) in
    let restored = c.in_ok-outcome.ensures.lawful base (is_lawful bytes read before (ap (λ x. x.0) one) same) in
    c.in_ok-frames.ensures.short read base c.args.log.now before (same_log c.in_ok-records.records c.in_ok-outcome.outcome.appended.items) c.in_ok-records.ensures.found restored
