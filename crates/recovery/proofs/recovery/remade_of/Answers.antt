use Rattle.std.proofs.Common.{◌≡◌, ◌+◌, ◌++◌, ◌-◌, ◌^◌, ◌<◌, List, arith, length, take, refl, sym, ap, ◌∙◌, subst}
use Rattle.page.specs.Store.{StoreContent}
use Rattle.page.specs.File.{store_text}
use Rattle.log_laws.specs.Records.{history, last_lsn}
use Rattle.undo.specs.declared.appended.Appended.{Appended}
use Rattle.restart.specs.Outcome.{outcome_in}
use Rattle.recovery.specs.Recovery.{Recovers, Recovered, appended_frames}
use Rattle.recovery.proofs.Remaking.{recovers_by, recovered_by, short_by}
use Rattle.recovery.proofs.recovery.remade_of.Goals as goal

pub returns-clause-answer : goal.returns-clause-answer
returns-clause-answer c = λ whole log_bytes text before alike reads_log spells restarts.
    let some = c.args.records.now in
    let told = c.args.outcome.appended.items in
    let same : c.deref.result.now ≡ told = c.deref.ensures.value in
    let frames = c.in_ok-frames.ensures.frames ∙ ap (appended_frames some) same in
    let room : last_lsn (history some) + length told < 2 ^ 64 = omega (arith, c.in_ok-frames.ensures.room, ap (λ (xs : List Appended). length xs) same) in
    let report = c.report_of-report.result.0 in
    subst (λ (s : StoreContent). Recovers log_bytes text (take (length log_bytes - report.torn) log_bytes ++ c.in_ok-frames.frames.items) (store_text s) report) (sym c.report_of-report.ensures.store)
    (recovers_by whole some told c.args.torn log_bytes c.in_ok-frames.frames.items report (outcome_in (history whole) c.args.outcome) alike reads_log refl frames c.report_of-report.ensures.report c.requires.writable room
    text before spells restarts)

pub returns-clause-lawful : goal.returns-clause-lawful
returns-clause-lawful c = λ whole base log_bytes before alike reads_log restored.
    let some = c.args.records.now in
    let told = c.args.outcome.appended.items in
    let same : c.deref.result.now ≡ told = c.deref.ensures.value in
    let frames = c.in_ok-frames.ensures.frames ∙ ap (appended_frames some) same in
    let room : last_lsn (history some) + length told < 2 ^ 64 = omega (arith, c.in_ok-frames.ensures.room, ap (λ (xs : List Appended). length xs) same) in
    let report = c.report_of-report.result.0 in
    subst (λ (s : StoreContent). Recovered base whole before (take (length log_bytes - report.torn) log_bytes ++ c.in_ok-frames.frames.items) (store_text s) report) (sym c.report_of-report.ensures.store)
    (recovered_by whole some told c.args.torn log_bytes c.in_ok-frames.frames.items report (outcome_in (history whole) c.args.outcome) alike reads_log refl frames c.report_of-report.ensures.report c.requires.writable room
    base before restored)

pub returns-clause-short : goal.returns-clause-short
returns-clause-short c = λ whole base log_bytes before alike reads_log restored.
    let some = c.args.records.now in
    let told = c.args.outcome.appended.items in
    let same : c.deref.result.now ≡ told = c.deref.ensures.value in
    let frames = c.in_ok-frames.ensures.frames ∙ ap (appended_frames some) same in
    let room : last_lsn (history some) + length told < 2 ^ 64 = omega (arith, c.in_ok-frames.ensures.room, ap (λ (xs : List Appended). length xs) same) in
    short_by whole some told c.args.torn log_bytes c.in_ok-frames.frames.items c.report_of-report.result.0 (outcome_in (history whole) c.args.outcome) alike reads_log refl frames c.report_of-report.ensures.report
    c.requires.writable room base before restored
