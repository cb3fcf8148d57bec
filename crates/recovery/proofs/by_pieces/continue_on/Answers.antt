use Rattle.std.proofs.Common.{◌≡◌, ◌+◌, ◌^◌, ◌<◌, List, length, refl, sym, ap, ◌∙◌, subst, inl, inr, arith}
use Rattle.log_laws.specs.Records.{history, last_lsn}
use Rattle.wal.specs.Reads.{Reads}
use Rattle.wal.proofs.Whole.{one_reading}
use Rattle.page.specs.declared.fault.Fault.TheVariants.{ReadLog}
use Rattle.passes.specs.InPieces.{outcome_on}
use Rattle.undo.specs.declared.appended.Appended.{Appended}
use Rattle.restart.specs.Restart.{store_with}
use Rattle.recovery.specs.Recovery.{appended_frames}
use Rattle.recovery.specs.Devices.{IsFaultOf}
use Rattle.recovery.specs.ByPieces.{ReadingCause}
use Rattle.recovery.proofs.ByPieces.{once_read, resource_of_log, reading_cause}
use Rattle.recovery.proofs.Remaking.{recovers_by, recovered_by}
use Rattle.recovery.proofs.by_pieces.continue_on.Goals as goal

pub returns-in-Err-clause-lawful : goal.returns-in-Err-clause-lawful
returns-in-Err-clause-lawful g c = λ base text read torn is reads before stored master numbered shows lawful.
    elim c.fault_after.ensures.fault [
      | inl device ↦ inr device
      | inr stopped ↦ subst (IsFaultOf ReadLog) (sym stopped) (resource_of_log c.in-Err.stopped (c.in-Err.ensures.lawful text read torn base is reads before stored master numbered shows lawful))
    ]

pub returns-in-Err-clause-fault : goal.returns-in-Err-clause-fault
returns-in-Err-clause-fault g c = λ text is before stored master numbered shows store options spells range.
    elim c.fault_after.ensures.fault [
      | inl device ↦ inl device
      | inr stopped ↦
          subst (ReadingCause text store options) (sym stopped)
          (reading_cause text store options before c.in-Err.stopped spells range (c.in-Err.ensures.fault text is before stored master numbered shows))
    ]

pub returns-in-Err-clause-read : goal.returns-in-Err-clause-read
returns-in-Err-clause-read g c = once_read (g.L.Reread.text c.args.log.now) (g.L.Reread.text c.restart_in_pieces.new.source) _ c.fault_after.result c.restart_in_pieces.ensures.source.same c.fault_after.ensures.read

pub returns-clause-lawful : goal.returns-clause-lawful
returns-clause-lawful g c = λ base text whole torn is reads before stored master numbered shows lawful.
    let x = c.in-Ok.restarted in
    let some = x.gathered in
    let told = x.outcome.appended.items in
    let found = c.in-Ok.ensures.reads text is in
    let one = one_reading text found.whole whole x.torn torn found.reads reads in
    let own : Reads text whole x.torn = subst (λ w. Reads text w x.torn) one.0 found.reads in
    let (after, shown, restored) = c.in-Ok.ensures.lawful text whole x.torn base is own before stored master numbered shows lawful in
    let same : c.deref.result.now ≡ told = c.deref.ensures.value in
    let frames = c.in_ok-frames.ensures.frames ∙ ap (appended_frames some) same in
    let room : last_lsn (history some) + length told < 2 ^ 64 = omega (arith, c.in_ok-frames.ensures.room, ap (λ (xs : List Appended). length xs) same) in
    let report = c.report_on-report.ensures.report (store_with before after) (g.met.P.Pages.counted c.restart_in_pieces.new.pages stored after shown ∙ sym c.len.ensures) in (
      after,
      shown,
      recovered_by whole some told x.torn text c.in_ok-frames.frames.items c.report_on-report.result (outcome_on whole before after x) (c.in-Ok.ensures.alike text whole x.torn is own) own refl frames report
          c.in-Ok.ensures.writable room base before restored,
    )

pub returns-clause-answer : goal.returns-clause-answer
returns-clause-answer g c = λ text is before stored master numbered shows store spells.
    let x = c.in-Ok.restarted in
    let some = x.gathered in
    let told = x.outcome.appended.items in
    let found = c.in-Ok.ensures.reads text is in
    let whole = found.whole in
    let (after, shown, restarts) = c.in-Ok.ensures.restarts text whole x.torn is found.reads before stored master numbered shows in
    let same : c.deref.result.now ≡ told = c.deref.ensures.value in
    let frames = c.in_ok-frames.ensures.frames ∙ ap (appended_frames some) same in
    let room : last_lsn (history some) + length told < 2 ^ 64 = omega (arith, c.in_ok-frames.ensures.room, ap (λ (xs : List Appended). length xs) same) in
    let report = c.report_on-report.ensures.report (store_with before after) (g.met.P.Pages.counted c.restart_in_pieces.new.pages stored after shown ∙ sym c.len.ensures) in (
      after,
      shown,
      recovers_by whole some told x.torn text c.in_ok-frames.frames.items c.report_on-report.result (outcome_on whole before after x) (c.in-Ok.ensures.alike text whole x.torn is found.reads) found.reads refl frames report
          c.in-Ok.ensures.writable room store before spells restarts,
    )

pub returns-clause-measured : goal.returns-clause-measured
returns-clause-measured g c = λ text is.
    let read = c.in-Ok.ensures.reads text is in
    record {
      length_is = omega (arith, read.size, c.in-Some.ensures);
      kept_is = omega (arith, read.size, c.report_on-report.ensures.torn);
    }
