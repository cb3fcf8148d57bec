use Rattle.std.proofs.Common.{◌≡◌}
use Rattle.page.specs.declared.fault.Fault.{Fault}
use Rattle.page.specs.declared.fault.Fault.TheVariants.{NoResource}
use Rattle.recovery.specs.Recovery.{new_log, Recovered}
use Rattle.recovery.specs.declared.recovery.Recovery.{Recovery}
use Rattle.journal.specs.Traces.{left_log}
use Rattle.journal_recovery.specs.Left.{IsSurvivor}
use Rattle.std.proofs.lemmas.Result.{MatchResult-weaker}
use Rattle.journal_recovery.proofs.Surviving.{read, bytes, survivor}
use Rattle.journal_recovery.proofs.recover_crashed.Goals as goal

pub returns : goal.returns
returns c = λ base t left.
    let log = c.args.log.now in
    let store = c.args.store.items in
    MatchResult-weaker c.recovery_alone.result
    {P = λ (x : Recovery). Recovered base (left_log t (read base t log store left).lsn) left.there (new_log x) x.store.items x.report}
    {P' = λ (x : Recovery). IsSurvivor base t left.there log (new_log x) x.store.items x.report}
    {Q = λ (e : Fault). e ≡ NoResource}
    {Q' = λ (e : Fault). e ≡ NoResource}
    (c.recovery_alone.ensures.lawful base (bytes base t log store left))
    (λ x r. survivor base t log store left (new_log x) x.store.items x.report r) (λ e n. n)
