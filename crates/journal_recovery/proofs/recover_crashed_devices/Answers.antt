use Rattle.std.proofs.lemmas.Result.{MatchResult-weaker}
use Rattle.page.specs.declared.fault.Fault.{Fault}
use Rattle.recovery.specs.Devices.{Delivers, IsResourceOrDevice}
use Rattle.recovery.specs.Text.{ReportContent}
use Rattle.journal_recovery.specs.Left.{DeliversSurvivor}
use Rattle.journal_recovery.proofs.Surviving.{bytes, survivor}
use Rattle.journal_recovery.proofs.recover_crashed_devices.Goals as goal

pub returns : goal.returns
returns g c = λ base t log store log_known store_known range left.
    MatchResult-weaker c.recover.result
    {P = λ (x : ReportContent). Delivers g.LW.Sink c.args.out_log.now c.recover.new.out_log g.SW.Sink c.args.out_store.now c.recover.new.out_store (record { base = base; log = log; store = store; bytes = bytes base t log store left }) x}
    {P' = λ (x : ReportContent). DeliversSurvivor g.LW.Sink c.args.out_log.now c.recover.new.out_log g.SW.Sink c.args.out_store.now c.recover.new.out_store base t left.there log x}
    {Q = IsResourceOrDevice}
    {Q' = IsResourceOrDevice}
    (c.recover.ensures.lawful base log store log_known store_known range (bytes base t log store left))
    (λ x d. record { new_log = d.new_log; new_store = d.new_store; survivor = survivor base t log store left d.new_log d.new_store x d.recovered; log_out = d.log_out; store_out = d.store_out })
    (λ e i. i)
