use Rattle.std.proofs.Common.{◌≡◌, inr, ap}
use Rattle.std.proofs.lemmas.Result.{err_from_is_err_and, IfErr-weaker, on_ok_weaker}
use Rattle.log_laws.specs.Meaning.{no_base}
use Rattle.audit.specs.FirstFault.{FirstFault}
use Rattle.recovery.specs.Recovery.{Decoded}
use Rattle.recovery.specs.Audit.{AuditFault}
use Rattle.recovery.proofs.Bytes.{is_lawful, read_alone, read_same}
use Rattle.recovery.proofs.texts.audit_texts.Goals as goal

pub returns-in_err-records-clause-lawful : goal.returns-in_err-records-clause-lawful
returns-in_err-records-clause-lawful c = λ bytes.
    let exit = err_from_is_err_and c.from_residual.result c.from_residual.ensures.1 in
    rw (exit.1, exit.2)
    (read_alone (λ x. x) c.in_err-records.field-0.0 (bytes.decoded.read, bytes.decoded.torn) (c.in_err-records.ensures.only bytes.decoded.read bytes.decoded.torn bytes.decoded.reads))

pub returns-clause-ok : goal.returns-clause-ok
returns-clause-ok c =
    let decoded : Decoded c.args.log.now c.args.store.now =
    record { read = c.in_ok-records.records; torn = c.in_ok-records.field-0-1; before = c.in_ok-store.store; reads = c.in_ok-records.ensures.found; spells = c.in_ok-store.ensures.found } in
    on_ok_weaker c.audit.result (λ lawful. record { decoded = decoded; lawful = lawful }) c.audit.ensures.ok

pub returns-clause-fault : goal.returns-clause-fault
returns-clause-fault c =
    let decoded : Decoded c.args.log.now c.args.store.now =
    record { read = c.in_ok-records.records; torn = c.in_ok-records.field-0-1; before = c.in_ok-store.store; reads = c.in_ok-records.ensures.found; spells = c.in_ok-store.ensures.found } in
    IfErr-weaker c.audit.result (FirstFault no_base decoded.read decoded.before) (AuditFault c.args.log.now c.args.store.now) (λ e h. inr (inr (decoded, h))) c.audit.ensures.fault

pub returns-clause-lawful : goal.returns-clause-lawful
returns-clause-lawful c = λ bytes.
    let read = c.in_ok-records.records in
    let before = c.in_ok-store.store in
    let one = read_same (read, c.in_ok-records.field-0-1) (bytes.decoded.read, bytes.decoded.torn) (c.in_ok-records.ensures.only bytes.decoded.read bytes.decoded.torn bytes.decoded.reads) in
    let same : before ≡ bytes.decoded.before = c.in_ok-store.ensures.only bytes.decoded.before bytes.decoded.spells in
    c.audit.ensures.lawful (is_lawful bytes read before (ap (λ x. x.0) one) same)
