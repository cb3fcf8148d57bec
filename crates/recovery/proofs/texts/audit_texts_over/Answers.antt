use Rattle.std.proofs.Common.{◌≡◌, inl, inr, ap, subst, sym}
use Rattle.std.proofs.lemmas.Result.{err_from_is_err_and, IfErr-weaker, on_ok_weaker}
use Rattle.log_laws.specs.Records.{LogContent}
use Rattle.page.specs.Store.{StoreContent}
use Rattle.audit.specs.Base.{LawfulOver, FirstFaultOver}
use Rattle.recovery.specs.Recovery.{Decoded}
use Rattle.recovery.specs.Audit.{AuditFaultOver}
use Rattle.recovery.proofs.Bytes.{read_alone, read_same}
use Rattle.recovery.proofs.texts.audit_texts_over.Goals as goal

pub returns-in_err-records-clause-lawful : goal.returns-in_err-records-clause-lawful
returns-in_err-records-clause-lawful c = λ bytes.
    let exit = err_from_is_err_and c.from_residual.result c.from_residual.ensures.1 in
    rw (exit.1, exit.2)
    (read_alone (λ x. x) c.in_err-records.field-0.0 (bytes.decoded.read, bytes.decoded.torn) (c.in_err-records.ensures.only bytes.decoded.read bytes.decoded.torn bytes.decoded.reads))

pub returns-in_err-base-clause-fault : goal.returns-in_err-base-clause-fault
returns-in_err-base-clause-fault c =
    let exit = err_from_is_err_and c.from_residual-in_err-base.result c.from_residual-in_err-base.ensures.1 in
    let decoded : Decoded c.args.log.now c.args.store.now =
    record { read = c.in_ok-records.records; torn = c.in_ok-records.field-0-1; before = c.in_ok-store.store; reads = c.in_ok-records.ensures.found; spells = c.in_ok-store.ensures.found } in
    rw (exit.1, exit.2) (inr (inr (decoded, inl c.in_err-base.ensures.fault)))

pub returns-clause-ok : goal.returns-clause-ok
returns-clause-ok c =
    let decoded : Decoded c.args.log.now c.args.store.now =
    record { read = c.in_ok-records.records; torn = c.in_ok-records.field-0-1; before = c.in_ok-store.store; reads = c.in_ok-records.ensures.found; spells = c.in_ok-store.ensures.found } in
    on_ok_weaker c.audit_from.result (λ lawful. record { decoded = decoded; below = c.in_ok-base.base; spells = c.in_ok-base.ensures.found; lawful = lawful }) c.audit_from.ensures.ok

pub returns-clause-fault : goal.returns-clause-fault
returns-clause-fault c =
    let decoded : Decoded c.args.log.now c.args.store.now =
    record { read = c.in_ok-records.records; torn = c.in_ok-records.field-0-1; before = c.in_ok-store.store; reads = c.in_ok-records.ensures.found; spells = c.in_ok-store.ensures.found } in
    IfErr-weaker c.audit_from.result (FirstFaultOver decoded.read decoded.before c.in_ok-base.base) (AuditFaultOver c.args.log.now c.args.store.now c.args.base.now)
    (λ e h. inr (inr (decoded, inr (c.in_ok-base.base, c.in_ok-base.ensures.found, h)))) c.audit_from.ensures.fault

pub returns-clause-lawful : goal.returns-clause-lawful
returns-clause-lawful c = λ bytes.
    let read = c.in_ok-records.records in
    let before = c.in_ok-store.store in
    let below = c.in_ok-base.base in
    let one = read_same (read, c.in_ok-records.field-0-1) (bytes.decoded.read, bytes.decoded.torn) (c.in_ok-records.ensures.only bytes.decoded.read bytes.decoded.torn bytes.decoded.reads) in
    let same : before ≡ bytes.decoded.before = c.in_ok-store.ensures.only bytes.decoded.before bytes.decoded.spells in
    let same_below : below ≡ bytes.below = c.in_ok-base.ensures.only bytes.below bytes.spells in
    c.audit_from.ensures.lawful
    (subst (λ (l : LogContent). LawfulOver l before below) (sym (ap (λ x. x.0) one))
    (subst (λ (b : StoreContent). LawfulOver bytes.decoded.read b below) (sym same)
    (subst (λ (b : StoreContent). LawfulOver bytes.decoded.read bytes.decoded.before b) (sym same_below) bytes.lawful)))
