use Rattle.std.proofs.Common.{◌≡◌, ◌∙◌, ap}
use Rattle.log_laws.specs.Records.{history, record_at}
use Rattle.recovery.proofs.Bytes.{read_same}
use Rattle.aries_c.proofs.dump.aries_checkpoint.Goals as goal

pub returns-in_default-clause-none : goal.returns-in_default-clause-none
returns-in_default-clause-none c = λ _ begin entries pages h.
    let one : (c.in-Ok.log, c.in-Ok.field-0-1) ≡ (h.read, h.torn) = read_same _ _ (c.in-Ok.ensures.only h.read h.torn h.reads) in
    c.in_default.ensures.none begin entries pages (ap (λ x. record_at (history x.0) c.args.lsn) one ∙ h.there)
