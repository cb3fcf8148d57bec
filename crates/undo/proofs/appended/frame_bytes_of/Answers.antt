use Rattle.std.proofs.Common.{Some, length, ap, sym, ◌∙◌}
use Rattle.log_laws.specs.Records.{history}
use Rattle.wal.specs.Spelling.{frame}
use Rattle.wal.specs.Content.{shown}
use Rattle.undo.specs.Appended.{clr_of, record_of}
use Rattle.undo.proofs.appended.frame_bytes_of.Goals as goal

pub returns-in-Some-Update : goal.returns-in-Some-Update
returns-in-Some-Update c =
    let log = history c.args.log.now in
    let prev = c.in-Compensation.prev in
    let is =
    ap (record_of log) c.in-Compensation.is ∙ ap (clr_of prev) (sym c.in-Some-Update.ensures.found) ∙ ap (λ v. clr_of prev (Some (shown v))) c.in-Some-Update.field-0-is in
    λ lsn. c.frame_bytes.ensures lsn ∙ ap (λ r. length (frame r lsn)) (sym is)

pub returns-in-End : goal.returns-in-End
returns-in-End c = rw c.in-End.is (λ lsn. c.frame_bytes-in-End.ensures lsn)
