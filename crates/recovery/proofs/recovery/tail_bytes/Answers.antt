use Rattle.std.proofs.Common.{◌≡◌, ◌<◌, ◌+◌, ◌++◌, [], ◌∷◌, List, length, min, get_or, take, refl, sym, ap, ◌∙◌, arith, length-append}
use Rattle.std.proofs.lemmas.List.{take_more, take_all, map_push}
use Rattle.log_laws.specs.Records.{LogRecord, history}
use Rattle.wal.specs.Reads.{spellings}
use Rattle.wal.specs.Spelling.{frame}
use Rattle.undo.specs.declared.appended.Appended.{Appended}
use Rattle.undo.specs.declared.appended.Appended.TheVariants as brief
use Rattle.undo.specs.Appended.{record_of, appended_records}
use Rattle.recovery.proofs.Bytes.{spellings_push}
use Rattle.recovery.proofs.recovery.tail_bytes.Goals as goal

pub loop-entry-preserved : goal.loop-entry-preserved
loop-entry-preserved c = λ lsn.
    let log = history c.args.log.now in
    let i = c.loop-entry.entry-index in
    let told = c.args.appended.now in
    let entry : Appended = get_or told i (brief.Compensation 0 0) in
    let r : LogRecord = record_of log entry in
    let done : List LogRecord = appended_records log (take i told) in
    let within : i < length told = omega arith in
    let next = lsn + length done in
    let more : appended_records log (take (i + 1) told) ≡ done ++ r ∷ [] = ap (appended_records log) (take_more told i _ within) ∙ map_push (record_of log) (take i told) entry in
    let text : spellings lsn done ++ frame r next ≡ spellings lsn (done ++ r ∷ []) = spellings_push (spellings lsn done) (spellings lsn done ++ frame r next) lsn next done r refl refl refl in
    let size : length (spellings lsn (appended_records log (take (i + 1) told))) ≡ length (spellings lsn done) + length (frame r next) =
    ap (λ rs. length (spellings lsn rs)) more ∙ sym (ap length text) ∙ length-append (spellings lsn done) (frame r next) in
    omega (arith, size, c.loop-entry.invariant lsn, c.frame_bytes_of.ensures next)

pub returns : goal.returns
returns c = λ lsn.
    let told = c.args.appended.now in
    let log = history c.args.log.now in
    c.loop-entry.invariant lsn ∙ ap (λ xs. min 18446744073709551615 (length (spellings lsn (appended_records log xs)))) (take_all c.loop-entry.entry-index told (omega arith))
