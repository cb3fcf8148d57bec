use Rattle.std.proofs.Common.{◌≡◌, ◌<◌, ◌+◌, ◌++◌, [], ◌∷◌, List, length, get_or, take, sym, ap, ◌∙◌, arith}
use Rattle.std.proofs.lemmas.List.{take_more, map_push, length-map, length-take}
use Rattle.log_laws.specs.Records.{LogRecord, history, last_lsn}
use Rattle.wal.specs.Reads.{spellings}
use Rattle.wal.specs.Spelling.{frame}
use Rattle.log_laws.proofs.Histories.{size_of_log, base_of_log}
use Rattle.undo.specs.declared.appended.Appended.{Appended}
use Rattle.undo.specs.declared.appended.Appended.TheVariants as brief
use Rattle.undo.specs.Appended.{record_of, appended_records}
use Rattle.recovery.proofs.Bytes.{spellings_push}
use Rattle.recovery.proofs.recovery.frames_of.Goals as goal

pub loop-entry-preserved : goal.loop-entry-preserved
loop-entry-preserved c =
    let log = history c.args.log.now in
    let i = c.loop-entry.entry-index in
    let told = c.args.appended.now in
    let entry : Appended = get_or told i (brief.Compensation 0 0) in
    let done : List LogRecord = appended_records log (take i told) in
    let within : i < length told = omega arith in
    let count : length done ≡ i = omega (arith, length-map (take i told) (record_of log), length-take i told, within) in
    let more : appended_records log (take (i + 1) told) ≡ done ++ record_of log entry ∷ [] =
    ap (appended_records log) (take_more told i _ within) ∙ map_push (record_of log) (take i told) entry in
    record {
      lsn_is = omega (arith, c.loop-entry.invariant.lsn_is);
      frames_are =
          spellings_push c.loop-entry.frames.items c.write_frame.new.out.items (last_lsn log + 1) c.loop-entry.lsn done (record_of log entry)
          (omega (arith, c.loop-entry.invariant.lsn_is, count)) c.loop-entry.invariant.frames_are
          (c.in_ok-write_frame.ensures.ok ∙ ap (λ r. c.loop-entry.frames.items ++ frame r c.loop-entry.lsn) c.record_of-record.ensures)
          ∙ ap (spellings (last_lsn log + 1)) (sym more);
    }

pub overflow_add-lsn : goal.overflow_add-lsn
overflow_add-lsn c =
    omega (arith, c.loop-entry.invariant.lsn_is, c.requires.few, c.next_lsn-lsn.ensures.low, c.next_lsn-lsn.ensures.room, size_of_log c.args.log.now, base_of_log c.args.log.now)
