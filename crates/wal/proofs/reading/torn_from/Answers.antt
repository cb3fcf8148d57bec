use Rattle.std.proofs.Common.{◌+◌, Ok, drop, length, sym, ap, ◌∙◌}
use Rattle.wal.specs.Frames.{next_at}
use Rattle.wal.specs.Glances.{seen_in}
use Rattle.wal.proofs.FirstFrames.{seen_frame, seen_none}
use Rattle.wal.proofs.NextFrame.{fails_with, size_of_fault}
use Rattle.wal.proofs.reading.torn_from.Goals as goal

pub unreachable-requires : goal.unreachable-requires
unreachable-requires c =
    let found = c.in-Ok-Some.field-0-0 in
    let one =
    seen_frame (next_at c.args.lsn (c.args.before + c.args.end) (drop c.args.end c.args.bytes.now)) found.0 found.1
    (ap (λ rest. seen_in (next_at c.args.lsn (c.args.before + c.args.end) rest)) (sym c.split_at.ensures.back) ∙ sym c.seen_at.ensures ∙ c.in-Ok-Some.is ∙ ap Ok c.in-Ok-Some.field-0-is) in
    c.requires.all (c.args.before + c.args.end) one.0 found.0 one.1

pub returns-in-Ok-None-clause-torn : goal.returns-in-Ok-None-clause-torn
returns-in-Ok-None-clause-torn c = (
  seen_none (next_at c.args.lsn (c.args.before + c.args.end) (drop c.args.end c.args.bytes.now))
      (ap (λ rest. seen_in (next_at c.args.lsn (c.args.before + c.args.end) rest)) (sym c.split_at.ensures.back) ∙ sym c.seen_at.ensures ∙ c.in-Ok-None.is ∙ ap Ok c.in-Ok-None.field-0-is),
  ap length (sym c.split_at.ensures.back),
)

pub returns-in-Err-clause-fault : goal.returns-in-Err-clause-fault
returns-in-Err-clause-fault c =
    let next = next_at c.args.lsn (c.args.before + c.args.end) (drop c.args.end c.args.bytes.now) in
    fails_with next c.in-Err.fault
    (size_of_fault next c.in-Err.fault (ap (λ rest. seen_in (next_at c.args.lsn (c.args.before + c.args.end) rest)) (sym c.split_at.ensures.back) ∙ sym c.seen_at.ensures ∙ c.in-Err.is))
