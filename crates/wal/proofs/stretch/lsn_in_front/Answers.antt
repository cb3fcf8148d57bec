use Rattle.std.proofs.Common.{Ok, sym, ap, ◌∙◌}
use Rattle.wal.specs.Frames.{next_at}
use Rattle.wal.proofs.FirstFrames.{seen_frame}
use Rattle.wal.proofs.stretch.lsn_in_front.Goals as goal

pub returns-in-Ok-Some-clause-found : goal.returns-in-Ok-Some-clause-found
returns-in-Ok-Some-clause-found c =
    let (size, glance) = c.in-Ok-Some.field-0-0 in
    let is = sym c.seen_at.ensures ∙ c.in-Ok-Some.is ∙ ap Ok c.in-Ok-Some.field-0-is in
    let frame = seen_frame (next_at c.in_ok-lsn.lsn 0 c.args.bytes.now) size glance is in (frame.0, size, frame.1)
