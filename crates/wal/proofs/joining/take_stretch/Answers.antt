use Rattle.std.proofs.Common.{◌≡◌, ◌+◌, length, subst, length-append, arith}
use Rattle.wal.specs.Stretches.{AreFrames}
use Rattle.wal.proofs.Stretches.{frames_joined}
use Rattle.wal.proofs.joining.take_stretch.Goals as goal

pub returns-clause-frames : goal.returns-clause-frames
returns-clause-frames c =
    let bytes = c.args.bytes.now in
    let known = c.args.known in
    let next = c.args.next in
    let begun = subst (λ at. AreFrames bytes next.lsn at next.offsets next.end) c.if-next-known.false c.requires.next.frames in
    let next_lsn : next.lsn ≡ known.lsn + length known.offsets = omega (arith, c.if-next-known-2.false, c.len.ensures) in
    let behind = subst (λ lsn. AreFrames bytes lsn known.end next.offsets next.end) next_lsn begun in
    rw c.in_ok-append.ensures.ok (record {
      frames = frames_joined bytes known.lsn known.begin known.offsets known.end next.offsets next.end c.requires.known.frames behind;
      room = c.requires.next.room;
      long = omega (arith, length-append known.offsets next.offsets, c.requires.known.long, c.requires.next.long, c.if-next-known.false);
      low = c.requires.known.low;
    })
