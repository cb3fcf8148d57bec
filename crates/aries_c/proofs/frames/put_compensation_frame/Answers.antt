use Rattle.std.proofs.Common.{◌≡◌, length, ap, subst, arith, inl}
use Rattle.page.specs.Image.{Image}
use Rattle.log_laws.specs.Records.{LogRecord}
use Rattle.wal.specs.Spelling.{image}
use Rattle.journal.specs.Arrays.{image_of}
use Rattle.journal.specs.Writing.{IsWritten}
use Rattle.aries_c.specs.declared.fault.Fault.{Fault}
use Rattle.aries_c.specs.Record.{compensation_of}
use Rattle.aries_c.proofs.frames.put_compensation_frame.Goals as goal

pub returns : goal.returns
returns c =
    let r : Image → LogRecord = compensation_of c.args.head c.args.undo_next in
    let image_is : image_of c.of-image.result ≡ c.args.image.now = c.of-image.ensures.image in
    let written = subst (λ i. IsWritten (r i) c.args.lsn c.args.out.now c.put_compensation.new.out c.put_compensation.result) image_is c.put_compensation.ensures.written in
    record {
      length_is = omega (arith, c.compensation_size.ensures.size, ap (λ (i : Image). length (image i)) image_is);
      written = λ done. written.holds;
      answer = inl c.none.ensures;
      short = λ failed. absurd (failed (ap (λ (f : Fault). f.number) c.none.ensures));
    }
