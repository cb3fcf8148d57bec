use Rattle.std.proofs.Common.{◌≡◌, length, length-append, ap, subst, arith, inl}
use Rattle.page.specs.Image.{Image}
use Rattle.log_laws.specs.Records.{LogRecord}
use Rattle.wal.specs.Spelling.{image}
use Rattle.journal.specs.Arrays.{image_of}
use Rattle.journal.specs.Writing.{IsWritten}
use Rattle.aries_c.specs.declared.fault.Fault.{Fault}
use Rattle.aries_c.specs.Record.{update_of}
use Rattle.aries_c.proofs.frames.put_update_frame.Goals as goal

pub returns : goal.returns
returns c =
    let r : Image → Image → LogRecord = update_of c.args.head in
    let before_is : image_of c.of-before.result ≡ c.args.before.now = c.of-before.ensures.image in
    let after_is : image_of c.of-after.result ≡ c.args.after.now = c.of-after.ensures.image in
    let written =
    subst (λ b. IsWritten (r b c.args.after.now) c.args.lsn c.args.out.now c.put_update.new.out c.put_update.result) before_is
    (subst (λ a. IsWritten (r (image_of c.of-before.result) a) c.args.lsn c.args.out.now c.put_update.new.out c.put_update.result) after_is c.put_update.ensures.written) in
    record {
      length_is =
          omega (
            arith,
            c.update_size.ensures.size,
            ap (λ (i : Image). length (image i)) before_is,
            ap (λ (i : Image). length (image i)) after_is,
            length-append (image c.args.before.now) (image c.args.after.now),
          );
      written = λ done. written.holds;
      answer = inl c.none.ensures;
      short = λ failed. absurd (failed (ap (λ (f : Fault). f.number) c.none.ensures));
    }
