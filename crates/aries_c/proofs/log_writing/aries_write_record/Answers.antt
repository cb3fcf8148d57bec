use Rattle.std.proofs.Common.{◌<◌, refl, arith}
use Rattle.wal.specs.Content.{content}
use Rattle.wal.specs.Spelling.{frame}
use Rattle.aries_c.proofs.log_writing.aries_write_record.Goals as goal

pub returns-in-Ok-clause-written : goal.returns-in-Ok-clause-written
returns-in-Ok-clause-written c = λ done.
    let lsn : 0 < c.args.named.now.lsn = omega (arith, c.if-named-eq0.false) in
    record {
      text = frame (content c.in-Ok.record) c.args.named.now.lsn;
      is_text = (content c.in-Ok.record, c.in-Ok.ensures.found, lsn, refl);
      stands = c.put_record.ensures.written done;
      length_is = c.put_record.ensures.length_is;
    }

pub returns-in-Ok-clause-no_room : goal.returns-in-Ok-clause-no_room
returns-in-Ok-clause-no_room c = λ short.
    let lsn : 0 < c.args.named.now.lsn = omega (arith, c.if-named-eq0.false) in
    record {
      text = frame (content c.in-Ok.record) c.args.named.now.lsn;
      is_text = (content c.in-Ok.record, c.in-Ok.ensures.found, lsn, refl);
      short = (c.put_record.ensures.short (λ none. omega (arith, short, none))).1.0;
      length_is = c.put_record.ensures.length_is;
    }
