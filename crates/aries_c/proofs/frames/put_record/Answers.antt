use Rattle.std.proofs.Common.{sym, ap, subst}
use Rattle.wal.specs.Content.{content}
use Rattle.wal.specs.Spelling.{frame}
use Rattle.aries_c.specs.Writing.{Puts}
use Rattle.aries_c.proofs.frames.put_record.Goals as goal

pub returns-in-Update : goal.returns-in-Update
returns-in-Update c =
    subst (λ r. Puts (frame r c.args.lsn) c.args.out.now c.put_update_frame.new.out c.put_update_frame.new.told c.put_update_frame.result) (sym (ap content c.in-Update.is)) c.put_update_frame.ensures

pub returns-in-Compensation : goal.returns-in-Compensation
returns-in-Compensation c =
    subst (λ r. Puts (frame r c.args.lsn) c.args.out.now c.put_compensation_frame.new.out c.put_compensation_frame.new.told c.put_compensation_frame.result) (sym (ap content c.in-Compensation.is)) c.put_compensation_frame.ensures
