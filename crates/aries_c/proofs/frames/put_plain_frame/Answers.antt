use Rattle.std.proofs.Common.{◌≡◌, ℕ, List, ◌∙◌, subst}
use Rattle.log_laws.specs.Records.{PlainRecord}
use Rattle.wal.specs.Spelling.{frame}
use Rattle.journal.proofs.Written.{plain_is}
use Rattle.aries_c.specs.Writing.{Puts}
use Rattle.aries_c.proofs.frames.put_plain_frame.Goals as goal

pub returns : goal.returns
returns c = λ r kind.
    let p : PlainRecord = record { tx = c.args.tx; prev = c.args.prev } in
    let text : c.with_plain.result ≡ frame r c.args.lsn = c.with_plain.ensures ∙ plain_is r c.args.kind c.args.lsn p kind in
    subst (λ (t : List ℕ). Puts t c.args.out.now c.put.new.out c.put.new.told c.put.result) text
    (record { length_is = c.put.ensures.told; written = c.put.ensures.written; answer = c.put.ensures.answer; short = c.put.ensures.short })
