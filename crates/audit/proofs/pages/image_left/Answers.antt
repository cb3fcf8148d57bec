use Rattle.std.proofs.Common.{◌≡◌, ◌<◌, ◌≤◌, ◌+◌, ◌-◌, ℕ, Option, Some, sym, ap, ◌∙◌, inl, inr, arith}
use Rattle.page.specs.Image.{Image}
use Rattle.log_laws.specs.Records.{LogRecord, history, record_at, base_lsn, last_lsn}
use Rattle.log_laws.specs.Meaning.{image_in}
use Rattle.log_laws.proofs.Histories.{record_none, behind}
use Rattle.audit.specs.Cells.{image_or}
use Rattle.audit.proofs.pages.image_left.Goals.{then-writer-base-via-then-writer-base, then-writer-base-via-else-writer-base+then-writer-last}
use Rattle.audit.proofs.pages.image_left.Goals as goal

pub returns-then-writer-base : goal.returns-then-writer-base
returns-then-writer-base c =
    elim c.then-writer-base.branch [
      | then-writer-base-via-then-writer-base w ↦ sym (ap (image_or c.args.before) (record_none (history c.args.log.now) c.args.writer (inl (omega (arith, c.base.ensures.is, w.if-writer-base.true)))))
      | then-writer-base-via-else-writer-base+then-writer-last w ↦ sym (ap (image_or c.args.before) (record_none (history c.args.log.now) c.args.writer (inr (omega (arith, w.last.ensures, w.if-writer-last.true)))))
    ]

some_left : (before : Image) (o : Option LogRecord) (r : LogRecord) → o ≡ Some r → image_in o ≡ image_or before o
some_left before o r e = ap image_in e ∙ sym (ap (image_or before) e)

pub returns : goal.returns
returns c =
    let log = history c.args.log.now in
    let n : ℕ = c.args.writer - 1 in
    let from : base_lsn log ≤ n = omega (arith, c.base.ensures.is, c.if-writer-base.false) in
    let to : n < last_lsn log = omega (arith, c.last.ensures, c.if-writer-last.false, c.if-writer-base.false) in
    let found = behind log n from to in
    let is : n + 1 ≡ c.args.writer = omega (arith, c.if-writer-base.false) in
    c.image.ensures ∙ some_left c.args.before (record_at log c.args.writer) found.entry (ap (record_at log) (sym is) ∙ found.there)
