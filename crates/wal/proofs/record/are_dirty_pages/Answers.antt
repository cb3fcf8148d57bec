use Rattle.std.proofs.Common.{refl, arith}
use Rattle.std.proofs.lemmas.Bool.{false≢true}
use Rattle.wal.specs.Spelling.{FitsDirty}
use Rattle.wal.proofs.Rising.{more, falls, done}
use Rattle.wal.proofs.record.are_dirty_pages.Goals as goal

pub returns-then-number-low : goal.returns-then-number-low
returns-then-number-low c = (λ e. absurd (false≢true e), λ right. absurd (falls (λ x. x.0) FitsDirty c.args.entries.now c.loop-page.page-index c.loop-page.low (0, 0) c.loop-page-test.true c.if-number-low.true c.loop-page.invariant right))

pub loop-page-preserved : goal.loop-page-preserved
loop-page-preserved c = more (λ x. x.0) FitsDirty c.args.entries.now c.loop-page.page-index c.loop-page.low (0, 0) c.loop-page-test.true c.if-number-low.false (c.is_dirty_page.ensures.0 c.if-not-is_dirty_page.false) c.loop-page.invariant

pub returns : goal.returns
returns c = (λ e. done (λ x. x.0) FitsDirty c.args.entries.now c.loop-page.page-index c.loop-page.low (omega arith) c.loop-page.invariant, λ right. refl)
