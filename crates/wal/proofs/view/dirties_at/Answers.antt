use Rattle.std.proofs.Common.{sym, arith}
use Rattle.log_laws.specs.Records.{page_in}
use Rattle.wal.specs.Reading.{dirty_at}
use Rattle.wal.proofs.Tables.{dirty_size, begins, more, ends_short, ends_falling, is_done, is_table}
use Rattle.wal.proofs.view.dirties_at.Goals as goal

pub loop-init : goal.loop-init
loop-init c = begins page_in dirty_at (0, 0) 12 c.args.bytes.now c.args.count

pub returns-in_err-page : goal.returns-in_err-page
returns-in_err-page c = rw c.from_residual.ensures (ends_short page_in dirty_at (0, 0) 12 c.args.bytes.now c.args.count c.loop.counter c.loop.low c.loop.rest.now c.loop-test.true c.loop.invariant (sym c.in_err-page.ensures))

pub returns-then-number-low : goal.returns-then-number-low
returns-then-number-low c = ends_falling page_in dirty_at (0, 0) 12 c.args.bytes.now c.args.count c.loop.counter c.loop.low c.loop.rest.now ((c.in_ok-page.page, c.in_ok-page.field-0-1), c.in_ok-page.after.now) c.loop-test.true c.if-number-low.true c.loop.invariant (sym c.in_ok-page.ensures)

pub loop-preserved : goal.loop-preserved
loop-preserved c = more page_in dirty_at (0, 0) 12 dirty_size c.args.bytes.now c.args.count c.loop.counter c.loop.low c.loop.rest.now ((c.in_ok-page.page, c.in_ok-page.field-0-1), c.in_ok-page.after.now) c.loop-test.true c.if-number-low.false c.loop.invariant (sym c.in_ok-page.ensures)

pub invariant_of-table : goal.invariant_of-table
invariant_of-table c = is_table page_in dirty_at (0, 0) 12 c.args.bytes.now c.args.count c.loop.counter c.loop.low c.loop.rest.now (omega arith) c.loop.invariant

pub returns : goal.returns
returns c = is_done page_in dirty_at (0, 0) 12 c.args.bytes.now c.args.count c.loop.counter c.loop.low c.loop.rest.now (omega arith) c.loop.invariant
