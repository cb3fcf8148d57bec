use Rattle.std.proofs.Common.{sym, arith}
use Rattle.log_laws.specs.Records.{tx_in}
use Rattle.wal.specs.Reading.{entry_at, no_entry}
use Rattle.wal.specs.Content.{entry_of}
use Rattle.wal.proofs.Tables.{entry_size, begins, more, ends_short, ends_falling, is_done, is_table}
use Rattle.wal.proofs.view.entries_at.Goals as goal

pub loop-init : goal.loop-init
loop-init c = begins tx_in entry_at no_entry 21 c.args.bytes.now c.args.count

pub returns-in_err-tx : goal.returns-in_err-tx
returns-in_err-tx c = rw c.from_residual.ensures (ends_short tx_in entry_at no_entry 21 c.args.bytes.now c.args.count c.loop.counter c.loop.low c.loop.rest.now c.loop-test.true c.loop.invariant (sym c.in_err-tx.ensures))

pub returns-then-number-low : goal.returns-then-number-low
returns-then-number-low c = ends_falling tx_in entry_at no_entry 21 c.args.bytes.now c.args.count c.loop.counter c.loop.low c.loop.rest.now (entry_of (c.in_ok-tx.tx, c.in_ok-tx.field-0-1), c.in_ok-tx.after.now) c.loop-test.true c.if-number-low.true c.loop.invariant (sym c.in_ok-tx.ensures)

pub loop-preserved : goal.loop-preserved
loop-preserved c = more tx_in entry_at no_entry 21 entry_size c.args.bytes.now c.args.count c.loop.counter c.loop.low c.loop.rest.now (entry_of (c.in_ok-tx.tx, c.in_ok-tx.field-0-1), c.in_ok-tx.after.now) c.loop-test.true c.if-number-low.false c.loop.invariant (sym c.in_ok-tx.ensures)

pub invariant_of-table : goal.invariant_of-table
invariant_of-table c = is_table tx_in entry_at no_entry 21 c.args.bytes.now c.args.count c.loop.counter c.loop.low c.loop.rest.now (omega arith) c.loop.invariant

pub returns : goal.returns
returns c = is_done tx_in entry_at no_entry 21 c.args.bytes.now c.args.count c.loop.counter c.loop.low c.loop.rest.now (omega arith) c.loop.invariant
