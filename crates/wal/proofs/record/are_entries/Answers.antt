use Rattle.std.proofs.Common.{refl, arith}
use Rattle.std.proofs.lemmas.Bool.{false≢true}
use Rattle.wal.specs.Spelling.{FitsEntry}
use Rattle.log_laws.specs.declared.state.State.TheVariants.{Active}
use Rattle.wal.specs.Content.{entry_of}
use Rattle.wal.proofs.Rising.{more, falls, done}
use Rattle.wal.proofs.record.are_entries.Goals as goal

pub returns-then-number-low : goal.returns-then-number-low
returns-then-number-low c = (λ e. absurd (false≢true e), λ right. absurd (falls (λ x. x.0) (λ x. FitsEntry (entry_of x)) c.args.entries.now c.loop-tx.tx-index c.loop-tx.low (0, record { state = Active; last = 0; undo_next = 0 }) c.loop-tx-test.true c.if-number-low.true c.loop-tx.invariant right))

pub loop-tx-preserved : goal.loop-tx-preserved
loop-tx-preserved c = more (λ x. x.0) (λ x. FitsEntry (entry_of x)) c.args.entries.now c.loop-tx.tx-index c.loop-tx.low (0, record { state = Active; last = 0; undo_next = 0 }) c.loop-tx-test.true c.if-number-low.false (c.is_entry.ensures.0 c.if-not-is_entry.false) c.loop-tx.invariant

pub returns : goal.returns
returns c = (λ e. done (λ x. x.0) (λ x. FitsEntry (entry_of x)) c.args.entries.now c.loop-tx.tx-index c.loop-tx.low (omega arith) c.loop-tx.invariant, λ right. refl)
