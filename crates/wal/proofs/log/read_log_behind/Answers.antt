use Rattle.std.proofs.Common.{◌++◌, subst, arith, length-append}
use Rattle.wal.specs.Frames.{Gives}
use Rattle.wal.proofs.Whole.{is_found, is_cause, log_again}
use Rattle.wal.proofs.Stretches.{both_bytes, room_behind}
use Rattle.wal.proofs.log.read_log_behind.Goals as goal

pub stretch_by-requires-clause-lsn : goal.stretch_by-requires-clause-lsn
stretch_by-requires-clause-lsn g c κs within =
    omega (arith, c.len.ensures, c.requires.first.1.lsn, c.requires.first.1.frames.long, c.requires.first.1.frames.room, c.if-front-back.false, room_behind c.requires.first.0 c.args.front.now (λ i. omega (arith, c.type_inv.front i)) c.requires.first.1.starts)

pub returns-clause-found : goal.returns-clause-found
returns-clause-found g c = is_found (λ x. x) (c.args.front.now ++ c.args.back.now) c.log_of.result (both_bytes c.args.front.now c.args.back.now (λ i. omega (arith, c.type_inv.front i)) (λ i. omega (arith, c.type_inv.back i))) (omega (arith, c.if-front-back.false, length-append c.args.front.now c.args.back.now)) c.log_of.ensures

pub returns-clause-only : goal.returns-clause-only
returns-clause-only g c = λ records torn reads. subst (λ f. Gives (λ x. x) c.log_of.result f) (log_again (c.args.front.now ++ c.args.back.now) records torn reads) c.log_of.ensures

pub returns-clause-fault : goal.returns-clause-fault
returns-clause-fault g c = is_cause (λ x. x) (c.args.front.now ++ c.args.back.now) c.log_of.result (both_bytes c.args.front.now c.args.back.now (λ i. omega (arith, c.type_inv.front i)) (λ i. omega (arith, c.type_inv.back i))) (omega (arith, c.if-front-back.false, length-append c.args.front.now c.args.back.now)) c.log_of.ensures
