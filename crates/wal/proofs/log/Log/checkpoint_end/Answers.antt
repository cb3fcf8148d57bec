use Rattle.std.proofs.Common.{arith, subst, sym, ap, ◌∙◌}
use Rattle.log_laws.specs.Records.{CheckpointEnd, history, first}
use Rattle.wal.specs.Spelling.{Fits}
use Rattle.log_laws.specs.Checkpoint.{first_end}
use Rattle.log_laws.proofs.Histories.{size_of_first_le, first_all}
use Rattle.log_laws.proofs.Checkpoints.{first_end_none, first_end_met}
use Rattle.wal.proofs.log.Log.checkpoint_end.Goals as goal

pub loop-lsn-init : goal.loop-lsn-init
loop-lsn-init c = first_end_none c.args.master (first c.args.master (history c.args.self.now)) (size_of_first_le c.args.master (history c.args.self.now) c.requires)

pub returns-then-begin-master-clause-found : goal.returns-then-begin-master-clause-found
returns-then-begin-master-clause-found c =
    first_end_met (history c.args.self.now) c.args.master c.loop-lsn.lsn c.in-CheckpointEnd.begin c.in-CheckpointEnd.transactions c.in-CheckpointEnd.dirty c.requires (omega arith) (omega arith) c.if-begin-master.true c.loop-lsn.invariant c.in-CheckpointEnd.ensures.next

pub returns-then-begin-master-clause-fits : goal.returns-then-begin-master-clause-fits
returns-then-begin-master-clause-fits c =
    subst (λ m. Fits (CheckpointEnd m c.in-CheckpointEnd.transactions c.in-CheckpointEnd.dirty)) c.if-begin-master.true c.in-CheckpointEnd.ensures.fits

pub returns-clause-found : goal.returns-clause-found
returns-clause-found c =
    let log = history c.args.self.now in
    sym (ap (first_end c.args.master) (sym (first_all c.loop-lsn.lsn log (omega (arith, c.loop-lsn-test.false, c.last-lsn-end.ensures)))) ∙ c.loop-lsn.invariant)
