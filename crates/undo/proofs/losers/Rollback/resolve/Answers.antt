use Rattle.std.proofs.Common.{subst}
use Rattle.log_laws.specs.Records.{history}
use Rattle.undo.specs.Rollback.{Meets, FirstMet, loser_at}
use Rattle.undo.proofs.Placed.{nobody_there}
use Rattle.undo.proofs.losers.Rollback.resolve.Goals as goal

-- no loser waits at the update that it meets, which is its own
pub put-requires : goal.put-requires
put-requires c =
    let log = history c.args.log.now in
    let meets : Meets log c.args.loser.tx c.args.from c.args.lsn c.in-Some.update_lsn =
    subst (FirstMet log c.args.loser.tx c.args.from c.args.lsn) c.in-Some.is c.in_ok-update_lsn.ensures.found in
    record { free = nobody_there log c.args.loser.tx c.in-Some.update_lsn (loser_at c.args.self.now) meets.is_update c.requires.updates c.requires.others }
