use Rattle.std.proofs.Common.{arith}
use Rattle.undo.specs.Wants.{wants_in}
use Rattle.undo.proofs.Gathers.{up_to_put}
use Rattle.undo.proofs.gathering.Gathering.go_on.Goals as goal

pub returns-in_ok-put-clause-below : goal.returns-in_ok-put-clause-below
returns-in_ok-put-clause-below c = λ n le up.
    up_to_put n (record { lsn = c.args.lsn; tx = c.args.tx }) (wants_in c.args.self.now.wants) (wants_in c.put.new.self) c.in_ok-put.ensures (omega (arith, le, c.if-lsn-from.true)) up
