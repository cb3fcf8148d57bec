use Rattle.std.proofs.Common.{arith}
use Rattle.analysis.proofs.Keeping.{moved_other, none_above_put}
use Rattle.analysis.proofs.kept.make_place.Goals as goal

pub returns-in_ok-put-clause-ok : goal.returns-in_ok-put-clause-ok
returns-in_ok-put-clause-ok c =
    moved_other c.args.tx c.args.kept.now c.args.transactions.now.entries c.put.new.transactions.entries (c.in-Some.own, c.in-Some.entry) c.requires.kept c.in-Some.is c.in_ok-put.ensures.ok

pub returns-in_ok-put-clause-highest : goal.returns-in_ok-put-clause-highest
returns-in_ok-put-clause-highest c =
    none_above_put c.in-Some.own c.args.highest.now c.max.result c.in-Some.entry c.args.transactions.now.entries c.put.new.transactions.entries (omega (arith, c.max.ensures)) (omega (arith, c.max.ensures)) c.in_ok-put.ensures.ok c.requires.highest
