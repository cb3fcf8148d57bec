use Rattle.std.proofs.Common.{sym, subst, arith}
use Rattle.log_laws.specs.Records.{history}
use Rattle.log_laws.proofs.Histories.{first_at_base, first_all}
use Rattle.aries_c.specs.Unfinished.{IsHighest}
use Rattle.aries_c.proofs.unfinished.highest_in.Goals as goal

pub loop-lsn-init : goal.loop-lsn-init
loop-lsn-init c =
    subst (λ log. IsHighest log 0) (sym (first_at_base (history c.args.log.now) c.base-lsn.result c.base-lsn.ensures.is))
    (record { all = λ lsn r there. absurd cc; there = λ some. absurd (omega (arith, some)) })

pub returns : goal.returns
returns c = subst (λ log. IsHighest log c.loop-lsn.highest) (first_all c.loop-lsn.lsn (history c.args.log.now) (omega (arith, c.loop-lsn-test.false, c.last-lsn-end.ensures))) c.loop-lsn.invariant
