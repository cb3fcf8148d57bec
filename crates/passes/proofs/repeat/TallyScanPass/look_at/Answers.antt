use Rattle.std.proofs.Common.{sym, subst}
use Rattle.std.proofs.lemmas.Result.{IfErr-weaker}
use Rattle.log_laws.specs.Records.{history}
use Rattle.passes.specs.Redoing.{AreTalliedUpTo}
use Rattle.passes.proofs.Calls.{on_ok_both}
use Rattle.passes.proofs.OneByOne.{ends_one_later, there_in}
use Rattle.passes.proofs.NextRecord.{taken_next, stopped_next}
use Rattle.passes.proofs.repeat.TallyScanPass.look_at.Goals as goal

pub returns-clause-passed : goal.returns-clause-passed
returns-clause-passed c = on_ok_both c.take.result
    (λ goes_on exists r next whole before own at images tables tallied.
    let lsn = c.args.lsn in
    subst (λ n. AreTalliedUpTo whole images tables n c.take.new.self) (sym (ends_one_later before lsn r at))
    (taken_next whole images tables lsn c.args.glance r c.args.self.now (there_in (history whole) lsn r own) next.seen_of (subst (λ n. AreTalliedUpTo whole images tables n c.args.self.now) at tallied)
    c.take.new.self c.take.ensures.redo_lsn c.take.ensures.upto goes_on exists))
    c.take.ensures.goes_on c.take.ensures.exists

pub returns-clause-fault : goal.returns-clause-fault
returns-clause-fault c = IfErr-weaker c.take.result _ _
    (λ e fault r next whole before own at images tables tallied.
    stopped_next whole images tables c.args.lsn c.args.glance r c.args.self.now (there_in (history whole) c.args.lsn r own) next.seen_of (subst (λ n. AreTalliedUpTo whole images tables n c.args.self.now) at tallied) e fault)
    c.take.ensures.fault
