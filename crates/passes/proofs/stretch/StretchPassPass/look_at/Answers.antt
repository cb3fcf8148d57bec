use Rattle.std.proofs.Common.{sym, subst}
use Rattle.log_laws.specs.Records.{history}
use Rattle.passes.specs.Redoing.{AreTalliedUpTo}
use Rattle.passes.proofs.Calls.{on_ok_both}
use Rattle.passes.proofs.OneByOne.{ends_one_later, there_in}
use Rattle.passes.proofs.NextRecord.{taken_next}
use Rattle.passes.proofs.Stretches.{since_more}
use Rattle.passes.proofs.stretch.StretchPassPass.look_at.Goals as goal

pub returns-clause-passed : goal.returns-clause-passed
returns-clause-passed c = on_ok_both c.take-2.result
    (λ goes_on exists r next whole before own at.
    let lsn = c.args.lsn in
    let old = c.args.self.now.tallies in (
      λ from since. since_more from before r lsn c.args.glance c.args.self.now.tables c.take.new.self c.in_ok-take.ensures.goes_on next.seen_of next.fits at since,
      λ images tables tallied.
          subst (λ n. AreTalliedUpTo whole images tables n c.take-2.new.self) (sym (ends_one_later before lsn r at))
          (taken_next whole images tables lsn c.args.glance r old (there_in (history whole) lsn r own) next.seen_of (subst (λ n. AreTalliedUpTo whole images tables n old) at tallied)
          c.take-2.new.self c.take-2.ensures.redo_lsn c.take-2.ensures.upto goes_on exists),
    ))
    c.take-2.ensures.goes_on c.take-2.ensures.exists
