use Rattle.std.proofs.Common.{refl, sym, subst}
use Rattle.std.proofs.lemmas.Result.{on_ok_weaker}
use Rattle.log_laws.specs.Records.{history}
use Rattle.log_laws.proofs.Histories.{history_push}
use Rattle.analysis.specs.Passing.{HasAnalysed}
use Rattle.passes.proofs.analyse.AnalysisPass.look_at.Goals as goal

pub returns-clause-passed : goal.returns-clause-passed
returns-clause-passed c = on_ok_weaker c.take.result
    (λ goes_on r next whole before own at.
    (refl, λ all seen. subst (λ h. HasAnalysed c.args.self.now.master all h c.take.new.self) (sym (history_push before r)) (goes_on all (history before) r next.seen_of next.fits at seen)))
    c.take.ensures.goes_on
