use Rattle.std.proofs.Common.{None, refl}
use Rattle.analysis.proofs.Stretches.{none_joined}
use Rattle.analysis.proofs.fresh_stretch.FreshStretch.begin.Goals as goal

pub returns-clause-begun : goal.returns-clause-begun
returns-clause-begun c = λ base. record { describes = c.begin.ensures.describes base; first_is = refl }

pub returns-clause-no_transaction_0 : goal.returns-clause-no_transaction_0
returns-clause-no_transaction_0 c = none_joined 0 _ _ (c.begin.ensures.nothing 0 None)
