use Rattle.std.proofs.Common.{ap, refl, ◌∙◌}
use Rattle.analysis.specs.Tables.{entry_at}
use Rattle.analysis.proofs.fresh_scan.FreshScan.begin.Goals as goal

pub returns-clause-begun : goal.returns-clause-begun
returns-clause-begun c = λ base. record {
  entries_are = λ t. ap (entry_at t) (c.begin.ensures ∙ c.new.ensures.empty);
  first_is = refl;
}
