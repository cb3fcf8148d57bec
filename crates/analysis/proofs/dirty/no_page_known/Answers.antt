use Rattle.std.proofs.Common.{List, Bool, sym, subst}
use Rattle.page.specs.declared.profile.TheConstants.{PAGES}
use Rattle.analysis.specs.Steps.{AreListed}
use Rattle.analysis.proofs.Maps.{none_known}
use Rattle.analysis.proofs.dirty.no_page_known.Goals as goal

pub returns-clause-listed : goal.returns-clause-listed
returns-clause-listed c = λ dirty. subst (λ (known : List Bool). AreListed known dirty) (sym (c.in_ok-vec.ensures.items_if_clones_equal (λ y e. e))) (λ page noted. none_known PAGES page noted)
