-- Options have at most one error, and none if they are in their ranges.
use Rattle.std.proofs.Common.{◌≡◌, refl}
use Rattle.page.specs.declared.fault.Fault.{Fault}
use Rattle.page.specs.declared.fault.Fault.TheVariants.{BadWorkers, BadParting}
use Rattle.restart.specs.declared.options.Options.{Options}
use Rattle.restart.specs.Options.{AreInRange, OptionsFault}

pub options_hold : (options : Options) (e : Fault) → AreInRange options → OptionsFault options e → ⊥
options_hold options BadWorkers range h = h range.workers
options_hold options BadParting range h = h.1 range.parts
options_hold options e range h = absurd h

pub one_options_fault : (options : Options) (d e : Fault) → OptionsFault options d → OptionsFault options e → d ≡ e
one_options_fault options BadWorkers BadWorkers x y = refl
one_options_fault options BadWorkers BadParting x y = absurd (x y.0)
one_options_fault options BadWorkers _ x y = absurd y
one_options_fault options BadParting BadWorkers x y = absurd (y x.0)
one_options_fault options BadParting BadParting x y = refl
one_options_fault options BadParting _ x y = absurd y
one_options_fault options _ e x y = absurd x
