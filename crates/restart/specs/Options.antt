-- The options of a recovery (own).
use Rattle.page.specs.declared.fault.Fault.{Fault}
use Rattle.page.specs.declared.fault.Fault.TheVariants.{BadWorkers, BadParting}
use Rattle.redo.specs.Redone.{AreWorkers}
use Rattle.redo.specs.Parting.{AreParts}
use Rattle.restart.specs.declared.options.Options.{Options}

-- the options are in their ranges
pub record AreInRange (options : Options) : Type 0 where
  pub workers : AreWorkers options.workers
  pub parts : AreParts options.parts

-- valid options, with which a restart does all in one thread and in one part
abbrev pub one_worker : Options
one_worker = record { workers = 1; parts = 1 }

-- the error of options
abbrev pub OptionsFault : Options → Fault → Type 0
OptionsFault options BadWorkers = AreWorkers options.workers → ⊥
OptionsFault options BadParting = AreWorkers options.workers × (AreParts options.parts → ⊥)
OptionsFault options _ = ⊥
