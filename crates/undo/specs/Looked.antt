-- A log that undo looks at (own).
use Rattle.log_laws.specs.Records.{LogContent}
use Rattle.undo.specs.declared.looked.Place.{Place}
use Rattle.undo.specs.declared.looked.Place.TheVariants.{Log, Gathered}

-- what it holds, wherever the records are
abbrev pub looked_at : Place → LogContent
looked_at (Log log) = log.now
looked_at (Gathered gathered) = gathered.now
