-- What undo looks at, gathered from the log of a device piece after piece (own).
use Rattle.std.specs.Prelude.{ℕ, List, Option}
use Rattle.log_laws.specs.Records.{LogContent, TableEntry, history}
use Rattle.tables.specs.Tables.{TablesContent, losers_in}
use Rattle.undo.specs.Enough.{AreGathered}
use Rattle.undo.specs.Gathering.{IsGathering}
use Rattle.undo.specs.Wants.{WantUpTo, wants_in}
use Rattle.undo.specs.declared.gathering.Gathering.{Gathering}
use Rattle.pieces.specs.declared.mark.Mark.{Mark}
use Rattle.passes.specs.Calls.{ForLogAt, ForMarked}

-- the piece after a mark is gathered, if it reaches all that is still wanted
abbrev pub Gathers : (held : Option (List ℕ)) → Mark → (upto : ℕ) → (old new : Gathering) → Type 0
Gathers held mark upto old new = ForLogAt held mark (λ whole. (losers : List TableEntry) → WantUpTo upto (wants_in old.wants)
    → IsGathering (history whole) losers old → IsGathering (history whole) losers new)

-- what is gathered is enough for undo of the losers in these tables
abbrev pub AreGatheredFor : (held : Option (List ℕ)) → List Mark → TablesContent → (gathered : LogContent) → Type 0
AreGatheredFor held marks tables gathered = ForMarked held marks (λ whole. AreGathered (history whole) (history gathered) (losers_in tables))
