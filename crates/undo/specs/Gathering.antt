-- The records that undo looks at, while they are gathered: a log is read in pieces, from its end to its beginning (own).
use Rattle.std.specs.Prelude.{◌≡◌, ◌⊎◌, ℕ, ◌+◌, ◌<◌, List, ◌∷◌, Contains, IsPermutation, Some}
use Rattle.log_laws.specs.Records.{History, TableEntry, LogContent, history, base_lsn, last_lsn, record_at}
use Rattle.log_laws.specs.Undo.{entry_for}
use Rattle.tables.specs.Pieces.{IsPieceOf}
use Rattle.undo.specs.declared.want.Want.{Want}
use Rattle.undo.specs.Enough.{IsFound, AreGathered, sends}
use Rattle.undo.specs.Gathered.{IsPassedOver}
use Rattle.undo.specs.Wants.{wants_in, WantUpTo}
use Rattle.undo.specs.declared.gathering.Gathering.{Gathering}

-- the walk of a transaction continues at this LSN
abbrev pub ContinuesAt : List Want → (t lsn : ℕ) → Type 0
ContinuesAt waiting t lsn = Contains waiting (record { lsn = lsn; tx = t })

-- one more continues at an LSN, if that is below the record that sends it there
abbrev pub MayWant : (t from lsn : ℕ) → (old new : List Want) → Type 0
MayWant t from lsn old new = (new ≡ old × ((lsn < from → ⊥) ⊎ (lsn ≡ 0))) ⊎ IsPermutation (record { lsn = lsn; tx = t } ∷ old) new

-- What is kept is in the whole log, and all that the walks of the losers come to is found, or wanted.
pub record AreGatheredSoFar (whole some : History) (losers : List TableEntry) (waiting : List Want) : Type 0 where
  pub base : base_lsn some ≡ base_lsn whole
  pub last : last_lsn some ≡ last_lsn whole
  pub each : (lsn : ℕ) → (record_at some lsn ≡ record_at whole lsn) ⊎ IsPassedOver (record_at some lsn)
  pub begin : (t : ℕ) (e : TableEntry) → entry_for t losers ≡ Some e → IsFound whole some t e.undo_next ⊎ ContinuesAt waiting t e.undo_next
  pub go_on : (t lsn next : ℕ) (e : TableEntry) → entry_for t losers ≡ Some e → sends t (record_at some lsn) ≡ Some next → next < lsn
      → IsFound whole some t next ⊎ ContinuesAt waiting t next

-- A GATHERING IN PROGRESS
-- where its walks continue
abbrev pub wants_of : Gathering → List Want
wants_of g = wants_in g.wants

-- what it keeps is in the whole log, and what it does not keep yet is found, or wanted
abbrev pub IsGathering : History → List TableEntry → Gathering → Type 0
IsGathering whole losers g = AreGatheredSoFar whole (history g.gathered) losers (wants_of g)

-- it begins so, for each log with this base LSN and this many records
abbrev pub BeginsGathering : (base count : ℕ) → List TableEntry → Gathering → Type 0
BeginsGathering base count losers g = (whole : History) → base_lsn whole ≡ base → last_lsn whole ≡ base + count → IsGathering whole losers g

-- the record at the LSN of a want is gathered from a piece, if the piece has there what the whole log has
abbrev pub GathersAt : (piece : History) → Want → (old new : Gathering) → Type 0
GathersAt piece want old new = (whole : History) (losers : List TableEntry) → record_at piece want.lsn ≡ record_at whole want.lsn
    → AreGatheredSoFar whole (history old.gathered) losers (want ∷ wants_of old) → IsGathering whole losers new

-- a piece of the whole log is gathered, if no walk continues after it
abbrev pub GathersPiece : (piece : History) → (old new : Gathering) → Type 0
GathersPiece piece old new = (whole : History) (losers : List TableEntry) → IsPieceOf whole piece → WantUpTo (last_lsn piece) (wants_of old)
    → IsGathering whole losers old → IsGathering whole losers new

-- what it keeps is enough of the whole log, if no walk continues in it
abbrev pub EndsGathering : Gathering → (gathered : LogContent) → Type 0
EndsGathering g gathered = (whole : History) (losers : List TableEntry) → IsGathering whole losers g → WantUpTo (base_lsn whole) (wants_of g)
    → AreGathered whole (history gathered) losers
