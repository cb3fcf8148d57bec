-- The bytes of a log that were read, in one part or in two (own).
use Rattle.std.specs.Prelude.{◌≡◌, ℕ, ◌≤◌, List, [], ◌++◌, ◌-◌, length, drop, take, Option}
use Rattle.std.specs.Io.KnownBytes.{Consumes}
use Rattle.wal.specs.declared.sizes.TheConstants.{LONGEST_FRAME}
use Rattle.wal.specs.Reads.{Cause}
use Rattle.wal.specs.Stretches.{BeginsLog}
use Rattle.recovery.specs.declared.log_text.LogText.{LogText}
use Rattle.recovery.specs.declared.log_text.Known.{Known}
use Rattle.recovery.specs.declared.log_text.Known.TheVariants.{Nothing, Front, Fault}

-- all of them
abbrev pub text_of : LogText → List ℕ
text_of text = text.front.items ++ drop text.from text.back.items

-- without a torn tail of this many bytes
abbrev pub kept_of : LogText → (torn : ℕ) → List ℕ
kept_of text torn = take (length (text_of text) - torn) (text_of text)

-- all that a source had left came after the first of these bytes
pub record CameAfter {D : Type 0} (left : D → Option (List ℕ)) (old new : D) (first : ℕ) (bytes : List ℕ) : Type 0 where
  pub read : Consumes (left old) (left new) (drop first bytes)
  pub within : first ≤ length bytes

-- all that it had left came after room for a frame
abbrev pub CameLast : {D : Type 0} → (left : D → Option (List ℕ)) → (old new : D) → (bytes : List ℕ) → Type 0
CameLast left old new bytes = CameAfter left old new LONGEST_FRAME bytes

-- what follows the frames of a front, which end at `end`, and then the bytes of the back after its room for a frame
abbrev pub rest_of : (end : ℕ) → (front back : List ℕ) → List ℕ
rest_of end front back = drop end front ++ drop LONGEST_FRAME back

-- what is known of them holds
abbrev pub IsKnown : LogText → Known → Type 0
IsKnown text Nothing = drop text.from text.back.items ≡ []
IsKnown text (Front first) = BeginsLog text.front.items first × (first.end ≡ length text.front.items)
IsKnown text (Fault e) = Cause (text_of text) e

pub record IsLogText (text : LogText) (known : Known) : Type 0 where
  pub within : text.from ≤ length text.back.items
  pub is : IsKnown text known
