-- A pass over the log that a device holds, piece after piece.
use Rattle.std.proofs.Common.{◌≡◌, ℕ, List, Option, Some, subst, sym, inl, inr}
use Rattle.page.specs.declared.fault.Fault.{Fault}
use Rattle.page.specs.declared.fault.Fault.TheVariants.{NoResource}
use Rattle.log_laws.specs.Records.{LogContent, history, last_lsn}
use Rattle.wal.specs.Reads.{Reads}
use Rattle.pieces.specs.declared.mark.Mark.{Mark}
use Rattle.pieces.specs.Pieces.{IsMark}
use Rattle.passes.specs.declared.fault.PassFault.{PassFault}
use Rattle.passes.specs.declared.fault.PassFault.TheVariants as fault
use Rattle.passes.specs.declared.pass.Pass.{Ghosts as Pass}
use Rattle.passes.specs.Marks.{LogCause}
use Rattle.passes.specs.Passes.{Stops, StopsFirst}

module _ {P : Type 0} (pass : Pass P) where
  -- SO FAR it has taken what is between the first mark and this one
  abbrev pub HasTaken : (held : Option (List ℕ)) → (from : Mark) → (end : ℕ) → (old now : P) → Mark → Type 0
  HasTaken held from end old now mark =
      (text : List ℕ) (whole before : LogContent) (torn : ℕ) → held ≡ Some text → Reads text whole torn → end ≡ last_lsn (history whole) → IsMark text before from
      → (between : LogContent) × IsMark text between mark × pass.passes old now whole before between

  -- what is true of a failed device and of each fault of the pass is true of what stops it
  pub stops_as : (old : P) (whole before : LogContent) (Q : PassFault → Type 0) → Q fault.Failed → ((e : Fault) → pass.stops old whole before e → Q (fault.Fault e)) → (e : PassFault) → Stops pass old whole before e → Q e
  stops_as old whole before Q failed own fault.Failed stops = failed
  stops_as old whole before Q failed own (fault.Fault e) stops = own e stops

  -- one after some pieces is one of the whole pass
  pub stops_on : ((old now : P) (whole before between : LogContent) (e : Fault) → pass.passes old now whole before between → pass.stops now whole between e → pass.stops old whole before e)
      → (old now : P) (whole before between : LogContent) (e : PassFault) → pass.passes old now whole before between → Stops pass now whole between e → Stops pass old whole before e
  stops_on later old now whole before between fault.Failed passed stops = tt
  stops_on later old now whole before between (fault.Fault e) passed stops = later old now whole before between e passed stops

  -- and if only a lack of memory stops the pass, there is no other
  pub log_from_first : ((e : Fault) → pass.may_stop e → e ≡ NoResource) → (text : List ℕ) (e : PassFault) → StopsFirst pass text e → LogCause text e
  log_from_first alone text fault.Failed stops = tt
  log_from_first alone text (fault.Fault e) (inl cause) = cause
  log_from_first alone text (fault.Fault e) (inr own) = subst (λ x. LogCause text (fault.Fault x)) (sym (alone e own)) tt
