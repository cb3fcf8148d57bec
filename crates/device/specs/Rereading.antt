-- How far a device was read without a gap, after a call that read it, by its ghost members (own).
use Rattle.std.specs.Prelude.{ℕ, List, IfOk, Result}
use Rattle.std.specs.declared.option.Option.{Option}
use Rattle.device.specs.Reread.{IsReadThrough, ReachesTo, ReachGrows, ReachJoins}

-- no less far than before
abbrev pub StaysRead : {D : Type 0} → (text : D → Option (List ℕ)) → (read_to : D → ℕ) → (old new : D) → Type 0
StaysRead text read_to old new = ReachGrows (text old) (read_to old) (read_to new)

-- to the end of what was read from an offset on, if that was no gap
abbrev pub ReadsOn : {D E : Type 0} → (text : D → Option (List ℕ)) → (read_to : D → ℕ) → (old new : D) → (offset : ℕ) → Result ℕ E → Type 0
ReadsOn text read_to old new offset result = IfOk result (ReachJoins (text old) (read_to old) (read_to new) offset)

-- to its end, if it was read up to an offset
abbrev pub ReadsRest : {D : Type 0} → (text : D → Option (List ℕ)) → (read_to : D → ℕ) → (old new : D) → (offset : ℕ) → Type 0
ReadsRest text read_to old new offset = ReachesTo (text old) offset (read_to old) → IsReadThrough (text old) (read_to new)
