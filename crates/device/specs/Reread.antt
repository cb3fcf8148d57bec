-- What contracts know of a device whose bytes are read from an offset (own).
use Rattle.std.specs.Prelude.{◌≡◌, ℕ, List, ◌+◌, ◌≤◌, ◌⊎◌, length, take, drop, IfSome, IfOk, Result}
use Rattle.std.specs.declared.option.Option.{Option}

-- the first `count` bytes of a buffer are those that the device holds from the offset on
abbrev pub ReadsFrom : (text : Option (List ℕ)) → (offset count : ℕ) → (buffer : List ℕ) → Type 0
ReadsFrom text offset count buffer = IfSome text (λ held. take count buffer ≡ take count (drop offset held))

-- the device holds nothing at the offset or after it
abbrev pub EndsBy : (text : Option (List ℕ)) → (offset : ℕ) → Type 0
EndsBy text offset = IfSome text (λ held. length held ≤ offset)

-- HOW FAR the bytes of a device are read without a gap, if they are known, before and after a reading
-- as far as to an offset, at least
abbrev pub ReachesTo : (text : Option (List ℕ)) → (offset read_to : ℕ) → Type 0
ReachesTo text offset read_to = IfSome text (λ _. offset ≤ read_to)

-- no less far than before
abbrev pub ReachGrows : (text : Option (List ℕ)) → (before after : ℕ) → Type 0
ReachGrows text before after = ReachesTo text before after

-- to the end of what was read, if that began where they were read to, or before
abbrev pub ReachJoins : (text : Option (List ℕ)) → (before after offset count : ℕ) → Type 0
ReachJoins text before after offset count = IfSome text (λ _. offset ≤ before → offset + count ≤ after)

-- by one reading, and no further than to the end of what it read
pub record Reaches {E : Type 0} (text : Option (List ℕ)) (before after offset : ℕ) (result : Result ℕ E) : Type 0 where
  pub grows : ReachGrows text before after
  pub joins : IfOk result (ReachJoins text before after offset)
  pub given : IfSome text (λ _. (after ≡ before) ⊎ IfOk result (λ count. (offset ≤ before) × (after ≡ offset + count)))

-- all bytes of the device are read
abbrev pub IsReadThrough : (text : Option (List ℕ)) → (read_to : ℕ) → Type 0
IsReadThrough text read_to = EndsBy text read_to
