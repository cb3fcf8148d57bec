-- What contracts know of a device whose end is cut off (own).
use Rattle.std.specs.Prelude.{◌≡◌, ℕ, List, take, IfSome, Some, None, ⊤}
use Rattle.std.specs.declared.option.Option.{Option}

-- the device holds the first `count` of the bytes that it held
abbrev pub Cuts : (before after : Option (List ℕ)) → (count : ℕ) → Type 0
Cuts None after count = ⊤
Cuts (Some held) None count = ⊥
Cuts (Some held) (Some rest) count = rest ≡ take count held

-- the bytes that are flushed are a prefix of those that were
abbrev pub Shortens : (before after : Option (List ℕ)) → Type 0
Shortens before after = IfSome before (λ bytes. (count : ℕ) × (after ≡ Some (take count bytes)))
