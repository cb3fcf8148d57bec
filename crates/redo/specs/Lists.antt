-- Lists of lists, read by place (own).
use Rattle.std.specs.Prelude.{ℕ, List, [], Option, Some, None, Vec}
use Rattle.std.specs.declared.alloc.Global.{Global}
use Rattle.std.specs.List.{slice_get}

-- the items of a vector, none if there is no vector
abbrev pub items_of : {X : Type 0} → Option (Vec X Global) → List X
items_of None = []
items_of (Some v) = v.items

-- the list at a place, empty past the end
abbrev pub list_at : {X : Type 0} → List (Vec X Global) → ℕ → List X
list_at lists k = items_of (slice_get lists k)
