-- The error conditions of a call: at most one of them holds (own).
use Rattle.std.specs.Prelude.{◌≡◌, ◌≢◌}
use Rattle.page.specs.declared.fault.Fault.{Fault}
use Rattle.page.specs.declared.fault.Fault.TheVariants.{NoResource}

-- no two error conditions hold, a lack of memory aside
abbrev pub HasOneCause : (Fault → Type 0) → Type 0
HasOneCause Cause = (first second : Fault) → (first ≢ NoResource) → (second ≢ NoResource) → Cause first → Cause second → first ≡ second

-- none holds, a lack of memory aside
abbrev pub HasNoCause : (Fault → Type 0) → Type 0
HasNoCause Cause = (fault : Fault) → Cause fault → fault ≡ NoResource
