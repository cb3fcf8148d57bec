-- What a call returns, and its errors (own).
use Rattle.std.specs.Prelude.{◌≡◌, Result, Err, MatchResult}
use Rattle.page.specs.declared.fault.Fault.{Fault}
use Rattle.page.specs.declared.fault.Fault.TheVariants.{NoResource}

-- if this holds of an error, that error is returned
abbrev pub IsErrWhen : {A : Type 0} → Result A Fault → (Fault → Type 0) → Type 0
IsErrWhen result Cause = (e : Fault) → Cause e → result ≡ Err e

-- the call succeeds with a value of which this holds, unless memory is refused
abbrev pub UnlessMemory : {A : Type 0} → Result A Fault → (A → Type 0) → Type 0
UnlessMemory result Holds = MatchResult result Holds (λ e. e ≡ NoResource)
