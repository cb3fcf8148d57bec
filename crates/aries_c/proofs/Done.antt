-- What a call promises where it succeeds, of a call that succeeded.
use Rattle.std.proofs.Common.{◌≡◌, true}
use Rattle.std.specs.Prelude.{Result, Ok, Err, OnOk, is_ok}

pub at_ok : {T E P : Type 0} (r : Result T E) → is_ok r ≡ true → OnOk r P → P
at_ok (Ok x) is p = p
at_ok (Err e) is p = absurd (cc)
