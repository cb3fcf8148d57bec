-- A log that is continued in place: what it holds, and what a fault leaves of it.
use Rattle.std.proofs.Common.{ℕ, ◌≡◌, List, ◌++◌, take, Option, Some, None, Ok, Err, ap, ◌∙◌}
use Rattle.std.specs.Prelude.{OnOk, OnErr, Result}
use Rattle.std.specs.Io.KnownBytes.{Appends, Keeps}
use Rattle.device.specs.Continued.{Cuts, Shortens}
use Rattle.device.specs.Transfer.{Flushes}
use Rattle.recovery.specs.InPlace.{HoldsContinued, IsFlushed}

-- cut, flushed, appended to, flushed
pub continues : (kept : ℕ) (frames : List ℕ) (a b c d e : Option (List ℕ)) → Cuts a b kept → Keeps b c → Appends c d frames → Keeps d e → HoldsContinued kept frames a e
continues kept frames None b c d e cut same more kept_too = tt
continues kept frames (Some held) None c d e cut same more kept_too = absurd cut
continues kept frames (Some held) (Some first) None d e cut same more kept_too = absurd same
continues kept frames (Some held) (Some first) (Some x) None e cut same more kept_too = absurd more
continues kept frames (Some held) (Some first) (Some x) (Some y) None cut same more kept_too = absurd kept_too
continues kept frames (Some held) (Some first) (Some x) (Some y) (Some z) cut same more kept_too =
    ap (λ (t : List ℕ). Some t) (kept_too ∙ more ∙ ap (λ (t : List ℕ). t ++ frames) (same ∙ cut))

-- what was flushed after the cut is kept to the last flush
pub all_flushed : (kept : ℕ) (a b c e f g h i j : Option (List ℕ)) → Cuts a b kept → Keeps b c → Shortens f g → Flushes g h c → Keeps h i → Flushes i j e → IsFlushed a e f j
all_flushed kept None b c e f g h i j cut same less one keeps two = tt
all_flushed kept (Some held) None c e f g h i j cut same less one keeps two = absurd cut
all_flushed kept (Some held) (Some first) None e f g h i j cut same less one keeps two = absurd same
all_flushed kept (Some held) (Some first) (Some x) e None g h i j cut same less one keeps two = tt
all_flushed kept (Some held) (Some first) (Some x) e (Some y) None h i j cut same less one keeps two = absurd (let none : None ≡ Some (take less.0 y) = less.1 in cc)
all_flushed kept (Some held) (Some first) (Some x) e (Some y) (Some z) None i j cut same less one keeps two = absurd (let none : None ≡ Some x = one in cc)
all_flushed kept (Some held) (Some first) (Some x) e (Some y) (Some z) (Some w) None j cut same less one keeps two = absurd keeps
all_flushed kept (Some held) (Some first) (Some x) e (Some y) (Some z) (Some w) (Some v) j cut same less one keeps two = two

pub on_ok : {T E : Type 0} {P Q : Type 0} (r : Result T E) → OnOk r P → (P → Q) → OnOk r Q
on_ok (Ok x) p f = f p
on_ok (Err e) p f = tt

pub on_err : {T E : Type 0} {P : Type 0} (r : Result T E) → P → OnErr r P
on_err (Ok x) p = tt
on_err (Err e) p = p
