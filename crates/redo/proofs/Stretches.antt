-- Where the stretches of the workers begin and end.
use Rattle.std.proofs.Common.{◌≡◌, ℕ, ◌+◌, ◌-◌, ◌/◌, ◌%◌, ◌<◌, ◌≤◌, suc, cond, min, eqb, ap, ◌∙◌, ne_eqb, arith, max}
use Rattle.std.proofs.Math.Nat.{mul-add, mul-zero, mod-add-div', mul-le-mul_left}
use Rattle.std.proofs.lemmas.Bool.{cond_both}
use Rattle.redo.specs.Routes.{skipped, boundary}

pub boundary_first : (from len workers : ℕ) → boundary from len workers 0 ≡ from
boundary_first from len workers = let z = mul-zero ((len - from) / workers) in omega arith

pub boundary_last : (from len workers : ℕ) → from ≤ len → 0 < workers → boundary from len workers workers ≡ len
boundary_last from len workers le some =
    let whole = mod-add-div' (len - from) workers in
    let rest : (len - from) % workers < workers = omega arith in
    omega arith

pub boundary_next : (from len workers k : ℕ) → boundary from len workers k ≤ boundary from len workers (k + 1)
boundary_next from len workers k = let more = mul-add ((len - from) / workers) k 1 in omega arith

-- none ends after the log
pub boundary_within : (from len workers k : ℕ) → from ≤ len → 0 < workers → k ≤ workers → boundary from len workers k ≤ len
boundary_within from len workers k le some few =
    let last = boundary_last from len workers le some in
    let less = mul-le-mul_left ((len - from) / workers) few in
    omega arith

pub skipped_within : (base redo_lsn len : ℕ) → base ≤ len → skipped base redo_lsn len ≤ len
skipped_within base redo_lsn len le = cond_both (eqb redo_lsn 0) len (max base (min len (redo_lsn - 1))) (λ n. n ≤ len) (λ _. omega arith) (λ _. omega arith)

-- none begins before the log
pub skipped_from : (base redo_lsn len : ℕ) → base ≤ len → base ≤ skipped base redo_lsn len
skipped_from base redo_lsn len le = cond_both (eqb redo_lsn 0) len (max base (min len (redo_lsn - 1))) (λ n. base ≤ n) (λ _. omega arith) (λ _. omega arith)

pub skipped_some : (base n len : ℕ) → skipped base (suc n) len ≡ max base (min len n)
skipped_some base n len = ap (λ b. cond b len (max base (min len (suc n - 1)))) (ne_eqb (suc n) 0 (λ e. omega arith)) ∙ omega arith
