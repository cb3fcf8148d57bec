use Rattle.std.proofs.Common.{◌≡◌, ◌≤◌, ◌-◌, ◌++◌, ℕ, List, length, take, drop, replicate, arith, ap, ◌∙◌}
use Rattle.std.proofs.lemmas.List.{take_at, drop-replicate}
use Rattle.page.proofs.value.Value.new.Goals as goal
use Rattle.page.specs.declared.profile.TheConstants.{VALUE_BYTES}

padded : (x : List ℕ) (n : ℕ) → n ≤ VALUE_BYTES → length x ≡ n → x ++ drop n (replicate VALUE_BYTES 0) ≡ take n (x ++ drop n (replicate VALUE_BYTES 0)) ++ replicate (VALUE_BYTES - n) 0
padded x n h e = rw (take_at x (drop n (replicate VALUE_BYTES 0)) n e, drop-replicate {X = ℕ} n VALUE_BYTES 0)

front : (x : List ℕ) (n : ℕ) → length x ≡ n → length (take n (x ++ drop n (replicate VALUE_BYTES 0))) ≡ n
front x n e = ap length (take_at x (drop n (replicate VALUE_BYTES 0)) n e) ∙ e

pub invariant_of-result : goal.invariant_of-result
invariant_of-result c =
    let n = length c.args.bytes.now in
    let h : n ≤ VALUE_BYTES = omega arith in
    let e : length c.copy_from_slice.new.self ≡ n = ap length c.copy_from_slice.ensures.after in
    (h, front c.copy_from_slice.new.self n e, padded c.copy_from_slice.new.self n h e)
