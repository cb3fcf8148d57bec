-- How many digits a number has.
use Rattle.std.proofs.Common.{ℕ, ◌≡◌, ◌+◌, ◌/◌, ◌^◌, ◌<◌, ◌≤◌, length, ap, ◌∙◌, arith, length-append}
use Rattle.std.proofs.lemmas.Fmt.{decimal_digit, decimal_step, length-decimal-le}
use Rattle.std.specs.Fmt.{decimal}

pub one : (n : ℕ) → n < 10 → length (decimal n) ≡ 1
one n h = ap length (decimal_digit n h)

more : (n : ℕ) → 10 ≤ n → n < 2 ^ 64 → length (decimal n) ≡ length (decimal (n / 10)) + 1
more n lo hi = ap length (decimal_step n lo hi) ∙ length-append _ _

pub two : (n : ℕ) → 10 ≤ n → n < 100 → length (decimal n) ≡ 2
two n lo hi = omega (arith, more n lo (omega arith), one (n / 10) (omega arith))

pub three : (n : ℕ) → 100 ≤ n → n < 1000 → length (decimal n) ≡ 3
three n lo hi = omega (arith, more n (omega arith) (omega arith), two (n / 10) (omega arith) (omega arith))

pub four : (n : ℕ) → 1000 ≤ n → n < 10000 → length (decimal n) ≡ 4
four n lo hi = omega (arith, more n (omega arith) (omega arith), three (n / 10) (omega arith) (omega arith))

pub four_more : (n : ℕ) → 10000 ≤ n → n < 2 ^ 64 → length (decimal n) ≡ length (decimal (n / 10000)) + 4
four_more n lo hi =
    let same : n / 10 / 10 / 10 / 10 ≡ n / 10000 = omega arith in
    omega (arith, more n (omega arith) hi, more (n / 10) (omega arith) (omega arith), more (n / 10 / 10) (omega arith) (omega arith), more (n / 10 / 10 / 10) (omega arith) (omega arith), ap (λ m. length (decimal m)) same)

pub at_most : (n : ℕ) → n < 2 ^ 64 → length (decimal n) ≤ 20
at_most n h = length-decimal-le 20 n (omega arith) (omega arith) h
