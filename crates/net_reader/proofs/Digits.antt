-- Numbers that are read digit by digit, of 18 digits at most.
use Rattle.std.proofs.Common.{◌≡◌, ℕ, ◌+◌, ◌-◌, ◌*◌, ◌^◌, ◌%◌, ◌<◌, ◌≤◌, true, fold, take, List, length, get_or, arith}
use Rattle.std.proofs.Math.Nat.{pow-le-pow_right}
use Rattle.std.proofs.lemmas.Bool.Decides.{nat_tests}
use Rattle.std.proofs.lemmas.Grind.{pow_more}
use Rattle.std.proofs.lemmas.List.Folds.{list_all_more}
use Rattle.std.proofs.lemmas.List.Sums.{fold_more}
use Rattle.std.specs.Char.{is_ascii_digit}
use Rattle.std.specs.List.{list_all}
use Rattle.net_reader.specs.declared.line.Open.TheVariants.{Number}
use Rattle.net_reader.specs.Steps.{is_plain, more, more_digits}

pub below-most : (value taken : ℕ) → value < 10 ^ taken → taken < 18 → value < 100000000000000000
below-most value taken small few = grind (arith, pow-le-pow_right)

-- a byte from which 48 are taken without a test for less is a digit where at most 9 are left
pub wrapped : (b : ℕ) {base : ℕ} → b < 18446744073709551616 → base ≡ 48
    → (b + (18446744073709551616 - base)) % 18446744073709551616 ≤ 9
    → (is_ascii_digit b ≡ true) × ((b + (18446744073709551616 - base)) % 18446744073709551616 ≡ b - 48)
wrapped b fits is few = grind arith

pub still-small : (value taken digit : ℕ) → value < 10 ^ taken → digit < 10
    → 10 * value + digit < 10 ^ (taken + 1)
still-small value taken digit small few =
    let rise : 10 ^ (taken + 1) ≡ 10 ^ taken * 10 = pow_more 10 taken in omega (arith, small, few, rise)

pub plain-more : (xs : List ℕ) (i : ℕ) → i < length xs → is_ascii_digit (get_or xs i 0) ≡ true
    → list_all is_plain (take i xs) ≡ true → list_all is_plain (take (i + 1) xs) ≡ true
plain-more xs i within digit plain = grind (arith, nat_tests, list_all_more is_plain xs i 0 within)

digit-read : (count value b : ℕ) → is_ascii_digit b ≡ true → count < 18 → value < 100000000000000000
    → Number (count + 1) (10 * value + (b - 48)) ≡ more (Number count value) b
unfolding more more_digits
digit-read count value b digit few small = grind (arith, nat_tests)

pub read-more : (xs : List ℕ) {count value : ℕ} → count < length xs → is_ascii_digit (get_or xs count 0) ≡ true
    → count < 18 → value < 100000000000000000 → Number count value ≡ fold more (Number 0 0) (take count xs)
    → Number (count + 1) (10 * value + (get_or xs count 0 - 48)) ≡ fold more (Number 0 0) (take (count + 1) xs)
read-more xs {count} {value} within digit few small read = grind (arith, digit-read, fold_more)
