-- The bits of numbers.
use Rattle.std.proofs.Common.{◌≡◌, ℕ, ◌*◌, ◌-◌, ◌%◌, ◌^◌, ◌<◌, ◌≤◌, true, false, not, ◌&&◌, ◌||◌, eqb, ltb, ⊎_elim, refl, arith}
use lib.Bits.{bit_and, bit_or, bit_xor}
use Rattle.std.proofs.lemmas.Bool.{both_ways, cases_lt}
use Rattle.std.proofs.lemmas.Bool.Decides.{nat_tests}
use Rattle.std.proofs.lemmas.Nat.{one_shl}
use Rattle.std.proofs.lemmas.Nat.Bits.{bit_at-zero, bit_at_above, bit_at_ones, bit_at_ones_above, bit_at_or, bit_at_and, bit_at_xor, bit_at-pow_same, bit_at-pow_other, bit_at-lt}
use Rattle.table.specs.Kinds.{bit}

-- a number below 2 ^ w has no bit from w on
pub bit_past : (a w k : ℕ) → a < 2 ^ w → w ≤ k → bit a k ≡ false
bit_past a w k fits past = let none = bit_at_above a w k fits past in grind (arith, nat_tests)

pub bit_within : (a w k : ℕ) → a < 2 ^ w → bit a k ≡ true → k < w
bit_within a w k fits set = ⊎_elim (λ low. low) (λ past. absurd (both_ways (bit a k) (bit_past a w k fits past) set)) (cases_lt k w)

-- where bit j is set, turning it over takes it away
pub bit_without : (a j k : ℕ) → bit a j ≡ true → bit (bit_xor a (2 ^ j)) k ≡ (not (eqb k j) && bit a k)
bit_without a j k set =
    let same = bit_at-pow_same j in
    let other = bit_at-pow_other j k in
    let below = bit_at-lt a k in
    rw bit_at_xor (grind (arith, nat_tests))

-- the same of numbers of 64 bits, as code asks and writes it
pub word_past : (a k : ℕ) → a < 2 ^ 64 → 64 ≤ k → bit a k ≡ ltb k 64
word_past a k fits past = let none = bit_past a 64 k fits past in grind (arith, nat_tests)

pub word_within : (a k : ℕ) → a < 2 ^ 64 → bit a k ≡ true → k < 64
word_within a = bit_within a 64

pub word_without : (a j k : ℕ) → j < 64 → bit a j ≡ true → bit (bit_xor a (1 * 2 ^ j % 2 ^ 64)) k ≡ (not (eqb k j) && bit a k)
word_without a j k low set = rw (one_shl j 64 low) (bit_without a j k set)

pub bit_full : (k : ℕ) → bit (2 ^ 64 - 1) k ≡ ltb k 64
bit_full k =
    let low = bit_at_ones 64 k in
    let past = bit_at_ones_above 64 k in
    grind (arith, nat_tests)

pub bit_zero : (k : ℕ) → bit 0 k ≡ false
bit_zero k = rw bit_at-zero refl

-- the number with bit j alone
pub bit_power : (j k : ℕ) → bit (2 ^ j) k ≡ eqb j k
bit_power j k =
    let same = bit_at-pow_same j in
    let other = bit_at-pow_other j k in
    grind (arith, nat_tests)

pub bit_shl : (j k : ℕ) → j < 64 → bit (1 * 2 ^ j % 2 ^ 64) k ≡ eqb j k
bit_shl j k low = rw (one_shl j 64 low) (bit_power j k)

pub bit_of_or : (a b k : ℕ) → bit (bit_or a b) k ≡ (bit a k || bit b k)
bit_of_or a b k =
    let left = bit_at-lt a k in
    let right = bit_at-lt b k in
    rw bit_at_or (grind (arith, nat_tests))

pub bit_of_and : (a b k : ℕ) → bit (bit_and a b) k ≡ (bit a k && bit b k)
bit_of_and a b k =
    let left = bit_at-lt a k in
    let right = bit_at-lt b k in
    rw bit_at_and (grind (arith, nat_tests))
