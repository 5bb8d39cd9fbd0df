-- Bits of numbers, and of the words of a list.
use Rattle.std.proofs.Common.{◌≡◌, ℕ, zero, suc, ◌+◌, ◌/◌, ◌%◌, ◌^◌, ◌<◌, ◌≤◌, true, ◌&&◌, ◌||◌, eqb, List, length, get_or, set, sym, ap, ◌∙◌, ap₂, ⊎_elim, one-add, arith, get_or-set_other, get_or-set_same}
use mathlib.Core.Bool.{or-false}
use lib.Bits.{bit_or}
use Rattle.std.proofs.lemmas.Nat.{pow-add, shr-shr}
use Rattle.std.proofs.lemmas.Bool.{cases_eq, eq-eqb, ne_eqb}
use Rattle.std.proofs.lemmas.Bool.Decides.{nat_tests}
use Rattle.table.specs.Kinds.{bit}
use Rattle.table.proofs.Bits.{bit_of_or}

bit_half : (n k : ℕ) → bit (n / 2) k ≡ bit n (suc k)
bit_half n k =
    let e : 1 + k ≡ suc k = omega arith in
    ap (λ m. eqb (m % 2) 1) (shr-shr n 1 k) ∙ ap (λ m. bit n m) e

-- a number is not below one whose bits it has
pub bits_le : (n a b : ℕ) → a < 2 ^ n → ((k : ℕ) → bit a k ≡ true → bit b k ≡ true) → a ≤ b
bits_le zero a b h within = omega arith
bits_le (suc n) a b h within =
    let half : a / 2 < 2 ^ n = omega (arith, pow-add 2 1 n, one-add n) in
    let rest : a / 2 ≤ b / 2 = bits_le n (a / 2) (b / 2) half (λ k e. bit_half b k ∙ within (suc k) (sym (bit_half a k) ∙ e)) in
    let low : eqb (a / 1 % 2) 1 ≡ true → eqb (b / 1 % 2) 1 ≡ true = within 0 in
    grind (arith, nat_tests)

pub below_power : (a : ℕ) → a < 2 ^ a
below_power zero = omega arith
below_power (suc a) = let h = below_power a in omega (arith, pow-add 2 1 a, one-add a)

-- a number whose bits are below m is below the power
pub bits_below : (m a : ℕ) → ((k : ℕ) → bit a k ≡ true → k < m) → a < 2 ^ m
bits_below zero a below =
    let none : a ≤ 0 = bits_le a a 0 (below_power a) (λ k e. let h = below k e in let no : ⊥ = omega arith in absurd no) in omega arith
bits_below (suc m) a below =
    let half : a / 2 < 2 ^ m = bits_below m (a / 2) (λ k e. let h = below (suc k) (sym (bit_half a k) ∙ e) in omega arith) in
    omega (arith, pow-add 2 1 m, one-add m)

-- the words with more put into the one at b
pub bit_joined : (ws : List ℕ) (b more a k : ℕ) → b < length ws
    → bit (get_or (set ws b (bit_or (get_or ws b 0) more)) a 0) k ≡ (bit (get_or ws a 0) k || (eqb b a && bit more k))
bit_joined ws b more a k h = ⊎_elim same other (cases_eq b a)
  where
    same : b ≡ a → bit (get_or (set ws b (bit_or (get_or ws b 0) more)) a 0) k ≡ (bit (get_or ws a 0) k || (eqb b a && bit more k))
    same e =
        ap (λ n. bit (get_or (set ws b (bit_or (get_or ws b 0) more)) n 0) k) (sym e)
        ∙ ap (λ n. bit n k) (get_or-set_same ws b (bit_or (get_or ws b 0) more) 0 h) ∙ bit_of_or (get_or ws b 0) more k
        ∙ ap₂ ◌||◌ (ap (λ n. bit (get_or ws n 0) k) e) (ap (λ t. t && bit more k) (sym (eq-eqb b a e)))

    other : (b ≡ a → ⊥) → bit (get_or (set ws b (bit_or (get_or ws b 0) more)) a 0) k ≡ (bit (get_or ws a 0) k || (eqb b a && bit more k))
    other ne =
        ap (λ n. bit n k) (get_or-set_other ws b a (bit_or (get_or ws b 0) more) 0 (λ e. ne (sym e)))
        ∙ sym (or-false (bit (get_or ws a 0) k)) ∙ ap (λ t. bit (get_or ws a 0) k || (t && bit more k)) (sym (ne_eqb b a ne))
