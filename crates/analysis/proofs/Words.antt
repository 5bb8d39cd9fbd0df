-- Bits of words, as the code tests them.
use Rattle.std.proofs.Common.{◌≡◌, ℕ, ◌/◌, ◌^◌, true, sym, ap, ◌∙◌, arith}
use lib.Bits.{bit_and, bit_or}
use Rattle.std.proofs.lemmas.Nat.{and_mask, or_comm}
use Rattle.std.proofs.lemmas.Bool.{eqb-true, eq-eqb, or_left, false≢true}
use Rattle.table.specs.Kinds.{bit}
use Rattle.table.proofs.Bits.{bit_of_or, bit_zero}
use Rattle.sets.proofs.Bits.{bits_below}

-- the test `n >> k & 1 == 1`
pub bit_taken : (n k : ℕ) → bit_and (n / 2 ^ k) 1 ≡ 1 → bit n k ≡ true
bit_taken n k e = eq-eqb _ 1 (sym (and_mask (n / 2 ^ k) 1) ∙ e)

pub bit_left : (n k : ℕ) → (bit_and (n / 2 ^ k) 1 ≡ 1 → ⊥) → bit n k ≡ true → ⊥
bit_left n k ne set = ne (and_mask (n / 2 ^ k) 1 ∙ eqb-true _ 1 set)

-- two words that are empty when joined
pub both_none : (a b : ℕ) → bit_or a b ≡ 0 → (a ≡ 0) × (b ≡ 0)
both_none a b e = (first a b e, first b a (or_comm b a ∙ e))
  where
    first : (x y : ℕ) → bit_or x y ≡ 0 → x ≡ 0
    first x y none =
        let small = bits_below 0 x
        (λ k set. absurd (false≢true (sym (bit_zero k) ∙ ap (λ w. bit w k) (sym none) ∙ bit_of_or x y k ∙ or_left _ _ set))) in
        omega arith
