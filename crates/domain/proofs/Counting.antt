-- Counts that are kept in 16 bits.
use Rattle.std.proofs.Common.{◌≡◌, ℕ, ◌+◌, ◌%◌, ◌≤◌, List, ◌∷◌, [], ◌++◌, length, leb, cond, arith}
use Rattle.std.specs.Prelude.{count_by, if◌then◌else◌}
use Rattle.std.proofs.lemmas.Bool.Decides.{nat_tests}
use Rattle.std.proofs.lemmas.List.Sums.{count_by-le-length, sum_by-append}

-- one element further
pub counted_more : (v a b x : ℕ) (ys : List ℕ) → a ≡ count_by (λ cut. leb cut v) ys % 65536 → b ≡ (a + (if leb x v then 1 else 0)) % 65536
    → b ≡ count_by (λ cut. leb cut v) (ys ++ x ∷ []) % 65536
counted_more v a b x ys before now =
    let more = sum_by-append (λ cut. cond (leb cut v) 1 0) ys (x ∷ []) in
    grind (arith, nat_tests)

-- a count of few elements is the count itself
pub counted_few : (v n : ℕ) (ys : List ℕ) → length ys ≤ 7 → n ≡ count_by (λ cut. leb cut v) ys % 65536 → n ≡ count_by (λ cut. leb cut v) ys
counted_few v n ys few e = let within = count_by-le-length (λ cut. leb cut v) ys in omega arith
