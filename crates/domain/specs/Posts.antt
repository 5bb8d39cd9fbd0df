-- Sets of charging posts.
use Rattle.std.specs.Prelude.{ℕ, ◌%◌, ◌^◌, Bool, true, false, cond, not, ◌&&◌, Some, None, ◌==◌, bit_and, bit_or, bit_xor, nat_eq, nat_lt}
use Rattle.std.proofs.Common.{lit<}
use Rattle.std.proofs.lemmas.Nat.{mod_below}
use Rattle.domain.specs.declared.posts.PostSet.{PostSet}
use Rattle.domain.specs.Choose.{◌is◌then◌else◌}
use Rattle.domain.specs.Meaning.{Meaning}

-- the set that a number writes: bit b stands for post b + 1, and bits beyond the six posts for none
abbrev pub written : ℕ → PostSet
written number = record { bits = number % 64; six = mod_below number 64 (lit< tt) }

-- sets as their numbers: no post is in both; each post of the first is in the second
abbrev pub no_common : ℕ → ℕ → Bool
no_common first second = bit_and first second == 0

abbrev pub lies_within : ℕ → ℕ → Bool
lies_within first second = bit_and first second == first

abbrev pub posts_rule : ℕ → PostSet → PostSet → PostSet
posts_rule number first second =
    number is 1 then second else
    number is 2 then written (bit_or first.bits second.bits) else
    number is 3 then written (bit_and first.bits (bit_xor second.bits 63)) else first

abbrev pub posts_check : ℕ → PostSet → PostSet → Bool
posts_check number first second =
    number is 0 then true else
    number is 1 then lies_within first.bits second.bits else
    number is 2 then nat_eq first.bits second.bits else
    number is 3 then no_common first.bits second.bits else false

-- a class is read as a set
abbrev pub posts_test : ℕ → ℕ → ℕ → ℕ → Bool
posts_test classes number inherited word =
    number is 0 then true else
    (nat_lt inherited classes && nat_lt word classes && (
    number is 1 then no_common inherited word else
    number is 2 then not (no_common inherited word) else
    number is 3 then (inherited == word) else false))

abbrev pub posts : ℕ → Meaning PostSet
posts count = record {
  classes = record { count = 2 ^ count; test = posts_test (2 ^ count) };
  opening = written 0;
  class = λ value. value.bits % 2 ^ count;
  rule = posts_rule;
  check = posts_check;
  number = λ number. cond (nat_lt number (2 ^ count)) (Some (written number)) None;
}
