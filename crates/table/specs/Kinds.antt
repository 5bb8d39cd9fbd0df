-- Sets of kinds as numbers.
use Rattle.std.specs.Prelude.{ℕ, Bool, ◌==◌}
use Rattle.std.specs.Int.{bit_at}

-- bit k of the number
abbrev pub bit : ℕ → ℕ → Bool
bit number k = bit_at number k == 1

-- whether kind k is in the set that the number writes
abbrev pub has : ℕ → ℕ → Bool
has = bit
