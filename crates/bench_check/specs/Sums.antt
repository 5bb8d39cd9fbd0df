-- A domain of 64 classes whose test n says yes where two classes add up to n - 1.
use Rattle.std.specs.Prelude.{ℕ, ◌+◌, ◌%◌, true, ◌||◌, None, ◌==◌}
use Rattle.std.proofs.Common.{rules}
use Rattle.domain.specs.Meaning.{Meaning, Lawful}

abbrev pub sums : Meaning ℕ
sums = record {
  classes = record { count = 64; test = λ number inherited word. (number == 0) || (inherited + word + 1 == number) };
  opening = 0;
  class = λ value. value % 64;
  rule = λ number first second. first;
  check = λ number first second. true;
  number = λ number. None;
}

pub sums_lawful : Lawful sums
sums_lawful = search rules
