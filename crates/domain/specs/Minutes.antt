-- Minutes up to a limit, told apart by cuts.
use Rattle.std.specs.Prelude.{ℕ, ◌+◌, ◌-◌, min, Bool, true, false, cond, not, ◌&&◌, ltb, leb, List, length, count_by, Some, None, ◌==◌, nat_eq, nat_le, nat_lt}
use Rattle.domain.specs.Choose.{◌is◌then◌else◌}
use Rattle.domain.specs.Meaning.{Meaning}

-- how many cuts lie at or below the value
abbrev pub cuts_within : List ℕ → ℕ → ℕ
cuts_within cuts value = count_by (λ cut. nat_le cut value) cuts

abbrev pub minutes_rule : ℕ → ℕ → ℕ → ℕ → ℕ
minutes_rule limit number first second =
    number is 1 then second else
    number is 2 then min (first + second) limit else
    number is 3 then first - second else first

abbrev pub minutes_check : ℕ → ℕ → ℕ → Bool
minutes_check number first second =
    number is 0 then true else
    number is 1 then leb first second else
    number is 2 then (first == second) else false

abbrev pub minutes_test : ℕ → ℕ → ℕ → ℕ → Bool
minutes_test classes number inherited word =
    number is 0 then true else
    (nat_lt inherited classes && nat_lt word classes && (
    number is 1 then nat_eq inherited word else
    number is 2 then not (inherited == word) else
    number is 3 then ltb inherited word else
    number is 4 then nat_le word inherited else false))

abbrev pub minutes : ℕ → List ℕ → Meaning ℕ
minutes limit cuts = record {
  classes = record { count = length cuts + 1; test = minutes_test (length cuts + 1) };
  opening = 0;
  class = cuts_within cuts;
  rule = minutes_rule limit;
  check = minutes_check;
  number = λ number. cond (nat_le number limit) (Some number) None;
}
