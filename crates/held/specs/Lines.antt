-- The line that tells what came of a sheet.
use Rattle.std.specs.Prelude.{ℕ, List, ◌∷◌, ◌++◌, Ok, Err, codes, decimal, Result}
use Rattle.std.specs.List.{flat_map}
use Rattle.sheet.specs.declared.faults.Denial.{Denial}
use Rattle.sheet.specs.Denials.{denial_line}

-- a kind after a space
abbrev pub spaced : ℕ → List ℕ
spaced kind = 32 ∷ decimal kind

-- `words` and the kinds of the sheet's words, or the denial's line
abbrev pub told_line : Result (List ℕ) Denial → List ℕ
told_line (Ok kinds) = codes "words" ++ flat_map spaced kinds
told_line (Err denial) = denial_line denial
