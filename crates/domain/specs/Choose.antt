-- A choice by number, written as a list of cases.
use Rattle.std.specs.Prelude.{ℕ, cond, ◌==◌}

-- `n is k then x else y` is x where n is k, else y
infixr 20 ◌is◌then◌else◌
abbrev pub ◌is◌then◌else◌ : {X : Type 0} → ℕ → ℕ → X → X → X
n is k then x else y = cond (n == k) x y
