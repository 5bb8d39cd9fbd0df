-- The lines that tell the verdict on a table, and its sets.
use Rattle.std.specs.Prelude.{ℕ, zero, suc, Bool, cond, List, [], ◌++◌, Ok, Err, codes, decimal, Result, ◌==◌}
use Rattle.analysis.specs.declared.faults.CheckFault.{CheckFault}
use Rattle.analysis.specs.declared.faults.CheckFault.TheVariants.{ManyClasses, TwoClash}
use Rattle.sets.specs.Rules.{Family}
use Rattle.sets.specs.Sets.{end_mark}

-- `passes`, `clash` and the five numbers, or `classes` and their count
abbrev pub verdict_line : Result (Unit {0}) CheckFault → List ℕ
verdict_line (Ok passes) = codes "passes"
verdict_line (Err (TwoClash c)) =
    codes "clash " ++ (decimal c.a ++ (codes " " ++ (decimal c.b ++ (codes " " ++ (decimal c.kind ++ (codes " " ++ (decimal c.inherited ++ (codes " " ++ decimal c.word))))))))
verdict_line (Err (ManyClasses classes)) = codes "classes " ++ decimal classes

-- a kind by its number, and the end mark by its name
abbrev pub kind_name : ℕ → List ℕ
kind_name k = cond (k == end_mark) (codes "end") (decimal k)

-- a kind of the set after a space; nothing where it is not in the set
abbrev pub kind_text : (ℕ → Bool) → ℕ → List ℕ
kind_text set k = cond (set k) (codes " " ++ kind_name k) []

-- the kinds of a set below a bound, in order
unfoldable pub kinds_text : (ℕ → Bool) → ℕ → List ℕ
kinds_text set zero = []
kinds_text set (suc k) = kinds_text set k ++ kind_text set k

-- whether a nonterminal can be empty, and its First and Follow sets
abbrev pub nonterminal_line : Family → ℕ → List ℕ
nonterminal_line sets a =
    codes "nonterminal " ++ (decimal a ++ (cond (sets.empty a) (codes " can be empty,") [] ++ (codes " first" ++ (kinds_text (sets.first a) 64 ++ (codes ", follow" ++ kinds_text (sets.follow a) 64)))))

-- a production's Predict set
abbrev pub production_line : (ℕ → Bool) → ℕ → List ℕ
production_line set n = codes "production " ++ (decimal n ++ (codes " predict" ++ kinds_text set 64))
