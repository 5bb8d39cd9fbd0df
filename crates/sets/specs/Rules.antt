-- The rules of the sets as tests on sets that are given, and what it means to be the smallest sets that meet them.
use Rattle.std.specs.Prelude.{◌≡◌, ℕ, Bool, true, false, ◌&&◌, ◌||◌, List, [], ◌∷◌, Decides, ◌==◌}
use Rattle.table.specs.declared.drafts.Item.{Item}
use Rattle.table.specs.declared.drafts.Item.TheVariants.{Kind, Nonterminal, Check}
use Rattle.table.specs.Grammar.{Production}
use Rattle.sets.specs.Sets.{At, Follow, CanBeEmpty, CanBegin, end_mark}

-- which nonterminals can be empty, and for each nonterminal its First and Follow sets
pub record Family : Type 0 where
  pub empty : ℕ → Bool
  pub first : ℕ → ℕ → Bool
  pub follow : ℕ → ℕ → Bool

-- the run can be empty
abbrev pub run_empty : Family → List Item → Bool
run_empty s [] = true
run_empty s (Kind k ∷ is) = false
run_empty s (Nonterminal a o ∷ is) = s.empty a && run_empty s is
run_empty s (Check o ∷ is) = run_empty s is

-- the run can begin with a word of kind k
abbrev pub run_first : Family → List Item → ℕ → Bool
run_first s [] k = false
run_first s (Kind j ∷ is) k = j == k
run_first s (Nonterminal a o ∷ is) k = s.first a k || (s.empty a && run_first s is k)
run_first s (Check o ∷ is) k = run_first s is k

-- nonterminal a stands in the run before items that can begin with a word of kind k
abbrev pub run_inside : Family → List Item → ℕ → ℕ → Bool
run_inside s [] a k = false
run_inside s (Kind j ∷ is) a k = run_inside s is a k
run_inside s (Nonterminal b o ∷ is) a k = (b == a && run_first s is k) || run_inside s is a k
run_inside s (Check o ∷ is) a k = run_inside s is a k

-- nonterminal a stands in the run before items that can all be empty
abbrev pub run_last : Family → List Item → ℕ → Bool
run_last s [] a = false
run_last s (Kind j ∷ is) a = run_last s is a
run_last s (Nonterminal b o ∷ is) a = (b == a && run_empty s is) || run_last s is a
run_last s (Check o ∷ is) a = run_last s is a

-- a production whose items can be empty makes its left side one that can
abbrev pub EmptyRule : Family → Production → Type 0
EmptyRule s p = run_empty s p.items ≡ true → s.empty p.left ≡ true

-- what the items of a production can begin with, its left side can
abbrev pub FirstRule : Family → Production → Type 0
FirstRule s p = (k : ℕ) → run_first s p.items k ≡ true → s.first p.left k ≡ true

-- what the items after a nonterminal can begin with can follow it
abbrev pub InsideRule : Family → Production → Type 0
InsideRule s p = (a k : ℕ) → run_inside s p.items a k ≡ true → s.follow a k ≡ true

-- what can follow the left side can follow a nonterminal after which all items can be empty
abbrev pub LastRule : Family → Production → Type 0
LastRule s p = (a k : ℕ) → run_last s p.items a ≡ true → s.follow p.left k ≡ true → s.follow a k ≡ true

-- the rule holds at each production
abbrev pub Everywhere : List Production → (Production → Type 0) → Type 0
Everywhere g Rule = (n : ℕ) (p : Production) → At g n p → Rule p

-- the sets meet their rules
pub record Meets (g : List Production) (s : Family) : Type 0 where
  pub empty : Everywhere g (EmptyRule s)
  pub first : Everywhere g (FirstRule s)
  pub at_end : s.follow 0 end_mark ≡ true
  pub inside : Everywhere g (InsideRule s)
  pub last : Everywhere g (LastRule s)

-- each set of the one lies within that of the other
pub record Within (s t : Family) : Type 0 where
  pub empty : (a : ℕ) → s.empty a ≡ true → t.empty a ≡ true
  pub first : (a k : ℕ) → s.first a k ≡ true → t.first a k ≡ true
  pub follow : (a k : ℕ) → s.follow a k ≡ true → t.follow a k ≡ true

-- the smallest sets that meet their rules: they do, and lie within any sets that do
abbrev pub Smallest : List Production → Family → Type 0
Smallest g s = Meets g s × ((t : Family) → Meets g t → Within s t)

-- the sets are those that the rules define
pub record Defined (g : List Production) (s : Family) : Type 0 where
  pub empty : (a : ℕ) → Decides (s.empty a) (CanBeEmpty g a)
  pub first : (a k : ℕ) → Decides (s.first a k) (CanBegin g a k)
  pub follow : (a k : ℕ) → Decides (s.follow a k) (Follow g a k)
