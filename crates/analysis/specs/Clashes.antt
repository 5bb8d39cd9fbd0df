-- When one word of sight does not decide between two productions.
use Rattle.std.specs.Prelude.{◌≡◌, ℕ, ◌<◌, Bool, true, List}
use Rattle.domain.specs.Meaning.{Classes}
use Rattle.table.specs.Grammar.{Production}
use Rattle.sets.specs.Sets.{At, Predict, end_mark}

-- what the production's test says at the classes of the inherited value and of the word in sight
abbrev pub tested : Classes → Production → ℕ → ℕ → Bool
tested c p inherited word = c.test p.test inherited word

-- the production may be chosen with kind k in sight, at these two classes
pub record Eligible (c : Classes) (g : List Production) (p : Production) (k i j : ℕ) : Type 0 where
  pub predicts : Predict g p k
  pub sees : p.sight k ≡ true
  pub passes : tested c p i j ≡ true

-- productions a and b, of one left side, can both be chosen with kind k in sight, at class i of the inherited value and class j of
-- the word; the end mark has class 0
pub record Clash (c : Classes) (g : List Production) (a b k i j : ℕ) : Type 0 where
  pub one : Production
  pub other : Production
  pub one_at : At g a one
  pub other_at : At g b other
  pub in_order : a < b
  pub same_left : one.left ≡ other.left
  pub one_may : Eligible c g one k i j
  pub other_may : Eligible c g other k i j
  pub inherited_class : i < c.count
  pub word_class : j < c.count
  pub end_class : k ≡ end_mark → j ≡ 0

-- no two productions clash
abbrev pub ClashFree : Classes → List Production → Type 0
ClashFree c g = (a b k i j : ℕ) → Clash c g a b k i j → ⊥
