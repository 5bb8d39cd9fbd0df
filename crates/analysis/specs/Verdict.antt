-- What the strong test answers.
use Rattle.std.specs.Prelude.{◌≡◌, ℕ, ◌<◌, ◌≤◌, List, [], ◌∷◌}
use Rattle.domain.specs.Meaning.{Classes}
use Rattle.table.specs.Grammar.{Production}
use Rattle.analysis.specs.declared.faults.CheckFault.{CheckFault}
use Rattle.analysis.specs.declared.faults.CheckFault.TheVariants.{ManyClasses, TwoClash}
use Rattle.analysis.specs.Clashes.{Clash, ClashFree}

-- the table passes: there are up to 64 classes, and no two productions clash
abbrev pub Passes : Classes → List Production → Type 0
Passes c g = (c.count ≤ 64) × ClashFree c g

-- a refusal's number
abbrev pub refusal : CheckFault → ℕ
refusal (ManyClasses classes) = 10
refusal (TwoClash clash) = 11

-- the values that it carries: the count of classes; the productions a and b, the kind k and the classes i and j
abbrev pub values : CheckFault → List ℕ
values (ManyClasses classes) = classes ∷ []
values (TwoClash clash) = clash.a ∷ clash.b ∷ clash.kind ∷ clash.inherited ∷ clash.word ∷ []

-- the fault tells that there are over 64 classes
abbrev pub TooManyClasses : Classes → CheckFault → Type 0
TooManyClasses c f = (64 < c.count) × (f ≡ ManyClasses c.count)

-- none at five numbers that come before these
pub record NoneBefore (C : ℕ → ℕ → ℕ → ℕ → ℕ → Type 0) (a b k i j : ℕ) : Type 0 where
  pub no_a : (a' b' k' i' j' : ℕ) → a' < a → C a' b' k' i' j' → ⊥
  pub no_b : (b' k' i' j' : ℕ) → b' < b → C a b' k' i' j' → ⊥
  pub no_k : (k' i' j' : ℕ) → k' < k → C a b k' i' j' → ⊥
  pub no_i : (i' j' : ℕ) → i' < i → C a b k i' j' → ⊥
  pub no_j : (j' : ℕ) → j' < j → C a b k i j' → ⊥

-- when a table is refused with a number and values: over 64 classes, or else the first clash
pub data Refused (c : Classes) (g : List Production) : ℕ → List ℕ → Type 0 where
  many_classes : 64 < c.count → Refused c g 10 (c.count ∷ [])
  first_clash : {a b k i j : ℕ} → c.count ≤ 64 → Clash c g a b k i j → NoneBefore (Clash c g) a b k i j
      → Refused c g 11 (a ∷ b ∷ k ∷ i ∷ j ∷ [])
