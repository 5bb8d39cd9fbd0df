-- Two productions of a written table; the kinds in it.
use Rattle.std.proofs.Common.{◌≡◌, ℕ, zero, suc, ◌<◌, Bool, true, ◌&&◌, ltb, List, [], ◌∷◌, arith}
use Rattle.std.proofs.lemmas.Bool.{and_parts, ltb-true}
use Rattle.table.specs.declared.drafts.Item.{Item}
use Rattle.table.specs.declared.drafts.Item.TheVariants.{Kind, Nonterminal, Check}
use Rattle.table.specs.Grammar.{Production}
use Rattle.sets.specs.Sets.{At}

-- the first stands before the second
pub data Pair {X : Type 0} : List X → ℕ → X → ℕ → X → Type 0 where
  head : {x y : X} {xs : List X} {n : ℕ} → At xs n y → Pair (x ∷ xs) 0 x (suc n) y
  tail : {x y z : X} {xs : List X} {i j : ℕ} → Pair xs i y j z → Pair (x ∷ xs) (suc i) y (suc j) z

pub pair : {X : Type 0} {xs : List X} {i j : ℕ} {x y : X} → At xs i x → At xs j y → i < j → Pair xs i x j y
pair At.here At.here before = absurd (omega arith)
pair At.here (At.later other) before = head other
pair (At.later {n = n} one) At.here before = absurd (omega arith)
pair (At.later {n = i} one) (At.later {n = j} other) before = tail (pair one other (omega arith))

abbrev below : ℕ → List Item → Bool
below kinds [] = true
below kinds (Kind k ∷ is) = ltb k kinds && below kinds is
below kinds (Nonterminal a o ∷ is) = below kinds is
below kinds (Check o ∷ is) = below kinds is

abbrev pub all_below : ℕ → List Production → Bool
all_below kinds [] = true
all_below kinds (p ∷ ps) = below kinds p.items && all_below kinds ps

below_rest : (kinds : ℕ) (i : Item) (is : List Item) → below kinds (i ∷ is) ≡ true → below kinds is ≡ true
below_rest kinds (Kind k) is e = (and_parts _ _ e).1
below_rest kinds (Nonterminal a o) is e = e
below_rest kinds (Check o) is e = e

below_at : (kinds k : ℕ) (is : List Item) (n : ℕ) → At is n (Kind k) → below kinds is ≡ true → k < kinds
below_at kinds k [] n at e = elim at [ ]
below_at kinds k (Nonterminal a o ∷ is) zero at e = elim at [ ]
below_at kinds k (Check o ∷ is) zero at e = elim at [ ]
below_at kinds k (Kind j ∷ is) zero At.here e = ltb-true j kinds (and_parts _ _ e).0
below_at kinds k (i ∷ is) (suc n) (At.later at) e = below_at kinds k is n at (below_rest kinds i is e)

-- every kind of the table is below this number
pub kinds_below : (kinds : ℕ) {g : List Production} {place i k : ℕ} {p : Production} → all_below kinds g ≡ true → At g place p → At p.items i (Kind k) → k < kinds
kinds_below kinds {i = i} {k = k} {p = p} e At.here item = below_at kinds k p.items i item (and_parts _ _ e).0
kinds_below kinds e (At.later at) item = kinds_below kinds (and_parts _ _ e).1 at item
