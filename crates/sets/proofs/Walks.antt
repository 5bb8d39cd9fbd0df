-- What is told of a list while it is walked from the front, or from the back.
use Rattle.std.proofs.Common.{◌≡◌, ℕ, ◌||◌, List, [], ◌∷◌, ◌++◌, length, arith, sym, ap, ◌∙◌, subst, append-nil, append_assoc}
use Rattle.table.specs.declared.drafts.Item.{Item}
use Rattle.table.specs.Kinds.{has}
use Rattle.sets.specs.Rules.{Family, run_empty, run_first}

-- the items before the rest can be empty, and begin with these kinds
pub record Walked (s : Family) (is : List Item) (kinds : ℕ) (rest : List Item) : Type 0 where
  pub empty : run_empty s is ≡ run_empty s rest
  pub first : (k : ℕ) → run_first s is k ≡ (has kinds k || run_first s rest k)

-- the list was walked from the back, down to the rest, and P holds of what was passed
pub record FromBack {X : Type 0} (xs rest : List X) (P : List X → Type 0) : Type 0 where
  pub passed : List X
  pub are : xs ≡ rest ++ passed
  pub told : P passed

module _ {X : Type 0} (xs : List X) (P : List X → Type 0) where
  pub back_none : (rest : List X) → rest ≡ xs → P [] → FromBack xs rest P
  back_none rest e holds = record { passed = []; are = sym (append-nil rest ∙ e); told = holds }

  -- the next one, read as y
  pub back_next : (rest left : List X) (x y : X) → rest ≡ left ++ x ∷ [] → x ≡ y → (w : FromBack xs rest P) → xs ≡ left ++ y ∷ w.passed
  back_next rest left x y e is w = w.are ∙ ap (λ r. r ++ w.passed) e ∙ append_assoc left (x ∷ []) w.passed ∙ ap (λ z. left ++ z ∷ w.passed) is

  pub back_more : (Q : List X → Type 0) (rest left : List X) (x y : X) → rest ≡ left ++ x ∷ [] → x ≡ y
      → ((passed : List X) → xs ≡ left ++ y ∷ passed → P passed → Q (y ∷ passed)) → FromBack xs rest P → FromBack xs left Q
  back_more Q rest left x y e is next w =
      let are = back_next rest left x y e is w in record { passed = y ∷ w.passed; are = are; told = next w.passed are w.told }

  pub back_all : (rest : List X) → length rest ≡ 0 → FromBack xs rest P → P xs
  back_all [] e w = subst P (sym w.are) w.told
  back_all (x ∷ rest) e w = absurd (omega arith)
