-- The productions below a number, and one after the other.
use Rattle.std.proofs.Common.{◌≡◌, ℕ, ◌+◌, ◌<◌, ◌≤◌, List, map, length, get_or, sym, refl, subst, subst₂, ⊎_elim, arith}
use Rattle.std.proofs.lemmas.Bool.{cases_lt}
use Rattle.std.proofs.lemmas.List.{length-map}
use Rattle.table.specs.declared.drafts.Production as filled
use Rattle.table.specs.Grammar.{Production, plain}
use Rattle.sets.specs.Bounds.{Small}
use Rattle.sets.specs.Sets.{At}
use Rattle.sets.proofs.Limits.{small_at}
use Rattle.sets.proofs.Predicting.{at_below, at_listed}

pub at_same : {X : Type 0} {xs : List X} {n : ℕ} {x y : X} → At xs n x → At xs n y → x ≡ y
at_same At.here At.here = refl
at_same (At.later one) (At.later other) = at_same one other

pub left_small : (ps : List filled.Production) (i : ℕ) (q : filled.Production) → i < length ps → q ≡ get_or ps i q → Small (map plain ps) → q.left < 64
left_small ps i q within is small = (small_at ps i q within is small).0

-- the productions gone over are those of the table
module _ {ps all : List filled.Production} (same : ps ≡ all) where
  pub at_table : {n : ℕ} {q : filled.Production} → n < length ps → q ≡ get_or ps n q → At (map plain all) n (plain q)
  at_table {n} {q} within is = subst (λ xs. At (map plain xs) n (plain q)) same (at_listed ps n q within is)

  pub table_end : {n : ℕ} → length ps ≤ n → length (map plain all) ≤ n
  table_end {n} end = subst (λ xs. length (map plain xs) ≤ n) same (omega (arith, length-map ps plain, end))

pub below_or_at : {X : Type 0} (m n : ℕ) → m < n + 1 → (m < n → X) → (m ≡ n → X) → X
below_or_at m n h below at = ⊎_elim below (λ l. at (omega arith)) (cases_lt m n)

module _ (g : List Production) where
  -- what holds of each production below n
  abbrev pub Below : ℕ → (ℕ → Production → Type 0) → Type 0
  Below n P = (m : ℕ) (p : Production) → m < n → At g m p → P m p

  pub below_none : (P : ℕ → Production → Type 0) → Below 0 P
  below_none P m p h at = let no : ⊥ = omega arith in absurd no

  pub below_next : (P : ℕ → Production → Type 0) (n : ℕ) (q : Production) → At g n q → Below n P → P n q → Below (n + 1) P
  below_next P n q stands below now m p h at =
      below_or_at m n h (λ l. below m p l at) (λ e. subst₂ P (sym e) (at_same stands (subst (λ i. At g i p) e at)) now)

  pub below_all : (P : ℕ → Production → Type 0) (n : ℕ) → length g ≤ n → Below n P → {m : ℕ} {p : Production} → At g m p → P m p
  below_all P n all below {m} {p} at = below m p (let h = at_below at in omega arith) at
