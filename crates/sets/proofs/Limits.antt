-- The kinds in the sets are below 64.
use Rattle.std.proofs.Common.{◌≡◌, ℕ, zero, suc, ◌<◌, List, [], ◌∷◌, ◌++◌, map, length, get_or, sym, subst, arith, lit<}
use Rattle.std.specs.List.{AllByRecursion}
use Rattle.table.specs.declared.drafts.Item.{Item}
use Rattle.table.specs.declared.drafts.Production as filled
use Rattle.table.specs.Grammar.{Production, plain}
use Rattle.sets.specs.Bounds.{SmallItem, SmallProduction, Small}
use Rattle.sets.specs.Sets.{At, Stands, First, Follow}

pub all_at : {X : Type 0} (P : X → Type 0) {xs : List X} {n : ℕ} {x : X} → At xs n x → AllByRecursion P xs → P x
all_at P At.here all = all.0
all_at P (At.later at) all = all_at P at all.1

pub all_middle : {X : Type 0} (P : X → Type 0) (xs left : List X) (x : X) (right : List X) → xs ≡ left ++ x ∷ right → AllByRecursion P xs → P x
all_middle P xs left x right e all = middle left (subst (AllByRecursion P) e all)
  where
    middle : (left : List _) → AllByRecursion P (left ++ x ∷ right) → P x
    middle [] all = all.0
    middle (y ∷ left) all = middle left all.1

module _ (g : List Production) (small : Small g) where
  pub first_below : {is : List Item} {k : ℕ} → First g is k → AllByRecursion SmallItem is → k < 64
  first_below First.here all = all.0
  first_below (First.past_check f) all = first_below f all.1
  first_below (First.inside at left f) all = first_below f (all_at SmallProduction at small).1
  first_below (First.past_nonterminal at left e f) all = first_below f all.1

  after_small : {is : List Item} {a : ℕ} {post : List Item} → Stands is a post → AllByRecursion SmallItem is → AllByRecursion SmallItem post
  after_small Stands.here all = all.1
  after_small (Stands.later s) all = after_small s all.1

  pub follow_below : {a k : ℕ} → Follow g a k → k < 64
  follow_below Follow.at_end = lit< tt
  follow_below (Follow.before at s f) = first_below f (after_small s (all_at SmallProduction at small).1)
  follow_below (Follow.last at s e f) = follow_below f

pub small_at : (ps : List filled.Production) (i : ℕ) (p : filled.Production) → i < length ps → p ≡ get_or ps i p → Small (map plain ps) → SmallProduction (plain p)
small_at [] i p h e small = let no : ⊥ = omega arith in absurd no
small_at (q ∷ qs) zero p h e small = subst (λ r. SmallProduction (plain r)) (sym e) small.0
small_at (q ∷ qs) (suc i) p h e small = small_at qs i p (omega arith) e small.1
