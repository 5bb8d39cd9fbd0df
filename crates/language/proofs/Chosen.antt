-- The first suitable production of a list, and the only one.
use Rattle.std.proofs.Common.{◌≡◌, ℕ, suc, ◌+◌, Bool, true, false, cond, ◌⊎◌, List, [], ◌∷◌, Some, sym, refl, ap, ◌∙◌, subst, inl, inr, arith}
use Rattle.std.proofs.lemmas.Bool.{cond-true, cond-false, cases_Bool}
use Rattle.table.specs.Grammar.{Production}
use Rattle.sets.specs.Sets.{At}
use Rattle.language.specs.Reader.{Choice, first_from}

abbrev choice : ℕ → Production → Choice
choice place p = record { place = place; production = p }

module _ (suitable : ℕ → Production → Bool) where
  -- a production that is chosen stands at its place and is suitable
  pub record Found (from : ℕ) (g : List Production) (x : Choice) : Type 0 where
    pub offset : ℕ
    pub stands : At g offset x.production
    pub place_is : x.place ≡ from + offset
    pub suits : suitable x.place x.production ≡ true

  pub first_found : (from : ℕ) (g : List Production) (x : Choice) → first_from suitable from g ≡ Some x → Found from g x
  first_found from [] x e = let z : ◌≡◌ {A = ℕ} 0 1 = cc in absurd (omega arith)
  first_found from (p ∷ ps) x e = go (suitable from p) refl e (first_found (suc from) ps x)
    where
      go : (b : Bool) → suitable from p ≡ b → cond b (Some (choice from p)) (first_from suitable (suc from) ps) ≡ Some x → (first_from suitable (suc from) ps ≡ Some x → Found (suc from) ps x) → Found from (p ∷ ps) x
      go true suits e later = subst (Found from (p ∷ ps)) (cc) (record { offset = 0; stands = At.here; place_is = omega arith; suits = suits })
      go false no_suit e later = let found = later e in record { offset = suc found.offset; stands = At.later found.stands; place_is = omega (arith, found.place_is); suits = found.suits }

  -- the only suitable production is chosen
  pub first_only : (from : ℕ) {g : List Production} {i : ℕ} {p : Production} → At g i p → suitable (from + i) p ≡ true → ((j : ℕ) (q : Production) → At g j q → suitable (from + j) q ≡ true → j ≡ i) → first_from suitable from g ≡ Some (choice (from + i) p)
  first_only from {p = p} At.here suits only =
      let same : from + 0 ≡ from = omega arith in
      cond-true (suitable from p) _ _ (subst (λ n. suitable n p ≡ true) same suits) ∙ ap (λ n. Some (choice n p)) (sym same)
  first_only from {i = suc i} {p = p} (At.later {y = y} {xs = ps} at) suits only =
      let shift : (j : ℕ) → from + suc j ≡ suc from + j = λ j. omega arith in
      let rest : first_from suitable (suc from) ps ≡ Some (choice (suc from + i) p) =
      first_only (suc from) at (subst (λ n. suitable n p ≡ true) (shift i) suits) (λ j q there suits'. let same : suc j ≡ suc i = only (suc j) q (At.later there) (subst (λ n. suitable n q ≡ true) (sym (shift j)) suits') in omega arith) in
      cond-false (suitable from y) _ _ (unsuited (cases_Bool (suitable from y))) ∙ rest ∙ ap (λ n. Some (choice n p)) (sym (shift i))
    where
      unsuited : (suitable from y ≡ true) ⊎ (suitable from y ≡ false) → suitable from y ≡ false
      unsuited (inl suits_too) = let none_before : 0 ≡ suc i = only 0 y At.here (subst (λ n. suitable n y ≡ true) (omega arith) suits_too) in absurd (omega arith)
      unsuited (inr unsuits) = unsuits
