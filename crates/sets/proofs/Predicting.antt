-- The Predict sets, from the sets of the table.
use Rattle.std.proofs.Common.{◌≡◌, ℕ, zero, suc, ◌+◌, ◌<◌, ◌≤◌, List, [], ◌∷◌, ◌++◌, map, length, get_or, set, Decides, sym, refl, ap, ◌∙◌, subst, inl, inr, ⊎_elim, arith, length-set, get_or-set_other, get_or-set_same}
use Rattle.std.proofs.lemmas.Bool.{cases_eq, and_parts, and_from, or_cases, or_left, or_right}
use Rattle.std.proofs.lemmas.Bool.Decides.{Decides-at}
use Rattle.table.specs.declared.drafts.Production as filled
use Rattle.table.specs.Grammar.{Production, plain}
use Rattle.table.specs.Kinds.{bit}
use Rattle.sets.specs.Rounds.{Sound}
use Rattle.sets.specs.Rules.{Family, Defined, Meets}
use Rattle.sets.specs.Sets.{At, Predict}
use Rattle.sets.specs.Words.{run_predict, Predicted}
use Rattle.sets.proofs.Smallest.{empty_in, first_in, follow_in, empty_out, first_out}

pub predicted : (g : List Production) (s : Family) → Defined g s → Meets g s → (p : Production) (k : ℕ)
    → Decides (run_predict s p k) (Predict g p k)
predicted g s d m p k = (
  λ h. ⊎_elim (λ f. inl (first_out g s sound p.items k f))
      (λ e. let (empty, follow) = and_parts _ _ e in inr (empty_out g s sound p.items empty, sound.follow p.left k follow))
      (or_cases _ _ h),
  ⊎_elim (λ f. or_left _ _ (first_in g s m.empty m.first f)) (λ e. or_right _ _ (and_from _ _ (empty_in g s m.empty e.0) (follow_in g s m e.1))),
)
  where
    sound : Sound g s
    sound = record { empty = λ a. (d.empty a).0; first = λ a k. (d.first a k).0; follow = λ a k. (d.follow a k).0 }

-- one production stands at a place
pub at_one : {X : Type 0} {xs : List X} {n : ℕ} {x y : X} → At xs n x → At xs n y → x ≡ y
at_one At.here At.here = refl
at_one (At.later p) (At.later q) = at_one p q

pub at_below : {X : Type 0} {xs : List X} {n : ℕ} {x : X} → At xs n x → n < length xs
at_below At.here = omega arith
at_below (At.later at) = let h = at_below at in omega arith

-- the words below n are the Predict sets of their productions, and those from n on as they were
pub record Written (g : List Production) (s : Family) (before words : List ℕ) (n : ℕ) : Type 0 where
  pub long : length words ≡ 126
  pub kept : (m : ℕ) → n ≤ m → get_or words m 0 ≡ get_or before m 0
  pub predicts : (m : ℕ) (p : Production) → m < n → At g m p → (k : ℕ) → bit (get_or words m 0) k ≡ run_predict s p k

pub written_more : (g : List Production) (s : Family) (before words : List ℕ) (n word : ℕ) (q : Production) → n < 126 → At g n q
    → ((k : ℕ) → bit word k ≡ run_predict s q k) → Written g s before words n → Written g s before (set words n word) (n + 1)
written_more g s before words n word q few at bits t = record {
  long = length-set words n word ∙ t.long;
  kept = λ m h. get_or-set_other words n m word 0 (omega arith) ∙ t.kept m (omega arith);
  predicts = λ m p h there k. ⊎_elim
      (λ e.
      ap (λ w. bit w k) (ap (λ i. get_or (set words n word) i 0) e ∙ get_or-set_same words n word 0 (omega (arith, t.long))) ∙ bits k
      ∙ ap (λ r. run_predict s r k) (at_one at (subst (λ i. At g i p) e there)))
      (λ ne. ap (λ w. bit w k) (get_or-set_other words n m word 0 ne) ∙ t.predicts m p (omega (arith, ne)) there k)
      (cases_eq m n);
}

pub written_all : (g : List Production) (s : Family) (before words : List ℕ) (n : ℕ) → Defined g s → Meets g s → length g ≤ n → Written g s before words n → Predicted g words
written_all g s before words n d m all t = record {
  exactly = λ {n = i} {p} at k.
      Decides-at _ _ (t.predicts i p (let h = at_below at in omega arith) at k) (predicted g s d m p k);
}

pub at_listed : (ps : List filled.Production) (i : ℕ) (q : filled.Production) → i < length ps → q ≡ get_or ps i q → At (map plain ps) i (plain q)
at_listed [] i q h e = let no : ⊥ = omega arith in absurd no
at_listed (r ∷ ps) zero q h e = subst (λ p. At (plain r ∷ map plain ps) 0 (plain p)) (sym e) At.here
at_listed (r ∷ ps) (suc i) q h e = At.later (at_listed ps i q (omega arith) e)

pub at_middle : (ps front : List filled.Production) (q : filled.Production) (back : List filled.Production) → ps ≡ front ++ q ∷ back
    → At (map plain ps) (length front) (plain q)
at_middle ps front q back e = subst (λ rs. At (map plain rs) (length front) (plain q)) (sym e) (middle front)
  where
    middle : (front : List filled.Production) → At (map plain (front ++ q ∷ back)) (length front) (plain q)
    middle [] = At.here
    middle (r ∷ front) = At.later (middle front)

-- the production that is read at place i of what is listed
pub at_read : (listed ps : List filled.Production) (i : ℕ) (q : filled.Production) → i < length listed → q ≡ get_or listed i q → listed ≡ ps
    → At (map plain ps) i (plain q)
at_read listed ps i q h is same = subst (λ rs. At (map plain rs) i (plain q)) same (at_listed listed i q h is)
