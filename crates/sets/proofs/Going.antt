-- A round, one production after the other.
use Rattle.std.proofs.Common.{◌≡◌, ℕ, Bool, false, ◌||◌, ◌⊎◌, List, sym, refl, ap, ◌∙◌, subst, inl, inr, ⊎_elim, ◌+◌, ◌<◌, arith}
use Rattle.std.proofs.lemmas.Bool.{cases_eq, and_parts, and_from, or_cases, or_left, or_right, or_parts, eq-eqb, eqb-true}
use Rattle.table.specs.Grammar.{Production}
use Rattle.sets.specs.declared.words.SetWords.{SetWords}
use Rattle.sets.specs.Rounds.{Grown, Sound, firsts_alone, from_left, with_first, with_follow}
use Rattle.sets.specs.Rules.{Family, run_inside, Everywhere, EmptyRule, FirstRule, InsideRule, LastRule, Within}
use Rattle.sets.specs.Sets.{At, Follow}
use Rattle.sets.specs.Words.{held}
use Rattle.sets.proofs.Growing.{grown_then, grown_none, within_then}
use Rattle.sets.proofs.Following.{run_inside_same}
use Rattle.sets.proofs.Predicting.{at_one}
use Rattle.sets.proofs.Smallest.{empty_out, first_out, inside_out, last_out}

-- what a production adds is what the rules define
module _ {g : List Production} {n : ℕ} {p : Production} (at : At g n p) (s : Family) (sound : Sound g s) where
  pub sound_first : Sound g (with_first s p.left p.items)
  sound_first = record {
    empty = λ a h. ⊎_elim (sound.empty a)
        (λ new. let (left, items) = and_parts _ _ new in
        record { place = n; production = p; stands = at; left = eqb-true _ _ left; items = empty_out g s sound p.items items }) (or_cases _ _ h);
    first = λ a k h. ⊎_elim (sound.first a k)
        (λ new. let (left, items) = and_parts _ _ new in
        record { place = n; production = p; stands = at; left = eqb-true _ _ left; items = first_out g s sound p.items k items }) (or_cases _ _ h);
    follow = sound.follow;
  }

  pub sound_inside : Sound g (with_follow s (run_inside s p.items))
  sound_inside = record {
    empty = sound.empty;
    first = sound.first;
    follow = λ a k h. ⊎_elim (sound.follow a k)
        (λ new. let (post, stands, f) = inside_out g s sound a k p.items new in Follow.before at stands f) (or_cases _ _ h);
  }

  pub sound_last : Sound g (with_follow s (from_left s p.left p.items))
  sound_last = record {
    empty = sound.empty;
    first = sound.first;
    follow = λ a k h. ⊎_elim (sound.follow a k)
        (λ new. let (last, follows) = and_parts _ _ new in let (post, stands, e) = last_out g s sound a p.items last in
        Follow.last at stands e (sound.follow p.left k follows)) (or_cases _ _ h);
  }

-- a production that adds nothing meets its rules
module _ (p : Production) (s : Family) where
  pub met_first : s ≡ with_first s p.left p.items → EmptyRule s p × FirstRule s p
  met_first e = (
    λ h. ap (λ t. t.empty p.left) e ∙ or_right _ _ (and_from _ _ (eq-eqb p.left p.left refl) h),
    λ k h. ap (λ t. t.first p.left k) e ∙ or_right _ _ (and_from _ _ (eq-eqb p.left p.left refl) h),
  )

  pub met_last : s ≡ with_follow s (from_left s p.left p.items) → LastRule s p
  met_last e a k last follows = ap (λ t. t.follow a k) e ∙ or_right _ _ (and_from _ _ last follows)

-- what comes inside the productions, as far as place n: the sets have grown from s to t, Empty and First not at all
pub record InsideSoFar (g : List Production) (s : Family) (n : ℕ) (t : Family) : Type 0 where
  pub sound : Sound g t
  pub within : Within s t
  pub inside : (m : ℕ) (p : Production) → m < n → At g m p → InsideRule t p
  pub others : firsts_alone t ≡ firsts_alone s

pub inside_more : (g : List Production) (n : ℕ) (here : Production) (s t : Family) → At g n here → InsideSoFar g s n t
    → InsideSoFar g s (n + 1) (with_follow t (run_inside t here.items))
inside_more g n here s t at d = record {
  sound = sound_inside at t d.sound;
  within = within_then s t _ d.within (record { empty = λ a h. h; first = λ a k h. h; follow = λ a k h. or_left _ _ h });
  inside = λ m p h there a k is.
      let inside = sym (run_inside_same t (run_inside t here.items) p.items a k) ∙ is in
      elim (cases_eq m n) [
        | inl e ↦
            let same : here ≡ p = at_one at (subst (λ j. At g j p) e there) in
            or_right _ _ (ap (λ q. run_inside t q.items a k) same ∙ inside)
        | inr ne ↦ or_left _ _ (d.inside m p (omega (arith, ne)) there a k inside)
      ];
  others = d.others;
}

-- a round so far: what the sets hold, whether they have grown, at which places the rule is met if they have not, and which stay as they are
pub record Going (g : List Production) (Rule : Family → Production → Type 0) (Others : Family → Family) (Done : ℕ → Type 0)
    (grown : Bool) (v w : SetWords) : Type 0 where
  pub sound : Sound g (held v) → Sound g (held w)
  pub growth : Grown grown v w
  pub met : grown ≡ false → (n : ℕ) (p : Production) → Done n → At g n p → Rule (held v) p
  pub others : Others (held w) ≡ Others (held v)

module _ (g : List Production) (Rule : Family → Production → Type 0) (Others : Family → Family) where
  pub going_none : (Done : ℕ → Type 0) (w : SetWords) → ((n : ℕ) (p : Production) → Done n → At g n p → ⊥) → Going g Rule Others Done false w w
  going_none Done w none = record { sound = λ s. s; growth = grown_none w; met = λ e n p done at. absurd (none n p done at); others = refl }

  -- one production further
  pub going_more : (Done Next : ℕ → Type 0) (r q : Bool) (u v w : SetWords) (m : ℕ) (here : Production) → At g m here
      → ((n : ℕ) → Next n → Done n ⊎ (n ≡ m)) → (Sound g (held v) → Sound g (held w)) → Grown q v w → (held v ≡ held w → Rule (held v) here)
      → Others (held w) ≡ Others (held v) → Going g Rule Others Done r u v → Going g Rule Others Next (r || q) u w
  going_more Done Next r q u v w m here stands next keeps growth rule same before = record {
    sound = λ s. keeps (before.sound s);
    growth = grown_then r q u v w before.growth growth;
    met = λ e n p done at.
        let (before_same, now-same) = or_parts r q e in
        ⊎_elim (λ d. before.met before_same n p d at)
        (λ i. subst (Rule (held u)) (at_one stands (subst (λ j. At g j p) i at))
        (subst (λ x. Rule (held x) here) (before.growth.same before_same) (rule (ap held (sym (growth.same now-same))))))
        (next n done);
    others = same ∙ before.others;
  }

  pub going_all : (Done : ℕ → Type 0) (grown : Bool) (v w : SetWords) → ((n : ℕ) (p : Production) → At g n p → Done n)
      → Going g Rule Others Done grown v w → grown ≡ false → Everywhere g (Rule (held w))
  going_all Done grown v w all going e n p at = subst (λ x. Rule (held x) p) (sym (going.growth.same e)) (going.met e n p (all n p at) at)
