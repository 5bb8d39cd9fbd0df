-- The defined sets are the smallest that meet their rules.
use Rattle.std.proofs.Common.{◌≡◌, ℕ, true, List, [], ◌∷◌, refl, subst, ⊎_elim}
use Rattle.std.proofs.lemmas.Bool.{false≢true, and_parts, and_from, or_cases, or_left, or_right, eq-eqb, eqb-true}
use Rattle.table.specs.declared.drafts.Item.{Item}
use Rattle.table.specs.declared.drafts.Item.TheVariants.{Kind, Nonterminal, Check}
use Rattle.table.specs.Grammar.{Production}
use Rattle.sets.specs.Rounds.{Sound}
use Rattle.sets.specs.Rules.{Family, Everywhere, EmptyRule, FirstRule, run_empty, run_first, run_inside, run_last, Meets, Smallest, Defined}
use Rattle.sets.specs.Sets.{Stands, Empty, First, Follow}

-- what the rules define lies within any sets that meet the rules: emptiness by the rule of Empty alone, First by that and its own
module _ (g : List Production) (t : Family) (empty_rule : Everywhere g (EmptyRule t)) where
  pub empty_in : {is : List Item} → Empty g is → run_empty t is ≡ true
  empty_in Empty.none = refl
  empty_in (Empty.past_check e) = empty_in e
  empty_in (Empty.past_nonterminal stands left inside e) =
      and_from _ _ (subst (λ a. t.empty a ≡ true) left (empty_rule _ _ stands (empty_in inside))) (empty_in e)

  module _ (first_rule : Everywhere g (FirstRule t)) where
    pub first_in : {is : List Item} {k : ℕ} → First g is k → run_first t is k ≡ true
    first_in {k = k} First.here = eq-eqb k k refl
    first_in (First.past_check f) = first_in f
    first_in {k = k} (First.inside stands left f) = or_left _ _ (subst (λ a. t.first a k ≡ true) left (first_rule _ _ stands k (first_in f)))
    first_in {k = k} (First.past_nonterminal stands left e f) =
        or_right _ _ (and_from _ _ (subst (λ a. t.empty a ≡ true) left (empty_rule _ _ stands (empty_in e))) (first_in f))

module _ (t : Family) where
  pub inside_in : {is : List Item} {a : ℕ} {post : List Item} → Stands is a post → (k : ℕ) → run_first t post k ≡ true → run_inside t is a k ≡ true
  inside_in {a = a} Stands.here k h = or_left _ _ (and_from _ _ (eq-eqb a a refl) h)
  inside_in (Stands.later {i = Kind j} s) k h = inside_in s k h
  inside_in (Stands.later {i = Nonterminal b o} s) k h = or_right _ _ (inside_in s k h)
  inside_in (Stands.later {i = Check o} s) k h = inside_in s k h

  last_in : {is : List Item} {a : ℕ} {post : List Item} → Stands is a post → run_empty t post ≡ true → run_last t is a ≡ true
  last_in {a = a} Stands.here h = or_left _ _ (and_from _ _ (eq-eqb a a refl) h)
  last_in (Stands.later {i = Kind j} s) h = last_in s h
  last_in (Stands.later {i = Nonterminal b o} s) h = or_right _ _ (last_in s h)
  last_in (Stands.later {i = Check o} s) h = last_in s h

module _ (g : List Production) (t : Family) (m : Meets g t) where
  pub follow_in : {a k : ℕ} → Follow g a k → t.follow a k ≡ true
  follow_in Follow.at_end = m.at_end
  follow_in {a} {k} (Follow.before at s f) = m.inside _ _ at a k (inside_in t s k (first_in g t m.empty m.first f))
  follow_in {a} {k} (Follow.last at s e f) = m.last _ _ at a k (last_in t s (empty_in g t m.empty e)) (follow_in f)

module _ (g : List Production) (s : Family) (sound : Sound g s) where
  pub empty_out : (is : List Item) → run_empty s is ≡ true → Empty g is
  empty_out [] h = Empty.none
  empty_out (Kind k ∷ is) h = absurd (false≢true h)
  empty_out (Nonterminal a o ∷ is) h =
      let (here, rest) = and_parts _ _ h in let c = sound.empty a here in
      Empty.past_nonterminal c.stands c.left c.items (empty_out is rest)
  empty_out (Check o ∷ is) h = Empty.past_check (empty_out is h)

  pub first_out : (is : List Item) (k : ℕ) → run_first s is k ≡ true → First g is k
  first_out [] k h = absurd (false≢true h)
  first_out (Kind j ∷ is) k h = subst (First g (Kind j ∷ is)) (eqb-true j k h) First.here
  first_out (Nonterminal a o ∷ is) k h =
      let later = first_out is k in
      ⊎_elim (λ inside. let c = sound.first a k inside in First.inside c.stands c.left c.items)
      (λ past. let (here, rest) = and_parts _ _ past in let c = sound.empty a here in
      First.past_nonterminal c.stands c.left c.items (later rest))
      (or_cases _ _ h)
  first_out (Check o ∷ is) k h = First.past_check (first_out is k h)

  pub inside_out : (a k : ℕ) (is : List Item) → run_inside s is a k ≡ true → (post : List Item) × Stands is a post × First g post k
  inside_out a k [] h = absurd (false≢true h)
  inside_out a k (Kind j ∷ is) h = let (post, stands, f) = inside_out a k is h in (post, Stands.later stands, f)
  inside_out a k (Nonterminal b o ∷ is) h =
      let later = inside_out a k is in
      ⊎_elim
      (λ here. let (same, f) = and_parts _ _ here in
      (is, subst (λ c. Stands (Nonterminal b o ∷ is) c is) (eqb-true b a same) Stands.here, first_out is k f))
      (λ rest. let (post, stands, f) = later rest in (post, Stands.later stands, f)) (or_cases _ _ h)
  inside_out a k (Check o ∷ is) h = let (post, stands, f) = inside_out a k is h in (post, Stands.later stands, f)

  pub last_out : (a : ℕ) (is : List Item) → run_last s is a ≡ true → (post : List Item) × Stands is a post × Empty g post
  last_out a [] h = absurd (false≢true h)
  last_out a (Kind j ∷ is) h = let (post, stands, e) = last_out a is h in (post, Stands.later stands, e)
  last_out a (Nonterminal b o ∷ is) h =
      let later = last_out a is in
      ⊎_elim
      (λ here. let (same, e) = and_parts _ _ here in
      (is, subst (λ c. Stands (Nonterminal b o ∷ is) c is) (eqb-true b a same) Stands.here, empty_out is e))
      (λ rest. let (post, stands, e) = later rest in (post, Stands.later stands, e)) (or_cases _ _ h)
  last_out a (Check o ∷ is) h = let (post, stands, e) = last_out a is h in (post, Stands.later stands, e)

module _ (g : List Production) (s : Family) (sound : Sound g s) (m : Meets g s) where
  pub defined : Defined g s
  defined = record {
    empty = λ a. (sound.empty a, λ c. subst (λ b. s.empty b ≡ true) c.left (m.empty _ _ c.stands (empty_in g s m.empty c.items)));
    first = λ a k. (sound.first a k, λ c. subst (λ b. s.first b k ≡ true) c.left (m.first _ _ c.stands k (first_in g s m.empty m.first c.items)));
    follow = λ a k. (sound.follow a k, follow_in g s m);
  }

  pub smallest : Smallest g s
  smallest = (
    m,
    λ t n. record {
      empty = λ a h. let c = sound.empty a h in subst (λ b. t.empty b ≡ true) c.left (n.empty _ _ c.stands (empty_in g t n.empty c.items));
      first = λ a k h. let c = sound.first a k h in subst (λ b. t.first b k ≡ true) c.left (n.first _ _ c.stands k (first_in g t n.empty n.first c.items));
      follow = λ a k h. follow_in g t n (sound.follow a k h);
    },
  )
