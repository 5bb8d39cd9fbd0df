-- Sets that are written out: where they meet the rules, they hold the smallest sets that do.
use Rattle.std.proofs.Common.{◌≡◌, ℕ, Bool, true, false, cond, ◌&&◌, ◌||◌, eqb, ◌⊎◌, List, [], ◌∷◌, ◌++◌, sym, refl, ◌∙◌, subst, inl, inr}
use Rattle.std.proofs.lemmas.Bool.{false≢true, and_parts, and_from, or_left, or_right, or_cases, eqb-true, eq-eqb, cond-true}
use Rattle.table.specs.declared.drafts.Item.{Item}
use Rattle.table.specs.declared.drafts.Item.TheVariants.{Kind, Nonterminal, Check}
use Rattle.table.specs.Grammar.{Production}
use Rattle.sets.specs.Sets.{At, Stands, Empty, First, Follow, Predict, end_mark}
use Rattle.language.specs.Tables.{member}

abbrev within : List ℕ → List ℕ → Bool
within [] ys = true
within (x ∷ xs) ys = member x ys && within xs ys

within_member : (k : ℕ) (xs ys : List ℕ) → within xs ys ≡ true → member k xs ≡ true → member k ys ≡ true
within_member k [] ys all e = absurd (false≢true e)
within_member k (x ∷ xs) ys all e = go (within_member k xs ys (and_parts _ _ all).1) (or_cases (eqb k x) (member k xs) e)
  where
    go : (member k xs ≡ true → member k ys ≡ true) → (eqb k x ≡ true) ⊎ (member k xs ≡ true) → member k ys ≡ true
    go more (inl same) = subst (λ n. member n ys ≡ true) (sym (eqb-true k x same)) (and_parts _ _ all).0
    go more (inr later) = more later

member_left : (k : ℕ) (xs ys : List ℕ) → member k xs ≡ true → member k (xs ++ ys) ≡ true
member_left k [] ys e = absurd (false≢true e)
member_left k (x ∷ xs) ys e = go (member_left k xs ys) (or_cases (eqb k x) (member k xs) e)
  where
    go : (member k xs ≡ true → member k (xs ++ ys) ≡ true) → (eqb k x ≡ true) ⊎ (member k xs ≡ true) → (eqb k x || member k (xs ++ ys)) ≡ true
    go more (inl same) = or_left _ _ same
    go more (inr later) = or_right _ _ (more later)

member_right : (k : ℕ) (xs ys : List ℕ) → member k ys ≡ true → member k (xs ++ ys) ≡ true
member_right k [] ys e = e
member_right k (x ∷ xs) ys e = or_right _ _ (member_right k xs ys e)

-- the written sets: which nonterminals can be empty, their First sets and their Follow sets
module _ (empty : ℕ → Bool) (first follow : ℕ → List ℕ) where
  abbrev empty_run : List Item → Bool
  empty_run [] = true
  empty_run (Kind k ∷ is) = false
  empty_run (Check o ∷ is) = empty_run is
  empty_run (Nonterminal a o ∷ is) = empty a && empty_run is

  abbrev first_run : List Item → List ℕ
  first_run [] = []
  first_run (Kind k ∷ is) = k ∷ []
  first_run (Check o ∷ is) = first_run is
  first_run (Nonterminal a o ∷ is) = first a ++ cond (empty a) (first_run is) []

  -- the rules of a production, and of the nonterminals in it
  abbrev meets_first : Production → Bool
  meets_first p = cond (empty_run p.items) (empty p.left) true && within (first_run p.items) (first p.left)

  abbrev meets_follow : ℕ → List Item → Bool
  meets_follow left [] = true
  meets_follow left (Kind k ∷ is) = meets_follow left is
  meets_follow left (Check o ∷ is) = meets_follow left is
  meets_follow left (Nonterminal a o ∷ is) = (within (first_run is) (follow a) && cond (empty_run is) (within (follow left) (follow a)) true) && meets_follow left is

  abbrev pub meets_all : List Production → Bool
  meets_all [] = true
  meets_all (p ∷ ps) = (meets_first p && meets_follow p.left p.items) && meets_all ps

  abbrev pub predict_set : Production → List ℕ
  predict_set p = first_run p.items ++ cond (empty_run p.items) (follow p.left) []

  meets_at : {g : List Production} {n : ℕ} {p : Production} → At g n p → meets_all g ≡ true → (meets_first p && meets_follow p.left p.items) ≡ true
  meets_at At.here meets = (and_parts _ _ meets).0
  meets_at (At.later at) meets = meets_at at (and_parts _ _ meets).1

  rest_follow : (left : ℕ) (i : Item) (is : List Item) → meets_follow left (i ∷ is) ≡ true → meets_follow left is ≡ true
  rest_follow left (Kind k) is meets = meets
  rest_follow left (Check o) is meets = meets
  rest_follow left (Nonterminal a o) is meets = (and_parts _ _ meets).1

  stands_follow : (left : ℕ) {is post : List Item} {a : ℕ} → Stands is a post → meets_follow left is ≡ true → (within (first_run post) (follow a) && cond (empty_run post) (within (follow left) (follow a)) true) ≡ true
  stands_follow left Stands.here meets = (and_parts _ _ meets).0
  stands_follow left (Stands.later {i = i} {is = is} stands) meets = stands_follow left stands (rest_follow left i is meets)

  given : (b x : Bool) → b ≡ true → cond b x true ≡ true → x ≡ true
  given b x is e = sym (cond-true b x true is) ∙ e

  module _ (g : List Production) (meets : meets_all g ≡ true) where
    empty_in : {is : List Item} → Empty g is → empty_run is ≡ true
    empty_in Empty.none = refl
    empty_in (Empty.past_check rest) = empty_in rest
    empty_in (Empty.past_nonterminal {p = p} at left gone rest) =
        and_from _ _ (subst (λ b. empty b ≡ true) left (given (empty_run p.items) (empty p.left) (empty_in gone) (and_parts _ _ (and_parts _ _ (meets_at at meets)).0).0)) (empty_in rest)

    first_in : {is : List Item} {k : ℕ} → First g is k → member k (first_run is) ≡ true
    first_in {k = k} First.here = or_left _ _ (eq-eqb k k refl)
    first_in (First.past_check rest) = first_in rest
    first_in {k = k} (First.inside {p = p} at left begins) =
        member_left k _ _ (subst (λ b. member k (first b) ≡ true) left (within_member k (first_run p.items) (first p.left) (and_parts _ _ (and_parts _ _ (meets_at at meets)).0).1 (first_in begins)))
    first_in {k = k} (First.past_nonterminal {a = a} {o = o} {is = is} at left gone rest) =
        let passed = empty_in (Empty.past_nonterminal {o = o} at left gone Empty.none) in
        member_right k (first a) _ (subst (λ xs. member k xs ≡ true) (sym (cond-true (empty a) (first_run is) [] (and_parts _ _ passed).0)) (first_in rest))

    module _ (ends : member end_mark (follow 0) ≡ true) where
      pub follow_in : {a k : ℕ} → Follow g a k → member k (follow a) ≡ true
      follow_in Follow.at_end = ends
      follow_in {a} {k} (Follow.before {p = p} {post = post} at stands first) =
          let rule = stands_follow p.left stands (and_parts _ _ (meets_at at meets)).1 in
          within_member k (first_run post) (follow a) (and_parts _ _ rule).0 (first_in first)
      follow_in {a} {k} (Follow.last {p = p} {post = post} at stands rest above) =
          let rule = stands_follow p.left stands (and_parts _ _ (meets_at at meets)).1 in
          within_member k (follow p.left) (follow a) (given (empty_run post) (within (follow p.left) (follow a)) (empty_in rest) (and_parts _ _ rule).1) (follow_in above)

      pub predict_in : (p : Production) (k : ℕ) → Predict g p k → member k (predict_set p) ≡ true
      predict_in p k (inl first) = member_left k _ _ (first_in first)
      predict_in p k (inr both) = member_right k (first_run p.items) _ (subst (λ xs. member k xs ≡ true) (sym (cond-true (empty_run p.items) (follow p.left) [] (empty_in both.0))) (follow_in both.1))
