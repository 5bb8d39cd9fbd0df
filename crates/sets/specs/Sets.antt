-- Which runs of items can be empty, and the First, Follow and Predict sets: the smallest that meet their rules, one constructor for
-- each rule.
use Rattle.std.specs.Prelude.{◌≡◌, ℕ, suc, ◌⊎◌, List, [], ◌∷◌}
use Rattle.table.specs.declared.drafts.Item.{Item}
use Rattle.table.specs.declared.drafts.Item.TheVariants.{Kind, Nonterminal, Check}
use Rattle.table.specs.declared.drafts.Operation.{Operation}
use Rattle.table.specs.Grammar.{Production}

-- x stands at place n of the list
pub data At {X : Type 0} : List X → ℕ → X → Type 0 where
  here : {x : X} {xs : List X} → At (x ∷ xs) 0 x
  later : {x y : X} {xs : List X} {n : ℕ} → At xs n x → At (y ∷ xs) (suc n) x

-- nonterminal a stands in the run, before the items `post`
pub data Stands : List Item → ℕ → List Item → Type 0 where
  here : {a : ℕ} {o : Operation} {post : List Item} → Stands (Nonterminal a o ∷ post) a post
  later : {a : ℕ} {i : Item} {is post : List Item} → Stands is a post → Stands (i ∷ is) a post

-- the kind of the end mark
abbrev pub end_mark : ℕ
end_mark = 63

-- the run can be empty: it has only checks, and nonterminals that can be empty
pub data Empty (g : List Production) : List Item → Type 0 where
  none : Empty g []
  past_check : {o : Operation} {is : List Item} → Empty g is → Empty g (Check o ∷ is)
  past_nonterminal : {a n : ℕ} {o : Operation} {p : Production} {is : List Item} → At g n p → p.left ≡ a → Empty g p.items → Empty g is → Empty g (Nonterminal a o ∷ is)

-- the run can begin with a word of kind k
pub data First (g : List Production) : List Item → ℕ → Type 0 where
  here : {k : ℕ} {is : List Item} → First g (Kind k ∷ is) k
  past_check : {o : Operation} {is : List Item} {k : ℕ} → First g is k → First g (Check o ∷ is) k
  inside : {a n : ℕ} {o : Operation} {p : Production} {is : List Item} {k : ℕ} → At g n p → p.left ≡ a → First g p.items k → First g (Nonterminal a o ∷ is) k
  past_nonterminal : {a n : ℕ} {o : Operation} {p : Production} {is : List Item} {k : ℕ} → At g n p → p.left ≡ a → Empty g p.items → First g is k → First g (Nonterminal a o ∷ is) k

-- kind k, or the end mark, can come after nonterminal a
pub data Follow (g : List Production) : ℕ → ℕ → Type 0 where
  at_end : Follow g 0 end_mark
  before : {a n k : ℕ} {p : Production} {post : List Item} → At g n p → Stands p.items a post → First g post k → Follow g a k
  last : {a n k : ℕ} {p : Production} {post : List Item} → At g n p → Stands p.items a post → Empty g post → Follow g p.left k → Follow g a k

-- nonterminal a can be empty: one of its productions can
pub record CanBeEmpty (g : List Production) (a : ℕ) : Type 0 where
  pub place : ℕ
  pub production : Production
  pub stands : At g place production
  pub left : production.left ≡ a
  pub items : Empty g production.items

-- nonterminal a can begin with a word of kind k: one of its productions can
pub record CanBegin (g : List Production) (a k : ℕ) : Type 0 where
  pub place : ℕ
  pub production : Production
  pub stands : At g place production
  pub left : production.left ≡ a
  pub items : First g production.items k

-- with kind k in sight, the production may be the one to predict
abbrev pub Predict : List Production → Production → ℕ → Type 0
Predict g p k = First g p.items k ⊎ (Empty g p.items × Follow g p.left k)
