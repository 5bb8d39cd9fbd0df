-- Where a run of items comes to by itself, it has passed only checks.
use Rattle.std.proofs.Common.{ℕ, Bool, true, false, cond, List, [], ◌∷◌, ◌++◌}
use Rattle.domain.specs.Meaning.{Meaning}
use Rattle.table.specs.declared.drafts.Item.{Item}
use Rattle.table.specs.declared.drafts.Item.TheVariants.{Kind, Nonterminal, Check}
use Rattle.table.specs.declared.drafts.Operation.{Operation}
use Rattle.table.specs.Grammar.{Production}
use Rattle.sets.specs.Sets.{Empty, First}
use Rattle.language.specs.Settling.{Reach, to_kind, to_nonterminal, to_end, to_no, slot, checked, advance}

-- the run is `post` after checks alone
pub data Past : List Item → List Item → Type 0 where
  here : {is : List Item} → Past is is
  past_check : {o : Operation} {is post : List Item} → Past is post → Past (Check o ∷ is) post

abbrev pub Reached : {V : Type 0} → List Item → Reach V → Type 0
Reached is (to_kind k rest slots) = Past is (Kind k ∷ rest)
Reached is (to_nonterminal a v rest slots) = (o : Operation) × Past is (Nonterminal a o ∷ rest)
Reached is (to_end slots) = Past is []
Reached is to_no = Unit {0}

-- one more check before the run
one_more : {V : Type 0} (o : Operation) (is : List Item) (r : Reach V) → Reached is r → Reached (Check o ∷ is) r
one_more o is (to_kind k rest slots) past = past_check past
one_more o is (to_nonterminal a v rest slots) past = (past.0, past_check past.1)
one_more o is (to_end slots) past = past_check past
one_more o is to_no past = tt

if_yes : {V : Type 0} (is : List Item) (r : Reach V) (yes_or_no : Bool) → Reached is r → Reached is (cond yes_or_no r to_no)
if_yes is r true past = past
if_yes is r false past = tt

pub reached : {V : Type 0} (m : Meaning V) (is : List Item) (slots : List V) → Reached is (advance m is slots)
reached m [] slots = here
reached m (Kind k ∷ is) slots = here
reached m (Nonterminal a o ∷ is) slots = (o, here)
reached m (Check o ∷ is) slots =
    let next = slots ++ slot m slots o.first ∷ [] in
    if_yes (Check o ∷ is) (advance m is next) (checked m o slots) (one_more o is (advance m is next) (reached m is next))

module _ {g : List Production} where
  pub first_past : {is post : List Item} {k : ℕ} → Past is post → First g post k → First g is k
  first_past here first = first
  first_past (past_check past) first = First.past_check (first_past past first)

  pub empty_past : {is post : List Item} → Past is post → Empty g post → Empty g is
  empty_past here empty = empty
  empty_past (past_check past) empty = Empty.past_check (empty_past past empty)
