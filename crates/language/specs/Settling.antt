-- Settling: what follows by itself when a slot has been filled.
use Rattle.std.specs.Prelude.{ℕ, Bool, cond, List, [], ◌∷◌, ◌++◌, Some, None, Option, slice_index_or}
use Rattle.domain.specs.Meaning.{Meaning}
use Rattle.table.specs.declared.drafts.Item.{Item}
use Rattle.table.specs.declared.drafts.Item.TheVariants.{Kind, Nonterminal, Check}
use Rattle.table.specs.declared.drafts.Operation.{Operation}
use Rattle.table.specs.Grammar.{Production}
use Rattle.language.specs.Configurations.{Frame, Config, a_kind, a_nonterminal, nothing}

-- Where a run of items comes to by itself: to a kind or a nonterminal, with the items after it; to its end; or to a check that says no.
pub data Reach (V : Type 0) : Type 0 where
  to_kind : ℕ → List Item → List V → Reach V
  to_nonterminal : ℕ → V → List Item → List V → Reach V
  to_end : List V → Reach V
  to_no : Reach V

module _ {V : Type 0} (m : Meaning V) where
  -- the value of a slot; an item names only slots before it, which are filled, so that the opening value never stands in for one
  abbrev pub slot : List V → ℕ → V
  slot slots n = slice_index_or slots n m.opening

  -- what a rule makes of its two slots
  abbrev pub ruled : Operation → List V → V
  ruled o slots = m.rule o.number (slot slots o.first) (slot slots o.second)

  -- what a check says of its two slots
  abbrev pub checked : Operation → List V → Bool
  checked o slots = m.check o.number (slot slots o.first) (slot slots o.second)

  -- a check that says yes fills its slot with its first slot's value
  abbrev pub advance : List Item → List V → Reach V
  advance [] slots = to_end slots
  advance (Kind k ∷ rest) slots = to_kind k rest slots
  advance (Nonterminal a o ∷ rest) slots = to_nonterminal a (ruled o slots) rest slots
  advance (Check o ∷ rest) slots = cond (checked o slots) (advance rest (slots ++ slot slots o.first ∷ [])) to_no

  -- production p, having come so far, over the open productions `below`; `finish` takes its result
  abbrev pub settle : List ℕ → Production → List (Frame V) → (V → Option (Config V)) → Reach V → Option (Config V)
  settle trail p below finish (to_kind k rest slots) = Some (record { trail = trail; frames = record { production = p; rest = rest; slots = slots } ∷ below; next = a_kind k })
  settle trail p below finish (to_nonterminal a v rest slots) = Some (record { trail = trail; frames = record { production = p; rest = rest; slots = slots } ∷ below; next = a_nonterminal a v })
  settle trail p below finish (to_end slots) = finish (ruled p.result slots)
  settle trail p below finish to_no = None

  -- value v fills the slot under way and all is settled: none where a check says no
  abbrev pub give : List ℕ → List (Frame V) → V → Option (Config V)
  give trail [] v = Some (record { trail = trail; frames = []; next = nothing v })
  give trail (f ∷ below) v = settle trail f.production below (λ result. give trail below result) (advance f.rest (f.slots ++ v ∷ []))

-- production p before its slot 0 is filled, by the value that it inherits
abbrev pub opened : {V : Type 0} → Production → Frame V
opened p = record { production = p; rest = p.items; slots = [] }
