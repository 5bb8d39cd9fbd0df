-- The productions of a draft as plain lists: all that sets, derivations and readers speak of.
use Rattle.std.specs.Prelude.{ℕ, Bool, List, map, vec_items}
use Rattle.table.specs.declared.drafts.Draft.{Draft}
use Rattle.table.specs.declared.drafts.Item.{Item}
use Rattle.table.specs.declared.drafts.Operation.{Operation}
use Rattle.table.specs.declared.drafts.Production as filled
use Rattle.table.specs.Kinds.{has}

pub record Production : Type 0 where
  pub left : ℕ
  pub test : ℕ
  -- the sight set: the kinds in sight of which it may be predicted
  pub sight : ℕ → Bool
  pub items : List Item
  pub result : Operation

abbrev pub plain : filled.Production → Production
plain p = record { left = p.left; test = p.test; sight = has p.sight; items = vec_items p.items; result = p.result }

abbrev pub grammar : Draft → List Production
grammar d = map plain (vec_items d.productions)
