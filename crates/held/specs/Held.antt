-- The table that the program holds.
use Rattle.std.specs.Prelude.{◌≡◌, ℕ, List, [], ◌∷◌, map, codes}
use Rattle.table.specs.declared.drafts.Draft.{Draft}
use Rattle.table.specs.declared.drafts.Spelling.{Spelling}
use Rattle.table.specs.Grammar.{grammar}
use Rattle.table.specs.Rules.{spellings}
use Rattle.table.specs.Spellings.{letters}
use Rattle.language.specs.Tables.{w_table, without_else}

pub record Entry : Type 0 where
  pub kind : ℕ
  pub number : ℕ
  pub letters : List ℕ

abbrev pub entry : Spelling → Entry
entry s = record { kind = s.kind; number = s.number; letters = letters s }

abbrev pub spelt : ℕ → List ℕ → Entry
spelt kind letters = record { kind = kind; number = 0; letters = letters }

-- an order is WHEN, an order and a rest, or PARK; a rest is ELSE and an order, or nothing unless ELSE is in sight
pub record Held (d : Draft) : Type 0 where
  pub nonterminals : d.nonterminals ≡ 2
  pub kinds : d.kinds ≡ 4
  pub derives : grammar d ≡ w_table without_else
  pub spells : map entry (spellings d) ≡ spelt 1 (codes "WHEN") ∷ spelt 2 (codes "PARK") ∷ spelt 3 (codes "ELSE") ∷ []
