-- Where a derivation or a reading stands.
use Rattle.std.specs.Prelude.{ℕ, List, []}
use Rattle.domain.specs.Meaning.{Meaning}
use Rattle.table.specs.declared.drafts.Item.{Item}
use Rattle.table.specs.Grammar.{Production}

-- a word of a sheet; its kind may be any number
pub record Word (V : Type 0) : Type 0 where
  pub kind : ℕ
  pub value : V

-- what is outstanding: a word of a kind, a nonterminal with the value that it inherits, or nothing, with the sheet's value
pub data Next (V : Type 0) : Type 0 where
  a_kind : ℕ → Next V
  a_nonterminal : ℕ → V → Next V
  nothing : V → Next V

-- an open production: the items after the one under way, and the values of the slots before it, slot 0 first
pub record Frame (V : Type 0) : Type 0 where
  pub production : Production
  pub rest : List Item
  pub slots : List V

-- the predicted productions by their places; the open ones, the innermost first; and what is outstanding
pub record Config (V : Type 0) : Type 0 where
  pub trail : List ℕ
  pub frames : List (Frame V)
  pub next : Next V

-- what a derivation, or a reading that closes, comes to
pub record Outcome (V : Type 0) : Type 0 where
  pub trail : List ℕ
  pub value : V

-- nonterminal 0 is outstanding, inheriting the opening value
abbrev pub start : {V : Type 0} → Meaning V → Config V
start m = record { trail = []; frames = []; next = a_nonterminal 0 m.opening }
