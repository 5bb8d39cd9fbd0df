-- What a reader has of a made table.
use Rattle.std.specs.Prelude.{◌≡◌, ℕ, true, List, slice_index}
use Rattle.table.specs.declared.drafts.Draft.{Draft}
use Rattle.table.specs.Grammar.{grammar}
use Rattle.table.specs.Kinds.{bit}
use Rattle.table.specs.Rules.{sound}
use Rattle.sets.specs.Words.{Predicted}
use Rattle.language.specs.Law.{Made}
use Rattle.language.specs.Reader.{Guide}

-- its kinds and productions, and its Predict sets as words of bits
abbrev pub guide_of : Draft → List ℕ → Guide
guide_of d words = record { kinds = d.kinds; productions = grammar d; predict = λ place. bit (slice_index words place) }

-- every made table with its Predict sets is one that the law speaks of
abbrev pub TablesGuide : Type 0
TablesGuide = (d : Draft) (words : List ℕ) → sound d ≡ true → Predicted (grammar d) words → Made (guide_of d words)
