-- What the search for the first clash finds. No contract of a public function cites it.
use Rattle.std.specs.Prelude.{List}
use Rattle.domain.specs.Meaning.{Classes}
use Rattle.table.specs.Grammar.{Production}
use Rattle.analysis.specs.declared.faults.Clash as found
use Rattle.analysis.specs.Clashes.{Clash}
use Rattle.analysis.specs.Verdict.{NoneBefore}

-- what was found is a clash, and the first
pub record FirstClash (c : Classes) (g : List Production) (f : found.Clash) : Type 0 where
  pub clashes : Clash c g f.a f.b f.kind f.inherited f.word
  pub first : NoneBefore (Clash c g) f.a f.b f.kind f.inherited f.word
