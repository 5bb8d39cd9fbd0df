use Rattle.table.specs.Grammar.{grammar}
use Rattle.sets.specs.Words.{held}
use Rattle.sets.proofs.Going.{InsideSoFar}
use Rattle.sets.proofs.words.SetWords.inside_round.Given as goal

abbrev pub invariant-loop-production : goal.invariant-loop-production
invariant-loop-production l = InsideSoFar (grammar l.table.draft) (held l.initial.self) l.production-index (held l.self)
