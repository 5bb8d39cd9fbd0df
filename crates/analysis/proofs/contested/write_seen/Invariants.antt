use Rattle.table.specs.Grammar.{grammar}
use Rattle.analysis.proofs.Contesting.{Seeing}
use Rattle.analysis.proofs.contested.write_seen.Given as goal

abbrev pub invariant-loop-n : goal.invariant-loop-n
invariant-loop-n l = Seeing (grammar l.table.draft) l.kinds l.n
