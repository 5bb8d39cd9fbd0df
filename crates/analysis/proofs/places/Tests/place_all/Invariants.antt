use Rattle.table.specs.Grammar.{grammar}
use Rattle.analysis.proofs.Placing.{Placing}
use Rattle.analysis.proofs.places.Tests.place_all.Given as goal

abbrev pub invariant-loop-n : goal.invariant-loop-n
invariant-loop-n l = Placing (grammar l.table.draft) l.kinds l.self l.n
