use Rattle.table.specs.Grammar.{grammar}
use Rattle.analysis.proofs.Contesting.{Narrowing}
use Rattle.analysis.proofs.contested.write_contested.Given as goal

abbrev pub invariant-loop-n : goal.invariant-loop-n
invariant-loop-n l = Narrowing (grammar l.table.draft) l.initial.kinds l.shared l.kinds l.n
