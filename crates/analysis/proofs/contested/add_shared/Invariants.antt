use Rattle.table.specs.Grammar.{grammar}
use Rattle.analysis.proofs.Contesting.{Sharing}
use Rattle.analysis.proofs.contested.add_shared.Given as goal

abbrev pub invariant-loop-n : goal.invariant-loop-n
invariant-loop-n l = Sharing (grammar l.table.draft) l.kinds l.once l.shared l.n
