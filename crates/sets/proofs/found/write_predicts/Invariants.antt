use Rattle.table.specs.Grammar.{grammar}
use Rattle.sets.specs.Words.{held}
use Rattle.sets.proofs.Predicting.{Written}
use Rattle.sets.proofs.found.write_predicts.Given as goal

abbrev pub invariant-loop-n : goal.invariant-loop-n
invariant-loop-n l = Written (grammar l.table.draft) (held l.sets) l.initial.words l.words l.n
