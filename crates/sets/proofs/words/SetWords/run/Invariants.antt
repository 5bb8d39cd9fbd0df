use Rattle.std.proofs.Common.{drop}
use Rattle.sets.specs.Words.{held}
use Rattle.sets.proofs.Walks.{Walked}
use Rattle.sets.proofs.words.SetWords.run.Given as goal

abbrev pub invariant-loop-item : goal.invariant-loop-item
invariant-loop-item l = Walked (held l.self) l.items l.kinds (drop l.item-index l.items)
