use Rattle.sets.proofs.Settling.{begins}
use Rattle.sets.proofs.words.SetWords.start.Goals as goal

pub returns : goal.returns
returns c = begins _ _ c.nothing-nothing.ensures c.only.ensures
