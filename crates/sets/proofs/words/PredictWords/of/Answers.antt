use Rattle.std.proofs.Common.{◌∙◌}
use Rattle.sets.proofs.Settling.{get_or-replicated}
use Rattle.sets.proofs.words.PredictWords.of.Goals as goal

pub returns-clause-past : goal.returns-clause-past
returns-clause-past c n past =
    c.write_predicts.ensures.kept n past ∙ get_or-replicated 0 126 n
