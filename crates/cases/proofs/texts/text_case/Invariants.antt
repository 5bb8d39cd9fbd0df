use Rattle.std.proofs.Common.{length}
use Rattle.text.specs.Cursors.{to_come}
use Rattle.cases.proofs.texts.text_case.Given as goal

-- each word leaves fewer to come
abbrev pub decreases-loop-word : goal.decreases-loop-word
decreases-loop-word l = length (to_come l.cursor)
