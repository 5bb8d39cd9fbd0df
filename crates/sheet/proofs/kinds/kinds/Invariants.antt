use Rattle.std.proofs.Common.{◌≡◌, ◌+◌, [], length, vec_items}
use Rattle.table.specs.Rules.{spellings}
use Rattle.text.specs.Cursors.{to_come}
use Rattle.text.specs.Words.{words}
use Rattle.sheet.specs.Kinds.{kinds_after}
use Rattle.sheet.proofs.kinds.kinds.Given as goal

-- the words that are still to come complete the kinds
abbrev pub invariant-loop-word : goal.invariant-loop-word
invariant-loop-word g l =
    kinds_after (g.D.Domain.meaning l.domain) (spellings l.table.draft) (vec_items l.kinds) (l.cursor.count + 1) (to_come l.cursor)
    ≡ kinds_after (g.D.Domain.meaning l.domain) (spellings l.table.draft) [] 1 (words l.text)

abbrev pub decreases-loop-word : goal.decreases-loop-word
decreases-loop-word g l = length (to_come l.cursor)
