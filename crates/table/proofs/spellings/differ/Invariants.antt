use Rattle.std.proofs.Common.{◌≡◌, length}
use Rattle.table.specs.Spellings.{distinct}
use Rattle.table.proofs.spellings.differ.Given as goal

-- the spellings that are left decide
abbrev pub invariant-loop-first : goal.invariant-loop-first
invariant-loop-first l = distinct l.left ≡ distinct l.spellings

abbrev pub decreases-loop-first : goal.decreases-loop-first
decreases-loop-first l = length l.left
