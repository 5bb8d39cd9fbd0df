use Rattle.std.proofs.Common.{◌≡◌, ℕ, ◌<◌, ◌↔◌, get_or}
use lib.Bits.{bit_and}
use Rattle.analysis.proofs.search.apart.Given as goal

abbrev pub invariant-loop-i : goal.invariant-loop-i
invariant-loop-i l = l.common ≡ 0 ↔ ((k : ℕ) → k < l.i → bit_and (get_or l.one k 0) (get_or l.other k 0) ≡ 0)
