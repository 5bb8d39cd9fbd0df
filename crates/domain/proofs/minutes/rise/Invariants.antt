use Rattle.std.proofs.Common.{◌≡◌, drop}
use Rattle.domain.specs.Sizes.{rising}
use Rattle.domain.proofs.minutes.rise.Given as goal

-- the cuts that are left, above the last one, decide
abbrev pub invariant-loop-cut : goal.invariant-loop-cut
invariant-loop-cut l = rising l.low l.limit (drop l.cut-index l.cuts) ≡ rising 0 l.limit l.cuts
