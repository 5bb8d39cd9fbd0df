use Rattle.std.proofs.Common.{◌≡◌, get_or, sym, ap₂, subst, arith}
use lib.Bits.{bit_and, bit_or}
use Rattle.analysis.proofs.Words.{both_none}
use Rattle.analysis.proofs.Standing.{below_or_at}
use Rattle.analysis.proofs.search.apart.Goals as goal

pub loop-i-preserved : goal.loop-i-preserved
loop-i-preserved c = (
  λ none k h.
      let parts = both_none _ _ none in
      below_or_at k c.loop-i.i h (c.loop-i.invariant.0 parts.0 k)
      (λ at. subst (λ x. bit_and (get_or c.args.one.now x 0) (get_or c.args.other.now x 0) ≡ 0) (sym at) parts.1),
  λ all. ap₂ bit_or (c.loop-i.invariant.1 (λ k h. all k (omega arith))) (all c.loop-i.i (omega arith)),
)
