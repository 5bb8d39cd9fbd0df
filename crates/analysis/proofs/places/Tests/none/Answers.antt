use Rattle.analysis.proofs.Placing.{placed_nowhere}
use Rattle.analysis.proofs.places.Tests.none.Goals as goal

pub invariant_of-result : goal.invariant_of-result
invariant_of-result c = record {
  below = λ test place at. absurd (placed_nowhere 256 test place at);
  own = λ test other place at _. absurd (placed_nowhere 256 test place at);
}
