-- Sets of posts are equal where their numbers are.
use Rattle.std.proofs.Common.{◌≡◌, ◌<◌}
use mathlib.Core.HLevel.{is_prop→PathP}
use native.Mathlib.Bridge.{le_prop}
use Rattle.domain.specs.declared.posts.PostSet.{PostSet}

pub same_set : (s t : PostSet) → s.bits ≡ t.bits → s ≡ t
same_set s t e = λ i. record { bits = e i; six = is_prop→PathP (λ j. e j < 64) (λ j. le_prop) s.six t.six i }
