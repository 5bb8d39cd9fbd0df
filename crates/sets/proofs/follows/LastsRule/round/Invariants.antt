use Rattle.std.proofs.Common.{◌<◌}
use Rattle.table.specs.Grammar.{grammar}
use Rattle.sets.specs.Rounds.{firsts_alone}
use Rattle.sets.specs.Rules.{LastRule}
use Rattle.sets.proofs.Going.{Going}
use Rattle.sets.proofs.follows.LastsRule.round.Given as goal

abbrev pub invariant-loop-production : goal.invariant-loop-production
invariant-loop-production l = Going (grammar l.table.draft) LastRule firsts_alone (λ n. n < l.production-index) l.grown l.initial.sets l.sets
