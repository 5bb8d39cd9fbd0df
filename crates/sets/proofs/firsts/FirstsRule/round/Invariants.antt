use Rattle.std.proofs.Common.{◌≤◌, length}
use Rattle.std.specs.Iterator.Adapters.{rev_source}
use Rattle.std.specs.Slice.Iter.{iter_rest}
use Rattle.table.specs.Grammar.{grammar}
use Rattle.sets.specs.Rounds.{follow_alone}
use Rattle.sets.specs.Rules.{EmptyRule, FirstRule}
use Rattle.sets.proofs.Going.{Going}
use Rattle.sets.proofs.Walks.{FromBack}
use Rattle.sets.proofs.firsts.FirstsRule.round.Given as goal

abbrev pub invariant-loop-production : goal.invariant-loop-production
invariant-loop-production l =
    FromBack l.table.draft.productions.items (iter_rest (rev_source l.production-iterator))
    (λ passed. Going (grammar l.table.draft) (λ s p. EmptyRule s p × FirstRule s p) follow_alone
    (λ n. length (iter_rest (rev_source l.production-iterator)) ≤ n) l.grown l.initial.sets l.sets)
