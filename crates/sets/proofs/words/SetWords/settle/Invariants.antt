use Rattle.std.proofs.Common.{◌≡◌}
use Rattle.table.specs.Grammar.{grammar}
use Rattle.sets.specs.Rounds.{Sound}
use Rattle.sets.specs.Rules.{Within}
use Rattle.sets.specs.Words.{held}
use Rattle.sets.proofs.Growing.{room}
use Rattle.sets.proofs.words.SetWords.settle.Given as goal

abbrev pub invariant-loop : goal.invariant-loop
invariant-loop g l = record {
  sound : Sound (grammar l.table.draft) (held l.self);
  within : Within (held l.initial.self) (held l.self);
  others : g.R.Rule.others (held l.self) ≡ g.R.Rule.others (held l.initial.self);
}

abbrev pub decreases-loop : goal.decreases-loop
decreases-loop g l = room l.self
