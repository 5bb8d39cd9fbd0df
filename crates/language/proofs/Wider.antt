-- What is derived within limits is derived within wider ones.
use Rattle.std.proofs.Common.{ℕ, zero, suc, ◌≤◌, max, List, arith}
use Rattle.domain.specs.Meaning.{Meaning}
use Rattle.table.specs.Grammar.{Production}
use Rattle.language.specs.Configurations.{Word, Config}
use Rattle.language.specs.Derivations.{Sight, of_word, Predicts, predicting, Takes, taking}
use Rattle.language.specs.Limits.{Limits}

pub record Wider (limits wide : Limits) : Type 0 where
  pub predictions : limits.predictions ≤ wide.predictions
  pub depth : limits.depth ≤ wide.depth
  pub trail : limits.trail ≤ wide.trail

-- limits that are wider than both
abbrev pub both : Limits → Limits → Limits
both one other = record { predictions = max one.predictions other.predictions; depth = max one.depth other.depth; trail = max one.trail other.trail }

pub than_one : (one other : Limits) → Wider one (both one other)
than_one one other = omega arith

pub than_other : (one other : Limits) → Wider other (both one other)
than_other one other = omega arith

module _ {V : Type 0} (m : Meaning V) (g : List Production) {limits wide : Limits} (wider : Wider limits wide) where
  pub predicts_wider : (s : Sight) {left : ℕ} {c d : Config V} (more : ℕ) → left ≤ more → Predicts m g limits s left c d → Predicts m g wide s more c d
  predicts_wider s more le Predicts.done = Predicts.done
  predicts_wider s zero le (predicting {left = left} next at may deep long given rest) = absurd (omega arith)
  predicts_wider s {c = c} (suc more) le (predicting {left = left} next at may deep long given rest) =
      predicting next at may (omega (arith, deep, wider.depth)) (omega (arith, long, wider.trail)) given (predicts_wider s more (omega arith) rest)

  pub takes_wider : {c d : Config V} {ws : List (Word V)} → Takes m g limits c ws d → Takes m g wide c ws d
  takes_wider Takes.done = Takes.done
  takes_wider (taking {w = w} predicts next given rest) = taking (predicts_wider (of_word m w) wide.predictions wider.predictions predicts) next given (takes_wider rest)
