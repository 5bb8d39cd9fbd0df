-- Derivations of words one after another.
use Rattle.std.proofs.Common.{List, [], ◌∷◌, ◌++◌, subst}
use Rattle.domain.specs.Meaning.{Meaning}
use Rattle.table.specs.Grammar.{Production}
use Rattle.language.specs.Configurations.{Word, Config}
use Rattle.language.specs.Derivations.{Takes, taking}
use Rattle.language.specs.Limits.{Limits}
use Rattle.language.proofs.Keeps.{given_good, predicts_good}
use Rattle.language.proofs.Stacks.{Good, awaits_ready}

module _ {V : Type 0} (m : Meaning V) (g : List Production) {limits : Limits} where
  pub takes_good : {c d : Config V} {ws : List (Word V)} → Takes m g limits c ws d → Good g c.frames c.next → Good g d.frames d.next
  takes_good Takes.done good = good
  takes_good (taking {w = w} {d = d} predicts next given rest) good =
      let awaits = subst (Good g d.frames) next (predicts_good m g predicts good) in
      takes_good rest (given_good m g d.trail d.frames w.value (awaits_ready g w.kind d.frames awaits) given)

  pub one_more : {c d e : Config V} {ws : List (Word V)} {w : Word V} → Takes m g limits c ws d → Takes m g limits d (w ∷ []) e → Takes m g limits c (ws ++ w ∷ []) e
  one_more Takes.done last = last
  one_more (taking predicts next given rest) last = taking predicts next given (one_more rest last)

  pub all_but_one : (ws : List (Word V)) (w : Word V) (c e : Config V) → Takes m g limits c (ws ++ w ∷ []) e → (d : Config V) × Takes m g limits c ws d × Takes m g limits d (w ∷ []) e
  all_but_one [] w c e takes = (c, Takes.done, takes)
  all_but_one (x ∷ ws) w c e (taking {e = d} predicts next given rest) =
      let split = all_but_one ws w d e rest in
      (split.0, taking predicts next given split.1, split.2)
