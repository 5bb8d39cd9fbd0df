-- What a table derives. No Predict set occurs here: a derivation may go on by any production that the table allows.
use Rattle.std.specs.Prelude.{◌≡◌, ℕ, suc, ◌<◌, Bool, true, ◌&&◌, List, [], ◌∷◌, ◌++◌, length, Some, ◌==◌}
use Rattle.domain.specs.Meaning.{Meaning}
use Rattle.table.specs.Grammar.{Production}
use Rattle.analysis.specs.Clashes.{tested}
use Rattle.sets.specs.Sets.{At, end_mark}
use Rattle.language.specs.Configurations.{Word, Config, Outcome, a_kind, a_nonterminal, nothing, start}
use Rattle.language.specs.Limits.{Limits}
use Rattle.language.specs.Settling.{give, opened}

-- what is in sight: a word, or the end mark
pub record Sight : Type 0 where
  pub kind : ℕ
  pub class : ℕ

abbrev pub of_word : {V : Type 0} → Meaning V → Word V → Sight
of_word m w = record { kind = w.kind; class = m.class w.value }

abbrev pub of_end : Sight
of_end = record { kind = end_mark; class = 0 }

-- in this sight production p may be predicted for nonterminal a, inheriting v
abbrev pub allowed : {V : Type 0} → Meaning V → Sight → ℕ → V → Production → Bool
allowed m s a v p = p.left == a && p.sight s.kind && tested m.classes p (m.class v) s.class

-- in this sight at most so many predictions, each within the limits, lead from one configuration to another
pub data Predicts {V : Type 0} (m : Meaning V) (g : List Production) (limits : Limits) (s : Sight) : ℕ → Config V → Config V → Type 0 where
  done : {left : ℕ} {c : Config V} → Predicts m g limits s left c c
  predicting : {left a place : ℕ} {v : V} {p : Production} {c d e : Config V}
      → c.next ≡ a_nonterminal a v
      → At g place p
      → allowed m s a v p ≡ true
      → length c.frames < limits.depth
      → length c.trail < limits.trail
      → give m (c.trail ++ place ∷ []) (opened p ∷ c.frames) v ≡ Some d
      → Predicts m g limits s left d e
      → Predicts m g limits s (suc left) c e

-- the words are taken in order, each with predictions in sight of it before
pub data Takes {V : Type 0} (m : Meaning V) (g : List Production) (limits : Limits) : Config V → List (Word V) → Config V → Type 0 where
  done : {c : Config V} → Takes m g limits c [] c
  taking : {w : Word V} {ws : List (Word V)} {c d e f : Config V}
      → Predicts m g limits (of_word m w) limits.predictions c d
      → d.next ≡ a_kind w.kind
      → give m d.trail d.frames w.value ≡ Some e
      → Takes m g limits e ws f
      → Takes m g limits c (w ∷ ws) f

-- an open derivation of the words comes to configuration c
abbrev pub OpenDerivation : {V : Type 0} → Meaning V → List Production → Limits → List (Word V) → Config V → Type 0
OpenDerivation m g limits ws c = Takes m g limits (start m) ws c

-- a derivation of the words goes on from an open one, in sight of the end mark, until nothing is outstanding
pub record Derivation {V : Type 0} (m : Meaning V) (g : List Production) (limits : Limits) (ws : List (Word V)) (outcome : Outcome V) : Type 0 where
  pub last : Config V
  pub end : Config V
  pub opens : OpenDerivation m g limits ws last
  pub closes : Predicts m g limits of_end limits.predictions last end
  pub its_value : end.next ≡ nothing outcome.value
  pub its_trail : end.trail ≡ outcome.trail
