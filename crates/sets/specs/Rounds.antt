-- How the sets are found: what the rules give at a production is added to what is known, round after round, until nothing is new. No
-- contract of a public function cites it.
use Rattle.std.specs.Prelude.{◌≡◌, ℕ, ◌+◌, ◌<◌, Bool, true, false, ◌&&◌, ◌||◌, List, length, sum_by, ◌==◌}
use Rattle.table.specs.declared.drafts.Item.{Item}
use Rattle.table.specs.Grammar.{Production}
use Rattle.sets.specs.declared.words.Known.{Known}
use Rattle.sets.specs.declared.words.SetWords.{SetWords}
use Rattle.sets.specs.Rules.{Family, Within, run_empty, run_first, run_last}
use Rattle.sets.specs.Sets.{Follow, CanBeEmpty, CanBegin, end_mark}
use Rattle.sets.specs.Words.{held}

-- before the first round: Follow of nonterminal 0 holds the end mark
abbrev pub beginning : Family
beginning = record { empty = λ a. false; first = λ a k. false; follow = λ a k. (0 == a) && (end_mark == k) }

-- sets that hold only what the rules define
pub record Sound (g : List Production) (s : Family) : Type 0 where
  pub empty : (a : ℕ) → s.empty a ≡ true → CanBeEmpty g a
  pub first : (a k : ℕ) → s.first a k ≡ true → CanBegin g a k
  pub follow : (a k : ℕ) → s.follow a k ≡ true → Follow g a k

abbrev pub one_if : Bool → ℕ
one_if true = 1
one_if false = 0

-- what is known of one nonterminal as a number, which rises where a set grows
abbrev pub weight_of : Known → ℕ
weight_of n = one_if n.empty + n.first + n.follow

-- that of all nonterminals
abbrev pub weight : SetWords → ℕ
weight w = sum_by weight_of w.nonterminals

-- the sets, of as many nonterminals as before, have grown from v to w where `grown` says so; else they are the same
pub record Grown (grown : Bool) (v w : SetWords) : Type 0 where
  pub long : length w.nonterminals ≡ length v.nonterminals
  pub same : grown ≡ false → w ≡ v
  pub more : grown ≡ true → weight v < weight w
  pub within : Within (held v) (held w)

-- the sets, with what the rules of Empty and First give at a production of this left side and these items
abbrev pub with_first : Family → ℕ → List Item → Family
with_first s left is = record {
  empty = λ a. s.empty a || (left == a && run_empty s is);
  first = λ a k. s.first a k || (left == a && run_first s is k);
  follow = s.follow;
}

-- the sets, with these Follow sets too
abbrev pub with_follow : Family → (ℕ → ℕ → Bool) → Family
with_follow s by = record { empty = s.empty; first = s.first; follow = λ a k. s.follow a k || by a k }

-- Follow alone, which the rules of Empty and First leave as it is
abbrev pub follow_alone : Family → Family
follow_alone s = record { empty = λ a. false; first = λ a k. false; follow = s.follow }

-- Empty and First alone, which what is added to Follow leaves as they are
abbrev pub firsts_alone : Family → Family
firsts_alone s = record { empty = s.empty; first = s.first; follow = λ a k. false }

-- what can follow the left side, at each nonterminal after which all items can be empty
abbrev pub from_left : Family → ℕ → List Item → ℕ → ℕ → Bool
from_left s left is a k = run_last s is a && s.follow left k
