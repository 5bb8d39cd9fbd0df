-- The sets that `SetWords` and the Predict words hold.
use Rattle.std.specs.Prelude.{◌≡◌, ℕ, Bool, false, ◌&&◌, ◌||◌, List, Decides, slice_index, slice_index_or}
use Rattle.table.specs.declared.drafts.Item.{Item}
use Rattle.table.specs.Grammar.{Production}
use Rattle.table.specs.Kinds.{bit, has}
use Rattle.sets.specs.declared.words.Known.{Known}
use Rattle.sets.specs.declared.words.SetWords.{SetWords}
use Rattle.sets.specs.declared.runs.Run.{Run}
use Rattle.sets.specs.Rules.{Family, run_empty, run_first}
use Rattle.sets.specs.Sets.{At, Predict}

-- nothing is known of a nonterminal
abbrev pub nothing : Known
nothing = record { empty = false; first = 0; follow = 0 }

-- the sets that are held
abbrev pub held : SetWords → Family
held w = record {
  empty = λ a. (slice_index_or w.nonterminals a nothing).empty;
  first = λ a. has (slice_index_or w.nonterminals a nothing).first;
  follow = λ a. has (slice_index_or w.nonterminals a nothing).follow;
}

-- the words are the Predict sets of the productions
pub record Predicted (g : List Production) (words : List ℕ) : Type 0 where
  pub exactly : {n : ℕ} {p : Production} → At g n p → (k : ℕ) → Decides (bit (slice_index words n) k) (Predict g p k)

-- with kind k in sight, a production may be the one to predict: its items can begin with it, or they can be empty and it can follow
-- the left side
abbrev pub run_predict : Family → Production → ℕ → Bool
run_predict s p k = run_first s p.items k || (run_empty s p.items && s.follow p.left k)

-- what the run tells of the items is right
pub record Tells (s : Family) (is : List Item) (r : Run) : Type 0 where
  pub empty : r.empty ≡ run_empty s is
  pub kinds : (k : ℕ) → has r.kinds k ≡ run_first s is k
