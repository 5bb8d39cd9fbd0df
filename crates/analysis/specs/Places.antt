-- The places of tests. No contract of a public function cites it.
use Rattle.std.specs.Prelude.{ℕ, ◌≤◌, ◌≢◌, List, None, IsSome, slice_index, slice_index_or}
use Rattle.table.specs.Grammar.{Production}
use Rattle.sets.specs.Sets.{At}
use Rattle.analysis.specs.declared.places.Tests.{Tests}

-- the test has a place
abbrev pub Placed : Tests → ℕ → Type 0
Placed t test = IsSome (slice_index_or t.places test None)

-- the test of each production whose word is not 0 has a place; there are at most 126 places
pub record AllPlaced (g : List Production) (kinds : List ℕ) (t : Tests) : Type 0 where
  pub few : t.count ≤ 126
  pub placed : {n : ℕ} {p : Production} → At g n p → (slice_index kinds n ≢ 0) → Placed t p.test
