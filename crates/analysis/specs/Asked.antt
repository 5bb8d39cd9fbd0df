-- What a test says at all classes. No contract of a public function cites it.
use Rattle.std.specs.Prelude.{◌≡◌, ℕ, ◌<◌, false, List, slice_index}
use Rattle.domain.specs.Meaning.{Classes}
use Rattle.table.specs.Kinds.{bit}

-- at the classes i and j below the count, row i has bit j exactly where the test says yes
abbrev pub Rows : Classes → ℕ → List ℕ → Type 0
Rows c test rows = (i j : ℕ) → i < c.count → j < c.count → bit (slice_index rows i) j ≡ c.test test i j

-- the test says yes nowhere
abbrev pub Never : Classes → ℕ → Type 0
Never c test = (i j : ℕ) → i < c.count → j < c.count → c.test test i j ≡ false
