-- What is known of tests that have places. No contract of a public function cites it.
use Rattle.std.specs.Prelude.{◌≡◌, ℕ, Bool, true, false, List, [], Option, Some, None, slice_index_or}
use Rattle.domain.specs.Meaning.{Classes}
use Rattle.analysis.specs.Asked.{Rows, Never}

-- a test that was asked either says yes somewhere, and the rows are its answers, or never says yes
pub record Known (c : Classes) (test : ℕ) (ever : Option Bool) (rows : List ℕ) : Type 0 where
  pub somewhere : ever ≡ Some true → Rows c test rows
  pub nowhere : ever ≡ Some false → Never c test

-- what is known of each test that has a place
abbrev pub AllKnown : Classes → List (Option ℕ) → List (Option Bool) → List (List ℕ) → Type 0
AllKnown c places ever rows =
    (test place : ℕ) → slice_index_or places test None ≡ Some place → Known c test (slice_index_or ever place None) (slice_index_or rows place [])

-- the test was asked, and says yes somewhere
pub record Told (places : List (Option ℕ)) (ever : List (Option Bool)) (test : ℕ) : Type 0 where
  pub place : ℕ
  pub placed : slice_index_or places test None ≡ Some place
  pub told : slice_index_or ever place None ≡ Some true
