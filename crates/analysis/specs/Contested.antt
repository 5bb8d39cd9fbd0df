-- The kinds at which productions can clash, as a word for each. No contract of a public function cites it.
use Rattle.std.specs.Prelude.{◌≡◌, ℕ, ◌<◌, true, List, Decides, slice_index}
use Rattle.domain.specs.Meaning.{Classes}
use Rattle.table.specs.Grammar.{Production}
use Rattle.table.specs.Kinds.{bit}
use Rattle.sets.specs.Sets.{At, Predict}
use Rattle.analysis.specs.Clashes.{Clash}

-- kind k is in the production's Predict set and in its sight set
abbrev pub Sees : List Production → Production → ℕ → Type 0
Sees g p k = Predict g p k × (p.sight k ≡ true)

-- word n has exactly the kinds that production n sees
pub record Seen (g : List Production) (kinds : List ℕ) : Type 0 where
  pub exactly : {n : ℕ} {p : Production} → At g n p → (k : ℕ) → Decides (bit (slice_index kinds n) k) (Sees g p k)

-- the word of a left side has each kind that two of its productions have
pub record Shared (g : List Production) (kinds shared : List ℕ) : Type 0 where
  pub all : {a b : ℕ} {p q : Production} → At g a p → At g b q → a < b → p.left ≡ q.left
      → (k : ℕ) → bit (slice_index kinds a) k ≡ true → bit (slice_index kinds b) k ≡ true → bit (slice_index shared p.left) k ≡ true

-- word n has only kinds that production n sees, and each at which, under some tests, it clashes with another
pub record Contested (g : List Production) (kinds : List ℕ) : Type 0 where
  pub only : {n : ℕ} {p : Production} → At g n p → (k : ℕ) → bit (slice_index kinds n) k ≡ true → Sees g p k
  pub all : {c : Classes} {a b k i j : ℕ} → Clash c g a b k i j → (bit (slice_index kinds a) k ≡ true) × (bit (slice_index kinds b) k ≡ true)
