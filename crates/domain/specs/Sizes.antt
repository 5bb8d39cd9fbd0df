-- The sizes in which Minutes and Posts can be made.
use Rattle.std.specs.Prelude.{ℕ, Bool, true, ◌&&◌, List, [], ◌∷◌, length, nat_le, nat_lt}

-- the cuts rise strictly, from above `low` up to the limit
abbrev pub rising : ℕ → ℕ → List ℕ → Bool
rising low limit [] = true
rising low limit (cut ∷ cuts) = nat_lt low cut && nat_le cut limit && rising cut limit cuts

-- a limit of at least 1, and up to seven cuts, strictly rising, each from 1 to the limit
abbrev pub minutes_sized : ℕ → List ℕ → Bool
minutes_sized limit cuts = nat_lt 0 limit && nat_le (length cuts) 7 && rising 0 limit cuts

-- one to six posts
abbrev pub posts_sized : ℕ → Bool
posts_sized count = nat_lt 0 count && nat_le count 6
