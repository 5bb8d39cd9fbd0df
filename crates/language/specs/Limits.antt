-- How much a derivation may use.
use Rattle.std.specs.Prelude.{ℕ}

-- A derivation is finite, so each is within some limits: what holds under any limits holds of every derivation.
pub record Limits : Type 0 where
  -- predictions in sight of one word, or of the end mark
  pub predictions : ℕ
  -- productions open at a time
  pub depth : ℕ
  -- entries of the trail
  pub trail : ℕ

-- the limits that a reading keeps
abbrev pub limits : Limits
limits = record { predictions = 128; depth = 256; trail = 4096 }
