-- What a domain means: the values that the symbols of a table carry.
use Rattle.std.specs.Prelude.{◌≡◌, ℕ, ◌^◌, ◌<◌, Bool, true, Option}

-- The classes of values and the tests on them: all that the strong test of a table asks of a domain.
-- A test is asked of the class of the inherited value and the class of the word in sight, in this order.
pub record Classes : Type 0 where
  pub count : ℕ
  pub test : ℕ → ℕ → ℕ → Bool

-- Rules, checks and tests are named by number, and each is a fixed function of what it is asked of.
pub record Meaning (V : Type 0) : Type 0 where
  pub classes : Classes
  -- what nonterminal 0 inherits
  pub opening : V
  pub class : V → ℕ
  pub rule : ℕ → V → V → V
  pub check : ℕ → V → V → Bool
  -- the value of the number that a word carries, where it has one
  pub number : ℕ → Option V

-- What holds in every domain.
pub record Lawful {V : Type 0} (m : Meaning V) : Type 0 where
  pub some_class : 0 < m.classes.count
  pub few_classes : m.classes.count < 2 ^ 16
  pub class_within : (v : V) → m.class v < m.classes.count
  pub test_zero : (i j : ℕ) → m.classes.test 0 i j ≡ true
