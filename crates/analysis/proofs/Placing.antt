-- The tests that have a place.
use Rattle.std.proofs.Common.{◌≡◌, ℕ, ◌+◌, ◌<◌, ◌≤◌, List, length, get_or, replicate, Some, None, Option, IsSome, is_some, sym, refl, ap, ◌∙◌, ⊎_elim, arith}
use Rattle.std.proofs.lemmas.Bool.{cases_lt, false≢true}
use Rattle.std.proofs.lemmas.List.{get_or-replicate, get_or_past, length-replicate}
use Rattle.table.specs.Grammar.{Production}
use Rattle.sets.specs.Sets.{At}
use Rattle.analysis.specs.declared.places.Tests.{Tests}
use Rattle.analysis.specs.Places.{Placed, AllPlaced}
use Rattle.analysis.proofs.Standing.{Below, below_next, below_all}

pub placed_nowhere : (n test place : ℕ) → get_or (replicate n None) test None ≡ Some place → ⊥
placed_nowhere n test place at =
    let empty : Option ℕ = None in
    let none : get_or (replicate n empty) test empty ≡ empty =
    ⊎_elim
    (λ within. get_or-replicate n test empty empty within)
    (λ past. get_or_past (replicate n empty) test empty (omega (arith, length-replicate n empty)))
    (cases_lt test n) in
    false≢true (ap is_some (sym none ∙ at))

-- where there is no place, no test has one
pub no_places : (o : Option ℕ) → ((place : ℕ) → o ≡ Some place → place < 0) → IsSome o → ⊥
no_places None within placed = false≢true placed
no_places (Some place) within placed = let no = within place refl in omega arith

module _ (g : List Production) (kinds : List ℕ) where
  -- the tests of the productions below n whose words are not 0 have places
  pub record Placing (t : Tests) (n : ℕ) : Type 0 where
    pub few : t.count ≤ n
    pub placed : Below g n (λ m p. (get_or kinds m 0 ≡ 0 → ⊥) → Placed t p.test)

  -- a production that has a kind
  pub placing_then : (t t' : Tests) (n : ℕ) (q : Production) → At g n q → t'.count ≤ t.count + 1 → Placed t' q.test
      → ((test : ℕ) → Placed t test → Placed t' test) → Placing t n → Placing t' (n + 1)
  placing_then t t' n q stands more now kept s = record {
    few = omega (arith, s.few);
    placed = below_next g _ n q stands (λ m p h at some. kept p.test (s.placed m p h at some)) (λ some. now);
  }

  -- a production that has none
  pub placing_else : (t : Tests) (n : ℕ) (q : Production) → At g n q → get_or kinds n 0 ≡ 0 → Placing t n → Placing t (n + 1)
  placing_else t n q stands none s = record {
    few = omega (arith, s.few);
    placed = below_next g _ n q stands s.placed (λ some. absurd (some none));
  }

  pub placing_all : (t : Tests) (n : ℕ) → length g ≤ n → n ≤ 126 → Placing t n → AllPlaced g kinds t
  placing_all t n all small s = record {
    few = omega (arith, s.few);
    placed = below_all g (λ m p. (get_or kinds m 0 ≡ 0 → ⊥) → Placed t p.test) n all s.placed;
  }
