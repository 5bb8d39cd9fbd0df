-- The rows of a test's answers.
use Rattle.std.proofs.Common.{◌≡◌, ℕ, ◌+◌, ◌*◌, ◌%◌, ◌^◌, ◌<◌, ◌≤◌, Bool, true, false, ◌&&◌, ◌||◌, eqb, ltb, List, length, get_or, set, sym, ap, ◌∙◌, ap₂, ⊎_elim, arith, length-set, get_or-set_other, get_or-set_same}
use mathlib.Core.Bool.{and-true, or-false, and-false}
use lib.Bits.{bit_or}
use Rattle.domain.specs.Meaning.{Classes}
use Rattle.std.proofs.lemmas.Nat.{one_shl, pow-add}
use Rattle.std.proofs.lemmas.Bool.{cases_eq, eq-eqb, ne_eqb, lt-ltb, le-ltb}
use Rattle.std.proofs.lemmas.Bool.Decides.{nat_tests}
use Rattle.table.specs.Kinds.{bit}
use Rattle.table.proofs.Bits.{bit_of_or, bit_power, bit_zero}
use Rattle.analysis.specs.Asked.{Rows, Never}
use Rattle.analysis.proofs.Standing.{below_or_at}
use Rattle.analysis.proofs.Words.{both_none}

-- the mark of the next class
pub mark_more : (n mark : ℕ) → (n < 64 → mark ≡ 2 ^ n) → n + 1 < 64 → mark * 2 ^ 1 % 2 ^ 64 ≡ 2 ^ (n + 1)
mark_more n mark is h =
    ap (λ m. m * 2 ^ 1 % 2 ^ 64) (is (omega arith)) ∙ ap (λ m. m % 2 ^ 64) (sym (pow-add 2 n 1) ∙ one_mul) ∙ one_shl (n + 1) 64 h
  where
    one_mul : 2 ^ (n + 1) ≡ 1 * 2 ^ (n + 1)
    one_mul = omega arith

module _ (t : ℕ → Bool) where
  -- the row has the answers at the classes below n
  abbrev pub Row : ℕ → ℕ → Type 0
  Row row n = (j : ℕ) → bit row j ≡ (ltb j n && t j)

  pub row_none : Row 0 0
  row_none j = bit_zero j ∙ ap (λ b. b && t j) (sym (le-ltb j 0 (omega arith)))

  -- one class further, at which the test says b
  row_more : (n : ℕ) (word b : Bool) (j : ℕ) → t n ≡ b → word ≡ (ltb j n && t j) → (word || (eqb n j && b)) ≡ (ltb j (n + 1) && t j)
  row_more n word b j says e = ap (λ x. x || (eqb n j && b)) e ∙ ⊎_elim same other (cases_eq n j)
    where
      same : n ≡ j → ((ltb j n && t j) || (eqb n j && b)) ≡ (ltb j (n + 1) && t j)
      same h =
          ap₂ (λ x y. (x && t j) || (y && b)) (le-ltb j n (omega arith)) (eq-eqb n j h) ∙ sym says ∙ ap t h
          ∙ ap (λ x. x && t j) (sym (lt-ltb j (n + 1) (omega arith)))

      further : (n ≡ j → ⊥) → ltb j n ≡ ltb j (n + 1)
      further h = grind (arith, nat_tests)

      other : (n ≡ j → ⊥) → ((ltb j n && t j) || (eqb n j && b)) ≡ (ltb j (n + 1) && t j)
      other h = ap (λ y. (ltb j n && t j) || (y && b)) (ne_eqb n j h) ∙ or-false (ltb j n && t j) ∙ ap (λ x. x && t j) (further h)

  pub row_then : (row n mark : ℕ) → mark ≡ 2 ^ n → t n ≡ true → Row row n → Row (bit_or row mark) (n + 1)
  row_then row n mark is says inv j =
      bit_of_or row mark j ∙ ap (λ x. bit row j || x) (ap (λ m. bit m j) is ∙ bit_power n j ∙ sym (and-true (eqb n j))) ∙ row_more n (bit row j) true j says (inv j)

  pub row_else : (row n : ℕ) → t n ≡ false → Row row n → Row row (n + 1)
  row_else row n says inv j =
      sym (or-false (bit row j)) ∙ ap (λ x. bit row j || x) (sym (and-false (eqb n j))) ∙ row_more n (bit row j) false j says (inv j)

module _ (t : ℕ → ℕ → Bool) (classes : ℕ) where
  -- the rows below n are the test's answers, and `all` is 0 only if they are
  pub record Asking (rows : List ℕ) (all n : ℕ) : Type 0 where
    pub long : length rows ≡ 64
    pub told : (i : ℕ) → i < n → Row (t i) (get_or rows i 0) classes
    pub none : all ≡ 0 → (i : ℕ) → i < n → get_or rows i 0 ≡ 0

  pub asking_none : (rows : List ℕ) (all : ℕ) → length rows ≡ 64 → Asking rows all 0
  asking_none rows all long = record {
    long = long;
    told = λ i h. let no : ⊥ = omega arith in absurd no;
    none = λ e i h. let no : ⊥ = omega arith in absurd no;
  }

  pub asking_more : (rows : List ℕ) (all n row : ℕ) → n < 64 → Row (t n) row classes → Asking rows all n → Asking (set rows n row) (bit_or all row) (n + 1)
  asking_more rows all n row few says s = record {
    long = length-set rows n row ∙ s.long;
    told = λ i h j. below_or_at i n h
        (λ l. ap (λ w. bit w j) (other i l) ∙ s.told i l j)
        (λ e. ap (λ m. bit (get_or (set rows n row) m 0) j) e ∙ ap (λ w. bit w j) same ∙ says j ∙ ap (λ m. ltb j classes && t m j) (sym e));
    none = λ e i h.
        let parts = both_none all row e in
        below_or_at i n h (λ l. other i l ∙ s.none parts.0 i l) (λ at. ap (λ m. get_or (set rows n row) m 0) at ∙ same ∙ parts.1);
  }
    where
      other : (i : ℕ) → i < n → get_or (set rows n row) i 0 ≡ get_or rows i 0
      other i l = get_or-set_other rows n i row 0 (λ e. omega arith)

      same : get_or (set rows n row) n 0 ≡ row
      same = get_or-set_same rows n row 0 (omega (arith, s.long))

module _ (c : Classes) (test : ℕ) (rows : List ℕ) (all n : ℕ) (upto : c.count ≤ n) (s : Asking (c.test test) c.count rows all n) where
  pub asking_all : Rows c test rows
  asking_all i j hi hj = s.told i (omega arith) j ∙ ap (λ b. b && c.test test i j) (lt-ltb j c.count hj)

  pub asking_never : all ≡ 0 → Never c test
  asking_never none i j hi hj = sym (asking_all i j hi hj) ∙ ap (λ w. bit w j) (s.none none i (omega arith)) ∙ bit_zero j
