-- The kinds that productions see, share and contest.
use Rattle.std.proofs.Common.{◌≡◌, ℕ, ◌+◌, ◌<◌, ◌≤◌, true, ◌&&◌, List, length, get_or, set, Decides, sym, refl, ap, ◌∙◌, subst, arith, length-set, get_or-set_other, get_or-set_same}
use lib.Bits.{bit_and, bit_or}
use Rattle.std.proofs.lemmas.Bool.{and_parts, and_from, or_left, or_right, eq-eqb}
use Rattle.table.specs.Grammar.{Production}
use Rattle.table.specs.Kinds.{bit}
use Rattle.sets.specs.Sets.{At, Predict}
use Rattle.sets.specs.Words.{Predicted}
use Rattle.table.proofs.Bits.{bit_of_and}
use Rattle.sets.proofs.Bits.{bit_joined}
use Rattle.analysis.specs.Contested.{Sees, Seen, Shared, Contested}
use Rattle.analysis.proofs.Standing.{Below, below_none, below_next, below_all}

module _ (g : List Production) where
  -- the kinds that two words have in common
  sees_both : (p : Production) (predict sight k : ℕ) → Decides (bit predict k) (Predict g p k) → bit sight k ≡ p.sight k
      → Decides (bit (bit_and predict sight) k) (Sees g p k)
  sees_both p predict sight k d e = (
    λ h. let both = and_parts (bit predict k) (bit sight k) (sym (bit_of_and predict sight k) ∙ h) in (d.0 both.0, sym e ∙ both.1),
    λ h. bit_of_and predict sight k ∙ and_from _ _ (d.1 h.0) (e ∙ h.1),
  )

  -- the words below n have the kinds that their productions see, and those from n on the kinds that these predict
  pub record Seeing (kinds : List ℕ) (n : ℕ) : Type 0 where
    pub long : length kinds ≡ 126
    pub seen : Below g n (λ m p. (k : ℕ) → Decides (bit (get_or kinds m 0) k) (Sees g p k))
    pub predicted : (m : ℕ) (p : Production) → n ≤ m → At g m p → (k : ℕ) → Decides (bit (get_or kinds m 0) k) (Predict g p k)

  pub seeing_none : (kinds : List ℕ) → length kinds ≡ 126 → Predicted g kinds → Seeing kinds 0
  seeing_none kinds long predicts = record { long = long; seen = below_none g _; predicted = λ m p h at k. predicts.exactly at k }

  pub seeing_more : (kinds : List ℕ) (n sight : ℕ) (q : Production) → n < 126 → At g n q → ((k : ℕ) → bit sight k ≡ q.sight k) → Seeing kinds n
      → Seeing (set kinds n (bit_and (get_or kinds n 0) sight)) (n + 1)
  seeing_more kinds n sight q few stands same s = record {
    long = length-set kinds n _ ∙ s.long;
    seen = below_next g _ n q stands
        (λ m p h at k. subst (λ w. Decides (bit w k) (Sees g p k)) (sym (get_or-set_other kinds n m _ 0 (λ e. omega arith))) (s.seen m p h at k))
        (λ k. subst (λ w. Decides (bit w k) (Sees g q k)) (sym (get_or-set_same kinds n _ 0 (omega (arith, s.long))))
        (sees_both q (get_or kinds n 0) sight k (s.predicted n q (omega arith) stands k) (same k)));
    predicted = λ m p h at k.
        subst (λ w. Decides (bit w k) (Predict g p k)) (sym (get_or-set_other kinds n m _ 0 (λ e. omega arith))) (s.predicted m p (omega arith) at k);
  }

  pub seeing_all : (kinds : List ℕ) (n : ℕ) → length g ≤ n → Seeing kinds n → Seen g kinds
  seeing_all kinds n all s = record { exactly = below_all g (λ m p. (k : ℕ) → Decides (bit (get_or kinds m 0) k) (Sees g p k)) n all s.seen }

-- the words with more kinds at one place
abbrev pub joined : List ℕ → ℕ → ℕ → List ℕ
joined words i more = set words i (bit_or (get_or words i 0) more)

joined_old : (words : List ℕ) (i more j k : ℕ) → i < length words → bit (get_or words j 0) k ≡ true → bit (get_or (joined words i more) j 0) k ≡ true
joined_old words i more j k within h = bit_joined words i more j k within ∙ or_left _ _ h

joined_new : (words : List ℕ) (i more k : ℕ) → i < length words → bit more k ≡ true → bit (get_or (joined words i more) i 0) k ≡ true
joined_new words i more k within h = bit_joined words i more i k within ∙ or_right _ _ (and_from _ _ (eq-eqb i i refl) h)

module _ (g : List Production) (kinds : List ℕ) where
  -- the left side's word has the kinds of production m
  abbrev HasOnce : List ℕ → ℕ → Production → Type 0
  HasOnce once m p = (k : ℕ) → bit (get_or kinds m 0) k ≡ true → bit (get_or once p.left 0) k ≡ true

  -- it has those that an earlier production of the left side has too
  abbrev HasTwice : List ℕ → ℕ → Production → Type 0
  HasTwice twice b q = (a : ℕ) (p : Production) → At g a p → a < b → p.left ≡ q.left
      → (k : ℕ) → bit (get_or kinds a 0) k ≡ true → bit (get_or kinds b 0) k ≡ true → bit (get_or twice p.left 0) k ≡ true

  pub record Sharing (once twice : List ℕ) (n : ℕ) : Type 0 where
    pub once_long : length once ≡ 64
    pub twice_long : length twice ≡ 64
    pub has_once : Below g n (HasOnce once)
    pub has_twice : Below g n (HasTwice twice)

  pub sharing_none : (once twice : List ℕ) → length once ≡ 64 → length twice ≡ 64 → Sharing once twice 0
  sharing_none once twice once_long twice_long = record {
    once_long = once_long;
    twice_long = twice_long;
    has_once = below_none g _;
    has_twice = below_none g _;
  }

  pub sharing_more : (once twice : List ℕ) (n : ℕ) (q : Production) → At g n q → q.left < 64 → Sharing once twice n
      → Sharing (joined once q.left (get_or kinds n 0)) (joined twice q.left (bit_and (get_or once q.left 0) (get_or kinds n 0))) (n + 1)
  sharing_more once twice n q stands small s =
      let in_once : q.left < length once = omega (arith, s.once_long) in
      let in_twice : q.left < length twice = omega (arith, s.twice_long) in
      record {
        once_long = length-set once _ _ ∙ s.once_long;
        twice_long = length-set twice _ _ ∙ s.twice_long;
        has_once = below_next g _ n q stands
            (λ m p h at k e. joined_old once _ _ p.left k in_once (s.has_once m p h at k e))
            (λ k e. joined_new once _ _ k in_once e);
        has_twice = below_next g (HasTwice (joined twice q.left (bit_and (get_or once q.left 0) (get_or kinds n 0)))) n q stands
            (λ m p h at a o other l left k e f. joined_old twice _ _ _ k in_twice (s.has_twice m p h at a o other l left k e f))
            (λ a p other l left k e f.
            subst (λ i. bit (get_or (joined twice q.left (bit_and (get_or once q.left 0) (get_or kinds n 0))) i 0) k ≡ true) (sym left)
            (joined_new twice _ _ k in_twice
            (bit_of_and _ _ k ∙ and_from _ _ (subst (λ i. bit (get_or once i 0) k ≡ true) left (s.has_once a p l other k e)) f)));
      }

  pub sharing_all : (once twice : List ℕ) (n : ℕ) → length g ≤ n → Sharing once twice n → Shared g kinds twice
  sharing_all once twice n all s = record {
    all = λ {a = a} {p = p} one other order left. below_all g (HasTwice twice) n all s.has_twice other a p one order left;
  }

module _ (g : List Production) (was shared : List ℕ) where
  -- the words below n have only the kinds that are shared
  pub record Narrowing (kinds : List ℕ) (n : ℕ) : Type 0 where
    pub long : length kinds ≡ 126
    pub narrowed : Below g n (λ m p. get_or kinds m 0 ≡ bit_and (get_or was m 0) (get_or shared p.left 0))
    pub left_over : (m : ℕ) → n ≤ m → get_or kinds m 0 ≡ get_or was m 0

  pub narrowing_none : length was ≡ 126 → Narrowing was 0
  narrowing_none long = record { long = long; narrowed = below_none g _; left_over = λ m h. refl }

  pub narrowing_more : (kinds : List ℕ) (n : ℕ) (q : Production) → n < 126 → At g n q → Narrowing kinds n
      → Narrowing (set kinds n (bit_and (get_or kinds n 0) (get_or shared q.left 0))) (n + 1)
  narrowing_more kinds n q few stands s = record {
    long = length-set kinds n _ ∙ s.long;
    narrowed = below_next g _ n q stands
        (λ m p h at. get_or-set_other kinds n m _ 0 (λ e. omega arith) ∙ s.narrowed m p h at)
        (get_or-set_same kinds n _ 0 (omega (arith, s.long)) ∙ ap (λ w. bit_and w (get_or shared q.left 0)) (s.left_over n (omega arith)));
    left_over = λ m h. get_or-set_other kinds n m _ 0 (λ e. omega arith) ∙ s.left_over m (omega arith);
  }

  pub narrowing_all : (kinds : List ℕ) (n : ℕ) → length g ≤ n → Seen g was → Shared g was shared → Narrowing kinds n → Contested g kinds
  narrowing_all kinds n all seen both s = record {
    only = λ {n = m} {p} at k h. (seen.exactly at k).0 (and_parts (bit (get_or was m 0) k) _ (sym (bits at k) ∙ h)).0;
    all = λ {k = k} clash.
        let one = (seen.exactly clash.one_at k).1 (clash.one_may.predicts, clash.one_may.sees) in
        let other = (seen.exactly clash.other_at k).1 (clash.other_may.predicts, clash.other_may.sees) in
        let common = both.all clash.one_at clash.other_at clash.in_order clash.same_left k one other in (
          bits clash.one_at k ∙ and_from _ _ one common,
          bits clash.other_at k ∙ and_from _ _ other (subst (λ i. bit (get_or shared i 0) k ≡ true) clash.same_left common),
        );
  }
    where
      bits : {m : ℕ} {p : Production} → At g m p → (k : ℕ) → bit (get_or kinds m 0) k ≡ (bit (get_or was m 0) k && bit (get_or shared p.left 0) k)
      bits {m} {p} at k = ap (λ w. bit w k) (below_all g (λ m p. get_or kinds m 0 ≡ bit_and (get_or was m 0) (get_or shared p.left 0)) n all s.narrowed at) ∙ bit_of_and _ _ k
