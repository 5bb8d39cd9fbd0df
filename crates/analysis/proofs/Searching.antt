-- What the search has passed: no clash at lower numbers.
use Rattle.std.proofs.Common.{◌≡◌, ℕ, ◌+◌, ◌^◌, ◌<◌, ◌≤◌, true, List, length, get_or, None, Option, sym, ap, ◌∙◌, subst, arith, MatchOption}
use lib.Bits.{bit_and}
use Rattle.domain.specs.Meaning.{Classes}
use Rattle.std.proofs.lemmas.Bool.{and_parts, and_from, false≢true}
use Rattle.table.specs.Grammar.{Production}
use Rattle.table.specs.Kinds.{bit}
use Rattle.sets.specs.Sets.{At, end_mark}
use Rattle.table.proofs.Bits.{bit_within, bit_of_and, bit_zero}
use Rattle.sets.proofs.Predicting.{at_below}
use Rattle.analysis.specs.declared.faults.Clash as found_clash
use Rattle.analysis.specs.declared.places.Tests.{Tests}
use Rattle.analysis.specs.Asked.{Rows, Never}
use Rattle.analysis.specs.Clashes.{Clash, ClashFree}
use Rattle.analysis.specs.Contested.{Contested}
use Rattle.analysis.specs.Searches.{FirstClash}
use Rattle.analysis.specs.Places.{AllPlaced}
use Rattle.analysis.proofs.Placing.{no_places}
use Rattle.analysis.proofs.Standing.{at_same, below_or_at}

module _ (c : Classes) (g : List Production) where
  abbrev pub NoneA : ℕ → Type 0
  NoneA a = (a' b k i j : ℕ) → a' < a → Clash c g a' b k i j → ⊥

  abbrev pub NoneB : ℕ → ℕ → Type 0
  NoneB a b = (b' k i j : ℕ) → b' < b → Clash c g a b' k i j → ⊥

  abbrev pub NoneK : ℕ → ℕ → ℕ → Type 0
  NoneK a b k = (k' i j : ℕ) → k' < k → Clash c g a b k' i j → ⊥

  abbrev pub NoneI : ℕ → ℕ → ℕ → ℕ → Type 0
  NoneI a b k i = (i' j : ℕ) → i' < i → Clash c g a b k i' j → ⊥

  abbrev pub NoneJ : ℕ → ℕ → ℕ → ℕ → ℕ → Type 0
  NoneJ a b k i j = (j' : ℕ) → j' < j → Clash c g a b k i j' → ⊥

  pub none_yet : NoneA 0
  none_yet a b k i j h clash = omega arith

  -- one number further, where there is no clash either
  pub next_a : (a : ℕ) → ((b k i j : ℕ) → Clash c g a b k i j → ⊥) → NoneA a → NoneA (a + 1)
  next_a a now none a' b k i j h clash =
      below_or_at a' a h (λ l. none a' b k i j l clash) (λ e. now b k i j (subst (λ x. Clash c g x b k i j) e clash))

  pub next_b : (a b : ℕ) → ((k i j : ℕ) → Clash c g a b k i j → ⊥) → NoneB a b → NoneB a (b + 1)
  next_b a b now none b' k i j h clash =
      below_or_at b' b h (λ l. none b' k i j l clash) (λ e. now k i j (subst (λ x. Clash c g a x k i j) e clash))

  pub next_k : (a b k : ℕ) → ((i j : ℕ) → Clash c g a b k i j → ⊥) → NoneK a b k → NoneK a b (k + 1)
  next_k a b k now none k' i j h clash =
      below_or_at k' k h (λ l. none k' i j l clash) (λ e. now i j (subst (λ x. Clash c g a b x i j) e clash))

  pub next_i : (a b k i : ℕ) → ((j : ℕ) → Clash c g a b k i j → ⊥) → NoneI a b k i → NoneI a b k (i + 1)
  next_i a b k i now none i' j h clash =
      below_or_at i' i h (λ l. none i' j l clash) (λ e. now j (subst (λ x. Clash c g a b k x j) e clash))

  pub next_j : (a b k i j : ℕ) → (Clash c g a b k i j → ⊥) → NoneJ a b k i j → NoneJ a b k i (j + 1)
  next_j a b k i j now none j' h clash =
      below_or_at j' j h (λ l. none j' l clash) (λ e. now (subst (λ x. Clash c g a b k i x) e clash))

  -- a test that never says yes
  pub one_never : {a b k i j : ℕ} {p : Production} → At g a p → Never c p.test → Clash c g a b k i j → ⊥
  one_never {i = i} {j} at never clash =
      false≢true
      (sym (never i j clash.inherited_class clash.word_class) ∙ ap (λ r. c.test r.test i j) (at_same at clash.one_at) ∙ clash.one_may.passes)

  pub other_never : {a b k i j : ℕ} {q : Production} → At g b q → Never c q.test → Clash c g a b k i j → ⊥
  other_never {i = i} {j} at never clash =
      false≢true
      (sym (never i j clash.inherited_class clash.word_class) ∙ ap (λ r. c.test r.test i j) (at_same at clash.other_at) ∙ clash.other_may.passes)

  module _ (a b : ℕ) (p q : Production) (p_at : At g a p) (q_at : At g b q) where
    pub left_apart : (p.left ≡ q.left → ⊥) → {k i j : ℕ} → Clash c g a b k i j → ⊥
    left_apart ne clash = ne (ap (λ r. r.left) (at_same p_at clash.one_at) ∙ clash.same_left ∙ ap (λ r. r.left) (at_same clash.other_at q_at))

    module _ (x y : List ℕ) (one : Rows c p.test x) (other : Rows c q.test y) where
      -- the classes that both tests say yes at
      pub both_answer : {k i j : ℕ} → Clash c g a b k i j → bit (bit_and (get_or x i 0) (get_or y i 0)) j ≡ true
      both_answer {i = i} {j} clash =
          bit_of_and _ _ j
          ∙ and_from _ _
          (one i j clash.inherited_class clash.word_class ∙ ap (λ r. c.test r.test i j) (at_same p_at clash.one_at) ∙ clash.one_may.passes)
          (other i j clash.inherited_class clash.word_class ∙ ap (λ r. c.test r.test i j) (at_same q_at clash.other_at) ∙ clash.other_may.passes)

      pub rows_apart : ((i : ℕ) → i < 64 → bit_and (get_or x i 0) (get_or y i 0) ≡ 0) → c.count ≤ 64 → {k i j : ℕ} → Clash c g a b k i j → ⊥
      rows_apart none few {i = i} {j} clash =
          false≢true
          (sym (bit_zero j) ∙ ap (λ w. bit w j) (sym (none i (let l = clash.inherited_class in omega arith))) ∙ both_answer clash)

      pub found : (kinds : List ℕ) → Contested g kinds → {k i j : ℕ} → a < b → p.left ≡ q.left → bit (bit_and (get_or kinds a 0) (get_or kinds b 0)) k ≡ true
          → bit (bit_and (get_or x i 0) (get_or y i 0)) j ≡ true → i < c.count → j < c.count → (k ≡ end_mark → j ≡ 0) → Clash c g a b k i j
      found kinds contested {k} {i} {j} order left kind answer i-class j-class end =
          let both_kinds = and_parts (bit (get_or kinds a 0) k) _ (sym (bit_of_and _ _ k) ∙ kind) in
          let answers = and_parts (bit (get_or x i 0) j) _ (sym (bit_of_and _ _ j) ∙ answer) in
          let p_sees = contested.only p_at k both_kinds.0 in
          let q_sees = contested.only q_at k both_kinds.1 in
          record {
            one = p;
            other = q;
            one_at = p_at;
            other_at = q_at;
            in_order = order;
            same_left = left;
            one_may = record { predicts = p_sees.0; sees = p_sees.1; passes = sym (one i j i-class j-class) ∙ answers.0 };
            other_may = record { predicts = q_sees.0; sees = q_sees.1; passes = sym (other i j i-class j-class) ∙ answers.1 };
            inherited_class = i-class;
            word_class = j-class;
            end_class = end;
          }

  module _ (kinds : List ℕ) (contested : Contested g kinds) where
    pub kind_none : {a b k i j : ℕ} → get_or kinds a 0 ≡ 0 → Clash c g a b k i j → ⊥
    kind_none {k = k} none clash = false≢true (sym (bit_zero k) ∙ ap (λ w. bit w k) (sym none) ∙ (contested.all clash).0)

    pub kind_common : {a b k i j : ℕ} → Clash c g a b k i j → bit (bit_and (get_or kinds a 0) (get_or kinds b 0)) k ≡ true
    kind_common {k = k} clash = let both = contested.all clash in bit_of_and _ _ k ∙ and_from _ _ both.0 both.1

    pub common_none : {a b k i j : ℕ} → bit_and (get_or kinds a 0) (get_or kinds b 0) ≡ 0 → Clash c g a b k i j → ⊥
    common_none {k = k} none clash = false≢true (sym (bit_zero k) ∙ ap (λ w. bit w k) (sym none) ∙ kind_common clash)

    pub kind_below : {a b k i j : ℕ} → get_or kinds a 0 < 2 ^ 64 → Clash c g a b k i j → k < 64
    kind_below {a = a} {k = k} fits clash = bit_within (get_or kinds a 0) 64 k fits (contested.all clash).0

  -- no test has a place
  pub none_placed : (kinds : List ℕ) → Contested g kinds → (t : Tests) → AllPlaced g kinds t → t.count ≡ 0 → ClashFree c g
  none_placed kinds contested t placed none a b k i j clash =
      no_places (get_or t.places clash.one.test None) (λ place at. subst (λ n. place < n) none (t.below clash.one.test place at))
      (placed.placed clash.one_at (λ e. kind_none kinds contested e clash))

  pub none_found : (r : Option found_clash.Clash) (a : ℕ) → r ≡ None → length g ≤ a → NoneA a → MatchOption r (ClashFree c g) (FirstClash c g)
  none_found r a e all none =
      subst (λ o. MatchOption o (ClashFree c g) (FirstClash c g)) (sym e)
      (λ a' b k i j clash. none a' b k i j (let l = at_below clash.one_at in omega arith) clash)
