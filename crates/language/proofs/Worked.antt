-- The worked cases.
use Rattle.std.proofs.Common.{◌≡◌, ℕ, zero, suc, ◌<◌, Bool, true, false, eqb, ◌⊎◌, ◌↔◌, List, [], ◌∷◌, get_or, sym, refl, subst, inl, inr, arith}
use Rattle.std.proofs.lemmas.Bool.{false≢true, both_ways, not-true, and_parts, or_cases, eqb-true}
use Rattle.table.specs.Grammar.{Production}
use Rattle.analysis.specs.Clashes.{Clash, tested}
use Rattle.sets.specs.Sets.{At, Stands, Empty, First, Follow, Predict}
use Rattle.language.specs.Cases.{day, cut_day, Worked}
use Rattle.language.specs.Tables.{member, full, without_else, w_table, q_table, s_table}
use Rattle.language.proofs.Pairs.{Pair, head, tail, pair, kinds_below}
use Rattle.language.proofs.Written.{follow_in, predict_in, predict_set}

one_of : {k x : ℕ} → member k (x ∷ []) ≡ true → k ≡ x
one_of {k} {x} e = go (or_cases (eqb k x) false e)
  where
    go : (eqb k x ≡ true) ⊎ (false ≡ true) → k ≡ x
    go (inl same) = eqb-true k x same
    go (inr none) = absurd (false≢true none)

two_of : {k x y : ℕ} → member k (x ∷ y ∷ []) ≡ true → (k ≡ x) ⊎ (k ≡ y)
two_of {k} {x} {y} e = go (or_cases (eqb k x) (member k (y ∷ [])) e)
  where
    go : (eqb k x ≡ true) ⊎ (member k (y ∷ []) ≡ true) → (k ≡ x) ⊎ (k ≡ y)
    go (inl same) = inl (eqb-true k x same)
    go (inr later) = inr (one_of later)

module _ (sight : ℕ → Bool) where
  abbrev w_empty : ℕ → Bool
  w_empty a = eqb a 1

  abbrev w_first : ℕ → List ℕ
  w_first a = get_or ((1 ∷ 2 ∷ []) ∷ (3 ∷ []) ∷ []) a []

  abbrev w_follows : ℕ → List ℕ
  w_follows a = get_or ((3 ∷ 63 ∷ []) ∷ (3 ∷ 63 ∷ []) ∷ []) a []

  w_predict_in : (p : Production) (k : ℕ) → Predict (w_table sight) p k → member k (predict_set w_empty w_first w_follows p) ≡ true
  w_predict_in p k = predict_in w_empty w_first w_follows (w_table sight) refl refl p k

  w_follow_in : {a k : ℕ} → Follow (w_table sight) a k → member k (w_follows a) ≡ true
  w_follow_in = follow_in w_empty w_first w_follows (w_table sight) refl refl

  w_else : Follow (w_table sight) 0 3
  w_else = Follow.before At.here (Stands.later Stands.here) (First.inside (At.later (At.later At.here)) refl First.here)

  w_after : {k : ℕ} → Follow (w_table sight) 0 k → Follow (w_table sight) 1 k
  w_after = Follow.last At.here (Stands.later (Stands.later Stands.here)) Empty.none

  w_follow_zero : {k : ℕ} → (k ≡ 3) ⊎ (k ≡ 63) → Follow (w_table sight) 0 k
  w_follow_zero (inl is) = subst (Follow (w_table sight) 0) (sym is) w_else
  w_follow_zero (inr is) = subst (Follow (w_table sight) 0) (sym is) Follow.at_end

  w_pair : {a b k : ℕ} {p q : Production} → Pair (w_table sight) a p b q → p.left ≡ q.left → Predict (w_table sight) p k → Predict (w_table sight) q k → q.sight k ≡ true → (a ≡ 2) × (b ≡ 3) × (k ≡ 3) × (sight 3 ≡ true)
  w_pair {k = k} {p = p} {q = q} (head At.here) left one other sees =
      let k_one : k ≡ 1 = one_of (w_predict_in p k one) in
      let k_two : k ≡ 2 = one_of (w_predict_in q k other) in
      absurd (omega arith)
  w_pair (head (At.later At.here)) left one other sees = absurd (omega arith)
  w_pair (head (At.later (At.later At.here))) left one other sees = absurd (omega arith)
  w_pair (tail (head At.here)) left one other sees = absurd (omega arith)
  w_pair (tail (head (At.later At.here))) left one other sees = absurd (omega arith)
  w_pair {k = k} {p = p} (tail (tail (head At.here))) left one other sees =
      let k_three : k ≡ 3 = one_of (w_predict_in p k one) in
      (refl, refl, k_three, subst (λ n. sight n ≡ true) k_three sees)
  w_pair (head (At.later (At.later (At.later none)))) left one other sees = elim none [ ]
  w_pair (tail (head (At.later (At.later none)))) left one other sees = elim none [ ]
  w_pair (tail (tail (head (At.later none)))) left one other sees = elim none [ ]
  w_pair (tail (tail (tail (head none)))) left one other sees = elim none [ ]
  w_pair (tail (tail (tail (tail none)))) left one other sees = elim none [ ]

w_predict_right : {place k : ℕ} {p : Production} → At (w_table without_else) place p → member k (get_or ((1 ∷ []) ∷ (2 ∷ []) ∷ (3 ∷ []) ∷ (3 ∷ 63 ∷ []) ∷ []) place []) ≡ true → Predict (w_table without_else) p k
w_predict_right {p = p} At.here e = subst (Predict (w_table without_else) p) (sym (one_of e)) (inl First.here)
w_predict_right {p = p} (At.later At.here) e = subst (Predict (w_table without_else) p) (sym (one_of e)) (inl First.here)
w_predict_right {p = p} (At.later (At.later At.here)) e = subst (Predict (w_table without_else) p) (sym (one_of e)) (inl First.here)
w_predict_right (At.later (At.later (At.later At.here))) e = inr (Empty.none, w_after without_else (w_follow_zero without_else (two_of e)))
w_predict_right (At.later (At.later (At.later (At.later none)))) e = elim none [ ]

w_right_predict : {place k : ℕ} {p : Production} → At (w_table without_else) place p → Predict (w_table without_else) p k → member k (get_or ((1 ∷ []) ∷ (2 ∷ []) ∷ (3 ∷ []) ∷ (3 ∷ 63 ∷ []) ∷ []) place []) ≡ true
w_right_predict {k = k} {p = p} At.here e = w_predict_in without_else p k e
w_right_predict {k = k} {p = p} (At.later At.here) e = w_predict_in without_else p k e
w_right_predict {k = k} {p = p} (At.later (At.later At.here)) e = w_predict_in without_else p k e
w_right_predict {k = k} {p = p} (At.later (At.later (At.later At.here))) e = w_predict_in without_else p k e
w_right_predict (At.later (At.later (At.later (At.later none)))) e = elim none [ ]

w_follow : (a k : ℕ) → a < 2 → Follow (w_table without_else) a k ↔ ((k ≡ 3) ⊎ (k ≡ 63))
w_follow zero k few = (λ follow. two_of (w_follow_in without_else follow), w_follow_zero without_else)
w_follow (suc zero) k few = (λ follow. two_of (w_follow_in without_else follow), λ is. w_after without_else (w_follow_zero without_else is))
w_follow (suc (suc a)) k few = absurd (omega arith)

w_clash : (sight : ℕ → Bool) {a b k i j : ℕ} → Clash day.classes (w_table sight) a b k i j → (a ≡ 2) × (b ≡ 3) × (k ≡ 3) × (sight 3 ≡ true)
w_clash sight clash = w_pair sight (pair clash.one_at clash.other_at clash.in_order) clash.same_left clash.one_may.predicts clash.other_may.predicts clash.other_may.sees

q_predict_in : (p : Production) (k : ℕ) → Predict q_table p k → member k (predict_set (λ a. true) (λ a. 1 ∷ []) (λ a. 63 ∷ []) p) ≡ true
q_predict_in = predict_in (λ a. true) (λ a. 1 ∷ []) (λ a. 63 ∷ []) q_table refl refl

q_predict_right : {place k : ℕ} {p : Production} → At q_table place p → member k (get_or ((1 ∷ []) ∷ (63 ∷ []) ∷ []) place []) ≡ true ↔ Predict q_table p k
q_predict_right {k = k} {p = p} At.here = (λ e. subst (Predict q_table p) (sym (one_of e)) (inl First.here), q_predict_in p k)
q_predict_right {k = k} {p = p} (At.later At.here) = (λ e. subst (Predict q_table p) (sym (one_of e)) (inr (Empty.none, Follow.at_end)), q_predict_in p k)
q_predict_right (At.later (At.later none)) = elim none [ ]

q_pair : {a b k : ℕ} {p q : Production} → Pair q_table a p b q → Predict q_table p k → Predict q_table q k → ⊥
q_pair {k = k} {p = p} {q = q} (head At.here) one other =
    let k_one : k ≡ 1 = one_of (q_predict_in p k one) in
    let k_end : k ≡ 63 = one_of (q_predict_in q k other) in
    omega arith
q_pair (head (At.later none)) one other = elim none [ ]
q_pair (tail (head none)) one other = elim none [ ]
q_pair (tail (tail none)) one other = elim none [ ]

s_predict_in : (p : Production) (k : ℕ) → Predict (s_table 2) p k → member k (predict_set (λ a. false) (λ a. 0 ∷ []) (λ a. 63 ∷ []) p) ≡ true
s_predict_in = predict_in (λ a. false) (λ a. 0 ∷ []) (λ a. 63 ∷ []) (s_table 2) refl refl

s_predict_right : {place k : ℕ} {p : Production} → At (s_table 2) place p → member k (get_or ((0 ∷ []) ∷ (0 ∷ []) ∷ []) place []) ≡ true ↔ Predict (s_table 2) p k
s_predict_right {k = k} {p = p} At.here = (λ e. subst (Predict (s_table 2) p) (sym (one_of e)) (inl First.here), s_predict_in p k)
s_predict_right {k = k} {p = p} (At.later At.here) = (λ e. subst (Predict (s_table 2) p) (sym (one_of e)) (inl First.here), s_predict_in p k)
s_predict_right (At.later (At.later none)) = elim none [ ]

-- equal and unequal at once
s_pair : (i j : ℕ) {a b : ℕ} {p q : Production} → Pair (s_table 2) a p b q → tested cut_day.classes p i j ≡ true → tested cut_day.classes q i j ≡ true → ⊥
s_pair i j (head At.here) one other = both_ways (eqb i j) (not-true (eqb i j) (and_parts _ _ other).1) (and_parts _ _ one).1
s_pair i j (head (At.later none)) one other = elim none [ ]
s_pair i j (tail (head none)) one other = elim none [ ]
s_pair i j (tail (tail none)) one other = elim none [ ]

pub worked : Worked
worked = record {
  w_made = record { few_kinds = omega arith; known_kinds = kinds_below 4 refl; predict_right = λ at few. (w_predict_right at, w_right_predict at) };
  q_made = record { few_kinds = omega arith; known_kinds = kinds_below 2 refl; predict_right = λ at few. q_predict_right at };
  s_made = record { few_kinds = omega arith; known_kinds = kinds_below 1 refl; predict_right = λ at few. s_predict_right at };
  w_follow = w_follow;
  w_passes = λ a b k i j clash. false≢true (w_clash without_else clash).3;
  w_clashes = record {
    one = _;
    other = _;
    one_at = At.later (At.later At.here);
    other_at = At.later (At.later (At.later At.here));
    in_order = omega arith;
    same_left = refl;
    one_may = record { predicts = inl First.here; sees = refl; passes = refl };
    other_may = record { predicts = inr (Empty.none, w_after full (w_else full)); sees = refl; passes = refl };
    inherited_class = omega arith;
    word_class = omega arith;
    end_class = λ e. refl;
  };
  w_clashes_once = λ a b k i j clash.
      let at = w_clash full clash in
      let i_within : i < 1 = clash.inherited_class in
      let j_within : j < 1 = clash.word_class in
      (at.0, at.1, at.2, omega arith, omega arith);
  q_passes = λ a b k i j clash. q_pair (pair clash.one_at clash.other_at clash.in_order) clash.one_may.predicts clash.other_may.predicts;
  s_passes = λ a b k i j clash. s_pair i j (pair clash.one_at clash.other_at clash.in_order) clash.one_may.passes clash.other_may.passes;
  s_clashes = record {
    one = _;
    other = _;
    one_at = At.here;
    other_at = At.later At.here;
    in_order = omega arith;
    same_left = refl;
    one_may = record { predicts = inl First.here; sees = refl; passes = refl };
    other_may = record { predicts = inl First.here; sees = refl; passes = refl };
    inherited_class = omega arith;
    word_class = omega arith;
    end_class = λ e. refl;
  };
  w_closes = (_, refl, refl);
  w_denies = refl;
  w_stays = refl;
  q_closes = (_, refl, refl);
  q_denies = refl;
  s_closes = (_, refl, refl);
  s_trail = refl;
  s_denies = refl;
  s_closes_two = (_, refl, refl);
  held = refl;
  reached = refl;
}
