-- What is derived, a reader does: one word of sight decides.
use Rattle.std.proofs.Common.{◌≡◌, ℕ, zero, suc, ◌+◌, ◌<◌, ◌≤◌, Bool, true, ◌&&◌, eqb, leb, ◌⊎◌, List, [], ◌∷◌, ◌++◌, length, Some, Ok, Result, sym, refl, ap, ◌∙◌, subst, inl, inr, arith}
use Rattle.std.proofs.lemmas.Bool.{and_parts, and_from, eq-eqb, lt-leb, cond-true, cond-false, cases_order}
use Rattle.domain.specs.Meaning.{Meaning, Lawful}
use Rattle.table.specs.Grammar.{Production}
use Rattle.analysis.specs.Clashes.{ClashFree, Eligible}
use Rattle.sets.specs.Sets.{At, Predict, end_mark}
use Rattle.language.specs.declared.faults.ReadingFault.{ReadingFault}
use Rattle.language.specs.Configurations.{Word, Next, Config, Outcome, a_kind, a_nonterminal, nothing}
use Rattle.language.specs.Derivations.{Sight, of_word, of_end, allowed, Predicts, predicting, Takes, taking}
use Rattle.language.specs.Law.{Made}
use Rattle.language.specs.Limits.{Limits}
use Rattle.language.specs.Reader.{Guide, Choice, ◌then◌, with_choice, settled, chosen, predicted, choosing, predict, take_at, offer, close_at, close}
use Rattle.language.specs.Settling.{give, opened}
use Rattle.language.proofs.Chosen.{first_only}
use Rattle.language.proofs.Follows.{Meets, comes_predict, given_back, predicts_back}
use Rattle.language.proofs.Keeps.{left_is, given_good, opened_ready, predicts_good}
use Rattle.language.proofs.Sound.{Stopped}
use Rattle.language.proofs.Stacks.{Good, awaits_item}

-- what a word of the table, and the end mark, are in sight
pub record Seen {V : Type 0} (m : Meaning V) (s : Sight) : Type 0 where
  pub kind_within : s.kind ≤ end_mark
  pub class_within : s.class < m.classes.count
  pub end_class : s.kind ≡ end_mark → s.class ≡ 0

module _ {V : Type 0} (m : Meaning V) (lawful : Lawful m) (guide : Guide) (made : Made guide) (free : ClashFree m.classes guide.productions) where
  abbrev g : List Production
  g = guide.productions

  eligible : (s : Sight) (a : ℕ) (v : V) (p : Production) → allowed m s a v p ≡ true → Predict g p s.kind → Eligible m.classes g p s.kind (m.class v) s.class
  eligible s a v p may predicts =
      let parts = and_parts _ _ may in
      record { predicts = predicts; sees = (and_parts _ _ parts.0).1; passes = parts.1 }

  module _ (s : Sight) (seen : Seen m s) (a : ℕ) (v : V) where
    clashing : (i j : ℕ) (p q : Production) → i < j → At g i p → At g j q → allowed m s a v p ≡ true → allowed m s a v q ≡ true → Predict g p s.kind → Predict g q s.kind → ⊥
    clashing i j p q before p_at q_at p_may q_may p_predicts q_predicts = free i j s.kind (m.class v) s.class (record {
      one = p;
      other = q;
      one_at = p_at;
      other_at = q_at;
      in_order = before;
      same_left = left_is m g s a v p p_may ∙ sym (left_is m g s a v q q_may);
      one_may = eligible s a v p p_may p_predicts;
      other_may = eligible s a v q q_may q_predicts;
      inherited_class = lawful.class_within v;
      word_class = seen.class_within;
      end_class = seen.end_class;
    })

    -- no two productions are both allowed and have the kind in sight in their Predict sets
    one_place : (i j : ℕ) (p q : Production) → At g i p → At g j q → allowed m s a v p ≡ true → allowed m s a v q ≡ true → Predict g p s.kind → Predict g q s.kind → (i ≡ j) ⊎ ((i < j) ⊎ (j < i)) → i ≡ j
    one_place i j p q p_at q_at p_may q_may p_predicts q_predicts (inl same) = same
    one_place i j p q p_at q_at p_may q_may p_predicts q_predicts (inr (inl before)) = absurd (clashing i j p q before p_at q_at p_may q_may p_predicts q_predicts)
    one_place i j p q p_at q_at p_may q_may p_predicts q_predicts (inr (inr after)) = absurd (clashing j i q p after q_at p_at q_may p_may q_predicts p_predicts)

    -- so the production that a derivation predicts is the one that the reader chooses
    chosen_is : (i : ℕ) (p : Production) → At g i p → allowed m s a v p ≡ true → Predict g p s.kind → chosen m guide s a v ≡ Some (record { place = i; production = p })
    chosen_is i p at may predicts =
        let start : (j : ℕ) → 0 + j ≡ j = λ j. omega arith in
        let suitable : ℕ → Production → Bool = λ place q. allowed m s a v q && guide.predict place s.kind in
        let suits : suitable i p ≡ true = and_from _ _ may ((made.predict_right at seen.kind_within).1 predicts) in
        let only : (j : ℕ) (q : Production) → At g j q → suitable (0 + j) q ≡ true → j ≡ i = λ j q q_at q-suits.
        let parts = and_parts (allowed m s a v q) (guide.predict j s.kind) (subst (λ n. suitable n q ≡ true) (start j) q-suits) in
        one_place j i q p q_at at parts.0 may ((made.predict_right q_at seen.kind_within).0 parts.1) predicts (cases_order j i) in
        first_only suitable 0 at (subst (λ n. suitable n p ≡ true) (sym (start i)) suits) only ∙ ap (λ n. Some (record { place = n; production = p })) (start i)

  module _ (limits : Limits) where
    choosing_stopped : (s : Sight) (c : Config V) (act : V → Choice → Result (Config V) ReadingFault) (n : Next V) → Stopped n → choosing m guide s c act n ≡ Ok c
    choosing_stopped s c act (a_kind k) stopped = refl
    choosing_stopped s c act (a_nonterminal a v) stopped = absurd stopped
    choosing_stopped s c act (nothing v) stopped = refl

    predict_stopped : (s : Sight) (left : ℕ) (c : Config V) → Stopped c.next → predict m guide limits s left c ≡ Ok c
    predict_stopped s zero c stopped = choosing_stopped s c _ c.next stopped
    predict_stopped s (suc left) c stopped = choosing_stopped s c _ c.next stopped

    predicted_is : (c d : Config V) (v : V) (i : ℕ) (p : Production) → length c.frames < limits.depth → length c.trail < limits.trail → give m (c.trail ++ i ∷ []) (opened p ∷ c.frames) v ≡ Some d → predicted m limits c v (record { place = i; production = p }) ≡ Ok d
    predicted_is c d v i p deep long given =
        cond-false (leb limits.depth (length c.frames)) _ _ (lt-leb _ _ deep)
        ∙ cond-false (leb limits.trail (length c.trail)) _ _ (lt-leb _ _ long)
        ∙ ap settled given

    -- the reader makes the predictions of a derivation that meets the kind in sight
    predict_complete : (s : Sight) {left : ℕ} {c d : Config V} → Seen m s → Predicts m g limits s left c d → Good g c.frames c.next → Meets g s.kind d.frames d.next → Stopped d.next → predict m guide limits s left c ≡ Ok d
    predict_complete s {left} {c} seen Predicts.done good meets stopped = predict_stopped s left c stopped
    predict_complete s {c = c} seen (predicting {left = left} {a = a} {place = i} {v = v} {p = p} {d = d} next at may deep long given more) good meets stopped =
        let stack = subst (Good g c.frames) next good in
        let ready = opened_ready m g s v stack at may in
        let comes = given_back m g s.kind (c.trail ++ i ∷ []) (opened p ∷ c.frames) v given (predicts_back m g s.kind more meets) in
        let predicts : Predict g p s.kind = comes_predict g s.kind p c.frames ready.stack comes in
        let act : V → Choice → Result (Config V) ReadingFault = λ v choice. predicted m limits c v choice then (λ x. predict m guide limits s left x) in
        ap (choosing m guide s c act) next
        ∙ ap (λ o. with_choice o (act v)) (chosen_is s seen a v i p at may predicts)
        ∙ ap (λ r. r then (λ x. predict m guide limits s left x)) (predicted_is c d v i p deep long given)
        ∙ predict_complete s seen more (given_good m g (c.trail ++ i ∷ []) (opened p ∷ c.frames) v ready given) meets stopped

    -- a kind that is outstanding is one of the table's
    known : (c : Config V) (k : ℕ) → Good g c.frames c.next → c.next ≡ a_kind k → k < guide.kinds
    known c k good next =
        let item = awaits_item g k c.frames (subst (Good g c.frames) next good) in
        made.known_kinds item.2 item.3.1

    -- the reader takes a word that is derived
    pub offer_complete : {c e : Config V} {w : Word V} → Good g c.frames c.next → Takes m g limits c (w ∷ []) e → offer m guide limits c w ≡ Ok e
    offer_complete {c} {w = w} good (taking {d = d} predicts next given Takes.done) =
        let below : w.kind < guide.kinds = known d w.kind (predicts_good m g predicts good) next in
        let few : guide.kinds ≤ end_mark = made.few_kinds in
        let seen : Seen m (of_word m w) = record { kind_within = omega arith; class_within = lawful.class_within w.value; end_class = λ e. absurd (omega arith) } in
        let went = predict_complete (of_word m w) seen predicts good (subst (Meets g w.kind d.frames) (sym next) refl) (subst Stopped (sym next) tt) in
        cond-false (leb guide.kinds w.kind) _ _ (lt-leb _ _ below)
        ∙ ap (λ r. r then (λ x. take_at m w x x.next)) went
        ∙ ap (take_at m w d) next
        ∙ cond-true (eqb w.kind w.kind) _ _ (eq-eqb _ _ refl)
        ∙ ap settled given

    -- the reader closes where a derivation is over
    pub close_complete : (c d : Config V) (outcome : Outcome V) → Good g c.frames c.next → Predicts m g limits of_end limits.predictions c d → d.next ≡ nothing outcome.value → d.trail ≡ outcome.trail → close m guide limits c ≡ Ok outcome
    close_complete c d outcome good predicts next trail =
        let seen : Seen m of_end = record { kind_within = omega arith; class_within = lawful.some_class; end_class = λ e. refl } in
        let went = predict_complete of_end seen predicts good (subst (Meets g end_mark d.frames) (sym next) refl) (subst Stopped (sym next) tt) in
        ap (λ r. r then (λ x. close_at x x.next)) went
        ∙ ap (close_at d) next
        ∙ ap (λ t. Ok (record { trail = t; value = outcome.value })) trail
