-- What a reader does is a derivation.
use Rattle.std.proofs.Common.{◌≡◌, ℕ, zero, suc, Bool, true, false, cond, ◌&&◌, eqb, leb, List, [], ◌∷◌, length, Some, None, Ok, Err, Option, Result, sym, refl, ap, ◌∙◌, subst, arith}
use Rattle.std.proofs.lemmas.Bool.{and_parts, eqb-true, leb-false}
use Rattle.domain.specs.Meaning.{Meaning}
use Rattle.sets.specs.Sets.{At}
use Rattle.language.specs.declared.faults.ReadingFault.{ReadingFault}
use Rattle.language.specs.declared.faults.ReadingFault.TheVariants.{UnknownKind, TooManyPredictions, TooManyOpen, TrailFull, OtherKind}
use Rattle.language.specs.Configurations.{Word, Next, Config, Outcome, a_kind, a_nonterminal, nothing}
use Rattle.language.specs.Derivations.{Sight, of_word, of_end, allowed, Predicts, predicting, Takes, taking, OpenDerivation, Derivation}
use Rattle.language.specs.Limits.{Limits}
use Rattle.language.specs.Reader.{Guide, Choice, ◌then◌, with_choice, settled, chosen, predicted, choosing, predict, take_at, offer, close_at, close}
use Rattle.language.specs.Settling.{give}
use Rattle.language.proofs.Chosen.{first_found}

pub err_ok : {X : Type 0} {fault : ReadingFault} {x : X} → Err fault ≡ Ok x → ⊥
err_ok e = let z : ◌≡◌ {A = ℕ} 0 1 = cc in omega arith

-- what was granted after an act was granted by it first
pub then_ok : {X Y : Type 0} (r : Result X ReadingFault) (act : X → Result Y ReadingFault) {y : Y} → (r then act) ≡ Ok y → (x : X) × (r ≡ Ok x) × (act x ≡ Ok y)
then_ok (Ok x) act e = (x, refl, e)
then_ok (Err fault) act e = absurd (err_ok e)

settled_ok : {V : Type 0} (o : Option (Config V)) {c : Config V} → settled o ≡ Ok c → o ≡ Some c
settled_ok (Some c) e = cc
settled_ok None e = absurd (err_ok e)

choice_ok : {X : Type 0} (o : Option Choice) (act : Choice → Result X ReadingFault) {x : X} → with_choice o act ≡ Ok x → (choice : Choice) × (o ≡ Some choice) × (act choice ≡ Ok x)
choice_ok (Some choice) act e = (choice, refl, e)
choice_ok None act e = absurd (err_ok e)

-- a test that would have denied said no
pub unless_ok : {X : Type 0} (b : Bool) (fault : ReadingFault) (r : Result X ReadingFault) {x : X} → cond b (Err fault) r ≡ Ok x → (b ≡ false) × (r ≡ Ok x)
unless_ok true fault r e = absurd (err_ok e)
unless_ok false fault r e = (refl, e)

-- a test that would have denied said yes
provided_ok : {X : Type 0} (b : Bool) (fault : ReadingFault) (r : Result X ReadingFault) {x : X} → cond b r (Err fault) ≡ Ok x → (b ≡ true) × (r ≡ Ok x)
provided_ok true fault r e = (refl, e)
provided_ok false fault r e = absurd (err_ok e)

-- no nonterminal is outstanding
abbrev pub Stopped : {V : Type 0} → Next V → Type 0
Stopped (a_kind k) = Unit {0}
Stopped (a_nonterminal a v) = ⊥
Stopped (nothing v) = Unit {0}

module _ {V : Type 0} (m : Meaning V) (guide : Guide) (limits : Limits) where
  abbrev Reaches : Sight → ℕ → Config V → Config V → Type 0
  Reaches s left c d = Predicts m guide.productions limits s left c d × Stopped d.next

  stays : (s : Sight) (left : ℕ) (c d : Config V) → Stopped c.next → c ≡ d → Reaches s left c d
  stays s left c d stopped same = (subst (Predicts m guide.productions limits s left c) same Predicts.done, subst (λ (x : Config V). Stopped x.next) same stopped)

  -- a production is predicted where it may be and the limits allow
  predicted_ok : (s : Sight) (left a : ℕ) (v : V) (c d e : Config V) (choice : Choice) → c.next ≡ a_nonterminal a v → chosen m guide s a v ≡ Some choice → predicted m limits c v choice ≡ Ok d → Reaches s left d e → Reaches s (suc left) c e
  predicted_ok s left a v c d e choice next chose granted more =
      let found = first_found (λ place p. allowed m s a v p && guide.predict place s.kind) 0 guide.productions choice chose in
      let at : At guide.productions choice.place choice.production = subst (λ n. At guide.productions n choice.production) (omega (arith, found.place_is)) found.stands in
      let may = (and_parts (allowed m s a v choice.production) (guide.predict choice.place s.kind) found.suits).0 in
      let room = unless_ok (leb limits.depth (length c.frames)) TooManyOpen _ granted in
      let room' = unless_ok (leb limits.trail (length c.trail)) TrailFull _ room.1 in
      (predicting next at may (leb-false _ _ room.0) (leb-false _ _ room'.0) (settled_ok _ room'.1) more.0, more.1)

  pub predict_sound : (s : Sight) (left : ℕ) (c d : Config V) → predict m guide limits s left c ≡ Ok d → Reaches s left c d
  predict_sound s zero c d e = at_next c.next refl e
    where
      at_next : (n : Next V) → c.next ≡ n → choosing m guide s c (λ v choice. Err TooManyPredictions) n ≡ Ok d → Reaches s zero c d
      at_next (a_kind k) next e = stays s zero c d (subst Stopped (sym next) tt) (cc)
      at_next (nothing v) next e = stays s zero c d (subst Stopped (sym next) tt) (cc)
      at_next (a_nonterminal a v) next e = absurd (err_ok (choice_ok (chosen m guide s a v) _ e).2)
  predict_sound s (suc left) c d e = at_next (λ x. predict_sound s left x d) c.next refl e
    where
      at_next : ((x : Config V) → predict m guide limits s left x ≡ Ok d → Reaches s left x d) → (n : Next V) → c.next ≡ n → choosing m guide s c (λ v choice. predicted m limits c v choice then (λ x. predict m guide limits s left x)) n ≡ Ok d → Reaches s (suc left) c d
      at_next more (a_kind k) next e = stays s (suc left) c d (subst Stopped (sym next) tt) (cc)
      at_next more (nothing v) next e = stays s (suc left) c d (subst Stopped (sym next) tt) (cc)
      at_next more (a_nonterminal a v) next e =
          let chose = choice_ok (chosen m guide s a v) _ e in
          let went = then_ok (predicted m limits c v chose.0) _ chose.2 in
          predicted_ok s left a v c went.0 d chose.0 next chose.1 went.1 (more went.0 went.2)

  take_sound : (w : Word V) (d e : Config V) (n : Next V) → d.next ≡ n → take_at m w d n ≡ Ok e → (d.next ≡ a_kind w.kind) × (give m d.trail d.frames w.value ≡ Some e)
  take_sound w d e (a_kind k) next granted =
      let same = provided_ok (eqb k w.kind) OtherKind _ granted in
      (next ∙ ap a_kind (eqb-true _ _ same.0), settled_ok _ same.1)
  take_sound w d e (a_nonterminal a v) next granted = absurd (err_ok granted)
  take_sound w d e (nothing v) next granted = absurd (err_ok granted)

  -- a word that is granted is derived
  pub offer_sound : (c e : Config V) (w : Word V) → offer m guide limits c w ≡ Ok e → Takes m guide.productions limits c (w ∷ []) e
  offer_sound c e w granted =
      let known = unless_ok (leb guide.kinds w.kind) UnknownKind _ granted in
      let went = then_ok (predict m guide limits (of_word m w) limits.predictions c) _ known.1 in
      let taken = take_sound w went.0 e went.0.next refl went.2 in
      taking (predict_sound (of_word m w) limits.predictions c went.0 went.1).0 taken.0 taken.1 Takes.done

  close_at_sound : (d : Config V) (n : Next V) → d.next ≡ n → (outcome : Outcome V) → close_at d n ≡ Ok outcome → (d.next ≡ nothing outcome.value) × (d.trail ≡ outcome.trail)
  close_at_sound d (a_kind k) next outcome granted = absurd (err_ok granted)
  close_at_sound d (a_nonterminal a v) next outcome granted = absurd (err_ok granted)
  close_at_sound d (nothing v) next outcome granted =
      let same : ◌≡◌ {A = Outcome V} (record { trail = d.trail; value = v }) outcome = cc in
      (next ∙ ap (λ x. nothing x.value) same, ap (λ x. x.trail) same)

  -- a closing that is granted ends a derivation
  pub close_sound : (ws : List (Word V)) (c : Config V) (outcome : Outcome V) → OpenDerivation m guide.productions limits ws c → close m guide limits c ≡ Ok outcome → Derivation m guide.productions limits ws outcome
  close_sound ws c outcome opens granted =
      let went = then_ok (predict m guide limits of_end limits.predictions c) _ granted in
      let over = close_at_sound went.0 went.0.next refl outcome went.2 in
      record {
        last = c;
        end = went.0;
        opens = opens;
        closes = (predict_sound of_end limits.predictions c went.0 went.1).0;
        its_value = over.0;
        its_trail = over.1;
      }
