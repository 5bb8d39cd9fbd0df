-- The words of a text, from one to the next.
use Rattle.std.proofs.Common.{◌≡◌, ℕ, suc, ◌+◌, ◌-◌, true, false, List, [], ◌∷◌, length, drop, sym, refl, ap, ◌∙◌, add-zero, add-suc, suc-add, suc-ne-zero, one-add, length-drop, inl, inr}
use Rattle.std.proofs.lemmas.Bool.{cases_Bool}
use Rattle.std.proofs.lemmas.List.{drop-drop, take_rest}
use Rattle.text.specs.Words.{front_len, separates, word_at, words_from}

-- the rest of a word gives no word
past_word : (bs : List ℕ) (place : ℕ) → words_from true place bs ≡ words_from false (place + front_len false bs) (drop (front_len false bs) bs)
past_word [] place = refl
past_word (b ∷ bs) place =
    let rest = past_word bs (suc place) in
    elim (cases_Bool (separates b)) [ inl e ↦ rw e (rw (add-zero, e) refl) | inr e ↦ rw (e, one-add, add-suc) (rw suc-add at rest) ]

-- where separators alone are left, no word is
none_left : (bs : List ℕ) (place : ℕ) → front_len false (drop (front_len true bs) bs) ≡ 0 → (words_from false place bs ≡ []) × (front_len true bs ≡ length bs)
none_left [] place none = (refl, refl)
none_left (b ∷ bs) place none =
    elim (cases_Bool (separates b)) [
      | inl e ↦ (let rest = none_left bs (suc place) (rw (e, one-add) at none) in rw (e, one-add) (rest.0, ap suc rest.1))
      | inr e ↦ absurd (suc-ne-zero _ (rw (e, e, one-add) at none))
    ]

-- the next word begins after the separators, and ends where its letters do
next_word : (bs : List ℕ) (place : ℕ) → (front_len false (drop (front_len true bs) bs) ≡ 0 → ⊥) → words_from false place bs ≡ word_at (place + front_len true bs) (drop (front_len true bs) bs) ∷ words_from false (place + front_len true bs + front_len false (drop (front_len true bs) bs)) (drop (front_len false (drop (front_len true bs) bs)) (drop (front_len true bs) bs))
next_word [] place some = absurd (some refl)
next_word (b ∷ bs) place some =
    elim (cases_Bool (separates b)) [
      | inl e ↦ (let rest = next_word bs (suc place) (rw (e, one-add) at some) in rw (e, one-add, add-suc) (rw suc-add at rest))
      | inr e ↦ rw (e, add-zero, e, past_word bs (suc place), one-add, add-suc, suc-add) refl
    ]

-- from a place to the end of the next word
module _ (text : List ℕ) (from gap run : ℕ) (lead : gap ≡ front_len true (drop from text)) (long : run ≡ front_len false (drop (from + gap) text)) where
  here : drop (front_len true (drop from text)) (drop from text) ≡ drop (from + gap) text
  here = drop-drop (front_len true (drop from text)) from text ∙ ap (λ n. drop (from + n) text) (sym lead)

  none : run ≡ 0 → (words_from false from (drop from text) ≡ []) × (front_len true (drop from text) ≡ length (drop from text))
  none empty = none_left (drop from text) from (rw here (sym long ∙ empty))

  pub none_from : run ≡ 0 → words_from false from (drop from text) ≡ []
  none_from empty = (none empty).0

  pub end_from : run ≡ 0 → gap ≡ length text - from
  end_from empty = lead ∙ (none empty).1 ∙ length-drop from text

  pub word_from : (run ≡ 0 → ⊥) → words_from false from (drop from text) ≡ word_at (from + gap) (drop (from + gap) text) ∷ words_from false (from + gap + run) (drop (from + gap + run) text)
  word_from some =
      let next = next_word (drop from text) from (λ empty. some (long ∙ ap (front_len false) (sym here) ∙ empty)) in
      let past = drop-drop run (from + gap) text in
      cc here

-- what the giving of a word rests on
pub ruleset of_runs = (none_from, end_from, word_from, take_rest)
