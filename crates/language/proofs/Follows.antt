-- The kind in sight that a derivation meets at last lies in the Predict set of each production that it predicts before.
use Rattle.std.proofs.Common.{◌≡◌, ℕ, ◌⊎◌, List, [], ◌∷◌, ◌++◌, Some, None, Option, sym, subst, inl, inr}
use Rattle.domain.specs.Meaning.{Meaning}
use Rattle.table.specs.declared.drafts.Item.{Item}
use Rattle.table.specs.declared.drafts.Item.TheVariants.{Kind, Nonterminal}
use Rattle.table.specs.declared.drafts.Operation.{Operation}
use Rattle.table.specs.Grammar.{Production}
use Rattle.sets.specs.Sets.{At, Empty, First, Follow, Predict, end_mark, at_end, before, last}
use Rattle.language.specs.Configurations.{Frame, Next, Config, a_kind, a_nonterminal, nothing}
use Rattle.language.specs.Derivations.{Sight, Predicts, done, predicting}
use Rattle.language.specs.Limits.{Limits}
use Rattle.language.specs.Settling.{Reach, to_kind, to_nonterminal, to_end, to_no, advance, settle, ruled, give, opened}
use Rattle.language.proofs.Keeps.{left_is}
use Rattle.language.proofs.Reached.{Past, Reached, reached, first_past, empty_past}
use Rattle.language.proofs.Stacks.{Stack, bottom, above, suffix_stands}

module _ {V : Type 0} (g : List Production) (k : ℕ) where
  -- after the item under way, kind k can come, or all can be empty and k is the end mark
  abbrev pub Comes : List (Frame V) → Type 0
  Comes [] = k ≡ end_mark
  Comes (f ∷ below) = First g f.rest k ⊎ (Empty g f.rest × Comes below)

  -- what is outstanding can begin with kind k
  abbrev pub Meets : List (Frame V) → Next V → Type 0
  Meets frames (a_kind j) = j ≡ k
  Meets frames (a_nonterminal a v) = (place : ℕ) × (p : Production) × At g place p × (p.left ≡ a) × Comes (opened p ∷ frames)
  Meets frames (nothing v) = k ≡ end_mark

  pub comes_follow : {a : ℕ} {frames : List (Frame V)} → Stack g a frames → Comes frames → Follow g a k
  comes_follow bottom e = subst (Follow g 0) (sym e) at_end
  comes_follow (above at suffix stack) (inl first) = before at (suffix_stands suffix) first
  comes_follow (above at suffix stack) (inr rest) = last at (suffix_stands suffix) rest.0 (comes_follow stack rest.1)

  -- so the production that goes on to meet k has it in its Predict set
  pub comes_predict : (p : Production) (frames : List (Frame V)) → Stack g p.left frames → Comes (opened p ∷ frames) → Predict g p k
  comes_predict p frames stack (inl first) = inl first
  comes_predict p frames stack (inr rest) = inr (rest.0, comes_follow stack rest.1)

module _ {V : Type 0} (m : Meaning V) (g : List Production) (k : ℕ) where
  abbrev Back : List (Frame V) → Option (Config V) → Type 0
  Back frames None = Unit {0}
  Back frames (Some c) = Meets g k c.frames c.next → Comes g k frames

  -- back over a run that came to a nonterminal, which begins with kind k or is empty before what does
  over : {a place : ℕ} {is rest : List Item} {o : Operation} {p : Production} {C : Type 0} → Past is (Nonterminal a o ∷ rest) → At g place p → p.left ≡ a → First g p.items k ⊎ (Empty g p.items × (First g rest k ⊎ (Empty g rest × C))) → First g is k ⊎ (Empty g is × C)
  over past at left (inl first) = inl (first_past past (First.inside at left first))
  over {is = is} {rest = rest} {p = p} {C = C} past at left (inr both) = after both.0 both.1
    where
      after : Empty g p.items → First g rest k ⊎ (Empty g rest × C) → First g is k ⊎ (Empty g is × C)
      after empty (inl first) = inl (first_past past (First.past_nonterminal at left empty first))
      after empty (inr more) = inr (empty_past past (Empty.past_nonterminal at left empty more.0), more.1)

  settle_back : (trail : List ℕ) (f : Frame V) (below : List (Frame V)) (finish : V → Option (Config V)) → ((v : V) → Back below (finish v)) → (r : Reach V) → Reached f.rest r → Back (f ∷ below) (settle m trail f.production below finish r)
  settle_back trail f below finish back (to_kind j rest slots) past = λ e. inl (first_past past (subst (First g (Kind j ∷ rest)) e First.here))
  settle_back trail f below finish back (to_nonterminal a v rest slots) past = λ meets. over past.1 meets.2 meets.3 meets.4
  settle_back trail f below finish back (to_end slots) past = ending (finish (ruled m f.production.result slots)) (back (ruled m f.production.result slots))
    where
      ending : (answer : Option (Config V)) → Back below answer → Back (f ∷ below) answer
      ending None b = tt
      ending (Some c) b = λ meets. inr (empty_past past Empty.none, b meets)
  settle_back trail f below finish back to_no past = tt

  give_back : (trail : List ℕ) (frames : List (Frame V)) (v : V) → Back frames (give m trail frames v)
  give_back trail [] v = λ meets. meets
  give_back trail (f ∷ below) v = settle_back trail f below (λ result. give m trail below result) (λ result. give_back trail below result) (advance m f.rest (f.slots ++ v ∷ [])) (reached m f.rest (f.slots ++ v ∷ []))

  pub given_back : (trail : List ℕ) (frames : List (Frame V)) (v : V) {c : Config V} → give m trail frames v ≡ Some c → Meets g k c.frames c.next → Comes g k frames
  given_back trail frames v e = subst (Back frames) e (give_back trail frames v)

  -- from where predictions lead to what meets k, k can come
  pub predicts_back : {limits : Limits} {s : Sight} {left : ℕ} {c d : Config V} → Predicts m g limits s left c d → Meets g k d.frames d.next → Meets g k c.frames c.next
  predicts_back done meets = meets
  predicts_back {s = s} {c = c} (predicting {a = a} {place = place} {v = v} {p = p} next at may deep long given more) meets =
      subst (Meets g k c.frames) (sym next) (place, p, at, left_is m g s a v p may, given_back (c.trail ++ place ∷ []) (opened p ∷ c.frames) v given (predicts_back more meets))
