-- Predicting and taking keep configurations good.
use Rattle.std.proofs.Common.{◌≡◌, ℕ, true, List, [], ◌∷◌, ◌++◌, Some, None, Option, sym, subst}
use Rattle.std.proofs.lemmas.Bool.{and_parts, eqb-true}
use Rattle.domain.specs.Meaning.{Meaning}
use Rattle.table.specs.Grammar.{Production}
use Rattle.sets.specs.Sets.{At}
use Rattle.language.specs.Configurations.{Frame, Config}
use Rattle.language.specs.Derivations.{Sight, allowed, Predicts, done, predicting}
use Rattle.language.specs.Limits.{Limits}
use Rattle.language.specs.Settling.{Reach, to_kind, to_nonterminal, to_end, to_no, advance, settle, ruled, give, opened}
use Rattle.language.proofs.Reached.{Reached, reached}
use Rattle.language.proofs.Stacks.{whole, suffix_trans, past_suffix, Stack, above, Under-way, Ready, Good, stack_ready}

module _ {V : Type 0} (m : Meaning V) (g : List Production) where
  abbrev GoodIf : Option (Config V) → Type 0
  GoodIf None = Unit {0}
  GoodIf (Some c) = Good g c.frames c.next

  settle_good : (trail : List ℕ) (f : Frame V) (below : List (Frame V)) (finish : V → Option (Config V)) → Under-way g f.rest f below → ((v : V) → GoodIf (finish v)) → (r : Reach V) → Reached f.rest r → GoodIf (settle m trail f.production below finish r)
  settle_good trail f below finish under good (to_kind k rest slots) past = record { place = under.place; stands = under.stands; ends = suffix_trans under.ends (past_suffix past); stack = under.stack }
  settle_good trail f below finish under good (to_nonterminal a v rest slots) past = above under.stands (suffix_trans under.ends (past_suffix past.1)) under.stack
  settle_good trail f below finish under good (to_end slots) past = good (ruled m f.production.result slots)
  settle_good trail f below finish under good to_no past = tt

  give_good : (trail : List ℕ) (frames : List (Frame V)) (v : V) → Ready g frames → GoodIf (give m trail frames v)
  give_good trail [] v ready = tt
  give_good trail (f ∷ below) v ready = settle_good trail f below (λ result. give m trail below result) ready (λ result. give_good trail below result (stack_ready g ready.stack)) (advance m f.rest (f.slots ++ v ∷ [])) (reached m f.rest (f.slots ++ v ∷ []))

  pub given_good : (trail : List ℕ) (frames : List (Frame V)) (v : V) {c : Config V} → Ready g frames → give m trail frames v ≡ Some c → Good g c.frames c.next
  given_good trail frames v ready e = subst GoodIf e (give_good trail frames v ready)

  -- a production that may be predicted for a nonterminal has it on the left
  pub left_is : (s : Sight) (a : ℕ) (v : V) (p : Production) → allowed m s a v p ≡ true → p.left ≡ a
  left_is s a v p may = eqb-true p.left a (and_parts _ _ (and_parts _ _ may).0).0

  -- the productions with p opened for the outstanding nonterminal a
  pub opened_ready : {a place : ℕ} {p : Production} {frames : List (Frame V)} (s : Sight) (v : V) → Stack g a frames → At g place p → allowed m s a v p ≡ true → Ready g (opened p ∷ frames)
  opened_ready {a} {place} {p} {frames} s v stack at may = record { place = place; stands = at; ends = whole; stack = subst (λ b. Stack g b frames) (sym (left_is s a v p may)) stack }

  pub predicts_good : {limits : Limits} {s : Sight} {left : ℕ} {c d : Config V} → Predicts m g limits s left c d → Good g c.frames c.next → Good g d.frames d.next
  predicts_good done good = good
  predicts_good {s = s} {c = c} (predicting {place = place} {v = v} {p = p} next at may deep long given more) good =
      predicts_good more (given_good (c.trail ++ place ∷ []) (opened p ∷ c.frames) v (opened_ready s v (subst (Good g c.frames) next good) at may) given)
