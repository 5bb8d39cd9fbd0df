-- What the open productions of a derivation are.
use Rattle.std.proofs.Common.{ℕ, suc, List, [], ◌∷◌}
use Rattle.table.specs.declared.drafts.Item.{Item}
use Rattle.table.specs.declared.drafts.Item.TheVariants.{Kind, Nonterminal}
use Rattle.table.specs.declared.drafts.Operation.{Operation}
use Rattle.table.specs.Grammar.{Production}
use Rattle.sets.specs.Sets.{At, Stands, here, later}
use Rattle.language.specs.Configurations.{Frame, Next, a_kind, a_nonterminal, nothing}
use Rattle.language.proofs.Reached.{Past}

-- the run ends with `post`
pub data Suffix : List Item → List Item → Type 0 where
  whole : {is : List Item} → Suffix is is
  longer : {i : Item} {is post : List Item} → Suffix is post → Suffix (i ∷ is) post

pub past_suffix : {is post : List Item} → Past is post → Suffix is post
past_suffix Past.here = whole
past_suffix (Past.past_check past) = longer (past_suffix past)

pub suffix_trans : {is post last : List Item} → Suffix is post → Suffix post last → Suffix is last
suffix_trans whole after = after
suffix_trans (longer suffix) after = longer (suffix_trans suffix after)

pub suffix_rest : {is post : List Item} {i : Item} → Suffix is (i ∷ post) → Suffix is post
suffix_rest suffix = suffix_trans suffix (longer whole)

pub suffix_at : {is post : List Item} {i : Item} → Suffix is (i ∷ post) → (n : ℕ) × At is n i
suffix_at whole = (0, here)
suffix_at (longer suffix) = let at = suffix_at suffix in (suc at.0, later at.1)

pub suffix_stands : {is post : List Item} {a : ℕ} {o : Operation} → Suffix is (Nonterminal a o ∷ post) → Stands is a post
suffix_stands whole = Stands.here
suffix_stands (longer suffix) = Stands.later (suffix_stands suffix)

module _ {V : Type 0} (g : List Production) where
  -- nonterminal a is under way above these productions: it stands in the first, whose left side stands so above the others
  pub data Stack : ℕ → List (Frame V) → Type 0 where
    bottom : Stack 0 []
    above : {a place : ℕ} {o : Operation} {f : Frame V} {below : List (Frame V)} → At g place f.production → Suffix f.production.items (Nonterminal a o ∷ f.rest) → Stack f.production.left below → Stack a (f ∷ below)

  -- the item before `post` is under way in the first production
  pub record Under-way (post : List Item) (f : Frame V) (below : List (Frame V)) : Type 0 where
    pub place : ℕ
    pub stands : At g place f.production
    pub ends : Suffix f.production.items post
    pub stack : Stack f.production.left below

  -- a value may be given to these productions
  abbrev pub Ready : List (Frame V) → Type 0
  Ready [] = Unit {0}
  Ready (f ∷ below) = Under-way f.rest f below

  abbrev pub Awaits : ℕ → List (Frame V) → Type 0
  Awaits k [] = ⊥
  Awaits k (f ∷ below) = Under-way (Kind k ∷ f.rest) f below

  -- what is outstanding is so by the productions that are open
  abbrev pub Good : List (Frame V) → Next V → Type 0
  Good frames (a_kind k) = Awaits k frames
  Good frames (a_nonterminal a v) = Stack a frames
  Good frames (nothing v) = Unit {0}

  pub stack_ready : {a : ℕ} {frames : List (Frame V)} → Stack a frames → Ready frames
  stack_ready bottom = tt
  stack_ready (above {place = place} at suffix stack) = record { place = place; stands = at; ends = suffix_rest suffix; stack = stack }

  pub awaits_ready : (k : ℕ) (frames : List (Frame V)) → Awaits k frames → Ready frames
  awaits_ready k [] awaits = absurd awaits
  awaits_ready k (f ∷ below) awaits = record { place = awaits.place; stands = awaits.stands; ends = suffix_rest awaits.ends; stack = awaits.stack }

  -- a kind that is outstanding is an item of a production
  pub awaits_item : (k : ℕ) (frames : List (Frame V)) → Awaits k frames → (place : ℕ) × (p : Production) × At g place p × ((i : ℕ) × At p.items i (Kind k))
  awaits_item k [] awaits = absurd awaits
  awaits_item k (f ∷ below) awaits = (awaits.place, f.production, awaits.stands, suffix_at awaits.ends)
