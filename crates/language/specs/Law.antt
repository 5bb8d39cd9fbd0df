-- The law: what a reader reads is what the table derives, in one way.
use Rattle.std.specs.Prelude.{◌≡◌, ℕ, ◌<◌, ◌≤◌, true, ◌↔◌, List, [], ◌∷◌, ◌++◌, Ok, Err, Result}
use Rattle.domain.specs.Meaning.{Meaning, Lawful}
use Rattle.table.specs.declared.drafts.Item.TheVariants.{Kind}
use Rattle.table.specs.Grammar.{Production}
use Rattle.analysis.specs.Clashes.{ClashFree}
use Rattle.sets.specs.Sets.{At, Predict, end_mark}
use Rattle.language.specs.declared.faults.ReadingFault.{ReadingFault}
use Rattle.language.specs.Configurations.{Word, Config, Outcome}
use Rattle.language.specs.Derivations.{OpenDerivation, Derivation}
use Rattle.language.specs.Limits.{Limits}
use Rattle.language.specs.Reader.{Guide, offer, close}
use Rattle.language.specs.Runs.{Call, an_open, new, after}

-- what a made table and its analysis give
pub record Made (guide : Guide) : Type 0 where
  pub few_kinds : guide.kinds ≤ end_mark
  pub known_kinds : {place i k : ℕ} {p : Production} → At guide.productions place p → At p.items i (Kind k) → k < guide.kinds
  pub predict_right : {place k : ℕ} {p : Production} → At guide.productions place p → k ≤ end_mark → guide.predict place k ≡ true ↔ Predict guide.productions p k

abbrev pub Denied : {X : Type 0} → Result X ReadingFault → Type 0
Denied answer = (fault : ReadingFault) × (answer ≡ Err fault)

module _ {V : Type 0} (m : Meaning V) (guide : Guide) (limits : Limits) where
  -- a reading that stands at configuration c, with these words granted
  pub record Agrees (words : List (Word V)) (c : Config V) : Type 0 where
    -- a closing closes exactly when the words have a derivation within the limits, and with its trail and value;
    pub closing : (outcome : Outcome V) → close m guide limits c ≡ Ok outcome ↔ Derivation m guide.productions limits words outcome
    -- no second derivation exists, within these limits or any others
    pub one_derivation : (these those : Limits) (outcome outcome' : Outcome V) → Derivation m guide.productions these words outcome → Derivation m guide.productions those words outcome' → outcome ≡ outcome'
    -- an open derivation of the words within the limits comes to this configuration, and so has its trail;
    pub opening : OpenDerivation m guide.productions limits words c
    -- no second open one exists, within these limits or any others
    pub one_opening : (those : Limits) (d : Config V) → OpenDerivation m guide.productions those words d → c ≡ d
    -- the next offer of any word is denied exactly when the words with it added have no open derivation within the limits
    pub offering : (w : Word V) → Denied (offer m guide limits c w) ↔ ¬ ((d : Config V) × OpenDerivation m guide.productions limits (words ++ w ∷ []) d)

-- for every lawful domain and every made table that passes, under any limits, after any calls
abbrev pub Law : {V : Type 0} → Meaning V → Type 0
Law {V} m = Lawful m → (guide : Guide) → Made guide → ClashFree m.classes guide.productions
    → (limits : Limits) (calls : List (Call V)) (words : List (Word V)) (c : Config V)
    → after m guide limits (new m) calls ≡ an_open words c
    → Agrees m guide limits words c
