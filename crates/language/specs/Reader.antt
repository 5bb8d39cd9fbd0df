-- What a reader does: it goes on by the one production that a word of sight decides.
use Rattle.std.specs.Prelude.{ℕ, zero, suc, Bool, cond, ◌&&◌, List, [], ◌∷◌, ◌++◌, length, Some, None, Ok, Err, Option, Result, ◌==◌, nat_le}
use Rattle.domain.specs.Meaning.{Meaning}
use Rattle.table.specs.Grammar.{Production}
use Rattle.language.specs.declared.faults.ReadingFault.{ReadingFault}
use Rattle.language.specs.declared.faults.ReadingFault.TheVariants.{UnknownKind, NothingOutstanding, NoProduction, TooManyPredictions, TooManyOpen, TrailFull, OtherKind, CheckSaysNo}
use Rattle.language.specs.Configurations.{Word, Next, Config, Outcome, a_kind, a_nonterminal, nothing}
use Rattle.language.specs.Derivations.{Sight, of_word, of_end, allowed}
use Rattle.language.specs.Limits.{Limits}
use Rattle.language.specs.Settling.{give, opened}

-- what a reader has of a table: how many kinds there are, the productions, and their Predict sets, by place and kind
pub record Guide : Type 0 where
  pub kinds : ℕ
  pub productions : List Production
  pub predict : ℕ → ℕ → Bool

-- a production and its place
pub record Choice : Type 0 where
  pub place : ℕ
  pub production : Production

-- the first of the productions, which stand from this place on, to be suitable
abbrev pub first_from : (ℕ → Production → Bool) → ℕ → List Production → Option Choice
first_from suitable place [] = None
first_from suitable place (p ∷ ps) = cond (suitable place p) (Some (record { place = place; production = p })) (first_from suitable (suc place) ps)

-- go on where the first act was granted
infixl 20 ◌then◌
abbrev pub ◌then◌ : {X Y : Type 0} → Result X ReadingFault → (X → Result Y ReadingFault) → Result Y ReadingFault
Ok x then act = act x
Err fault then act = Err fault

-- go on with the production that was chosen, where there is one
abbrev pub with_choice : {X : Type 0} → Option Choice → (Choice → Result X ReadingFault) → Result X ReadingFault
with_choice None act = Err NoProduction
with_choice (Some choice) act = act choice

-- settling is denied where a check says no
abbrev pub settled : {V : Type 0} → Option (Config V) → Result (Config V) ReadingFault
settled (Some c) = Ok c
settled None = Err CheckSaysNo

-- the lowest production that is allowed and whose Predict set holds the kind in sight
abbrev pub chosen : {V : Type 0} → Meaning V → Guide → Sight → ℕ → V → Option Choice
chosen m guide s a v = first_from (λ place p. allowed m s a v p && guide.predict place s.kind) 0 guide.productions

-- predict it, where the limits allow
abbrev pub predicted : {V : Type 0} → Meaning V → Limits → Config V → V → Choice → Result (Config V) ReadingFault
predicted m limits c v choice =
    cond (nat_le limits.depth (length c.frames)) (Err TooManyOpen)
    (cond (nat_le limits.trail (length c.trail)) (Err TrailFull)
    (settled (give m (c.trail ++ choice.place ∷ []) (opened choice.production ∷ c.frames) v)))

-- where a nonterminal is outstanding, go on with the chosen production
abbrev pub choosing : {V : Type 0} → Meaning V → Guide → Sight → Config V → (V → Choice → Result (Config V) ReadingFault) → Next V → Result (Config V) ReadingFault
choosing m guide s c act (a_kind k) = Ok c
choosing m guide s c act (a_nonterminal a v) = with_choice (chosen m guide s a v) (act v)
choosing m guide s c act (nothing v) = Ok c

-- take the word where its kind is outstanding; predictions never end at a nonterminal
abbrev pub take_at : {V : Type 0} → Meaning V → Word V → Config V → Next V → Result (Config V) ReadingFault
take_at m w c (a_kind k) = cond (k == w.kind) (settled (give m c.trail c.frames w.value)) (Err OtherKind)
take_at m w c (a_nonterminal a v) = Err NoProduction
take_at m w c (nothing v) = Err NothingOutstanding

-- close where nothing is outstanding
abbrev pub close_at : {V : Type 0} → Config V → Next V → Result (Outcome V) ReadingFault
close_at c (a_kind k) = Err OtherKind
close_at c (a_nonterminal a v) = Err NoProduction
close_at c (nothing v) = Ok (record { trail = c.trail; value = v })

module _ {V : Type 0} (m : Meaning V) (guide : Guide) (limits : Limits) where
  -- predict, at most so many times, until a kind or nothing is outstanding
  abbrev pub predict : Sight → ℕ → Config V → Result (Config V) ReadingFault
  predict s zero c = choosing m guide s c (λ v choice. Err TooManyPredictions) c.next
  predict s (suc left) c = choosing m guide s c (λ v choice. predicted m limits c v choice then (λ d. predict s left d)) c.next

  abbrev pub offer : Config V → Word V → Result (Config V) ReadingFault
  offer c w = cond (nat_le guide.kinds w.kind) (Err UnknownKind) (predict (of_word m w) limits.predictions c then (λ d. take_at m w d d.next))

  abbrev pub close : Config V → Result (Outcome V) ReadingFault
  close c = predict of_end limits.predictions c then (λ d. close_at d d.next)
