-- The law.
use Rattle.std.proofs.Common.{◌≡◌, List, [], ◌∷◌, ◌++◌, Ok, Err, Result, sym, refl, ◌∙◌, subst}
use Rattle.domain.specs.Meaning.{Meaning, Lawful}
use Rattle.analysis.specs.Clashes.{ClashFree}
use Rattle.language.specs.declared.faults.ReadingFault.{ReadingFault}
use Rattle.language.specs.Configurations.{Word, Config, Outcome, start}
use Rattle.language.specs.Derivations.{of_end, Predicts, Takes, taking, OpenDerivation, Derivation}
use Rattle.language.specs.Law.{Made, Denied, Agrees, Law}
use Rattle.language.specs.Limits.{Limits}
use Rattle.language.specs.Reader.{Guide, offer, close}
use Rattle.language.specs.Runs.{Call, an_offer, a_closing, a_restart, Reading, an_open, a_closed, new, offered, closed, called, after}
use Rattle.language.proofs.Complete.{offer_complete, close_complete}
use Rattle.language.proofs.Sound.{err_ok, offer_sound, close_sound}
use Rattle.language.proofs.Stacks.{Good, bottom}
use Rattle.language.proofs.Wider.{both, than_one, than_other, predicts_wider, takes_wider}
use Rattle.language.proofs.Words.{takes_good, one_more, all_but_one}

module _ {V : Type 0} (m : Meaning V) (lawful : Lawful m) (guide : Guide) (made : Made guide) (free : ClashFree m.classes guide.productions) where
  -- under any two limits the same words lead to one configuration
  takes_one : (one other : Limits) {ws : List (Word V)} {c d e : Config V} → Good guide.productions c.frames c.next → Takes m guide.productions one c ws d → Takes m guide.productions other c ws e → d ≡ e
  takes_one one other good Takes.done Takes.done = refl
  takes_one one other {e = f} good (taking {w = w} {ws = ws} {c = c} {e = d} predicts next given rest) (taking {e = e} predicts' next' given' rest') =
      let first : Takes m guide.productions one c (w ∷ []) d = taking predicts next given Takes.done in
      let first' : Takes m guide.productions other c (w ∷ []) e = taking predicts' next' given' Takes.done in
      let granted = offer_complete m lawful guide made free (both one other) good (takes_wider m guide.productions (than_one one other) first) in
      let granted' = offer_complete m lawful guide made free (both one other) good (takes_wider m guide.productions (than_other one other) first') in
      let same : e ≡ d = cc in
      takes_one one other (takes_good m guide.productions first good) rest (subst (λ x. Takes m guide.productions other x ws f) same rest')

  opening_one : (one other : Limits) {ws : List (Word V)} {d e : Config V} → OpenDerivation m guide.productions one ws d → OpenDerivation m guide.productions other ws e → d ≡ e
  opening_one one other = takes_one one other bottom

  derivation_one : (one other : Limits) (ws : List (Word V)) (outcome outcome' : Outcome V) → Derivation m guide.productions one ws outcome → Derivation m guide.productions other ws outcome' → outcome ≡ outcome'
  derivation_one one other ws outcome outcome' this that =
      let wide = both one other in
      let good = takes_good m guide.productions this.opens bottom in
      let from_here = subst (λ c. Predicts m guide.productions other of_end other.predictions c that.end) (sym (opening_one one other this.opens that.opens)) that.closes in
      let closes = close_complete m lawful guide made free wide this.last this.end outcome good (predicts_wider m guide.productions (than_one one other) of_end wide.predictions (than_one one other).predictions this.closes) this.its_value this.its_trail in
      let closes' = close_complete m lawful guide made free wide this.last that.end outcome' good (predicts_wider m guide.productions (than_other one other) of_end wide.predictions (than_other one other).predictions from_here) that.its_value that.its_trail in
      cc

  module _ (limits : Limits) where
    -- what an open reading has been granted has an open derivation that comes to where it stands
    abbrev Holds : Reading V → Type 0
    Holds (an_open ws c) = OpenDerivation m guide.productions limits ws c
    Holds (a_closed outcome) = Unit {0}

    called_holds : (r : Reading V) (call : Call V) → Holds r → Holds (called m guide limits r call)
    called_holds (an_open ws c) (an_offer w) opens = answered (offer m guide limits c w) refl
      where
        answered : (answer : Result (Config V) ReadingFault) → offer m guide limits c w ≡ answer → Holds (offered ws c w answer)
        answered (Ok d) granted = one_more m guide.productions opens (offer_sound m guide limits c d w granted)
        answered (Err fault) denied = opens
    called_holds (an_open ws c) a_closing opens = answered (close m guide limits c)
      where
        answered : (answer : Result (Outcome V) ReadingFault) → Holds (closed ws c answer)
        answered (Ok outcome) = tt
        answered (Err fault) = opens
    called_holds (an_open ws c) a_restart opens = Takes.done
    called_holds (a_closed outcome) (an_offer w) opens = tt
    called_holds (a_closed outcome) a_closing opens = tt
    called_holds (a_closed outcome) a_restart opens = Takes.done

    after_holds : (calls : List (Call V)) (r : Reading V) → Holds r → Holds (after m guide limits r calls)
    after_holds [] r holds = holds
    after_holds (call ∷ calls) r holds = after_holds calls (called m guide limits r call) (called_holds r call holds)

    -- an offer is denied where the words with it added have no open derivation
    offer_denied : (ws : List (Word V)) (c : Config V) (w : Word V) → OpenDerivation m guide.productions limits ws c → (answer : Result (Config V) ReadingFault) → offer m guide limits c w ≡ answer → ¬ ((d : Config V) × OpenDerivation m guide.productions limits (ws ++ w ∷ []) d) → Denied (offer m guide limits c w)
    offer_denied ws c w opens (Ok d) granted none = absurd (none (d, one_more m guide.productions opens (offer_sound m guide limits c d w granted)))
    offer_denied ws c w opens (Err fault) denied none = (fault, denied)

    -- and has none where it is denied
    denied_none : (ws : List (Word V)) (c : Config V) (w : Word V) → OpenDerivation m guide.productions limits ws c → Denied (offer m guide limits c w) → ¬ ((d : Config V) × OpenDerivation m guide.productions limits (ws ++ w ∷ []) d)
    denied_none ws c w opens denied longer =
        let split = all_but_one m guide.productions ws w (start m) longer.0 longer.1 in
        let last = subst (λ x. Takes m guide.productions limits x (w ∷ []) longer.0) (opening_one limits limits split.1 opens) split.2 in
        err_ok (sym denied.1 ∙ offer_complete m lawful guide made free limits (takes_good m guide.productions opens bottom) last)

    agrees : (ws : List (Word V)) (c : Config V) → OpenDerivation m guide.productions limits ws c → Agrees m guide limits ws c
    agrees ws c opens = record {
      closing = λ outcome. (
        close_sound m guide limits ws c outcome opens,
        λ derivation.
            let from_here = subst (λ x. Predicts m guide.productions limits of_end limits.predictions x derivation.end) (opening_one limits limits derivation.opens opens) derivation.closes in
            close_complete m lawful guide made free limits c derivation.end outcome (takes_good m guide.productions opens bottom) from_here derivation.its_value derivation.its_trail,
      );
      one_derivation = λ these those. derivation_one these those ws;
      opening = opens;
      one_opening = λ others d. opening_one limits others opens;
      offering = λ w. (denied_none ws c w opens, offer_denied ws c w opens (offer m guide limits c w) refl);
    }

pub law : {V : Type 0} (m : Meaning V) → Law m
law m lawful guide made free limits calls words c is = agrees m lawful guide made free limits words c (subst (Holds m lawful guide made free limits) is (after_holds m lawful guide made free limits calls (new m) Takes.done))
