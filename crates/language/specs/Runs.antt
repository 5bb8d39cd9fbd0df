-- Lists of calls on one reading.
use Rattle.std.specs.Prelude.{List, [], ◌∷◌, ◌++◌, Ok, Err, Result}
use Rattle.domain.specs.Meaning.{Meaning}
use Rattle.language.specs.declared.faults.ReadingFault.{ReadingFault}
use Rattle.language.specs.Configurations.{Word, Config, Outcome, start}
use Rattle.language.specs.Limits.{Limits}
use Rattle.language.specs.Reader.{Guide, offer, close}

pub data Call (V : Type 0) : Type 0 where
  an_offer : Word V → Call V
  a_closing : Call V
  a_restart : Call V

-- an open reading, with the words that were granted since it was new, or a closed one
pub data Reading (V : Type 0) : Type 0 where
  an_open : List (Word V) → Config V → Reading V
  a_closed : Outcome V → Reading V

-- the reading that is new, or restarted
abbrev pub new : {V : Type 0} → Meaning V → Reading V
new m = an_open [] (start m)

-- after an offer; a denial leaves the reading as it was
abbrev pub offered : {V : Type 0} → List (Word V) → Config V → Word V → Result (Config V) ReadingFault → Reading V
offered ws c w (Ok d) = an_open (ws ++ w ∷ []) d
offered ws c w (Err fault) = an_open ws c

-- after a closing
abbrev pub closed : {V : Type 0} → List (Word V) → Config V → Result (Outcome V) ReadingFault → Reading V
closed ws c (Ok outcome) = a_closed outcome
closed ws c (Err fault) = an_open ws c

module _ {V : Type 0} (m : Meaning V) (guide : Guide) (limits : Limits) where
  -- what a call makes of a reading; no program offers to a closed one or closes it again
  abbrev pub called : Reading V → Call V → Reading V
  called (an_open ws c) (an_offer w) = offered ws c w (offer m guide limits c w)
  called (an_open ws c) a_closing = closed ws c (close m guide limits c)
  called (an_open ws c) a_restart = new m
  called (a_closed outcome) (an_offer w) = a_closed outcome
  called (a_closed outcome) a_closing = a_closed outcome
  called (a_closed outcome) a_restart = new m

  -- what a list of calls makes of it
  abbrev pub after : Reading V → List (Call V) → Reading V
  after r [] = r
  after r (call ∷ calls) = after (called r call) calls
