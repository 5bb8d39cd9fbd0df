-- Sheets worked by hand.
use Rattle.std.specs.Prelude.{◌≡◌, ℕ, ◌<◌, ◌⊎◌, ◌↔◌, List, [], ◌∷◌, map, Some, None, Ok, Err, Option, Result}
use Rattle.domain.specs.Meaning.{Meaning}
use Rattle.domain.specs.Minutes.{minutes}
use Rattle.domain.specs.Posts.{posts, written}
use Rattle.domain.specs.declared.posts.PostSet.{PostSet}
use Rattle.analysis.specs.Clashes.{Clash, ClashFree}
use Rattle.sets.specs.Sets.{Follow}
use Rattle.language.specs.declared.faults.ReadingFault.{ReadingFault}
use Rattle.language.specs.Configurations.{Word, Config}
use Rattle.language.specs.Law.{Made}
use Rattle.language.specs.Limits.{limits}
use Rattle.language.specs.Reader.{Guide, offer, close}
use Rattle.language.specs.Refusal.{refusal}
use Rattle.language.specs.Runs.{Call, an_offer, a_closing, a_restart, Reading, an_open, a_closed, new, after}
use Rattle.language.specs.Tables.{full, w_table, without_else, w_guide, q_table, q_guide, s_table, s_guide}

-- the number of a refusal
abbrev pub refused : {X : Type 0} → Result X ReadingFault → Option ℕ
refused (Ok x) = None
refused (Err fault) = Some (refusal fault)

abbrev pub trail_of : {V : Type 0} → Reading V → List ℕ
trail_of (an_open words c) = c.trail
trail_of (a_closed outcome) = outcome.trail

module _ {V : Type 0} (m : Meaning V) (guide : Guide) where
  -- what offers of the words leave
  abbrev pub read : List (Word V) → Reading V
  read words = after m guide limits (new m) (map an_offer words)

  -- the number by which the next call is refused
  abbrev pub refusal_of : Reading V → Call V → Option ℕ
  refusal_of (an_open words c) (an_offer w) = refused (offer m guide limits c w)
  refusal_of (an_open words c) a_closing = refused (close m guide limits c)
  refusal_of (an_open words c) a_restart = None
  refusal_of (a_closed outcome) call = None

  -- the words are all granted, and a closing closes with this trail and value
  abbrev pub Closes : List (Word V) → List ℕ → V → Type 0
  Closes words trail value = (c : Config V) × (read words ≡ an_open words c) × (close m guide limits c ≡ Ok (record { trail = trail; value = value }))

-- minutes up to a day, without cuts and with one
abbrev pub day : Meaning ℕ
day = minutes 1440 []

abbrev pub cut_day : Meaning ℕ
cut_day = minutes 1440 (90 ∷ [])

abbrev pub word : {V : Type 0} → ℕ → V → Word V
word kind value = record { kind = kind; value = value }

abbrev pub WHEN : Word ℕ
WHEN = word 1 0

abbrev pub PARK : Word ℕ
PARK = word 2 0

abbrev pub ELSE : Word ℕ
ELSE = word 3 0

abbrev pub A : Word PostSet
A = word 1 (written 1)

abbrev pub C : Word PostSet
C = word 1 (written 4)

abbrev pub number : ℕ → Word ℕ
number n = word 0 n

pub record Worked : Type 0 where
  -- the Predict sets that are written for the tables are right
  pub w_made : Made w_guide
  pub q_made : Made q_guide
  pub s_made : Made s_guide
  -- in W both Follow sets are {3, 63}
  pub w_follow : (a k : ℕ) → a < 2 → Follow (w_table without_else) a k ↔ ((k ≡ 3) ⊎ (k ≡ 63))
  -- W passes; with a full sight set in production 3 it clashes at 2, 3, kind 3, 0, 0, and nowhere else
  pub w_passes : ClashFree day.classes (w_table without_else)
  pub w_clashes : Clash day.classes (w_table full) 2 3 3 0 0
  pub w_clashes_once : (a b k i j : ℕ) → Clash day.classes (w_table full) a b k i j → (a ≡ 2) × (b ≡ 3) × (k ≡ 3) × (i ≡ 0) × (j ≡ 0)
  -- so do the others; S with test 4 for 2 clashes at 0, 1, kind 0, 0, 0, before which no five numbers come
  pub q_passes : ClashFree (posts 3).classes q_table
  pub s_passes : ClashFree cut_day.classes (s_table 2)
  pub s_clashes : Clash cut_day.classes (s_table 4) 0 1 0 0 0
  -- readings of W
  pub w_closes : Closes day w_guide (WHEN ∷ WHEN ∷ PARK ∷ ELSE ∷ PARK ∷ []) (0 ∷ 0 ∷ 1 ∷ 2 ∷ 1 ∷ 3 ∷ []) 0
  pub w_denies : refusal_of day w_guide (read day w_guide (WHEN ∷ [])) (an_offer ELSE) ≡ Some 19
  pub w_stays : trail_of (read day w_guide (WHEN ∷ ELSE ∷ [])) ≡ 0 ∷ []
  -- readings of Q
  pub q_closes : Closes (posts 3) q_guide (A ∷ C ∷ []) (0 ∷ 0 ∷ 1 ∷ []) (written 5)
  pub q_denies : refusal_of (posts 3) q_guide (read (posts 3) q_guide (A ∷ C ∷ [])) (an_offer A) ≡ Some 19
  -- readings of S
  pub s_closes : Closes cut_day s_guide (number 89 ∷ []) (0 ∷ []) 0
  pub s_trail : trail_of (read cut_day s_guide (number 90 ∷ [])) ≡ 1 ∷ []
  pub s_denies : refusal_of cut_day s_guide (read cut_day s_guide (number 90 ∷ [])) a_closing ≡ Some 23
  pub s_closes_two : Closes cut_day s_guide (number 90 ∷ number 30 ∷ []) (1 ∷ []) 0
  -- the sum is held at the limit
  pub held : day.rule 2 900 900 ≡ 1440
  pub reached : day.rule 2 700 740 ≡ 1440
