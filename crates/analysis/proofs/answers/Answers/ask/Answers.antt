use Rattle.std.proofs.Common.{◌≡◌, ℕ, ◌<◌, Bool, List, [], length, get_or, set, Option, Some, None, sym, ap, ◌∙◌, ⊎_elim, arith, rules, get_or-set_other, get_or-set_same}
use Rattle.std.proofs.lemmas.Bool.{cases_eq}
use Rattle.domain.specs.Meaning.{Classes}
use Rattle.analysis.specs.Answers.{Known, AllKnown}
use Rattle.analysis.proofs.answers.Answers.ask.Goals as goal

-- no other test stands at the place
all_known : (c : Classes) (places : List (Option ℕ)) (ever : List (Option Bool)) (rows : List (List ℕ)) (test place : ℕ) (b : Bool) (r : List ℕ)
    → ((one other p : ℕ) → get_or places one None ≡ Some p → get_or places other None ≡ Some p → one ≡ other)
    → get_or places test None ≡ Some place → place < length ever → place < length rows
    → Known c test (Some b) r → AllKnown c places ever rows → AllKnown c places (set ever place (Some b)) (set rows place r)
all_known c places ever rows test place b r own at ever_within rows_within known all other p stands =
    ⊎_elim
    (λ e.
    let same : other ≡ test = own other test p stands (at ∙ ap (λ q. Some q) (sym e)) in
    rw (same, e, get_or-set_same ever place (Some b) None ever_within, get_or-set_same rows place r [] rows_within) known)
    (λ ne. rw (get_or-set_other ever place p (Some b) None ne, get_or-set_other rows place p r [] ne) (all other p stands))
    (cases_eq p place)

pub invariant_of-self : goal.invariant_of-self
invariant_of-self g c =
    let self = c.args.self.now in
    let place = c.unwrap-place.result in
    let below = self.tests.now.below c.args.test place c.unwrap-place.ensures in
    let ever_within : place < length self.ever = omega (arith, self.room) in
    let rows_within : place < length self.rows = omega (arith, self.same_room) in
    record {
      room = search rules;
      same_room = search rules;
      known = all_known (g.D.Domain.meaning self.domain.now.domain.now).classes self.tests.now.places self.ever self.rows c.args.test place _ _
          self.tests.now.own c.unwrap-place.ensures ever_within rows_within
          record { somewhere = λ e. c.ask-ever.ensures.rows; nowhere = λ e. c.ask-ever.ensures.never (cc) } self.known;
    }

pub returns-in-Some-clause-never : goal.returns-in-Some-clause-never
returns-in-Some-clause-never g c never =
    (c.args.self.now.known c.args.test c.unwrap-place.result c.unwrap-place.ensures).nowhere (c.in-Some.is ∙ ap (λ b. Some b) never)
