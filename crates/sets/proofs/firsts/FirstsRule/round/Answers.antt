use Rattle.std.proofs.Common.{◌≡◌, length, sym, refl, ap, ◌∙◌, subst, inl, inr, ⊎_elim, arith, rules}
use Rattle.std.specs.Iterator.Adapters.{rev_source}
use Rattle.std.specs.Slice.Iter.{iter_rest}
use Rattle.std.proofs.lemmas.Bool.{cases_eq}
use Rattle.std.proofs.lemmas.List.{length-map, length_push}
use Rattle.table.specs.Grammar.{grammar, plain}
use Rattle.sets.specs.Bounds.{SmallProduction}
use Rattle.sets.specs.Rounds.{Sound, follow_alone}
use Rattle.sets.specs.Words.{held}
use Rattle.sets.proofs.Fitting.{small_grammar}
use Rattle.sets.proofs.Limits.{all_at}
use Rattle.sets.proofs.Predicting.{at_below, at_middle}
use Rattle.sets.proofs.Going.{going_none, going_more, sound_first, met_first}
use Rattle.sets.proofs.Walks.{back_none, back_next, back_more}
use Rattle.sets.proofs.firsts.FirstsRule.round.Goals as goal

pub loop-production-init : goal.loop-production-init
loop-production-init c =
    let ps = c.args.table.now.draft.productions.items in
    let all : iter_rest (rev_source c.into_iter-production-iterator.result) ≡ ps = search rules in
    back_none _ _ _ all
    (going_none _ _ _ _ _ (λ n p h at. let b = at_below at in let l = length-map ps plain in let e = ap length all in omega arith))

pub add_first-grown-requires : goal.add_first-grown-requires
add_first-grown-requires c =
    let made = c.args.table.now in
    let are = back_next _ _ _ _ _ _ c.in-Some.ensures.steps refl c.loop-production.invariant in
    all_at SmallProduction (at_middle _ _ _ _ are) (small_grammar made.draft made.ok)

pub loop-production-preserved : goal.loop-production-preserved
loop-production-preserved c =
    let v = c.loop-production.sets in
    let added = c.add_first-grown.ensures.added in
    let left = iter_rest (rev_source c.next.new.self) in
    let one_less = ap length c.in-Some.ensures.steps ∙ length_push left c.in-Some.production.now in
    back_more _ _ _ _ _ _ _ c.in-Some.ensures.steps refl
    (λ passed are d. let at = at_middle _ _ _ passed are in
    going_more _ _ _ _ _ _ _ _ v _ _ _ at
    (λ n h. ⊎_elim inr (λ ne. inl (omega (arith, ne, one_less))) (cases_eq n (length left)))
    (λ s. subst (Sound (grammar c.args.table.now.draft)) (sym added) (sound_first at (held v) s)) c.add_first-grown.ensures.grown
    (λ same. met_first (plain c.in-Some.production.now) (held v) (same ∙ added)) (ap follow_alone added) d) c.loop-production.invariant
