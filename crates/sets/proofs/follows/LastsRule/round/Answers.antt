use Rattle.std.proofs.Common.{◌<◌, length, sym, ap, ◌∙◌, subst, inl, inr, ⊎_elim, arith}
use Rattle.std.proofs.lemmas.Bool.{cases_eq}
use Rattle.std.proofs.lemmas.List.{length-map}
use Rattle.table.specs.Grammar.{grammar, plain}
use Rattle.sets.specs.Bounds.{SmallProduction}
use Rattle.sets.specs.Rounds.{Sound, firsts_alone}
use Rattle.sets.specs.Words.{held}
use Rattle.sets.proofs.Fitting.{small_grammar}
use Rattle.sets.proofs.Limits.{all_at}
use Rattle.sets.proofs.Predicting.{at_below, at_read}
use Rattle.sets.proofs.Going.{going_more, going_all, sound_last, met_last}
use Rattle.sets.proofs.follows.LastsRule.round.Goals as goal

pub add_last-grown-requires : goal.add_last-grown-requires
add_last-grown-requires c =
    all_at SmallProduction (at_read _ _ _ _ c.loop-production-test.true c.production-item.is c.listed-production-items.ensures.value) (small_grammar _ c.args.table.now.ok)

pub loop-production-preserved : goal.loop-production-preserved
loop-production-preserved c =
    let at = at_read _ _ _ _ c.loop-production-test.true c.production-item.is c.listed-production-items.ensures.value in
    let v = c.loop-production.sets in
    let added = c.add_last-grown.ensures.added in
    going_more _ _ _ (λ n. n < c.loop-production.production-index) _ _ _ _ v _ _ _ at
    (λ n h. ⊎_elim inr (λ ne. inl (omega (arith, ne))) (cases_eq n c.loop-production.production-index))
    (λ s. subst (Sound (grammar c.args.table.now.draft)) (sym added) (sound_last at (held v) s)) c.add_last-grown.ensures.grown
    (λ same. met_last (plain c.production-item.result) (held v) (same ∙ added)) (ap firsts_alone added) c.loop-production.invariant

pub returns-clause-met : goal.returns-clause-met
returns-clause-met c idle = going_all _ _ _ _ _ _ _ (λ n p at.
    let b = at_below at in let l = length-map c.args.table.now.draft.productions.items plain in
    omega (arith, c.loop-production-test.false, ap length c.listed-production-items.ensures.value)) c.loop-production.invariant idle
