use Rattle.std.proofs.Common.{◌+◌, length, sym, ap, subst, arith}
use Rattle.std.proofs.lemmas.List.{length-map}
use Rattle.table.specs.Grammar.{grammar, plain}
use Rattle.sets.specs.Bounds.{SmallProduction}
use Rattle.sets.specs.Words.{held}
use Rattle.sets.proofs.Fitting.{small_grammar}
use Rattle.sets.proofs.Limits.{all_at}
use Rattle.sets.proofs.Predicting.{at_below, at_read}
use Rattle.sets.proofs.Going.{InsideSoFar, inside_more}
use Rattle.sets.proofs.words.SetWords.inside_round.Goals as goal

pub add_inside-requires : goal.add_inside-requires
add_inside-requires c =
    all_at SmallProduction (at_read _ _ _ _ c.loop-production-test.true c.production-item.is c.listed-production-items.ensures.value) (small_grammar _ c.args.table.now.ok)

pub loop-production-preserved : goal.loop-production-preserved
loop-production-preserved c =
    let at = at_read _ _ _ _ c.loop-production-test.true c.production-item.is c.listed-production-items.ensures.value in
    subst (InsideSoFar (grammar c.args.table.now.draft) (held c.args.self.now) (c.loop-production.production-index + 1)) (sym c.add_inside.ensures)
    (inside_more _ _ _ _ _ at c.loop-production.invariant)

pub returns-clause-inside : goal.returns-clause-inside
returns-clause-inside c n p at =
    let b = at_below at in let l = length-map c.args.table.now.draft.productions.items plain in
    c.loop-production.invariant.inside n p (omega (arith, c.loop-production-test.false, ap length c.listed-production-items.ensures.value)) at
