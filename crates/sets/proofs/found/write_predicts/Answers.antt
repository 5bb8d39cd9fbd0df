use Rattle.std.proofs.Common.{◌≤◌, length, ap, ◌∙◌, arith, rules}
use Rattle.std.proofs.lemmas.List.{length-map}
use Rattle.table.specs.Grammar.{grammar, plain}
use Rattle.table.specs.Kinds.{bit}
use Rattle.sets.specs.Bounds.{SmallProduction}
use Rattle.sets.specs.Words.{held}
use Rattle.sets.proofs.Fitting.{small_grammar}
use Rattle.sets.proofs.Limits.{all_at}
use Rattle.sets.proofs.Predicting.{at_read, written_more, written_all}
use Rattle.sets.proofs.found.write_predicts.Goals as goal

pub predict-requires : goal.predict-requires
predict-requires c =
    all_at SmallProduction (at_read _ _ _ _ c.loop-n-test.true c.production-item.is c.listed-production-items.ensures.value) (small_grammar _ c.args.table.now.ok)

pub loop-n-preserved : goal.loop-n-preserved
loop-n-preserved c =
    let at = at_read _ _ _ _ c.loop-n-test.true c.production-item.is c.listed-production-items.ensures.value in
    written_more _ _ _ c.loop-n.words _ _ _ (search rules) at (λ k. ap (λ w. bit w k) c.from.ensures ∙ c.predict.ensures k) c.loop-n.invariant

pub returns-clause-written : goal.returns-clause-written
returns-clause-written c =
    let l = length-map c.args.table.now.draft.productions.items plain in
    let all : length (grammar c.args.table.now.draft) ≤ c.loop-n.n = omega (arith, c.loop-n-test.false, ap length c.listed-production-items.ensures.value) in
    written_all _ (held c.find.new.self) _ _ _ c.find.ensures.defined c.find.ensures.smallest.0 all c.loop-n.invariant
