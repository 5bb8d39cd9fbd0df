use Rattle.std.proofs.Common.{ap, arith, rules}
use Rattle.table.specs.Grammar.{plain}
use Rattle.table.specs.Kinds.{bit}
use Rattle.analysis.proofs.Contesting.{seeing_none, seeing_more, seeing_all}
use Rattle.analysis.proofs.Standing.{at_table, table_end}
use Rattle.analysis.proofs.contested.write_seen.Goals as goal

pub loop-n-init : goal.loop-n-init
loop-n-init c = seeing_none _ _ (search rules) c.write_predicts.ensures.written

pub loop-n-preserved : goal.loop-n-preserved
loop-n-preserved c =
    seeing_more _ c.loop-n.kinds c.loop-n.n _ (plain c.index-productions-n.result)
    (omega (arith, c.loop-n-test.true, c.listed-productions.ensures.few))
    (at_table c.listed-productions.ensures.value c.loop-n-test.true c.index-productions-n.is) (λ k. ap (λ x. bit x k) c.from.ensures) c.loop-n.invariant

pub returns : goal.returns
returns c = seeing_all _ _ c.loop-n.n (table_end c.listed-productions.ensures.value c.loop-n-test.false) c.loop-n.invariant
