use Rattle.std.proofs.Common.{arith}
use Rattle.table.specs.Grammar.{plain}
use Rattle.analysis.proofs.Contesting.{narrowing_more, narrowing_all}
use Rattle.analysis.proofs.Standing.{at_table, table_end}
use Rattle.analysis.proofs.contested.write_contested.Goals as goal

pub loop-n-preserved : goal.loop-n-preserved
loop-n-preserved c =
    narrowing_more _ _ _ c.loop-n.kinds c.loop-n.n (plain c.index-productions-n.result)
    (omega (arith, c.loop-n-test.true, c.listed-productions.ensures.few))
    (at_table c.listed-productions.ensures.value c.loop-n-test.true c.index-productions-n.is) c.loop-n.invariant

pub returns : goal.returns
returns c =
    narrowing_all _ _ _ _ c.loop-n.n (table_end c.listed-productions.ensures.value c.loop-n-test.false) c.write_seen.ensures c.add_shared.ensures
    c.loop-n.invariant
