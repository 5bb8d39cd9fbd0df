use Rattle.table.specs.Grammar.{plain}
use Rattle.analysis.proofs.Contesting.{sharing_more, sharing_all}
use Rattle.analysis.proofs.Standing.{left_small, at_table, table_end}
use Rattle.analysis.proofs.contested.add_shared.Goals as goal

pub loop-n-preserved : goal.loop-n-preserved
loop-n-preserved c =
    sharing_more _ _ c.loop-n.once c.loop-n.shared c.loop-n.n (plain c.index-productions-n.result)
    (at_table c.listed-productions.ensures.value c.loop-n-test.true c.index-productions-n.is)
    (left_small c.listed-productions.result.now c.loop-n.n c.index-productions-n.result c.loop-n-test.true c.index-productions-n.is
    c.listed-productions.ensures.small)
    c.loop-n.invariant

pub returns : goal.returns
returns c = sharing_all _ _ _ _ c.loop-n.n (table_end c.listed-productions.ensures.value c.loop-n-test.false) c.loop-n.invariant
