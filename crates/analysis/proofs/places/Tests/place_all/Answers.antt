use Rattle.std.proofs.Common.{◌+◌, sym, subst, arith}
use Rattle.table.specs.Grammar.{grammar, plain}
use Rattle.analysis.proofs.Placing.{Placing, placing_then, placing_else, placing_all}
use Rattle.analysis.proofs.Standing.{at_table, table_end}
use Rattle.analysis.proofs.places.Tests.place_all.Goals as goal
use Rattle.analysis.proofs.places.Tests.place_all.Goals.{then-kinds-n-ne0, else-kinds-n-ne0}

pub loop-n-preserved : goal.loop-n-preserved
loop-n-preserved c =
    let here = c.index-productions-n.result in
    let stands = at_table c.listed-productions.ensures.value c.loop-n-test.true c.index-productions-n.is in
    elim c.if-kinds-n-ne0.branch [
      | then-kinds-n-ne0 w ↦ subst (λ t. Placing (grammar c.args.table.now.draft) c.args.kinds.now t (c.loop-n.n + 1)) (sym w.self-is)
          (placing_then _ _ c.loop-n.self _ c.loop-n.n (plain here) stands w.place.ensures.more w.place.ensures.placed
          w.place.ensures.kept c.loop-n.invariant)
      | else-kinds-n-ne0 w ↦ subst (λ t. Placing (grammar c.args.table.now.draft) c.args.kinds.now t (c.loop-n.n + 1)) (sym w.self-is)
          (placing_else _ _ c.loop-n.self c.loop-n.n (plain here) stands w.if-kinds-n-ne0.false c.loop-n.invariant)
    ]

pub returns : goal.returns
returns c =
    placing_all _ _ _ c.loop-n.n (table_end c.listed-productions.ensures.value c.loop-n-test.false)
    (omega (arith, c.listed-productions.ensures.few)) c.loop-n.invariant
