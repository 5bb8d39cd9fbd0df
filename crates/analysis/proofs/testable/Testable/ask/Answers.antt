use Rattle.std.proofs.Common.{◌<◌, arith}
use Rattle.analysis.proofs.Asking.{asking_more}
use Rattle.analysis.proofs.testable.Testable.ask.Goals as goal

pub loop-inherited-preserved : goal.loop-inherited-preserved
loop-inherited-preserved g c =
    let few : c.loop-inherited.inherited < 64 = omega (arith, c.loop-inherited-test.true, c.classes-inherited-end.ensures, c.args.self.now.few) in
    asking_more _ _ _ _ _ _ few c.row-row.ensures c.loop-inherited.invariant
