use Rattle.std.proofs.Common.{◌+◌, ◌<◌, sym, ◌∙◌, subst, arith}
use Rattle.analysis.proofs.Asking.{mark_more, Row, row_then, row_else}
use Rattle.analysis.proofs.testable.Testable.row.Goals as goal
use Rattle.analysis.proofs.testable.Testable.row.Goals.{then-test, else-test}

pub loop-word-preserved : goal.loop-word-preserved
loop-word-preserved g c =
    let says = (g.D.Domain.meaning c.args.self.now.domain.now).classes.test c.args.test c.args.inherited in
    let few : c.loop-word.word < 64 = omega (arith, c.loop-word-test.true, c.classes-word-end.ensures, c.args.self.now.few) in record {
      marked = mark_more _ _ c.loop-word.invariant.marked;
      right = elim c.if-test.branch [
        | then-test w ↦ subst (λ r. Row says r (c.loop-word.word + 1)) (sym w.row-is)
            (row_then says c.loop-word.row c.loop-word.word _ (c.loop-word.invariant.marked few) (sym c.test.ensures ∙ w.if-test.true) c.loop-word.invariant.right)
        | else-test w ↦ subst (λ r. Row says r (c.loop-word.word + 1)) (sym w.row-is)
            (row_else says c.loop-word.row c.loop-word.word (sym c.test.ensures ∙ w.if-test.false) c.loop-word.invariant.right)
      ];
    }
