use Rattle.std.proofs.Common.{rules, add-one}
use Rattle.std.proofs.Output.{has_written_append}
use Rattle.table.specs.Kinds.{has}
use Rattle.held.specs.Verdicts.{kind_text, kinds_text}
use Rattle.held.proofs.verdicts.KindsDisplay.fmt.Goals.{then-has+in_ok-write, else-has}
use Rattle.held.proofs.verdicts.KindsDisplay.fmt.Goals as goal

pub loop-kind-init : goal.loop-kind-init
unfolding kinds_text
loop-kind-init g c = search rules

pub loop-kind-preserved : goal.loop-kind-preserved
unfolding kinds_text
loop-kind-preserved g c plain =
    let set = has c.args.self.now.0 in
    let k = c.loop-kind.kind in
    rw add-one (has_written_append _ _ _ _ (kind_text set k) _ (c.loop-kind.invariant plain) (elim c.if-has.branch [ then-has+in_ok-write w ↦ search rules | else-has w ↦ search rules ]))
