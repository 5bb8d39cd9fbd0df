use Rattle.std.specs.Fmt.{HasWritten, IsPlainFormatter}
use Rattle.table.specs.Kinds.{has}
use Rattle.held.specs.Verdicts.{kinds_text}
use Rattle.held.proofs.verdicts.KindsDisplay.fmt.Given as goal

abbrev pub invariant-loop-kind : goal.invariant-loop-kind
invariant-loop-kind g l =
    IsPlainFormatter l.initial.f → HasWritten g.W.Write.write_str_gives l.initial.f (kinds_text (has l.self.0) l.kind) l.f
