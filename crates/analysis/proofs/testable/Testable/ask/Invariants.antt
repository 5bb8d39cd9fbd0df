use Rattle.analysis.proofs.Asking.{Asking}
use Rattle.analysis.proofs.testable.Testable.ask.Given as goal

abbrev pub invariant-loop-inherited : goal.invariant-loop-inherited
invariant-loop-inherited g l =
    let meant = (g.D.Domain.meaning l.self.domain.now).classes in
    Asking (meant.test l.test) meant.count l.rows l.all l.inherited
