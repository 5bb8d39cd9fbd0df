use Rattle.std.proofs.Common.{◌≡◌, ◌^◌, ◌<◌}
use Rattle.analysis.proofs.Asking.{Row}
use Rattle.analysis.proofs.testable.Testable.row.Given as goal

abbrev pub invariant-loop-word : goal.invariant-loop-word
invariant-loop-word g l = record {
  marked : l.word < 64 → l.mark ≡ 2 ^ l.word;
  right : Row ((g.D.Domain.meaning l.self.domain.now).classes.test l.test l.inherited) l.row l.word;
}
