use Rattle.std.proofs.Common.{◌≡◌, None}
use Rattle.table.specs.Grammar.{grammar}
use Rattle.analysis.proofs.Searching.{NoneA, NoneB, NoneK, NoneI, NoneJ}
use Rattle.analysis.proofs.search.first_clash.Given as goal

abbrev pub invariant-search : goal.invariant-search
invariant-search g l = record {
  open_yet : l.clash ≡ None;
  domain : l.answers.domain.now ≡ l.fn.domain;
  tests : l.answers.tests.now ≡ l.tests;
  none : NoneA (g.D.Domain.meaning l.fn.domain.domain.now).classes (grammar l.fn.table.draft) l.a;
}

abbrev pub invariant-loop-b : goal.invariant-loop-b
invariant-loop-b g l = record {
  open_yet : l.clash ≡ None;
  domain : l.answers.domain.now ≡ l.fn.domain;
  tests : l.answers.tests.now ≡ l.tests;
  none : NoneB (g.D.Domain.meaning l.fn.domain.domain.now).classes (grammar l.fn.table.draft) l.a l.b;
}

abbrev pub invariant-loop-kind : goal.invariant-loop-kind
invariant-loop-kind g l = record {
  open_yet : l.clash ≡ None;
  none : NoneK (g.D.Domain.meaning l.fn.domain.domain.now).classes (grammar l.fn.table.draft) l.a l.b l.kind;
}

abbrev pub invariant-loop-inherited : goal.invariant-loop-inherited
invariant-loop-inherited g l = record {
  open_yet : l.clash ≡ None;
  none : NoneI (g.D.Domain.meaning l.fn.domain.domain.now).classes (grammar l.fn.table.draft) l.a l.b l.kind l.inherited;
}

abbrev pub invariant-loop-word : goal.invariant-loop-word
invariant-loop-word g l = record {
  open_yet : l.clash ≡ None;
  none : NoneJ (g.D.Domain.meaning l.fn.domain.domain.now).classes (grammar l.fn.table.draft) l.a l.b l.kind l.inherited l.word;
}
