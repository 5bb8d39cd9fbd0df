use Rattle.std.proofs.Common.{◌^◌, ◌<◌, get_or, sym, ap, ◌∙◌, subst, arith, rules}
use lib.Bits.{bit_and, and_zero_r}
use Rattle.sets.proofs.Predicting.{at_below}
use Rattle.analysis.specs.Asked.{Rows, Never}
use Rattle.analysis.specs.Places.{Placed}
use Rattle.analysis.proofs.Searching.{next_a, next_b, next_k, next_i, next_j, one_never, other_never, left_apart, both_answer, rows_apart, found, kind_none, kind_common, common_none, kind_below, none_found}
use Rattle.analysis.proofs.Standing.{at_table, table_end}
use Rattle.analysis.proofs.Words.{bit_left, bit_taken}
use Rattle.analysis.proofs.search.first_clash.Goals as goal
use Rattle.analysis.proofs.search.first_clash.Goals.{then-common-eq0-via-then-common-eq0, then-common-eq0-via-else-common-eq0+then-first-second}
use Rattle.analysis.proofs.search.first_clash.Goals.{else-loop-b-test, then-loop-b-test+else-common-eq0+else-first-second+then-not-ask}
use Rattle.analysis.proofs.search.first_clash.Goals.{then-kind-eq-END_MARK, else-kind-eq-END_MARK}

pub search-preserved-then-kinds-a-eq0 : goal.search-preserved-then-kinds-a-eq0
search-preserved-then-kinds-a-eq0 g c = record {
  open_yet = c.search.invariant.open_yet;
  domain = c.search.invariant.domain;
  tests = c.search.invariant.tests;
  none = next_a _ _ c.search.a (λ b k i j. kind_none _ _ c.args.kinds.now c.requires.contested c.if-kinds-a-eq0.true) c.search.invariant.none;
}

pub loop-b-preserved-then-common-eq0 : goal.loop-b-preserved-then-common-eq0
loop-b-preserved-then-common-eq0 g c = record {
  open_yet = c.loop-b.invariant.open_yet;
  domain = c.loop-b.invariant.domain;
  tests = c.loop-b.invariant.tests;
  none = next_b _ _ c.search.a c.loop-b.b
      (elim c.then-common-eq0.branch [
        | then-common-eq0-via-then-common-eq0 w ↦ (λ k i j. common_none _ _ c.args.kinds.now c.requires.contested w.if-common-eq0.true)
        | then-common-eq0-via-else-common-eq0+then-first-second w ↦ (λ k i j.
            left_apart _ _ c.search.a c.loop-b.b _ _ (at_table c.listed-productions.ensures.value c.search-test.true c.index-productions-a.is) (at_table c.listed-productions.ensures.value c.loop-b-test.true c.index-productions-b.is) w.if-first-second.true)
      ])
      c.loop-b.invariant.none;
}

pub ask-requires : goal.ask-requires
ask-requires g c = (
  search rules,
  subst (λ t. Placed t c.index-productions-a.result.test) (sym c.loop-b.invariant.tests)
      (c.requires.placed.placed (at_table c.listed-productions.ensures.value c.search-test.true c.index-productions-a.is) c.if-kinds-a-eq0.false),
)

pub ask-requires-in-loop-b : goal.ask-requires-in-loop-b
ask-requires-in-loop-b g c = (
  search rules,
  subst (λ t. Placed t c.index-productions-b.result.test) (sym (c.ask.ensures.tests ∙ c.loop-b.invariant.tests))
      (c.requires.placed.placed (at_table c.listed-productions.ensures.value c.loop-b-test.true c.index-productions-b.is)
      (λ e. c.if-common-eq0.false (ap (bit_and (get_or c.args.kinds.now c.search.a 0)) e ∙ and_zero_r _))),
)

pub loop-b-preserved-then-not-ask-2 : goal.loop-b-preserved-then-not-ask-2
loop-b-preserved-then-not-ask-2 g c = record {
  open_yet = c.loop-b.invariant.open_yet;
  domain = c.ask-in-loop-b.ensures.domain ∙ c.ask.ensures.domain ∙ c.loop-b.invariant.domain;
  tests = c.ask-in-loop-b.ensures.tests ∙ c.ask.ensures.tests ∙ c.loop-b.invariant.tests;
  none = next_b _ _ c.search.a c.loop-b.b
      (λ k i j. other_never _ _ (at_table c.listed-productions.ensures.value c.loop-b-test.true c.index-productions-b.is)
      (subst (λ d. Never (g.D.Domain.meaning d.domain.now).classes c.index-productions-b.result.test)
      (c.ask-in-loop-b.ensures.domain ∙ c.ask.ensures.domain ∙ c.loop-b.invariant.domain)
      (c.ask-in-loop-b.ensures.never c.if-not-ask-2.true)))
      c.loop-b.invariant.none;
}

pub loop-b-preserved-then-apart : goal.loop-b-preserved-then-apart
loop-b-preserved-then-apart g c =
    let one_at = at_table c.listed-productions.ensures.value c.search-test.true c.index-productions-a.is in
    let other_at = at_table c.listed-productions.ensures.value c.loop-b-test.true c.index-productions-b.is in
    let same = c.ask-in-loop-b.ensures.domain ∙ c.ask.ensures.domain ∙ c.loop-b.invariant.domain in
    let one = subst (λ d. Rows (g.D.Domain.meaning d.domain.now).classes c.index-productions-a.result.test c.rows-one.result.now) same c.rows-one.ensures in
    let other = subst (λ d. Rows (g.D.Domain.meaning d.domain.now).classes c.index-productions-b.result.test c.rows-other.result.now) same c.rows-other.ensures in
    record {
      open_yet = c.loop-b.invariant.open_yet;
      domain = c.ask-in-loop-b.ensures.domain ∙ c.ask.ensures.domain ∙ c.loop-b.invariant.domain;
      tests = c.ask-in-loop-b.ensures.tests ∙ c.ask.ensures.tests ∙ c.loop-b.invariant.tests;
      none = next_b _ _ c.search.a c.loop-b.b
          (λ k i j. rows_apart _ _ c.search.a c.loop-b.b _ _ one_at other_at _ _ one other (c.apart.ensures.0 c.if-apart.true)
          (omega (arith, c.args.domain.now.few)))
          c.loop-b.invariant.none;
    }

pub loop-kind-preserved-then-common-kind-ne1 : goal.loop-kind-preserved-then-common-kind-ne1
loop-kind-preserved-then-common-kind-ne1 g c = record {
  open_yet = c.loop-kind.invariant.open_yet;
  none = next_k _ _ c.search.a c.loop-b.b c.loop-kind.kind
      (λ i j clash. bit_left _ c.loop-kind.kind c.if-common-kind-ne1.true (kind_common _ _ c.args.kinds.now c.requires.contested clash))
      c.loop-kind.invariant.none;
}

pub loop-word-preserved : goal.loop-word-preserved
loop-word-preserved g c =
    let one_at = at_table c.listed-productions.ensures.value c.search-test.true c.index-productions-a.is in
    let other_at = at_table c.listed-productions.ensures.value c.loop-b-test.true c.index-productions-b.is in
    let same = c.ask-in-loop-b.ensures.domain ∙ c.ask.ensures.domain ∙ c.loop-b.invariant.domain in
    let one = subst (λ d. Rows (g.D.Domain.meaning d.domain.now).classes c.index-productions-a.result.test c.rows-one.result.now) same c.rows-one.ensures in
    let other = subst (λ d. Rows (g.D.Domain.meaning d.domain.now).classes c.index-productions-b.result.test c.rows-other.result.now) same c.rows-other.ensures in
    record {
      open_yet = c.loop-word.invariant.open_yet;
      none = next_j _ _ c.search.a c.loop-b.b c.loop-kind.kind c.loop-inherited.inherited c.loop-word.word
          (λ clash. bit_left _ c.loop-word.word c.if-words-word-eq1.false
          (both_answer _ _ c.search.a c.loop-b.b _ _ one_at other_at _ _ one other clash))
          c.loop-word.invariant.none;
    }

pub loop-inherited-preserved : goal.loop-inherited-preserved
loop-inherited-preserved g c = record {
  open_yet = c.loop-word.invariant.open_yet;
  none = next_i _ _ c.search.a c.loop-b.b c.loop-kind.kind c.loop-inherited.inherited
      (λ j clash. c.loop-word.invariant.none j
      (elim c.if-kind-eq-END_MARK.branch [
        | then-kind-eq-END_MARK w ↦ omega (arith, c.loop-word-test.false, w.word-end-is, clash.end_class w.if-kind-eq-END_MARK.true)
        | else-kind-eq-END_MARK w ↦ omega (arith, c.loop-word-test.false, w.word-end-is, clash.word_class, c.classes-classes.ensures)
      ])
      clash)
      c.loop-inherited.invariant.none;
}

pub loop-kind-preserved : goal.loop-kind-preserved
loop-kind-preserved g c = record {
  open_yet = c.loop-inherited.invariant.open_yet;
  none = next_k _ _ c.search.a c.loop-b.b c.loop-kind.kind
      (λ i j clash. c.loop-inherited.invariant.none i j (omega (arith, c.loop-inherited-test.false, clash.inherited_class, c.classes-classes.ensures)) clash)
      c.loop-kind.invariant.none;
}

pub loop-b-preserved : goal.loop-b-preserved
loop-b-preserved g c = record {
  open_yet = c.loop-kind.invariant.open_yet;
  domain = c.ask-in-loop-b.ensures.domain ∙ c.ask.ensures.domain ∙ c.loop-b.invariant.domain;
  tests = c.ask-in-loop-b.ensures.tests ∙ c.ask.ensures.tests ∙ c.loop-b.invariant.tests;
  none = next_b _ _ c.search.a c.loop-b.b
      (λ k i j clash.
      let fits : get_or c.args.kinds.now c.search.a 0 < 2 ^ 64 = search rules in
      let small = kind_below _ _ c.args.kinds.now c.requires.contested fits clash in
      c.loop-kind.invariant.none k i j (omega (arith, small, c.loop-kind-test.false)) clash)
      c.loop-b.invariant.none;
}

pub search-preserved : goal.search-preserved
search-preserved g c =
    elim c.loop-b-test.branch [
      | else-loop-b-test w ↦ record {
        open_yet = c.loop-b.invariant.open_yet;
        domain = ap (λ a. a.domain.now) w.answers-is ∙ c.loop-b.invariant.domain;
        tests = ap (λ a. a.tests.now) w.answers-is ∙ c.loop-b.invariant.tests;
        none = next_a _ _ c.search.a
            (λ b k i j clash. c.loop-b.invariant.none b k i j
            (omega (arith, at_below clash.other_at, table_end c.listed-productions.ensures.value w.loop-b-test.false)) clash)
            c.search.invariant.none;
      }
      | then-loop-b-test+else-common-eq0+else-first-second+then-not-ask w ↦ record {
        open_yet = c.loop-b.invariant.open_yet;
        domain = ap (λ a. a.domain.now) w.answers-is ∙ w.ask.ensures.domain ∙ c.loop-b.invariant.domain;
        tests = ap (λ a. a.tests.now) w.answers-is ∙ w.ask.ensures.tests ∙ c.loop-b.invariant.tests;
        none = next_a _ _ c.search.a
            (λ b k i j. one_never _ _ (at_table c.listed-productions.ensures.value c.search-test.true c.index-productions-a.is)
            (subst (λ d. Never (g.D.Domain.meaning d.domain.now).classes c.index-productions-a.result.test)
            (w.ask.ensures.domain ∙ c.loop-b.invariant.domain) (w.ask.ensures.never w.if-not-ask.true)))
            c.search.invariant.none;
      }
    ]

pub returns-after-search : goal.returns-after-search
returns-after-search g c =
    none_found _ _ _ c.search.a c.search.invariant.open_yet (table_end c.listed-productions.ensures.value c.search-test.false) c.search.invariant.none

pub returns-then-words-word-eq1 : goal.returns-then-words-word-eq1
returns-then-words-word-eq1 g c =
    let one_at = at_table c.listed-productions.ensures.value c.search-test.true c.index-productions-a.is in
    let other_at = at_table c.listed-productions.ensures.value c.loop-b-test.true c.index-productions-b.is in
    let same = c.ask-in-loop-b.ensures.domain ∙ c.ask.ensures.domain ∙ c.loop-b.invariant.domain in
    let one = subst (λ d. Rows (g.D.Domain.meaning d.domain.now).classes c.index-productions-a.result.test c.rows-one.result.now) same c.rows-one.ensures in
    let other = subst (λ d. Rows (g.D.Domain.meaning d.domain.now).classes c.index-productions-b.result.test c.rows-other.result.now) same c.rows-other.ensures in
    record {
      clashes = found _ _ c.search.a c.loop-b.b _ _ one_at other_at _ _ one other c.args.kinds.now c.requires.contested
          (omega (arith, c.loop-b.auto.b))
          c.if-first-second.false
          (bit_taken _ c.loop-kind.kind c.if-common-kind-ne1.false)
          (bit_taken _ c.loop-word.word c.if-words-word-eq1.true)
          (omega (arith, c.loop-inherited-test.true, c.classes-classes.ensures))
          (elim c.if-kind-eq-END_MARK.branch [
            | then-kind-eq-END_MARK w ↦ omega (arith, c.loop-word-test.true, w.word-end-is, c.loop-inherited-test.true, c.classes-classes.ensures)
            | else-kind-eq-END_MARK w ↦ omega (arith, c.loop-word-test.true, w.word-end-is, c.classes-classes.ensures)
          ])
          (elim c.if-kind-eq-END_MARK.branch [
            | then-kind-eq-END_MARK w ↦ (λ e. omega (arith, c.loop-word-test.true, w.word-end-is))
            | else-kind-eq-END_MARK w ↦ (λ e. absurd (w.if-kind-eq-END_MARK.false e))
          ]);
      first = record {
        no_a = c.search.invariant.none;
        no_b = c.loop-b.invariant.none;
        no_k = c.loop-kind.invariant.none;
        no_i = c.loop-inherited.invariant.none;
        no_j = c.loop-word.invariant.none;
      };
    }
