use Rattle.std.proofs.Common.{◌≤◌, map, length, vec_items, sym, ap, ◌∙◌, subst}
use Rattle.table.specs.Grammar.{plain}
use Rattle.sets.specs.Bounds.{Small}
use Rattle.sets.proofs.Fitting.{counts, small_grammar}
use Rattle.sets.proofs.found.listed.Goals as goal

pub returns : goal.returns
returns c =
    let e = c.deref.ensures.value ∙ ap (λ d. vec_items d.productions) c.draft.ensures in
    let made = c.args.table.now in
    record {
      value = e;
      few = subst (λ ps. length ps ≤ 126) (sym e) (counts made.draft made.ok).2;
      small = subst (λ ps. Small (map plain ps)) (sym e) (small_grammar made.draft made.ok);
    }
