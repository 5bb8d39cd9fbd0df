use Rattle.std.proofs.Common.{◌≡◌, ◌+◌, ◌%◌, leb, refl, rules, subst, ◌∙◌}
use Rattle.std.specs.Prelude.{count_by, if◌then◌else◌}
use Rattle.std.proofs.lemmas.Fn.{fold_over, fronts, slice_gives}
use Rattle.domain.specs.Laws.{few_cuts}
use Rattle.domain.proofs.Counting.{counted_more, counted_few}
use Rattle.domain.proofs.minutes.MinutesDomain.class.Goals as goal

pub returns : goal.returns
returns c =
    let counted = fold_over fronts (λ y. y.now) _ (λ ys a. a ≡ count_by (λ cut. leb cut c.args.value) ys % 65536) _
    (λ ys a x b f' h k.
    (let now : b ≡ (a + (if leb x.now c.args.value then 1 else 0)) % 65536 = search rules in counted_more _ a b _ ys h now, search rules))
    c.iter.result _ _ c.fold.result (slice_gives c.iter.result) refl c.fold.ensures.ran in
    let all = c.iter.ensures.rest ∙ c.deref.ensures.value in
    counted_few c.args.value _ c.args.self.now.cuts.items (few_cuts c.args.self.now.limit c.args.self.now.cuts.items c.args.self.now.sized)
    (subst (λ ys. c.fold.result ≡ count_by (λ cut. leb cut c.args.value) ys % 65536) all counted)
