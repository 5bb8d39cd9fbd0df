use Rattle.std.proofs.Common.{◌≡◌, ◌<◌, ◌∷◌, length, refl, rules, arith}
use Rattle.std.specs.Iterator.Adapters.{rev_source}
use Rattle.std.specs.Slice.Iter.{iter_rest}
use Rattle.table.specs.declared.drafts.Item.TheVariants.{Kind, Nonterminal}
use Rattle.sets.specs.Bounds.{SmallItem}
use Rattle.sets.proofs.Limits.{all_middle}
use Rattle.sets.proofs.Following.{last_none, last_past, last_followed, last_growth, last_not_empty, last_stopped}
use Rattle.sets.proofs.Walks.{back_none, back_next, back_more}
use Rattle.sets.proofs.words.SetWords.add_last.Goals as goal

pub loop-item-init : goal.loop-item-init
loop-item-init c =
    let all : iter_rest (rev_source c.into_iter-item-iterator.result) ≡ c.args.production.now.items.items = search rules in
    back_none _ _ _ all (last_none _ _)

pub loop-item-preserved : goal.loop-item-preserved
loop-item-preserved c =
    let long : length c.loop-item.self.nonterminals ≡ 64 = search rules in
    let before : length c.args.self.now.nonterminals ≡ 64 = search rules in
    back_more _ _ _ _ _ _ _ c.in-Some.ensures.steps c.in-Nonterminal.is
    (λ passed are d. let small = all_middle SmallItem _ _ _ passed are c.requires.1 in
    last_past c.args.self.now c.loop-item.self _ _ passed d _ _ _ _ _ _ (omega arith) (omega arith) c.bitor-follow.ensures c.ne-grown.ensures
    c.if-not-known.false) c.loop-item.invariant

pub returns-in-Kind-clause-added : goal.returns-in-Kind-clause-added
returns-in-Kind-clause-added c =
    let are = back_next _ _ _ _ _ _ c.in-Some.ensures.steps c.in-Kind.is c.loop-item.invariant in
    last_stopped _ _ (Kind c.in-Kind.field-0 ∷ c.loop-item.invariant.passed) refl _ (iter_rest (rev_source c.next.new.self)) _ are
    c.loop-item.invariant.told.followed

pub returns-then-not-known : goal.returns-then-not-known
returns-then-not-known c =
    let long : length c.loop-item.self.nonterminals ≡ 64 = search rules in
    let before : length c.args.self.now.nonterminals ≡ 64 = search rules in
    let w = c.loop-item.invariant in
    let are = back_next _ _ _ _ _ _ c.in-Some.ensures.steps c.in-Nonterminal.is w in
    let small = all_middle SmallItem _ _ _ _ are c.requires.1 in
    let within : c.in-Nonterminal.a < length c.loop-item.self.nonterminals = omega arith in
    let here : c.args.production.now.left < length c.args.self.now.nonterminals = omega arith in
    let o = c.in-Nonterminal.field-1 in
    record {
      added = last_stopped _ _ (Nonterminal c.in-Nonterminal.a o ∷ w.passed)
          (last_not_empty c.args.self.now c.loop-item.self _ _ _ w.told _ o _ _ _ _ here within c.bitor-follow.ensures c.ne-grown.ensures c.if-not-known.true)
          _ (iter_rest (rev_source c.next.new.self)) _ are
          (last_followed c.args.self.now c.loop-item.self _ _ _ w.told _ o _ _ _ _ here within c.bitor-follow.ensures c.ne-grown.ensures);
      grown = last_growth c.args.self.now c.loop-item.self _ _ _ w.told _ o _ _ _ _ here within c.bitor-follow.ensures c.ne-grown.ensures;
    }
