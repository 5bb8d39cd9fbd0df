use Rattle.std.proofs.Common.{◌≡◌, length, rules, arith}
use Rattle.sets.specs.Bounds.{SmallItem}
use Rattle.sets.proofs.Limits.{all_middle}
use Rattle.sets.proofs.Following.{done_past, done_at}
use Rattle.sets.proofs.Walks.{back_more}
use Rattle.sets.proofs.words.SetWords.add_inside.Goals as goal

pub loop-item-preserved-then-known : goal.loop-item-preserved-then-known
loop-item-preserved-then-known c =
    let long : length c.loop-item.self.nonterminals ≡ 64 = search rules in
    back_more _ _ _ _ _ _ _ c.in-Some.ensures.steps c.in-Nonterminal.is
    (λ passed are d. let small = all_middle SmallItem _ _ _ passed are c.requires.1 in
    done_past _ c.loop-item.self _ passed d _ _ _ _ (omega arith) c.bitor.ensures _ c.bitor-after.ensures c.if-known.true) c.loop-item.invariant

pub loop-item-preserved : goal.loop-item-preserved
loop-item-preserved c =
    let long : length c.loop-item.self.nonterminals ≡ 64 = search rules in
    back_more _ _ _ _ _ _ _ c.in-Some.ensures.steps c.in-Nonterminal.is
    (λ passed are d. let small = all_middle SmallItem _ _ _ passed are c.requires.1 in
    done_at _ c.loop-item.self _ passed d _ _ _ _ (omega arith) c.bitor.ensures c.if-known.false) c.loop-item.invariant
