use Rattle.std.proofs.Common.{◌≡◌, ◌<◌, length, rules, arith, subst}
use Rattle.sets.specs.Words.{Tells, held}
use Rattle.sets.proofs.Following.{put_first, grown_first}
use Rattle.sets.proofs.words.SetWords.add_first.Goals as goal

pub returns : goal.returns
returns c =
    let v = c.args.self.now in
    let long : length v.nonterminals ≡ 64 = search rules in
    let within : c.args.production.now.left < length v.nonterminals = omega arith in
    let tells = subst (λ is. Tells (held v) is c.run-run.result) c.deref.ensures.value c.run-run.ensures in
    record { added = put_first v _ _ c.run-run.result _ within c.bitor.ensures _ tells; grown = grown_first v _ _ c.run-run.result _ within c.bitor.ensures _ c.ne.ensures }
