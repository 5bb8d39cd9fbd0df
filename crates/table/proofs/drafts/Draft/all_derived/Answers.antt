use borrow.Author.Tests.{tests}
use Rattle.std.proofs.Common.{arith, refl, rules}
use Rattle.std.proofs.lemmas.Iterator.{YieldsList-from_range}
use Rattle.std.proofs.lemmas.Iterator.Search.{all_from_yields_List}
use Rattle.table.specs.Rules.{derived, productions}
use Rattle.table.proofs.drafts.Draft.all_derived.Goals as goal

pub returns : goal.returns
returns c =
    let d = c.args.self.now in
    all_from_yields_List (derived (productions d)) _ _ c.all.result c.all.ensures.ran (YieldsList-from_range 0 d.nonterminals d.nonterminals refl (omega arith)) (λ x b q k. search (rules, tests))
