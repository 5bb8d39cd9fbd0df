-- Kinds and nonterminals that fit words of 64 bits, as those of every table do.
use Rattle.std.specs.Prelude.{◌<◌, List}
use Rattle.std.specs.List.{AllByRecursion}
use Rattle.table.specs.declared.drafts.Item.{Item}
use Rattle.table.specs.declared.drafts.Item.TheVariants.{Kind, Nonterminal, Check}
use Rattle.table.specs.Grammar.{Production}

abbrev pub SmallItem : Item → Type 0
SmallItem (Kind k) = k < 64
SmallItem (Nonterminal a o) = a < 64
SmallItem (Check o) = Unit {0}

abbrev pub SmallProduction : Production → Type 0
SmallProduction p = (p.left < 64) × AllByRecursion SmallItem p.items

abbrev pub Small : List Production → Type 0
Small g = AllByRecursion SmallProduction g
