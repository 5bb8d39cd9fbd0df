-- The kinds and nonterminals of a made table fit words of 64 bits.
use Rattle.std.proofs.Common.{◌≡◌, ℕ, ◌≤◌, true, ◌&&◌, ltb, leb, List, [], ◌∷◌, map, length, arith}
use Rattle.std.specs.Int.{is_in_range}
use Rattle.std.specs.List.{list_all, AllByRecursion}
use Rattle.std.proofs.lemmas.Bool.{and_parts, leb-true, ltb-true}
use Rattle.table.specs.declared.drafts.Draft.{Draft}
use Rattle.table.specs.declared.drafts.Item.{Item}
use Rattle.table.specs.declared.drafts.Item.TheVariants.{Kind, Nonterminal, Check}
use Rattle.table.specs.declared.drafts.Production.{Production}
use Rattle.table.specs.declared.faults.TableFault.TheVariants.{CountOutside, NoLeftSide, NoSymbol}
use Rattle.table.specs.Grammar.{grammar, plain}
use Rattle.table.specs.Rules.{kept, sound, counts_fit, items, productions, symbol_fits}
use Rattle.table.proofs.Sound.{sound_keeps}
use Rattle.sets.specs.Bounds.{SmallItem, Small}

module _ (kinds nonterminals : ℕ) (few_kinds : kinds ≤ 63) (few_nonterminals : nonterminals ≤ 64) where
  small_items : (is : List Item) → list_all (symbol_fits kinds nonterminals) is ≡ true → AllByRecursion SmallItem is
  small_items [] h = tt
  small_items (Kind k ∷ is) h =
      let both = and_parts (ltb k kinds) _ h in (omega (arith, ltb-true k kinds both.0), small_items is both.1)
  small_items (Nonterminal a o ∷ is) h =
      let both = and_parts (ltb a nonterminals) _ h in (omega (arith, ltb-true a nonterminals both.0), small_items is both.1)
  small_items (Check o ∷ is) h = (tt, small_items is h)

  small_list : (ps : List Production) → list_all (λ p. ltb p.left nonterminals) ps ≡ true
      → list_all (λ p. list_all (symbol_fits kinds nonterminals) (items p)) ps ≡ true → Small (map plain ps)
  small_list [] lefts symbols = tt
  small_list (p ∷ ps) lefts symbols =
      let left = and_parts (ltb p.left nonterminals) _ lefts in
      let symbol = and_parts (list_all (symbol_fits kinds nonterminals) (items p)) _ symbols in
      ((omega (arith, ltb-true p.left nonterminals left.0), small_items (items p) symbol.0), small_list ps left.1 symbol.1)

up_to : (high n : ℕ) → is_in_range 1 high n ≡ true → n ≤ high
up_to high n h = leb-true n high (and_parts (leb 1 n) _ h).1

module _ (d : Draft) (ok : sound d ≡ true) where
  pub counts : (d.nonterminals ≤ 64) × (d.kinds ≤ 63) × (length (productions d) ≤ 126)
  unfolding kept
  counts =
      let fit : counts_fit d ≡ true = sound_keeps d ok CountOutside in
      let three = (and_parts (is_in_range 1 64 d.nonterminals && is_in_range 1 63 d.kinds && is_in_range 1 126 (length (productions d))) _ fit).0 in
      let two = and_parts (is_in_range 1 64 d.nonterminals && is_in_range 1 63 d.kinds) _ three in
      let one = and_parts (is_in_range 1 64 d.nonterminals) _ two.0 in
      (up_to 64 d.nonterminals one.0, up_to 63 d.kinds one.1, up_to 126 (length (productions d)) two.1)

  pub small_grammar : Small (grammar d)
  unfolding kept
  small_grammar = let c = counts in small_list d.kinds d.nonterminals c.1 c.0 (productions d) (sound_keeps d ok NoLeftSide) (sound_keeps d ok NoSymbol)
