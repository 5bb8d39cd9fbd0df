-- The rules of a table, and the lowest that a draft breaks.
use Rattle.std.specs.Prelude.{ℕ, ◌+◌, Bool, true, cond, not, ◌&&◌, ltb, leb, List, [], ◌∷◌, length, is_some, Some, None, vec_items, Option, ◌==◌, nat_le, nat_lt}
use Rattle.std.specs.Int.{is_in_range}
use Rattle.std.specs.List.{list_all, list_any, enumerate_from, range_with_len}
use Rattle.table.specs.declared.drafts.Draft.{Draft}
use Rattle.table.specs.declared.drafts.Item.{Item}
use Rattle.table.specs.declared.drafts.Item.TheVariants.{Kind, Nonterminal, Check}
use Rattle.table.specs.declared.drafts.Operation.{Operation}
use Rattle.table.specs.declared.drafts.Production.{Production}
use Rattle.table.specs.declared.drafts.Spelling.{Spelling}
use Rattle.table.specs.declared.faults.TableFault.{TableFault}
use Rattle.table.specs.declared.faults.TableFault.TheVariants.{CountOutside, NoLeftSide, TooManyItems, NoSymbol, NoSlot, BadLetters, NoProduction, BadSpelling}
use Rattle.table.specs.Spellings.{lettered, distinct}

abbrev pub productions : Draft → List Production
productions d = vec_items d.productions

abbrev pub spellings : Draft → List Spelling
spellings d = vec_items d.spellings

abbrev pub items : Production → List Item
items p = vec_items p.items

-- 1 to 64 nonterminals, 1 to 63 kinds, 1 to 126 productions and up to 248 spellings
abbrev pub counts_fit : Draft → Bool
counts_fit d =
    is_in_range 1 64 d.nonterminals && is_in_range 1 63 d.kinds && is_in_range 1 126 (length (productions d))
    && nat_le (length (spellings d)) 248

-- the item's kind or nonterminal exists
abbrev pub symbol_fits : ℕ → ℕ → Item → Bool
symbol_fits kinds nonterminals (Kind k) = nat_lt k kinds
symbol_fits kinds nonterminals (Nonterminal a o) = nat_lt a nonterminals
symbol_fits kinds nonterminals (Check o) = true

abbrev pub slots_below : ℕ → Operation → Bool
slots_below slot o = nat_lt o.first slot && nat_lt o.second slot

-- the item names only slots below the one that it fills
abbrev pub item_slots_fit : ℕ → Item → Bool
item_slots_fit slot (Kind k) = true
item_slots_fit slot (Nonterminal a o) = slots_below slot o
item_slots_fit slot (Check o) = slots_below slot o

-- item i, counted from 0, fills slot i + 1 and names only slots below it
abbrev pub run_slots_fit : List Item → Bool
run_slots_fit is = list_all (λ placed. item_slots_fit (placed.0 + 1) placed.1) (enumerate_from 0 is)

-- the items name such slots, and the result names slots from 0 to their count
abbrev pub slots_fit : Production → Bool
slots_fit p = run_slots_fit (items p) && slots_below (length (items p) + 1) p.result

-- some production has left side a
abbrev pub derived : List Production → ℕ → Bool
derived ps a = list_any (λ p. p.left == a) ps

-- each nonterminal below n is some left side
abbrev pub all_derived : ℕ → List Production → Bool
all_derived n ps = list_all (derived ps) (range_with_len 0 n)

-- the rule that a refusal says is broken
unfoldable pub kept : TableFault → Draft → Bool
kept CountOutside d = counts_fit d
kept NoLeftSide d = list_all (λ p. ltb p.left d.nonterminals) (productions d)
kept TooManyItems d = list_all (λ p. leb (length (items p)) 8) (productions d)
kept NoSymbol d = list_all (λ p. list_all (symbol_fits d.kinds d.nonterminals) (items p)) (productions d)
kept NoSlot d = list_all slots_fit (productions d)
kept BadLetters d = list_all lettered (spellings d)
kept NoProduction d = all_derived d.nonterminals (productions d)
kept BadSpelling d = list_all (λ s. nat_lt 0 s.kind && nat_lt s.kind d.kinds) (spellings d) && distinct (spellings d)

-- the first of the refusals whose rule is broken
abbrev pub first_broken : List TableFault → Draft → Option TableFault
first_broken [] d = None
first_broken (f ∷ fs) d = cond (kept f d) (first_broken fs d) (Some f)

-- all refusals, in the order of their numbers
abbrev pub refusals : List TableFault
refusals = CountOutside ∷ NoLeftSide ∷ TooManyItems ∷ NoSymbol ∷ NoSlot ∷ BadLetters ∷ NoProduction ∷ BadSpelling ∷ []

-- the lowest refusal whose rule the draft breaks
abbrev pub table_fault : Draft → Option TableFault
table_fault = first_broken refusals

-- no rule is broken
abbrev pub sound : Draft → Bool
sound d = not (is_some (table_fault d))
