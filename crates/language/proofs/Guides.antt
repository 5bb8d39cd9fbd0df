-- A made table with its Predict sets guides a reader.
use Rattle.std.proofs.Common.{◌≡◌, ℕ, ◌≤◌, Bool, true, ◌&&◌, List, [], ◌∷◌, map, sym, refl, ap, ◌∙◌, arith}
use Rattle.std.proofs.lemmas.Bool.{and_parts, ltb-true}
use Rattle.std.proofs.lemmas.Bool.Decides.{nat_tests}
use Rattle.std.specs.List.{list_all}
use Rattle.table.specs.declared.drafts.Draft.{Draft}
use Rattle.table.specs.declared.drafts.Production as filled
use Rattle.table.specs.declared.faults.TableFault.TheVariants.{CountOutside, NoSymbol}
use Rattle.table.specs.Grammar.{Production, plain}
use Rattle.table.specs.Rules.{counts_fit, kept, productions, symbol_fits}
use Rattle.table.proofs.Sound.{sound_keeps}
use Rattle.sets.specs.Sets.{At}
use Rattle.language.specs.Guides.{TablesGuide}

-- what holds of each element holds of the one at a place
all_at : {X : Type 0} (f : X → Bool) {xs : List X} {n : ℕ} {x : X} → At xs n x → list_all f xs ≡ true → f x ≡ true
all_at f At.here e = (and_parts _ _ e).0
all_at f (At.later h) e = all_at f h (and_parts _ _ e).1

all_plain : (f : Production → Bool) (ps : List filled.Production) → list_all (λ p. f (plain p)) ps ≡ list_all f (map plain ps)
all_plain f [] = refl
all_plain f (p ∷ ps) = ap (λ b. f (plain p) && b) (all_plain f ps)

few_kinds : (d : Draft) → counts_fit d ≡ true → d.kinds ≤ 63
few_kinds d counts = grind (arith, nat_tests)

pub tables_guide : TablesGuide
unfolding kept
tables_guide d words ok right =
    let counts = sound_keeps d ok CountOutside in
    let symbols = sound_keeps d ok NoSymbol in
    let fits = symbol_fits d.kinds d.nonterminals in
    record {
      few_kinds = few_kinds d counts;
      known_kinds = λ {place} {i} {k} {p} stands item.
          ltb-true k d.kinds (all_at fits item (all_at (λ q. list_all fits q.items) stands (sym (all_plain (λ q. list_all fits q.items) (productions d)) ∙ symbols)));
      predict_right = λ {place} {k} stands within. right.exactly stands k;
    }
