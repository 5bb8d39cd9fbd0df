-- Three tables worked by hand: W, Q and S.
use Rattle.std.specs.Prelude.{ℕ, Bool, false, not, ◌&&◌, ◌||◌, List, [], ◌∷◌, ◌==◌, nat_le, slice_index_or}
use Rattle.table.specs.declared.drafts.Item.TheVariants.{Kind, Nonterminal}
use Rattle.table.specs.declared.drafts.Operation.{Operation}
use Rattle.table.specs.Grammar.{Production}
use Rattle.sets.specs.Sets.{end_mark}
use Rattle.language.specs.Reader.{Guide}

abbrev pub rule : ℕ → ℕ → ℕ → Operation
rule number first second = record { number = number; first = first; second = second }

-- the rule where none is given
abbrev pub same : Operation
same = rule 0 0 0

-- the full sight set
abbrev pub full : ℕ → Bool
full k = nat_le k end_mark

abbrev pub member : ℕ → List ℕ → Bool
member k [] = false
member k (x ∷ xs) = k == x || member k xs

-- a table by its kinds, its productions and their Predict sets
abbrev pub guided : ℕ → List Production → List (List ℕ) → Guide
guided kinds productions sets = record { kinds = kinds; productions = productions; predict = λ place k. member k (slice_index_or sets place []) }

-- W: nonterminals 0 and 1; WHEN, PARK and ELSE are kinds 1, 2 and 3; the last production has a sight set of its own
abbrev pub w_table : (ℕ → Bool) → List Production
w_table sight =
    record { left = 0; test = 0; sight = full; items = Kind 1 ∷ Nonterminal 0 same ∷ Nonterminal 1 same ∷ []; result = same } ∷
    record { left = 0; test = 0; sight = full; items = Kind 2 ∷ []; result = same } ∷
    record { left = 1; test = 0; sight = full; items = Kind 3 ∷ Nonterminal 0 same ∷ []; result = same } ∷
    record { left = 1; test = 0; sight = sight; items = []; result = same } ∷ []

abbrev pub without_else : ℕ → Bool
without_else k = full k && not (k == 3)

abbrev pub w_guide : Guide
w_guide = guided 4 (w_table without_else) ((1 ∷ []) ∷ (2 ∷ []) ∷ (3 ∷ []) ∷ (3 ∷ 63 ∷ []) ∷ [])

-- Q: one nonterminal; A and C are of kind 1
abbrev pub q_table : List Production
q_table =
    record { left = 0; test = 1; sight = full; items = Kind 1 ∷ Nonterminal 0 (rule 2 0 1) ∷ []; result = rule 1 0 2 } ∷
    record { left = 0; test = 0; sight = full; items = []; result = same } ∷ []

abbrev pub q_guide : Guide
q_guide = guided 2 q_table ((1 ∷ []) ∷ (63 ∷ []) ∷ [])

-- S: one nonterminal and number words; the second production has a test of its own
abbrev pub s_table : ℕ → List Production
s_table test =
    record { left = 0; test = 1; sight = full; items = Kind 0 ∷ []; result = same } ∷
    record { left = 0; test = test; sight = full; items = Kind 0 ∷ Kind 0 ∷ []; result = same } ∷ []

abbrev pub s_guide : Guide
s_guide = guided 1 (s_table 2) ((0 ∷ []) ∷ (0 ∷ []) ∷ [])
