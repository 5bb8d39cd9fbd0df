-- The kinds of a sheet's words.
use Rattle.std.specs.Prelude.{◌≡◌, ℕ, ◌+◌, cond, List, [], ◌∷◌, ◌++◌, length, Ok, Err, vec_items, Result, Vec, nat_le}
use Rattle.std.specs.declared.alloc.Global.{Global}
use Rattle.domain.specs.Meaning.{Meaning}
use Rattle.table.specs.declared.drafts.Spelling.{Spelling}
use Rattle.text.specs.declared.faults.TextFault.TheVariants.{TooLong}
use Rattle.text.specs.Words.{Seen, words}
use Rattle.sheet.specs.declared.faults.Denial.{Denial}
use Rattle.sheet.specs.declared.faults.Fault.TheVariants.{Text}
use Rattle.sheet.specs.declared.kinds.KindsError.{KindsError}
use Rattle.sheet.specs.declared.kinds.KindsError.TheVariants.{Denied, NoMemory}
use Rattle.sheet.specs.Tokens.{token}

-- the kinds of the words one after another, after those that are known; the first word that offers nothing, by its number, denies
abbrev pub kinds_after : {V : Type 0} → Meaning V → List Spelling → List ℕ → ℕ → List Seen → Result (List ℕ) Denial
kinds_after m spellings known number [] = Ok known
kinds_after {V} m spellings known number (w ∷ ws) =
    elim (token m spellings w) [ Ok t ↦ kinds_after m spellings (known ++ t.kind ∷ []) (number + 1) ws | Err f ↦ Err (record { fault = f; byte = w.place; word = number }) ]

-- the kinds of a text of up to 65,536 bytes
abbrev pub sheet_kinds : {V : Type 0} → Meaning V → List Spelling → List ℕ → Result (List ℕ) Denial
sheet_kinds m spellings text =
    cond (nat_le (length text) 65536) (kinds_after m spellings [] 1 (words text)) (Err (record { fault = Text TooLong; byte = 0; word = 0 }))

-- the answer tells the kinds or the denial; it tells neither only for want of memory
abbrev pub Told : Result (List ℕ) Denial → Result (Vec ℕ Global) KindsError → Type 0
Told kinds (Ok v) = kinds ≡ Ok (vec_items v)
Told kinds (Err (Denied d)) = kinds ≡ Err d
Told kinds (Err NoMemory) = Unit {0}
