-- Words that stand for a kind and a number.
use Rattle.std.specs.Prelude.{ℕ, Bool, true, not, ◌&&◌, List, [], ◌∷◌, length, find, is_some, vec_items, Option}
use Rattle.std.specs.Int.{is_in_range}
use Rattle.std.specs.List.{list_all}
use Rattle.std.specs.Str.{bytes_eq}
use Rattle.table.specs.declared.drafts.Spelling.{Spelling}

abbrev pub letters : Spelling → List ℕ
letters s = vec_items s.letters

abbrev pub digits_alone : List ℕ → Bool
digits_alone = list_all (is_in_range 48 57)

-- 1 to 12 bytes from 33 to 126, not digits alone
abbrev pub lettered : Spelling → Bool
lettered s = is_in_range 1 12 (length (letters s)) && list_all (is_in_range 33 126) (letters s) && not (digits_alone (letters s))

-- the first spelling that equals the word, byte for byte
abbrev pub spelled : List Spelling → List ℕ → Option Spelling
spelled ss word = find (λ s. bytes_eq (letters s) word) ss

-- no two spellings are equal
abbrev pub distinct : List Spelling → Bool
distinct [] = true
distinct (s ∷ ss) = not (is_some (spelled ss (letters s))) && distinct ss
