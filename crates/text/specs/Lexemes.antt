-- The kind and the number of a word.
use Rattle.std.specs.Prelude.{ℕ, ◌+◌, ◌-◌, ◌*◌, cond, ◌&&◌, List, length, fold, Some, None, Ok, Err, Option, Result, nat_le}
use Rattle.table.specs.declared.drafts.Spelling.{Spelling}
use Rattle.table.specs.Spellings.{spelled}
use Rattle.text.specs.declared.faults.TextFault.{TextFault}
use Rattle.text.specs.declared.faults.TextFault.TheVariants.{NoSpelling, NumberTooLarge}
use Rattle.text.specs.declared.lexemes.Lexeme.{Lexeme}
use Rattle.text.specs.Words.{Seen}

-- the number that decimal digits write, after those that were read
abbrev pub digits_value : ℕ → List ℕ → ℕ
digits_value = fold (λ read digit. read * 10 + (digit - 48))

-- a number word has up to five digits and writes at most 65,535; its kind is 0
abbrev pub number_lexeme : List ℕ → Result Lexeme TextFault
number_lexeme digits =
    cond (nat_le (length digits) 5 && nat_le (digits_value 0 digits) 65535)
    (Ok (record { kind = 0; number = digits_value 0 digits })) (Err NumberTooLarge)

-- a spelled word has its spelling's kind and number
abbrev pub spelled_lexeme : Option Spelling → Result Lexeme TextFault
spelled_lexeme None = Err NoSpelling
spelled_lexeme (Some s) = Ok (record { kind = s.kind; number = s.number })

abbrev pub lexeme : List Spelling → Seen → Result Lexeme TextFault
lexeme spellings word = cond word.is_number (number_lexeme word.letters) (spelled_lexeme (spelled spellings word.letters))
