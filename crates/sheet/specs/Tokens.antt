-- What a word offers.
use Rattle.std.specs.Prelude.{List, Ok, Err, Result}
use Rattle.std.specs.Option.{ok_or}
use Rattle.domain.specs.Meaning.{Meaning}
use Rattle.table.specs.declared.drafts.Spelling.{Spelling}
use Rattle.text.specs.declared.faults.TextFault.{TextFault}
use Rattle.text.specs.declared.faults.ValueFault.{ValueFault}
use Rattle.text.specs.declared.faults.ValueFault.TheVariants.{NoValue}
use Rattle.text.specs.declared.lexemes.Lexeme.{Lexeme}
use Rattle.text.specs.Lexemes.{lexeme}
use Rattle.text.specs.Words.{Seen}
use Rattle.sheet.specs.declared.faults.Fault.{Fault}
use Rattle.sheet.specs.declared.faults.Fault.TheVariants.{Text, Value}
use Rattle.sheet.specs.declared.tokens.Token.{Token}

-- a word's kind, with the value of its number
abbrev pub valued : {V : Type 0} → Lexeme → Result V ValueFault → Result (Token V) Fault
valued l (Ok v) = Ok (record { kind = l.kind; value = v })
valued l (Err f) = Err (Value f)

abbrev pub lexed : {V : Type 0} → Meaning V → Result Lexeme TextFault → Result (Token V) Fault
lexed m (Ok l) = valued l (ok_or (m.number l.number) NoValue)
lexed m (Err f) = Err (Text f)

abbrev pub token : {V : Type 0} → Meaning V → List Spelling → Seen → Result (Token V) Fault
token m spellings word = lexed m (lexeme spellings word)
