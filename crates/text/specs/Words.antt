-- The words of a text.
use Rattle.std.specs.Prelude.{ℕ, suc, Bool, true, false, cond, ◌||◌, List, [], ◌∷◌, ◌==◌, take}
use Rattle.std.specs.Bool.{beq}
use Rattle.std.specs.List.{prefix_len}
use Rattle.table.specs.Spellings.{digits_alone}
use Rattle.text.specs.declared.words.Run.{Run}
use Rattle.text.specs.declared.words.Word.{Word}
use Rattle.text.specs.declared.words.Word.TheVariants.{Number, Spelled}

-- a word as a reader of the text sees it: a number word or not, its byte place, its letters
pub record Seen : Type 0 where
  pub is_number : Bool
  pub place : ℕ
  pub letters : List ℕ

-- the part of the text that the word is
abbrev pub run : Word → Run
run (Number part) = part
run (Spelled part) = part

abbrev pub seen : Word → Seen
seen (Number run) = record { is_number = true; place = run.place; letters = run.letters.now }
seen (Spelled run) = record { is_number = false; place = run.place; letters = run.letters.now }

-- bytes 32 and 10 part words
abbrev pub separates : ℕ → Bool
separates byte = byte == 32 || byte == 10

-- how many bytes separate, or do not, from the first one on
abbrev pub front_len : Bool → List ℕ → ℕ
front_len separating = prefix_len (λ byte. beq (separates byte) separating)

-- the longest front of bytes that separate, or of bytes that do not
abbrev pub front : Bool → List ℕ → List ℕ
front separating bytes = take (front_len separating bytes) bytes

-- letters as a word: digits alone make a number word
abbrev pub word_of : ℕ → List ℕ → Seen
word_of place letters = record { is_number = digits_alone letters; place = place; letters = letters }

-- a word is a longest run of bytes that do not separate
abbrev pub word_at : ℕ → List ℕ → Seen
word_at place bytes = word_of place (front false bytes)

-- the words from a place on: one begins at each byte that does not separate, unless the byte before it belongs to a word
abbrev pub words_from : Bool → ℕ → List ℕ → List Seen
words_from inside place [] = []
words_from inside place (b ∷ bs) =
    cond (separates b) (words_from false (suc place) bs)
    (cond inside (words_from true (suc place) bs) (word_at place (b ∷ bs) ∷ words_from true (suc place) bs))

abbrev pub words : List ℕ → List Seen
words text = words_from false 0 text
