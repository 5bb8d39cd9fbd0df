-- Where a cursor stands in its text.
use Rattle.std.specs.Prelude.{false, List, drop}
use Rattle.text.specs.declared.cursor.Cursor.{Cursor}
use Rattle.text.specs.Words.{Seen, words_from}

-- the words that are still to come
abbrev pub to_come : Cursor → List Seen
to_come c = words_from false c.place (drop c.place c.text.now)
