-- The numbers of refusals.
use Rattle.std.specs.Prelude.{ℕ}
use Rattle.table.specs.declared.faults.TableFault.{TableFault}
use Rattle.table.specs.declared.faults.TableFault.TheVariants.{CountOutside, NoLeftSide, TooManyItems, NoSymbol, NoSlot, BadLetters, NoProduction, BadSpelling}

abbrev pub refusal : TableFault → ℕ
refusal CountOutside = 1
refusal NoLeftSide = 2
refusal TooManyItems = 3
refusal NoSymbol = 4
refusal NoSlot = 5
refusal BadLetters = 6
refusal NoProduction = 7
refusal BadSpelling = 8
