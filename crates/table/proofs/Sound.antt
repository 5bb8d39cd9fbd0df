-- A draft that breaks no rule keeps each.
use Rattle.std.proofs.Common.{◌≡◌, true, arith}
use Rattle.std.proofs.lemmas.Bool.Decides.{nat_tests}
use Rattle.table.specs.declared.drafts.Draft.{Draft}
use Rattle.table.specs.declared.faults.TableFault.{TableFault}
use Rattle.table.specs.declared.faults.TableFault.TheVariants.{CountOutside, NoLeftSide, TooManyItems, NoSymbol, NoSlot, BadLetters, NoProduction, BadSpelling}
use Rattle.table.specs.Rules.{kept, sound}

pub sound_keeps : (d : Draft) → sound d ≡ true → (f : TableFault) → kept f d ≡ true
sound_keeps d ok CountOutside = grind (arith, nat_tests)
sound_keeps d ok NoLeftSide = grind (arith, nat_tests)
sound_keeps d ok TooManyItems = grind (arith, nat_tests)
sound_keeps d ok NoSymbol = grind (arith, nat_tests)
sound_keeps d ok NoSlot = grind (arith, nat_tests)
sound_keeps d ok BadLetters = grind (arith, nat_tests)
sound_keeps d ok NoProduction = grind (arith, nat_tests)
sound_keeps d ok BadSpelling = grind (arith, nat_tests)
