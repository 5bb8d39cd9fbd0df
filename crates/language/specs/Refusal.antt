-- The numbers of refusals.
use Rattle.std.specs.Prelude.{ℕ}
use Rattle.language.specs.declared.faults.ReadingFault.{ReadingFault}
use Rattle.language.specs.declared.faults.ReadingFault.TheVariants.{UnknownKind, NothingOutstanding, NoProduction, TooManyPredictions, TooManyOpen, TrailFull, OtherKind, CheckSaysNo}

abbrev pub refusal : ReadingFault → ℕ
refusal UnknownKind = 17
refusal NothingOutstanding = 18
refusal NoProduction = 19
refusal TooManyPredictions = 20
refusal TooManyOpen = 21
refusal TrailFull = 22
refusal OtherKind = 23
refusal CheckSaysNo = 24
