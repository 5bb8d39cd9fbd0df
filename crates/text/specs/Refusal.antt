-- The numbers of refusals.
use Rattle.std.specs.Prelude.{ℕ}
use Rattle.text.specs.declared.faults.TextFault.{TextFault}
use Rattle.text.specs.declared.faults.TextFault.TheVariants.{TooLong, NoSpelling, NumberTooLarge}
use Rattle.text.specs.declared.faults.ValueFault.{ValueFault}
use Rattle.text.specs.declared.faults.ValueFault.TheVariants.{NoValue}

abbrev pub text_refusal : TextFault → ℕ
text_refusal TooLong = 13
text_refusal NoSpelling = 14
text_refusal NumberTooLarge = 15

abbrev pub value_refusal : ValueFault → ℕ
value_refusal NoValue = 16
