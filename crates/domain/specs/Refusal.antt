-- The numbers of refusals.
use Rattle.std.specs.Prelude.{ℕ}
use Rattle.domain.specs.declared.DomainFault.{DomainFault}
use Rattle.domain.specs.declared.DomainFault.TheVariants.{OutsideSizes}

abbrev pub refusal : DomainFault → ℕ
refusal OutsideSizes = 9
