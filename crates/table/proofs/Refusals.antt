-- The refusals that code can go over are all there are, in the order of their numbers.
use Rattle.std.specs.Prelude.{◌≡◌, refl}
use Rattle.table.specs.declared.faults.TheConstants.TableFault.{ALL}
use Rattle.table.specs.Rules.{refusals}

pub all_refusals : ALL ≡ refusals
all_refusals = refl
