-- Where and why a sheet is denied.
use Rattle.std.specs.Prelude.{ℕ, List, ◌++◌, codes, decimal}
use Rattle.sheet.specs.declared.faults.Denial.{Denial}
use Rattle.sheet.specs.declared.faults.Fault.{Fault}
use Rattle.sheet.specs.declared.faults.Fault.TheVariants.{Text, Value}
use Rattle.text.specs.Refusal.{text_refusal, value_refusal}

-- the number of the fault of a lower layer
abbrev pub refusal : Fault → ℕ
refusal (Text f) = text_refusal f
refusal (Value f) = value_refusal f

-- the line that tells a denial
abbrev pub denial_line : Denial → List ℕ
denial_line d = codes "denied " ++ (decimal (refusal d.fault) ++ (codes " byte " ++ (decimal d.byte ++ (codes " word " ++ decimal d.word))))
