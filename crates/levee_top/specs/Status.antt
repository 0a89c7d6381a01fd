-- The exit status of each ending.
use Rattle.std.specs.Prelude.{ℕ}
use Rattle.levee_top.specs.declared.status.Status.{Status}
use Rattle.levee_top.specs.declared.status.Status.TheVariants.{Done, Violation, Refused, Usage, ReadFault, WriteFault, Memory}

abbrev pub code_of : Status → ℕ
code_of Done = 0
code_of Violation = 1
code_of Refused = 2
code_of Usage = 3
code_of ReadFault = 4
code_of WriteFault = 5
code_of Memory = 6
