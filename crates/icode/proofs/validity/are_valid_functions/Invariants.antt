use Rattle.std.proofs.Common.{take}
use Rattle.std.specs.List.{All}
use Rattle.machine.specs.ValidCode.{IsValidCodeFunction}
use Rattle.icode.proofs.validity.are_valid_functions.Given as goal

abbrev pub invariant-loop-function : goal.invariant-loop-function
invariant-loop-function l = All (IsValidCodeFunction l.code) (take l.function-index l.function-items)
