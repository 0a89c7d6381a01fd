use Rattle.std.proofs.Common.{take}
use Rattle.std.specs.List.{All}
use Rattle.core_ir.specs.Valid.{IsValidFunction}
use Rattle.core_ir.proofs.validity.are_valid_functions.Given as goal

abbrev pub invariant-loop-function : goal.invariant-loop-function
invariant-loop-function l = All (IsValidFunction l.program) (take l.function-index l.function-items)
