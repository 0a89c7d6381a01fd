use Rattle.std.proofs.Common.{◌≡◌, drop}
use Rattle.c_scope.specs.Definitions.{undefined_use}
use Rattle.c_scope.proofs.functions.undefined_use.Given as goal

-- what is left decides
abbrev pub invariant-loop-function : goal.invariant-loop-function
invariant-loop-function l = undefined_use (drop l.function-index l.functions) ≡ undefined_use l.functions
