use Rattle.std.proofs.Common.{◌≡◌, drop}
use Rattle.c_scope.specs.Definitions.{all_named}
use Rattle.c_scope.proofs.definitions.all_named.Given as goal

-- what is left decides
abbrev pub invariant-loop-param : goal.invariant-loop-param
invariant-loop-param l = all_named (drop l.param-index l.params) ≡ all_named l.params
