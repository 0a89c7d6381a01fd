use Rattle.std.proofs.Common.{◌≡◌, drop}
use Rattle.c_scope.specs.Definitions.{bind_parameters}
use Rattle.c_scope.proofs.definitions.bind_parameters.Given as goal

-- what is left is walked from here
abbrev pub invariant-loop-param : goal.invariant-loop-param
invariant-loop-param l = bind_parameters (drop l.param-index l.params) l.world ≡ bind_parameters l.params l.initial.world
