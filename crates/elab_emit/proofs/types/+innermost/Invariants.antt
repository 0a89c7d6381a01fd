use Rattle.std.proofs.Common.{◌+◌, ◌*◌}
use Rattle.c_types.specs.declared.ty.Ty.{size-Ty}
use Rattle.elab_emit.proofs.types.+innermost.Given as goal

abbrev pub decreases-innermost : goal.decreases-innermost
decreases-innermost l = 2 * size-Ty l.ty.now + 1

abbrev pub decreases-innermost_by : goal.decreases-innermost_by
decreases-innermost_by l = 2 * size-Ty l.ty.now
