use Rattle.std.proofs.Common.{◌≡◌, ◌++◌, ◌≤◌, drop}
use Rattle.core_ir.specs.Layout.{local_units}
use Rattle.elab_pieces.specs.Functions.{frame_locals}
use Rattle.elab.proofs.frames.frame_of.Given as goal

-- what is there, and what the rest adds
abbrev pub invariant-loop-variable : goal.invariant-loop-variable
invariant-loop-variable l =
    (l.locals ++ frame_locals l.scope.structs l.offset (drop l.variable-index l.variables) ≡ frame_locals l.scope.structs 0 l.variables)
    × (l.offset ≡ local_units l.locals) × (l.offset ≤ 16384)
