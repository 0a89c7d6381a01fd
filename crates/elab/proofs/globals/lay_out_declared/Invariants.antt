use Rattle.std.proofs.Common.{[], drop, map}
use Rattle.elab_pieces.specs.Globals.{declared_globals}
use Rattle.elab.specs.inner.Programs.{Lays}
use Rattle.elab.proofs.globals.lay_out_declared.Given as goal

abbrev pub invariant-loop-declarator : goal.invariant-loop-declarator
invariant-loop-declarator l =
    Lays l.scope.structs l.initial.layout (map (λ g. g.ty) (declared_globals l.declarators [])) l.layout
    (map (λ g. g.ty) (declared_globals (drop l.declarator-index l.declarators) []))
