use Rattle.std.proofs.Common.{drop, map}
use Rattle.elab_pieces.specs.Globals.{globals}
use Rattle.elab.specs.inner.Programs.{Lays}
use Rattle.elab.proofs.globals.lay_out_items.Given as goal

abbrev pub invariant-loop-item : goal.invariant-loop-item
invariant-loop-item l =
    Lays l.scope.structs l.initial.layout (map (λ g. g.ty) (globals l.items)) l.layout (map (λ g. g.ty) (globals (drop l.item-index l.items)))
