use Rattle.std.proofs.Common.{◌≡◌, ◌+◌, drop, length}
use Rattle.elab_pieces.specs.Globals.{globals}
use Rattle.elab.proofs.globals.count_globals.Given as goal

abbrev pub invariant-loop-item : goal.invariant-loop-item
invariant-loop-item l = l.count + length (globals (drop l.item-index l.items)) ≡ length (globals l.items)
