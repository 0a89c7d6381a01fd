use Rattle.std.proofs.Common.{◌≡◌, ◌+◌, ◌≤◌, [], drop, length}
use Rattle.elab_pieces.specs.Globals.{declared_globals}
use Rattle.elab.proofs.globals.count_declared.Given as goal

abbrev pub invariant-loop-declarator : goal.invariant-loop-declarator
invariant-loop-declarator l =
    (l.count + length (declared_globals (drop l.declarator-index l.declarators) []) ≡ length (declared_globals l.declarators []))
    × (l.count ≤ l.declarator-index)
