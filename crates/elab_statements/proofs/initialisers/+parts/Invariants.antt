use Rattle.std.proofs.Common.{◌+◌, ◌*◌, List, drop, map}
use denote.Param.Weighed.{most}
use Rattle.c_typed.specs.declared.statement.TypedInit.{TypedInit, size-TypedInit}
use Rattle.elab_pieces.specs.Initialisers.{leaves}
use Rattle.elab_statements.specs.inner.Pieces.{Reaches}
use Rattle.elab_statements.specs.Bodies.{piece_at}
use Rattle.elab_statements.specs.inner.Leaves.{element_leaves, leaf_lines, member_leaves}
use Rattle.elab_statements.proofs.initialisers.+parts.Given as goal

-- Each call is of a part, or of the same tree by a function with a lesser rest.

abbrev pub decreases-part : goal.decreases-part
decreases-part l = 4 * size-TypedInit l.init.now

abbrev pub decreases-braces : goal.decreases-braces
decreases-braces l = 4 * most size-TypedInit l.parts.now + 3

abbrev pub decreases-elements : goal.decreases-elements
decreases-elements l = 4 * most size-TypedInit l.parts.now + 2

abbrev pub decreases-members : goal.decreases-members
decreases-members l = 4 * most size-TypedInit l.parts.now + 2

-- what is there and what is left are the whole list
abbrev pub invariant-elements-loop-item : goal.invariant-elements-loop-item
invariant-elements-loop-item l =
    let given = λ (ps : List TypedInit). map (leaves l.scope.structs) ps in
    Reaches l.initial.body (piece_at l.initial.body (leaf_lines l.scope l.target (element_leaves l.scope.structs (given l.parts) l.element l.bound l.k)))
    l.body (piece_at l.body (leaf_lines l.scope l.target (element_leaves l.scope.structs (given (drop l.item-index l.parts)) l.element l.left l.at)))

abbrev pub invariant-members-loop-item : goal.invariant-members-loop-item
invariant-members-loop-item l =
    let given = λ (ps : List TypedInit). map (leaves l.scope.structs) ps in
    Reaches l.initial.body (piece_at l.initial.body (leaf_lines l.scope l.target (member_leaves l.scope.structs (given l.parts) l.members l.k)))
    l.body (piece_at l.body (leaf_lines l.scope l.target (member_leaves l.scope.structs (given (drop l.item-index l.parts)) l.left l.at)))
