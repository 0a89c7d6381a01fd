use Rattle.std.proofs.Common.{◌+◌, ◌*◌, drop, map, max}
use denote.Param.Weighed.{most}
use Rattle.c_typed.specs.declared.statement.TypedBlock.{size-TypedBlock}
use Rattle.c_typed.specs.declared.statement.TypedBlockItem.{size-TypedBlockItem}
use Rattle.c_typed.specs.declared.statement.TypedForLoop.{size-TypedForLoop}
use Rattle.c_typed.specs.declared.statement.TypedStmt.{size-TypedStmt}
use Rattle.elab_pieces.specs.Lines.{all_joined}
use Rattle.elab_pieces.specs.Statements.{block_item_code}
use Rattle.elab_statements.specs.Bodies.{piece_at}
use Rattle.elab_statements.specs.inner.Jumps.{Leads}
use Rattle.elab_statements.proofs.statements.+statement.Given as goal

-- Each call is of a part, or of the same tree by a function with a lesser rest.

abbrev pub decreases-statement : goal.decreases-statement
decreases-statement l = 5 * size-TypedStmt l.stmt.now

abbrev pub decreases-if_alone : goal.decreases-if_alone
decreases-if_alone l = 5 * size-TypedStmt l.inside.now + 1

abbrev pub decreases-if_else : goal.decreases-if_else
decreases-if_else l = 5 * max (size-TypedStmt l.inside.now) (size-TypedStmt l.other.now) + 1

abbrev pub decreases-while_loop : goal.decreases-while_loop
decreases-while_loop l = 5 * size-TypedStmt l.inside.now + 1

abbrev pub decreases-do_loop : goal.decreases-do_loop
decreases-do_loop l = 5 * size-TypedStmt l.inside.now + 1

abbrev pub decreases-for_loop : goal.decreases-for_loop
decreases-for_loop l = 5 * size-TypedForLoop l.inside.now

abbrev pub decreases-stepped_loop : goal.decreases-stepped_loop
decreases-stepped_loop l = 5 * size-TypedStmt l.inside.now + 1

abbrev pub decreases-block : goal.decreases-block
decreases-block l = 5 * size-TypedBlock l.inside.now

abbrev pub decreases-block_items : goal.decreases-block_items
decreases-block_items l = 5 * most size-TypedBlockItem l.all.now + 2

abbrev pub decreases-block_item : goal.decreases-block_item
decreases-block_item l = 5 * size-TypedBlockItem l.item.now + 1

-- what is there and what is left are the whole list
abbrev pub invariant-block_items-loop-item : goal.invariant-block_items-loop-item
invariant-block_items-loop-item l =
    Leads l.initial.body l.initial.jumps (piece_at l.initial.body (all_joined (map (block_item_code l.scope) l.all)))
    l.body l.jumps (piece_at l.body (all_joined (map (block_item_code l.scope) (drop l.item-index l.all))))
