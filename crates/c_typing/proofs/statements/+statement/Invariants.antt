use Rattle.std.proofs.Common.{◌≡◌, ◌+◌, ◌*◌, drop, map, max}
use denote.Param.Weighed.{most}
use Rattle.c_tree.specs.declared.statement.Block.{size-Block}
use Rattle.c_tree.specs.declared.statement.BlockItem.{size-BlockItem}
use Rattle.c_tree.specs.declared.statement.ForLoop.{size-ForLoop}
use Rattle.c_tree.specs.declared.statement.Stmt.{size-Stmt}
use Rattle.c_scope.specs.inner.Lists.{each_from}
use Rattle.c_typing.specs.Statements.{block_items, walked_statements}
use Rattle.c_typing.proofs.statements.+statement.Given as goal

-- Each call is of a part, or of the same tree by a function with a lesser rest.

abbrev pub decreases-statement : goal.decreases-statement
decreases-statement l = 5 * size-Stmt l.stmt.now

abbrev pub decreases-boxed_statement : goal.decreases-boxed_statement
decreases-boxed_statement l = 5 * size-Stmt l.stmt.now + 1

abbrev pub decreases-branches : goal.decreases-branches
decreases-branches l = 5 * max (size-Stmt l.then_branch.now) (size-Stmt l.other.now) + 2

abbrev pub decreases-if_else : goal.decreases-if_else
decreases-if_else l = 5 * max (size-Stmt l.then_branch.now) (size-Stmt l.other.now) + 3

abbrev pub decreases-if_alone : goal.decreases-if_alone
decreases-if_alone l = 5 * size-Stmt l.then_branch.now + 2

abbrev pub decreases-while_statement : goal.decreases-while_statement
decreases-while_statement l = 5 * size-Stmt l.body.now + 2

abbrev pub decreases-do_statement : goal.decreases-do_statement
decreases-do_statement l = 5 * size-Stmt l.body.now + 2

abbrev pub decreases-for_statement : goal.decreases-for_statement
decreases-for_statement l = 5 * size-ForLoop l.inside.now + 2

abbrev pub decreases-boxed_loop : goal.decreases-boxed_loop
decreases-boxed_loop l = 5 * size-ForLoop l.inside.now + 1

abbrev pub decreases-for_loop : goal.decreases-for_loop
decreases-for_loop l = 5 * size-ForLoop l.inside.now

abbrev pub decreases-block_statement : goal.decreases-block_statement
decreases-block_statement l = 5 * size-Block l.inside.now + 1

abbrev pub decreases-block : goal.decreases-block
decreases-block l = 5 * size-Block l.inside.now

abbrev pub decreases-block_items : goal.decreases-block_items
decreases-block_items l = 5 * most size-BlockItem l.all.now + 2

abbrev pub decreases-block_item : goal.decreases-block_item
decreases-block_item l = 5 * size-BlockItem l.item.now + 1

-- what is found and what is left are the whole list
abbrev pub invariant-block_items-loop-item : goal.invariant-block_items-loop-item
invariant-block_items-loop-item l =
    let of = walked_statements l.returns
    in each_from l.found (map (λ i. i l.in_loop) (map of.block_item (drop l.item-index l.all))) l.world
    ≡ block_items (map of.block_item l.all) l.in_loop l.initial.world
