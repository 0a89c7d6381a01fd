use Rattle.std.proofs.Common.{◌≡◌, ◌++◌, map, drop}
use Rattle.c_tree.specs.Printed.{joined}
use Rattle.c_tree.specs.PrintedStatements.{printed_block_item}
use Rattle.c_tree.specs.Written.{written}
use Rattle.c_tree.proofs.printer.statement.+statement.Given as goal

-- what is written and what is left to write
abbrev pub invariant-push_block-loop-item : goal.invariant-push_block-loop-item
invariant-push_block-loop-item l = l.out.items ++ written (joined (map printed_block_item (drop l.item-index l.item-items))) ≡ l.initial.out.items ++ written (joined (map printed_block_item l.item-items))
