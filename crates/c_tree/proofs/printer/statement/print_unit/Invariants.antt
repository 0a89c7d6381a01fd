use Rattle.std.proofs.Common.{◌≡◌, ◌++◌, map, drop}
use Rattle.c_tree.specs.Printed.{joined}
use Rattle.c_tree.specs.PrintedStatements.{printed_item}
use Rattle.c_tree.specs.Written.{written}
use Rattle.c_tree.proofs.printer.statement.print_unit.Given as goal

-- what is written and what is left to write
abbrev pub invariant-loop-item : goal.invariant-loop-item
invariant-loop-item l = l.out.items ++ written (joined (map printed_item (drop l.item-index l.item-items))) ≡ written (joined (map printed_item l.item-items))
