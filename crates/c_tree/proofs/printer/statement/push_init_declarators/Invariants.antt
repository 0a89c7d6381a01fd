use Rattle.std.proofs.Common.{◌≡◌, ◌++◌, map, drop}
use Rattle.c_tree.specs.Printed.{with_commas}
use Rattle.c_tree.specs.PrintedStatements.{printed_init_declarator}
use Rattle.c_tree.specs.Written.{written}
use Rattle.c_tree.proofs.WrittenLemmas.{commas_from}
use Rattle.c_tree.proofs.printer.statement.push_init_declarators.Given as goal

-- what is written and what is left to write are the whole list
abbrev pub invariant-loop-i : goal.invariant-loop-i
invariant-loop-i l =
    l.out.items ++ written (commas_from l.i (map printed_init_declarator (drop l.i l.declarators))) ≡ l.fn.out.items ++ written (with_commas (map printed_init_declarator l.declarators))
