use Rattle.std.proofs.Common.{◌≡◌, ◌++◌, map, drop}
use Rattle.c_tree.specs.Printed.{with_commas}
use Rattle.c_tree.specs.PrintedStatements.{printed_init}
use Rattle.c_tree.specs.Written.{written}
use Rattle.c_tree.proofs.WrittenLemmas.{commas_from}
use Rattle.c_tree.proofs.printer.statement.+initialiser.Given as goal

-- what is written and what is left to write are the whole list
abbrev pub invariant-push_inits-loop-i : goal.invariant-push_inits-loop-i
invariant-push_inits-loop-i l =
    l.out.items ++ written (commas_from l.i (map printed_init (drop l.i l.inits))) ≡ l.fn.out.items ++ written (with_commas (map printed_init l.inits))
