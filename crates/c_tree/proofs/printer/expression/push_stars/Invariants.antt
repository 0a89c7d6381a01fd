use Rattle.c_tree.specs.Grammar.{star_kinds}
use Rattle.c_tree.specs.inner.Appended.{Appends}
use Rattle.c_tree.proofs.printer.expression.push_stars.Given as goal

abbrev pub invariant-loop : goal.invariant-loop
invariant-loop l = Appends l.fn.out.items (star_kinds l.counter) l.out.items
