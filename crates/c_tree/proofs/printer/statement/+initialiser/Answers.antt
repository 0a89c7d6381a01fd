use Rattle.c_tree.specs.PrintedStatements.{printed_init}
use Rattle.c_tree.proofs.AppendedLemmas.{then, done, one_more}
use Rattle.c_tree.proofs.WrittenLemmas.{commas-more, commas-end}
use Rattle.c_tree.proofs.printer.statement.+initialiser.Goals as goal

pub push_inits-loop-i-preserved : goal.push_inits-loop-i-preserved
push_inits-loop-i-preserved t c = one_more _ _ c.loop-i.invariant (commas-more printed_init c.args.inits.now c.loop-i.i _ c.loop-i-test.true c.index-inits-i.is) (then c.in_ok-push_separator.ensures c.in_ok-push_init.ensures)

pub push_inits-returns : goal.push_inits-returns
push_inits-returns t c = done c.loop-i.invariant (commas-end printed_init c.args.inits.now c.loop-i.i c.loop-i-test.false)
