use Rattle.c_tree.specs.PrintedStatements.{printed_init_declarator}
use Rattle.c_tree.proofs.AppendedLemmas.{then, done, one_more}
use Rattle.c_tree.proofs.WrittenLemmas.{commas-more, commas-end}
use Rattle.c_tree.proofs.printer.statement.push_init_declarators.Goals as goal

pub loop-i-preserved : goal.loop-i-preserved
loop-i-preserved c = one_more _ _ c.loop-i.invariant (commas-more printed_init_declarator c.args.declarators.now c.loop-i.i _ c.loop-i-test.true c.index-declarators-i.is) (then c.in_ok-push_separator.ensures c.in_ok-push_init_declarator.ensures)

pub returns : goal.returns
returns c = done c.loop-i.invariant (commas-end printed_init_declarator c.args.declarators.now c.loop-i.i c.loop-i-test.false)
