use Rattle.std.proofs.Common.{arith}
use Rattle.std.proofs.lemmas.Grind.{common_steps}
use Rattle.c_tree.specs.PrintedStatements.{printed_block_item}
use Rattle.c_tree.proofs.AppendedLemmas.{one_more}
use Rattle.c_tree.proofs.WrittenLemmas.{joined-more, joined-end}
use Rattle.c_tree.proofs.AppendedLemmas.{writing_statements}
use Rattle.c_tree.proofs.printer.statement.+statement.Goals as goal

pub push_block-loop-item-preserved : goal.push_block-loop-item-preserved
push_block-loop-item-preserved t c = one_more _ _ c.loop-item.invariant (joined-more printed_block_item _ c.loop-item.item-index _ c.loop-item-test.true c.item-item.is) c.in_ok-push_block_item.ensures

pub push_block-returns : goal.push_block-returns
push_block-returns t c = grind (arith, common_steps, writing_statements, joined-end printed_block_item _ c.loop-item.item-index c.loop-item-test.false)
