use Rattle.std.proofs.Common.{◌≡◌, arith}
use Rattle.std.proofs.lemmas.Grind.{common_steps}
use Rattle.c_tree.specs.PrintedStatements.{printed_item, printed_source}
use Rattle.c_tree.specs.Written.{written}
use Rattle.c_tree.proofs.round_trip.Texts.{prints-back}
use Rattle.c_tree.proofs.AppendedLemmas.{one_more}
use Rattle.c_tree.proofs.WrittenLemmas.{joined-more, joined-end}
use Rattle.c_tree.proofs.AppendedLemmas.{writing}
use Rattle.c_tree.proofs.printer.statement.print_unit.Goals as goal

pub loop-item-preserved : goal.loop-item-preserved
loop-item-preserved c = one_more _ _ c.loop-item.invariant (joined-more printed_item _ c.loop-item.item-index _ c.loop-item-test.true c.item-item.is) c.in_ok-push_item.ensures

pub returns : goal.returns
unfolding printed_source
returns c =
    let is : c.loop-item.out.items ≡ written (printed_source c.args.unit.now) = grind (arith, common_steps, writing, joined-end printed_item _ c.loop-item.item-index c.loop-item-test.false) in
    record { is = is; reads_back = prints-back c.spaced_text_lexes.ensures c.args.unit.now _ is }
