use Rattle.std.proofs.Common.{take, refl, sym, subst}
use Rattle.std.specs.List.{All}
use Rattle.std.proofs.lemmas.List.{take_all}
use Rattle.std.proofs.lemmas.List.Elements.{All-more, All-same}
use Rattle.machine.specs.ValidCode.{IsValidCodeFunction}
use Rattle.icode.proofs.validity.are_valid_functions.Goals as goal

pub loop-function-preserved : goal.loop-function-preserved
loop-function-preserved c =
    let P = IsValidCodeFunction c.args.code.now in
    All-more P c.as_slice-function-items.result.now c.loop-function.function-index c.function-item.result c.loop-function-test.true c.loop-function.invariant
    (subst P c.function-item.is (c.is_valid_function.ensures.0 c.if-not-is_valid_function.false))

pub returns : goal.returns
returns c =
    let P = IsValidCodeFunction c.args.code.now in
    let items = c.as_slice-function-items.result.now in (
      λ is. subst (All P) c.as_slice-function-items.ensures (All-same P items (take c.loop-function.function-index items) (sym (take_all c.loop-function.function-index items c.loop-function-test.false)) c.loop-function.invariant),
      λ all. refl,
    )
