use Rattle.std.proofs.Common.{map, subst}
use Rattle.core_ir.specs.inner.Found.{AreStarting}
use Rattle.core_ir.proofs.Starts.{start_from}
use Rattle.core_ir.proofs.order.is_start.Goals as goal

pub returns : goal.returns
returns g c =
    let code = map g.I.HasOutline.outline c.args.code.now in
    let some = c.in-Some-Some-Some in
    let are = subst (λ o. AreStarting some.number some.argument some.function o) c.defined_at.ensures (c.are_starting.ensures.0 c.if-not-are_starting.false) in (
      λ is. start_from code c.args.first some.number some.argument some.function (cc) (cc) (cc) are
          (c.is_unreached.ensures.0 c.if-not-is_unreached.false) (c.is_unreached-2.ensures.0 is),
      λ start. c.is_unreached-2.ensures.1 start.2.function_unreached,
    )
