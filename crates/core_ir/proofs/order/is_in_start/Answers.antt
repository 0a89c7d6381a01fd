use Rattle.std.proofs.Common.{map}
use Rattle.core_ir.proofs.Starts.{in_start_at, in_start_from}
use Rattle.core_ir.proofs.order.is_in_start.Goals as goal

pub returns-then-place-behind : goal.returns-then-place-behind
returns-then-place-behind g c =
    let code = map g.I.HasOutline.outline c.args.code.now in (
      λ is. in_start_from code c.args.place c.args.behind c.if-place-behind.true (c.is_start.ensures.0 is),
      λ in_start. c.is_start.ensures.1 (in_start_at code c.args.place c.args.behind in_start),
    )
