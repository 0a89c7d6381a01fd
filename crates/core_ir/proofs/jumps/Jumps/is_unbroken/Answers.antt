use Rattle.std.proofs.Common.{◌<◌, length, map, arith}
use Rattle.std.proofs.lemmas.List.{length-map}
use Rattle.std.proofs.lemmas.Bool.{leb-true, le-leb}
use Rattle.core_ir.proofs.Unbroken.{since_near, unbroken_from}
use Rattle.core_ir.proofs.jumps.Jumps.is_unbroken.Goals as goal

pub returns-then-place-self : goal.returns-then-place-self
returns-then-place-self g c =
    let code = map g.I.HasOutline.outline c.args.code.now in
    let inside : c.args.place < length code = omega (arith, length-map c.args.code.now g.I.HasOutline.outline) in
    let jumps = c.requires.jumps in
    let reach = jumps.reach c.args.server (omega (arith, inside)) in
    let since = jumps.since c.args.place inside in (
      λ is. unbroken_from code _ _ jumps.least jumps.greatest _ _ _ _ c.requires.before inside reach since c.if-place-self.true (leb-true _ _ is),
      λ unbroken. le-leb _ _ (since_near code _ _ jumps.least jumps.greatest _ _ _ _ c.requires.before inside reach since unbroken),
    )
