use Rattle.std.proofs.Common.{map, subst, sym}
use Rattle.core_ir.specs.inner.Registers.{Defines, IsLast}
use Rattle.core_ir.proofs.ServedAndKept.{served_by, served_from, served_none}
use Rattle.core_ir.proofs.order.is_served.Goals as goal

pub returns-in-Some : goal.returns-in-Some
returns-in-Some g c =
    let code = map g.I.HasOutline.outline c.args.code.now in
    let last = subst (λ o. IsLast (Defines code c.args.register) c.args.place o) (sym c.in-Some.ensures) (c.requires.known.last c.args.register) in (
      λ is. served_from code c.args.place c.args.register c.in-Some.server last (c.is_unbroken.ensures.0 is),
      λ served. c.is_unbroken.ensures.1 (served_by code c.args.place c.args.register c.in-Some.server last served),
    )

pub returns-in-None : goal.returns-in-None
returns-in-None g c =
    let code = map g.I.HasOutline.outline c.args.code.now in
    let last = subst (λ o. IsLast (Defines code c.args.register) c.args.place o) (sym c.in-None.ensures) (c.requires.known.last c.args.register) in
    (λ is. absurd (cc), λ served. absurd (served_none code c.args.place c.args.register last served))
