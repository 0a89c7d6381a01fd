use Rattle.std.proofs.Common.{map, sym, subst}
use Rattle.core_ir.specs.Order.{RoleFits}
use Rattle.icode.specs.inner.Sites.{IsOnlyOrigin}
use Rattle.icode.proofs.Origins.{only_origin}
use Rattle.icode.proofs.where_read.origin_of.Goals as goal

pub returns-in-Indirect : goal.returns-in-Indirect
returns-in-Indirect g c =
    let code = map g.I.HasOutline.outline c.args.code.now in
    subst (λ r. IsOnlyOrigin code c.args.place r c.origin_in.result) (sym c.in-Indirect.is)
    (only_origin code c.args.place c.in-Indirect.c c.origin_in.result (subst (RoleFits code c.args.place) c.in-Indirect.is c.requires.fits) (c.origin_in.ensures c.args.place c.requires.known))
