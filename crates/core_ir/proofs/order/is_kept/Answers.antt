use Rattle.std.proofs.Common.{◌≡◌, Some, map, sym, subst, arith}
use Rattle.std.proofs.lemmas.Bool.{false_from_ne_true, both_ways, not-true, not_from_false}
use Rattle.core_ir.specs.declared.role.Role.TheVariants as role
use Rattle.core_ir.specs.inner.Found.{role_in}
use Rattle.core_ir.specs.inner.Registers.{Defines, IsLast}
use Rattle.core_ir.proofs.ServedAndKept.{kept_before, kept_from, kept_here}
use Rattle.core_ir.proofs.Places.{role_in_has}
use Rattle.core_ir.proofs.order.is_kept.Goals as goal

pub returns-then-is_below : goal.returns-then-is_below
returns-then-is_below g c =
    let code = map g.I.HasOutline.outline c.args.code.now in
    let p = c.in-Some-Load.p in
    let there : role_in code c.args.first ≡ Some (role.Load p) = cc in
    let load = role_in_has code c.args.first (role.Load p) there in
    let last = subst (λ o. IsLast (Defines code p) c.args.place o) (sym c.last.ensures) (c.requires.known.last p) in (
      λ is. kept_from code c.args.first c.args.place p load _ last (c.is_below.ensures.0 c.if-is_below.true)
          (λ e. both_ways _ (not-true _ is) (c.defines.ensures.1 e)),
      λ kept. not_from_false _ (false_from_ne_true _ (λ is. kept_here code c.args.first c.args.place p load (omega (arith, c.requires.before)) kept (c.defines.ensures.0 is))),
    )

pub returns-else-is_below : goal.returns-else-is_below
returns-else-is_below g c =
    let code = map g.I.HasOutline.outline c.args.code.now in
    let p = c.in-Some-Load.p in
    let there : role_in code c.args.first ≡ Some (role.Load p) = cc in
    let load = role_in_has code c.args.first (role.Load p) there in
    let last = subst (λ o. IsLast (Defines code p) c.args.place o) (sym c.last.ensures) (c.requires.known.last p) in (
      λ is. absurd (cc),
      λ kept. c.is_below.ensures.1 (kept_before code c.args.first c.args.place p load _ last kept),
    )
