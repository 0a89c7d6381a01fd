use Rattle.std.proofs.Common.{◌≡◌, ◌∙◌, ◌-◌, Some, map, ap}
use Rattle.std.proofs.lemmas.Bool.{eq-eqb, eqb-true}
use Rattle.core_ir.specs.declared.role.Role.TheVariants as role
use Rattle.core_ir.specs.inner.Found.{role_in}
use Rattle.core_ir.proofs.Starts.{behind_from, behind_role}
use Rattle.core_ir.proofs.order.is_touched.Goals as goal

pub returns-in-Some-Touch : goal.returns-in-Some-Touch
returns-in-Some-Touch g c =
    let code = map g.I.HasOutline.outline c.args.code.now in
    let there : role_in code (c.args.place - 1) ≡ Some (role.Touch c.in-Some-Touch.p) = cc in (
      λ is. behind_from code c.args.place _ c.if-place-eq0.false (there ∙ ap (λ x. Some (role.Touch x)) (eqb-true _ _ is)) (c.is_unreached.ensures.0 c.if-not-is_unreached.false),
      λ behind. eq-eqb _ _ (let e = behind_role code c.args.place _ behind in cc),
    )
