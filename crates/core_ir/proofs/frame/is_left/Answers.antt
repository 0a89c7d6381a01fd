use Rattle.std.proofs.Common.{◌∙◌, map, sym}
use Rattle.core_ir.specs.declared.role.Role.TheVariants as role
use Rattle.core_ir.proofs.Starts.{behind_from, behind_role}
use Rattle.core_ir.proofs.frame.is_left.Goals as goal

pub returns : goal.returns
returns g c =
    let code = map g.I.HasOutline.outline c.args.code.now in (
      λ is. behind_from code c.args.place role.Leave c.if-place-eq0.false (sym c.role_at.ensures ∙ c.is_leave.ensures.0 is) (c.is_unreached.ensures.0 c.if-not-is_unreached.false),
      λ behind. c.is_leave.ensures.1 (c.role_at.ensures ∙ behind_role code c.args.place role.Leave behind),
    )
