use Rattle.std.proofs.Common.{◌≡◌, ◌∙◌, ◌-◌, ◌<◌, inl, inr, length, map, sym, ap, arith}
use Rattle.std.proofs.lemmas.Bool.{cases_eq, eq-eqb, both_ways}
use Rattle.std.proofs.lemmas.List.{length-map}
use Rattle.core_ir.specs.declared.role.Role.TheVariants as role
use Rattle.core_ir.specs.inner.Found.{role_in}
use Rattle.core_ir.proofs.Ends.{ends_from, ends_role}
use Rattle.core_ir.proofs.order.ends_with_return.Goals as goal

pub returns : goal.returns
returns g c =
    let code = map g.I.HasOutline.outline c.args.code.now in
    let n = length-map c.args.code.now g.I.HasOutline.outline in
    let some : 0 < length code = elim (cases_eq (length c.args.code.now) 0) [
      | inl e ↦ absurd (both_ways _ c.if-is_empty.false (c.is_empty.ensures ∙ eq-eqb _ 0 e))
      | inr ne ↦ omega arith
    ] in
    let there : c.role_at.result ≡ role_in code (length code - 1) = c.role_at.ensures ∙ ap (λ k. role_in code (k - 1)) (sym n) in (
      λ is. ends_from code role.Return some (sym there ∙ c.is_return.ensures.0 is),
      λ ends. c.is_return.ensures.1 (there ∙ (ends_role code role.Return ends).1),
    )
