use Rattle.std.proofs.Common.{◌≡◌, ◌∙◌, inl, inr, Some, sym, ap, subst}
use Rattle.std.specs.List.{Contains}
use Rattle.std.specs.Option.{option_and_then}
use Rattle.c_types.specs.declared.structs.StructDef.{StructDef}
use Rattle.c_types.specs.Structs.{body_of}
use Rattle.core_ir.specs.Parts.{member}
use Rattle.core_ir.proofs.PartsAreFound.{layer_is_part, layer_part}
use Rattle.core_ir.proofs.parts.scan_struct.Goals as goal

pub returns-in-Some-members-clause-has : goal.returns-in-Some-members-clause-has
returns-in-Some-members-clause-has c =
    let defs = c.args.structs.now in
    let body : body_of defs c.args.number ≡ Some c.in-Some-members.members = ap (λ o. option_and_then (λ (d : StructDef). d.members) o) (sym c.in-Some.ensures) ∙ c.in-Some-members.is in
    λ is.
    let h = c.scan_members.ensures.has is in
    member c.args.number c.in-Some-members.members h.0 c.args.part.now body (subst (λ ms. Contains ms h.0) c.as_slice.ensures h.1) (layer_is_part defs h.0.ty c.args.part.now h.2)

pub returns-in-Some-members-clause-others : goal.returns-in-Some-members-clause-others
returns-in-Some-members-clause-others c =
    let defs = c.args.structs.now in
    let body : body_of defs c.args.number ≡ Some c.in-Some-members.members = ap (λ o. option_and_then (λ (d : StructDef). d.members) o) (sym c.in-Some.ensures) ∙ c.in-Some-members.is in
    λ s i. elim (c.scan_members.ensures.others s i) [
      | inl old ↦ inl old
      | inr h ↦ inr (λ x part. member c.args.number c.in-Some-members.members h.0 x body (subst (λ ms. Contains ms h.0) c.as_slice.ensures h.1) (layer_part defs x h.2 part))
    ]
