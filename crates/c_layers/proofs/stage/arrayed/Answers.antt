use Rattle.std.proofs.Common.{◌≡◌, ◌∙◌, ℕ, List, Option, Ok, sym, subst, ap, arith}
use Rattle.std.specs.Prelude.{IfSome}
use Rattle.c_types.specs.declared.structs.StructDef.{StructDef}
use Rattle.c_types.specs.declared.ty.Ty.{Ty}
use Rattle.c_types.specs.declared.ty.Ty.TheVariants as ty
use Rattle.c_types.specs.Parts.{parts}
use Rattle.c_types.specs.Units.{units_of}
use Rattle.c_layers.specs.declared.layer.Shape.TheVariants as shape
use Rattle.c_layers.specs.inner.Stages.{IsCounted, counted}
use Rattle.c_layers.specs.Shapes.{arrayed}
use Rattle.c_layers.proofs.ArraysOfTypes.{array, array_known, no_units, open_array, too_many_parts}
use Rattle.c_layers.proofs.stage.arrayed.Goals as goal

pub returns-in_default-clause-shape : goal.returns-in_default-clause-shape
returns-in_default-clause-shape c = sym (no_units c.args.structs.now c.args.element.ty c.args.bound (cc))

pub returns-in_default-bound-clause-shape : goal.returns-in_default-bound-clause-shape
returns-in_default-bound-clause-shape c =
    sym (ap (λ o. arrayed c.args.structs.now o (shape.Whole c.args.element.ty)) c.in_default-bound.is
    ∙ open_array c.args.structs.now c.args.element.ty c.in-Some.units (cc))

pub returns-then-parts-ge-MOST_PARTS-clause-shape : goal.returns-then-parts-ge-MOST_PARTS-clause-shape
returns-then-parts-ge-MOST_PARTS-clause-shape c =
    let high = c.if-parts-ge-MOST_PARTS.true in
    sym (ap (λ o. arrayed c.args.structs.now o (shape.Whole c.args.element.ty)) c.in-Some-bound.is
    ∙ too_many_parts c.args.structs.now c.args.element.ty c.in-Some.units (cc) c.in-Some-bound.bound (omega (arith, c.requires.parts_are)))

pub returns-clause-shape : goal.returns-clause-shape
returns-clause-shape c =
    let low = c.if-parts-ge-MOST_PARTS.false in
    ap (λ t. shape.Whole (ty.Array t c.in-Some-bound.bound)) c.in_ok-new.ensures
    ∙ sym (ap (λ o. arrayed c.args.structs.now o (shape.Whole c.args.element.ty)) c.in-Some-bound.is
    ∙ array c.args.structs.now c.args.element.ty c.in-Some.units (cc) c.in-Some-bound.bound (omega (arith, c.requires.parts_are)))

known_so : (t u : Ty) (n p : ℕ) (o q : Option ℕ) (defs : List StructDef) → t ≡ u → o ≡ q → IsCounted defs (record { ty = ty.Array u n; parts = p; units = q }) → IsCounted defs (record { ty = ty.Array t n; parts = p; units = o })
known_so t u n p o q defs same kept known = record {
  parts_are = known.parts_are ∙ ap (λ t. counted (parts (ty.Array t n))) (sym same);
  units_are = subst (λ t. IfSome o (λ units. units_of defs (ty.Array t n) ≡ Ok units)) (sym same) (subst (λ o. IfSome o (λ units. units_of defs (ty.Array u n) ≡ Ok units)) (sym kept) known.units_are);
}

pub returns-clause-known : goal.returns-clause-known
returns-clause-known c =
    let low = c.if-parts-ge-MOST_PARTS.false in
    let known = array_known c.args.structs.now c.args.element.ty c.in-Some.units (cc) c.in-Some-bound.bound c.args.element.parts c.requires.parts_are low in
    known_so _ _ _ _ _ _ _ c.in_ok-new.ensures c.product.ensures known
