use Rattle.std.proofs.Common.{◌∙◌, sym, ap}
use Rattle.c_types.specs.declared.ty.Ty.TheVariants as ty
use Rattle.sensitivity.specs.Holds.{code, has_no_body, universal}
use Rattle.sensitivity.specs.Classes.{class_at}
use Rattle.sensitivity.specs.inner.Marks.{here, is_universal_class}
use Rattle.sensitivity.proofs.Forms.{code_of, universal_of}
use Rattle.sensitivity.proofs.HoldingByForm.{element_is, holding_element, holding_target, never_plain, open_by, struct_of_is, target_is}
use Rattle.sensitivity.proofs.holding.+holding_of.Goals as goal

pub returns-in-Struct : goal.returns-in-Struct
returns-in-Struct t c = λ defs tells. here c.args.ty.now c.in-Struct.s (struct_of_is c.args.ty.now c.in-Struct.s c.in-Struct.is)

pub returns-in-Array : goal.returns-in-Array
returns-in-Array t c =
    let is = c.in-Array.is ∙ ap (λ x. ty.Array x c.in-Array.field-1) (sym c.get.ensures) in
    λ defs tells. holding_element defs c.args.ty.now c.get.result.now c.holding_of.result (element_is c.args.ty.now c.get.result.now c.in-Array.field-1 is) (c.holding_of.ensures defs tells)

pub returns-then-is_code : goal.returns-then-is_code
returns-then-is_code t c =
    let is = target_is c.args.ty.now c.get-target.result.now (c.in-Pointer.is ∙ ap ty.Pointer (sym c.get-target.ensures)) in
    λ defs tells. code c.args.ty.now (code_of c.args.ty.now c.get-target.result.now is ∙ sym c.is_code.ensures ∙ c.if-is_code.true)

pub returns-then-is_open : goal.returns-then-is_open
returns-then-is_open t c =
    let u = c.get-target.result.now in
    let is = target_is c.args.ty.now u (c.in-Pointer.is ∙ ap ty.Pointer (sym c.get-target.ensures)) in
    λ defs tells. universal c.args.ty.now (universal_of defs c.args.ty.now u is
    ∙ open_by (has_no_body defs) (λ s. is_universal_class (class_at c.args.of_structs.now s)) u (λ s. sym (tells s)) ∙ sym c.is_open.ensures ∙ c.if-is_open.true)

pub returns-else-is_open : goal.returns-else-is_open
returns-else-is_open t c =
    let u = c.get-target.result.now in
    let is = target_is c.args.ty.now u (c.in-Pointer.is ∙ ap ty.Pointer (sym c.get-target.ensures)) in
    λ defs tells. holding_target defs c.args.ty.now u c.holding_of-in-Pointer.result is
    (code_of c.args.ty.now u is ∙ sym c.is_code.ensures ∙ c.if-is_code.false)
    (universal_of defs c.args.ty.now u is ∙ open_by (has_no_body defs) (λ s. is_universal_class (class_at c.args.of_structs.now s)) u (λ s. sym (tells s)) ∙ sym c.is_open.ensures ∙ c.if-is_open.false)
    (c.holding_of-in-Pointer.ensures defs tells)

pub returns-in-Int : goal.returns-in-Int
returns-in-Int t c = λ defs tells. never_plain defs c.args.ty.now c.in-Int.is

pub returns-in-Int-2 : goal.returns-in-Int-2
returns-in-Int-2 t c = λ defs tells. never_plain defs c.args.ty.now c.in-Int.is

pub returns-in-Int-3 : goal.returns-in-Int-3
returns-in-Int-3 t c = λ defs tells. never_plain defs c.args.ty.now c.in-Int.is

pub returns-in-Int-4 : goal.returns-in-Int-4
returns-in-Int-4 t c = λ defs tells. never_plain defs c.args.ty.now c.in-Int.is
