use Rattle.std.proofs.Common.{◌≡◌, ◌∙◌, List, length, map, refl, sym, ap, subst, arith}
use Rattle.core_ir.specs.Instructions.{outline_of}
use Rattle.icode.specs.Sites.{AreLocals}
use Rattle.machine.specs.declared.code.CodeLocal.{CodeLocal}
use Rattle.machine.specs.Stands.{safe_units}
use Rattle.machine.specs.ValidCode.{code_local_units}
use Rattle.instrument.specs.inner.Places.{AreMade}
use Rattle.instrument.proofs.Whole.{function_stands}
use Rattle.instrument.proofs.function.function_code.Goals as goal

pub places-requires-clause-locals : goal.places-requires-clause-locals
places-requires-clause-locals c =
    let f = c.args.function.now in
    subst (λ (xs : List CodeLocal). AreLocals (map outline_of f.body) xs) (sym c.as_slice.ensures) (c.standing_locals_are_locals.ensures c.args.program.now f c.in_ok-locals.locals c.requires.valid c.in_ok-locals.ensures)

pub units_of_safe-requires : goal.units_of_safe-requires
units_of_safe-requires c =
    let are = c.standing_locals_are_locals.ensures c.args.program.now c.args.function.now c.in_ok-locals.locals c.requires.valid c.in_ok-locals.ensures in
    let same : code_local_units c.as_slice-2.result.now ≡ code_local_units c.in_ok-locals.locals = ap code_local_units c.as_slice-2.ensures in
    omega (arith, same, are.few)

pub returns : goal.returns
returns c =
    let program = c.args.program.now in
    let f = c.args.function.now in
    let classes = c.args.classes.now in
    function_stands program f classes _ c.in_ok-ty.ensures refl refl refl (c.units_of_safe.ensures ∙ ap safe_units c.as_slice-2.ensures) c.in_ok-locals.ensures
    (subst (λ (xs : List CodeLocal). AreMade program f classes xs (length f.body) c.in_ok-body.body) c.as_slice.ensures c.in_ok-body.ensures)
