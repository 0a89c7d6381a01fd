use Rattle.std.proofs.Common.{◌≡◌, ap, arith}
use Rattle.machine.specs.ValidCode.{code_local_units}
use Rattle.icode.proofs.locals.is_framed.Goals as goal

pub units_of_safe-requires : goal.units_of_safe-requires
units_of_safe-requires c =
    let laid = c.is_laid_out.ensures.0 c.if-not-is_laid_out.false in
    let same : code_local_units c.as_slice.result.now ≡ code_local_units c.args.function.now.locals = ap code_local_units c.as_slice.ensures in
    omega (arith, laid.1, same, c.requires)
