use Rattle.std.proofs.Common.{◌∙◌, map, ap, subst}
use Rattle.core_ir.specs.declared.program.Local.{Local}
use Rattle.core_ir.specs.Instructions.{outline_of}
use Rattle.safe_locals.specs.Safe.{AreSafeIn}
use Rattle.safe_locals.proofs.WholeFunctions.{safe_function}
use Rattle.safe_locals.proofs.functions.safe_of.Goals as goal

pub returns : goal.returns
returns c =
    safe_function c.args.function.now c.in_ok-units.units c.in_ok-safe.safe (c.in_ok-units.ensures ∙ ap (λ vs. map (λ (v : Local). v.units) vs) c.as_slice.ensures)
    (subst (λ b. AreSafeIn (map outline_of b) c.in_ok-units.units c.in_ok-safe.safe) c.as_slice-body.ensures
    (subst (λ us. AreSafeIn (map outline_of c.as_slice-body.result.now) us c.in_ok-safe.safe) c.as_slice-2.ensures c.in_ok-safe.ensures))
