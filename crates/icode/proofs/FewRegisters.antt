-- A body within its limits defines few registers.
use Rattle.std.proofs.Common.{length, map, nat_lt, arith}
use Rattle.std.proofs.lemmas.Option.{IfSome_then}
use Rattle.core_ir.specs.Order.{IsWellFormed}
use Rattle.machine.specs.declared.code.CodeFunction.{CodeFunction}
use Rattle.machine.specs.Outlines.{outline_of_code}
use Rattle.machine.specs.ValidCode.{CodeIsWithinLimits}
use Rattle.icode.specs.inner.Locals.{DefinesFew}

pub few_registers : (f : CodeFunction) → CodeIsWithinLimits f → IsWellFormed f.registers f.slots (nat_lt 0 (length f.locals)) (map outline_of_code f.body) → DefinesFew (map outline_of_code f.body)
few_registers f limits formed u i there =
    IfSome_then i.defined (formed.numbers u i there).defined (λ d low. omega (arith, low, limits.registers))
