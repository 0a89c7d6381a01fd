use Rattle.std.proofs.Common.{◌≡◌, map, take}
use Rattle.core_ir.specs.declared.program.Local.{Local}
use Rattle.safe_locals.proofs.functions.units_of.Given as goal

abbrev pub invariant-loop-local : goal.invariant-loop-local
invariant-loop-local l = l.units ≡ map (λ (v : Local). v.units) (take l.local-index l.locals)
