-- The parts of what is asked of a function of code, in the order in which they are looked at.
use Rattle.std.specs.Prelude.{◌≡◌, ℕ, All, length, map, nat_lt, Some, slice_get}
use Rattle.core_ir.specs.Order.{IsWellFormed}
use Rattle.machine.specs.declared.code.Code.{Code}
use Rattle.machine.specs.declared.code.CodeFunction.{CodeFunction}
use Rattle.machine.specs.declared.code.CodePlace.{CodePlace}
use Rattle.machine.specs.Outlines.{outline_of_code}
use Rattle.machine.specs.ValidCode.{AreMarked, CodeFits, CodeIsWithinLimits, SaysWhere, TouchesAreSensitive}
use Rattle.icode.specs.inner.Locals.{AreFramed}

pub record HasGoodShape (code : Code) (f : CodeFunction) : Type 0 where
  pub within_limits : CodeIsWithinLimits f
  pub framed : AreFramed f
  pub in_range : All (CodeFits code f) f.body
  pub well_formed :
      IsWellFormed f.registers f.slots (nat_lt 0 (length f.locals)) (map outline_of_code f.body)

pub record HasGoodPlaces (f : CodeFunction) : Type 0 where
  pub marked : AreMarked f
  pub touched : TouchesAreSensitive f.body
  pub places : (k : ℕ) (i : CodePlace) → slice_get f.body k ≡ Some i → SaysWhere f k i
