-- What control flow sees of an instruction, without types. Programs and the code that is made of them have outlines, and
-- the rules of Flow, Order and SafeLocal are stated over them.
use Rattle.std.specs.Prelude.{ℕ, List, Option}
use Rattle.core_ir.specs.declared.role.Role.{Role}

pub record Outline : Type 0 where
  pub role : Role
  -- the register that it defines
  pub defined : Option ℕ
  -- the registers that it uses, in the order of its operands
  pub used : List ℕ
  -- the slot that it reads or writes
  pub slot : Option ℕ
  -- the place to which it may jump
  pub target : Option ℕ
