-- What a machine takes for values. The protected machine has pointers with bounds, the unprotected one numbers, and
-- numbers with shadows say what a run of it does to objects.
use Rattle.std.specs.Prelude.{ℕ, ℤ, Bool, Option}
use Rattle.c_types.specs.declared.ty.FnTy.{FnTy}
use Rattle.meaning.specs.declared.value.Stop.{Stop}
use Rattle.machine.specs.declared.code.Code.{Code}
use Rattle.machine.specs.declared.code.ScalarKind.{ScalarKind}

-- where an indirect call or a start goes
pub data Callee : Type 0 where
  Reaches : (f : ℕ) → Callee
  Refused : (why : Stop) → Callee

pub record Domain : Type 1 where
  pub V : Type 0
  -- a number without more
  pub bare : ℤ → V
  pub number : V → ℤ
  -- the address of a variable or another object: its first unit, its units, its id, and whether pointers to it
  -- keep these
  pub object : ℕ → ℕ → ℕ → Bool → V
  -- the address of a function
  pub function : ℕ → V
  -- so many units further, modulo 2^32
  pub moved : V → ℕ → V
  pub cast : ScalarKind → ScalarKind → V → V
  -- what a load of this kind gives of a value
  pub loaded : ScalarKind → V → V
  -- where a call of a function of this type through a value goes
  pub callee : Code → FnTy → V → Callee
  -- the function that a record names where a value is written to a safe place
  pub told : V → Option ℕ
