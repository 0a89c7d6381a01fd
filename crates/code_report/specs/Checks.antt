-- The checks of a function's code: touches of the classes that are tested, unless they are at a safe local, and indirect
-- calls.
use Rattle.std.specs.Prelude.{◌≡◌, ℕ, zero, suc, Bool, true, false, IsTrue, List, Option, Some, slice_get}
use Rattle.c_types.specs.declared.structs.StructDef.{StructDef}
use Rattle.c_types.specs.declared.ty.FnTy.{FnTy}
use Rattle.c_types.specs.declared.ty.Ty.{Ty}
use Rattle.c_types.specs.declared.ty.Ty.TheVariants as ty
use Rattle.core_ir.specs.declared.instr.Instr.TheVariants as instr
use Rattle.core_ir.specs.declared.program.Function.{Function}
use Rattle.safe_locals.specs.AtLocals.{IsAtSafe}
use Rattle.sensitivity.specs.declared.class.Class.{Class}
use Rattle.sensitivity.specs.declared.class.Class.TheVariants as class
use Rattle.sensitivity.specs.Classes.{HasClass}

-- a touch of this class tests its address
abbrev pub is_tested : Class → Bool
is_tested class.Sensitive = true
is_tested class.Universal = true
is_tested _ = false

-- The instruction at place k is a check. The class of a touch is that of a pointer to its type.
pub data IsCheck (defs : List StructDef) (f : Function) (k : ℕ) : Type 0 where
  touch :
      (p : ℕ) (t : Ty) (c : Class)
      → slice_get f.body k ≡ Some (instr.Touch p t)
      → HasClass defs (ty.Pointer t) c
      → IsTrue (is_tested c)
      → (IsAtSafe f k → ⊥)
      → IsCheck defs f k
  call :
      (r : ℕ) (args : List ℕ) (t : FnTy) (s : Option ℕ)
      → slice_get f.body k ≡ Some (instr.CallInd r args t s)
      → IsCheck defs f k

-- so many of the first so many places are such
pub data Counts (Is : ℕ → Type 0) : ℕ → ℕ → Type 0 where
  nothing : Counts Is zero zero
  counted : (k n : ℕ) → Counts Is k n → Is k → Counts Is (suc k) (suc n)
  passed : (k n : ℕ) → Counts Is k n → (Is k → ⊥) → Counts Is (suc k) n
