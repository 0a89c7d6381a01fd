-- What is asked of each instruction alone holds of a row's code where it holds of its operands'.
use Rattle.std.specs.Prelude.{◌≡◌, ℕ, true, false, List, length, Option}
use Rattle.c_types.specs.declared.ty.FnTy.{FnTy}
use Rattle.c_types.specs.declared.ty.Ty.{Ty}
use Rattle.c_types.specs.declared.ty.Ty.TheVariants as ty
use Rattle.c_typed.specs.declared.entity.BuiltIn.{BuiltIn}
use Rattle.core_ir.specs.declared.instr.Instr.{Instr}
use Rattle.core_ir.specs.declared.instr.Instr.TheVariants.{Call, CallInd, Cast, Load, PtrConst, Store, Touch}
use Rattle.core_ir.specs.declared.program.Function.{Function}
use Rattle.core_ir.specs.declared.program.Program.{Program}
use Rattle.core_ir.specs.Valid.{IsInRange}
use Rattle.elab_rows.specs.Addresses.{Lvalue, assigned, loaded, pointing, struct_assigned, updated, with_old_value}
use Rattle.elab_rows.specs.Calls.{built_in_code, call_code, indirect_code}
use Rattle.elab_rows.specs.Choices.{and_code, conditional_code, or_code}
use Rattle.elab_rows.specs.Made.{Code, combined, converted, extended, followed, nothing, single}
use Rattle.elab_laws.specs.Fitting.{AreFitting, IsFit, IsFitting, PartsFit}

-- P asks nothing of most kinds of instructions
pub record FittingRows (P : Instr → Type 0) (slots : ℕ) : Type 0 where
  pub nothing : IsFitting P slots nothing
  pub single : (i : ℕ → Instr) → ((d : ℕ) → IsFit P slots (i d)) → IsFitting P slots (single i)
  pub extended :
      (i : ℕ → ℕ → Instr) (a : Code)
      → ((d x : ℕ) → IsFit P slots (i d x))
      → IsFitting P slots a
      → IsFitting P slots (extended i a)
  pub followed :
      (i : ℕ → Instr) (a : Code)
      → ((x : ℕ) → IsFit P slots (i x))
      → IsFitting P slots a
      → IsFitting P slots (followed i a)
  pub combined :
      (i : ℕ → ℕ → ℕ → Instr) (a b : Code)
      → ((d x y : ℕ) → IsFit P slots (i d x y))
      → IsFitting P slots a
      → IsFitting P slots b
      → IsFitting P slots (combined i a b)
  pub converted :
      (from to : Ty) (a : Code)
      → ((d x : ℕ) → IsFit P slots (Cast d x from to))
      → IsFitting P slots a
      → IsFitting P slots (converted from to a)
  pub load :
      (x : Lvalue)
      → ((p : ℕ) → IsFit P slots (Touch p x.root))
      → ((d p : ℕ) → IsFit P slots (Load d p x.ty))
      → IsFitting P slots x.address
      → IsFitting P slots (loaded x)
  pub pointing :
      (root target : Ty) (a : Code)
      → ((d p : ℕ) → IsFit P slots (Cast d p (ty.Pointer root) (ty.Pointer target)))
      → IsFitting P slots a
      → IsFitting P slots (pointing root target a)
  pub assigned :
      (x : Lvalue) (v : Code)
      → ((p : ℕ) → IsFit P slots (Touch p x.root))
      → ((p a : ℕ) → IsFit P slots (Store p a x.ty))
      → IsFitting P slots v
      → IsFitting P slots x.address
      → IsFitting P slots (assigned x v)
  pub updated :
      (x : Lvalue) (new : Code → Code)
      → ((p : ℕ) → IsFit P slots (Touch p x.root))
      → ((p a : ℕ) → IsFit P slots (Store p a x.ty))
      → IsFitting P slots (new (loaded x))
      → IsFitting P slots (updated x new)
  pub old_value : (old a : Code) → IsFitting P slots a → IsFitting P slots (with_old_value old a)
  pub struct_assigned :
      (parts : List Ty) (to from : Lvalue)
      → ((d p k : ℕ) → IsFit P slots (PtrConst d p k))
      → PartsFit P from.root to.root parts
      → IsFitting P slots from.address
      → IsFitting P slots to.address
      → IsFitting P slots (struct_assigned parts to from)
  pub both : (a b : Code) → IsFitting P slots a → IsFitting P slots b → IsFitting P slots (and_code a b)
  pub either : (a b : Code) → IsFitting P slots a → IsFitting P slots b → IsFitting P slots (or_code a b)
  pub conditional :
      (c a b : Code)
      → IsFitting P slots c
      → IsFitting P slots a
      → IsFitting P slots b
      → IsFitting P slots (conditional_code c a b)
  pub call :
      (f : ℕ) (cs : List Code)
      → ((args : List ℕ) (s : Option ℕ) → length args ≡ length cs → P (Call f args s))
      → AreFitting P slots cs
      → IsFitting P slots (call_code f true cs)
  pub void_call :
      (f : ℕ) (cs : List Code)
      → ((args : List ℕ) (s : Option ℕ) → length args ≡ length cs → P (Call f args s))
      → AreFitting P slots cs
      → IsFitting P slots (call_code f false cs)
  pub indirect :
      (t : FnTy) (c : Code) (cs : List Code)
      → ((r : ℕ) (args : List ℕ) (s : Option ℕ) → length args ≡ length cs → P (CallInd r args t s))
      → IsFitting P slots c
      → AreFitting P slots cs
      → IsFitting P slots (indirect_code t true c cs)
  pub void_indirect :
      (t : FnTy) (c : Code) (cs : List Code)
      → ((r : ℕ) (args : List ℕ) (s : Option ℕ) → length args ≡ length cs → P (CallInd r args t s))
      → IsFitting P slots c
      → AreFitting P slots cs
      → IsFitting P slots (indirect_code t false c cs)
  pub built_in :
      (b : BuiltIn) (cs : List Code)
      → ((p : ℕ) → P (Touch p ty.Int))
      → AreFitting P slots cs
      → IsFitting P slots (built_in_code b cs)

-- numbers and types in range, in each program and function
abbrev pub RowsFit : Type 0
RowsFit = (p : Program) (f : Function) → FittingRows (IsInRange p f) f.slots
