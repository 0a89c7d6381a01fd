-- Each access of a row's code has the type of its touch, or that of a part, where it is so in its operands.
use Rattle.std.specs.Prelude.{◌≡◌, ℕ, Bool, List, ◌++◌, None}
use Rattle.c_types.specs.declared.structs.StructDef.{StructDef}
use Rattle.c_types.specs.declared.ty.FnTy.{FnTy}
use Rattle.c_types.specs.declared.ty.Ty.{Ty}
use Rattle.c_typed.specs.declared.entity.BuiltIn.{BuiltIn}
use Rattle.core_ir.specs.declared.instr.Instr.{Instr}
use Rattle.core_ir.specs.Parts.{HasPart}
use Rattle.core_ir.specs.Valid.{TouchesFit, access_type}
use Rattle.elab_rows.specs.Addresses.{Lvalue, assigned, loaded, pointing, struct_assigned, updated, with_old_value}
use Rattle.elab_rows.specs.Calls.{built_in_code, call_code, indirect_code}
use Rattle.elab_rows.specs.Choices.{and_code, conditional_code, or_code}
use Rattle.elab_rows.specs.Made.{Code, combined, converted, extended, followed, nothing, single}
use Rattle.elab_laws.specs.Touching.{AreTouching, HasParts, IsTouched, IsTouching}

pub record TouchingRows (defs : List StructDef) : Type 0 where
  -- it is what valid bodies ask
  pub means : (code : List Instr) → IsTouched defs code → TouchesFit defs code
  pub append : (c d : List Instr) → IsTouched defs c → IsTouched defs d → IsTouched defs (c ++ d)
  pub nothing : IsTouching defs nothing
  pub single : (i : ℕ → Instr) → ((d : ℕ) → access_type (i d) ≡ None) → IsTouching defs (single i)
  pub extended :
      (i : ℕ → ℕ → Instr) (a : Code)
      → ((d x : ℕ) → access_type (i d x) ≡ None)
      → IsTouching defs a
      → IsTouching defs (extended i a)
  pub followed :
      (i : ℕ → Instr) (a : Code)
      → ((x : ℕ) → access_type (i x) ≡ None)
      → IsTouching defs a
      → IsTouching defs (followed i a)
  pub combined :
      (i : ℕ → ℕ → ℕ → Instr) (a b : Code)
      → ((d x y : ℕ) → access_type (i d x y) ≡ None)
      → IsTouching defs a
      → IsTouching defs b
      → IsTouching defs (combined i a b)
  pub converted : (from to : Ty) (a : Code) → IsTouching defs a → IsTouching defs (converted from to a)
  pub load : (x : Lvalue) → HasPart defs x.root x.ty → IsTouching defs x.address → IsTouching defs (loaded x)
  pub pointing : (root target : Ty) (a : Code) → IsTouching defs a → IsTouching defs (pointing root target a)
  pub assigned :
      (x : Lvalue) (v : Code)
      → HasPart defs x.root x.ty
      → IsTouching defs v
      → IsTouching defs x.address
      → IsTouching defs (assigned x v)
  pub updated :
      (x : Lvalue) (new : Code → Code)
      → HasPart defs x.root x.ty
      → IsTouching defs (new (loaded x))
      → IsTouching defs (updated x new)
  pub old_value : (old a : Code) → IsTouching defs a → IsTouching defs (with_old_value old a)
  pub struct_assigned :
      (parts : List Ty) (to from : Lvalue)
      → HasParts defs from.root parts
      → HasParts defs to.root parts
      → IsTouching defs from.address
      → IsTouching defs to.address
      → IsTouching defs (struct_assigned parts to from)
  pub both : (a b : Code) → IsTouching defs a → IsTouching defs b → IsTouching defs (and_code a b)
  pub either : (a b : Code) → IsTouching defs a → IsTouching defs b → IsTouching defs (or_code a b)
  pub conditional :
      (c a b : Code)
      → IsTouching defs c
      → IsTouching defs a
      → IsTouching defs b
      → IsTouching defs (conditional_code c a b)
  pub call : (f : ℕ) (gives : Bool) (cs : List Code) → AreTouching defs cs → IsTouching defs (call_code f gives cs)
  pub indirect :
      (t : FnTy) (gives : Bool) (c : Code) (cs : List Code)
      → IsTouching defs c
      → AreTouching defs cs
      → IsTouching defs (indirect_code t gives c cs)
  pub built_in : (b : BuiltIn) (cs : List Code) → AreTouching defs cs → IsTouching defs (built_in_code b cs)

abbrev pub RowsTouch : Type 0
RowsTouch = (defs : List StructDef) → TouchingRows defs
