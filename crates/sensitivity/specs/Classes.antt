-- The class of each type, by what it points to.
use Rattle.std.specs.Prelude.{◌≡◌, ℕ, false, IsTrue, List, Some, slice_index_or}
use Rattle.c_types.specs.declared.structs.StructDef.{StructDef}
use Rattle.c_types.specs.declared.ty.Ty.{Ty}
use Rattle.c_types.specs.declared.ty.Ty.TheVariants as ty
use Rattle.c_types.specs.Kinds.{target_of}
use Rattle.sensitivity.specs.declared.class.Class.{Class}
use Rattle.sensitivity.specs.declared.class.Class.TheVariants as class
use Rattle.sensitivity.specs.Holds.{Holds, is_code_pointer, is_universal}

-- a pointer to a type that holds code pointers
pub record PointsToHolder (defs : List StructDef) (t : Ty) : Type 0 where
  pub target : Ty
  pub is : target_of t ≡ Some target
  pub holds : Holds defs target

-- neither a pointer to a function nor one to anything
pub record IsTyped (defs : List StructDef) (t : Ty) : Type 0 where
  pub no_code : is_code_pointer t ≡ false
  pub no_universal : is_universal defs t ≡ false

-- a type has this class: pointers to functions are code, those to anything universal, other pointers to what holds
-- code pointers sensitive, and all else is regular
abbrev pub HasClass : List StructDef → Ty → Class → Type 0
HasClass defs t class.Code = IsTrue (is_code_pointer t)
HasClass defs t class.Universal = (is_code_pointer t ≡ false) × IsTrue (is_universal defs t)
HasClass defs t class.Sensitive = IsTyped defs t × PointsToHolder defs t
HasClass defs t class.Regular = IsTyped defs t × (PointsToHolder defs t → ⊥)

-- ---- tables of classes

-- the class of a pointer to a struct, as a table has it; a struct that no table has has no body
abbrev pub class_at : List Class → ℕ → Class
class_at classes s = slice_index_or classes s class.Universal

-- the table has the class of a pointer to each struct
abbrev pub AreClasses : List StructDef → List Class → Type 0
AreClasses defs classes = (s : ℕ) → HasClass defs (ty.Pointer (ty.Struct s)) (class_at classes s)
