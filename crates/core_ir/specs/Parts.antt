-- The types that stand in a type: its elements, its members, and theirs.
use Rattle.std.specs.Prelude.{◌≡◌, ℕ, List, Contains, Some}
use Rattle.c_types.specs.declared.structs.Member.{Member}
use Rattle.c_types.specs.declared.structs.StructDef.{StructDef}
use Rattle.c_types.specs.declared.ty.Ty.{Ty}
use Rattle.c_types.specs.declared.ty.Ty.TheVariants as ty
use Rattle.c_types.specs.Structs.{body_of}

-- the second type is the first, or a part of it through elements and members
pub data HasPart (defs : List StructDef) : Ty → Ty → Type 0 where
  whole : (t : Ty) → HasPart defs t t
  element : (t x : Ty) (n : ℕ) → HasPart defs t x → HasPart defs (ty.Array t n) x
  member :
      (s : ℕ) (ms : List Member) (m : Member) (x : Ty)
      → body_of defs s ≡ Some ms
      → Contains ms m
      → HasPart defs m.ty x
      → HasPart defs (ty.Struct s) x
