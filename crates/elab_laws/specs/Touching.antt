-- Code in which each access has the type of the touch before it, or that of a part. It begins with no access.
use Rattle.std.specs.Prelude.{◌≡◌, ℕ, List, [], ◌∷◌, Some, None}
use Rattle.c_types.specs.declared.structs.StructDef.{StructDef}
use Rattle.c_types.specs.declared.ty.Ty.{Ty}
use Rattle.core_ir.specs.declared.instr.Instr.{Instr}
use Rattle.core_ir.specs.Parts.{HasPart}
use Rattle.core_ir.specs.Valid.{access_type, touch_type}
use Rattle.elab_rows.specs.Made.{Code}

-- an access may stand behind the instruction
abbrev pub MayPrecede : List StructDef → Instr → List Instr → Type 0
MayPrecede defs i [] = Unit {0}
MayPrecede defs i (j ∷ is) =
    (whole part : Ty) → touch_type i ≡ Some whole → access_type j ≡ Some part → HasPart defs whole part

abbrev pub AreTouched : List StructDef → List Instr → Type 0
AreTouched defs [] = Unit {0}
AreTouched defs (i ∷ is) = MayPrecede defs i is × AreTouched defs is

-- no access comes first
abbrev pub Opens : List Instr → Type 0
Opens [] = Unit {0}
Opens (i ∷ is) = access_type i ≡ None

pub record IsTouched (defs : List StructDef) (code : List Instr) : Type 0 where
  pub each : AreTouched defs code
  pub opens : Opens code

abbrev pub IsTouching : List StructDef → Code → Type 0
IsTouching defs c = (place register slot : ℕ) → IsTouched defs (c place register slot).code

abbrev pub AreTouching : List StructDef → List Code → Type 0
AreTouching defs [] = Unit {0}
AreTouching defs (c ∷ cs) = IsTouching defs c × AreTouching defs cs

-- the root has each of these as a part
abbrev pub HasParts : List StructDef → Ty → List Ty → Type 0
HasParts defs root [] = Unit {0}
HasParts defs root (t ∷ ts) = HasPart defs root t × HasParts defs root ts
