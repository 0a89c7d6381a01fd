-- What holds of classes, in the language's own words.
use Rattle.std.specs.Prelude.{◌≡◌, ◌↔◌, ◌≢◌, ℕ, List, Contains, Some}
use Rattle.c_types.specs.declared.structs.Member.{Member}
use Rattle.c_types.specs.declared.structs.StructDef.{StructDef}
use Rattle.c_types.specs.declared.ty.Ty.{Ty}
use Rattle.c_types.specs.declared.ty.Ty.TheVariants as ty
use Rattle.c_types.specs.Kinds.{target_of}
use Rattle.c_types.specs.Structs.{body_of}
use Rattle.sensitivity.specs.declared.class.Class.{Class}
use Rattle.sensitivity.specs.declared.class.Class.TheVariants as class
use Rattle.sensitivity.specs.Holds.{Holds}
use Rattle.sensitivity.specs.Classes.{AreClasses, HasClass}

-- no type has two classes
abbrev pub ClassesAreUnique : Type 0
ClassesAreUnique =
    (defs : List StructDef) (t : Ty) (a b : Class)
    → HasClass defs t a
    → HasClass defs t b
    → a ≡ b

-- a pointer holds code pointers exactly where its class isn't regular
abbrev pub PointersHold : Type 0
PointersHold =
    (defs : List StructDef) (t target : Ty) (a : Class)
    → target_of t ≡ Some target
    → HasClass defs t a
    → Holds defs t ↔ (a ≢ class.Regular)

-- a pointer to an array has the class of a pointer to its element
abbrev pub ArraysAreAsTheirElements : Type 0
ArraysAreAsTheirElements =
    (defs : List StructDef) (element : Ty) (bound : ℕ) (a : Class)
    → HasClass defs (ty.Pointer (ty.Array element bound)) a ↔ HasClass defs (ty.Pointer element) a

-- each type has a class, where a table tells that of a pointer to each struct
abbrev pub TypesHaveClasses : Type 0
TypesHaveClasses =
    (defs : List StructDef) (classes : List Class)
    → AreClasses defs classes
    → (t : Ty) → (a : Class) × HasClass defs t a

-- pointers to what holds code pointers are sensitive, where that is a pointer itself, or a struct for a member's sake
pub record HoldersAreSensitive : Type 0 where
  pub pointer :
      (defs : List StructDef) (t target : Ty)
      → target_of t ≡ Some target
      → Holds defs t
      → HasClass defs (ty.Pointer t) class.Sensitive
  pub member :
      (defs : List StructDef) (s : ℕ) (ms : List Member) (m : Member)
      → body_of defs s ≡ Some ms
      → Contains ms m
      → Holds defs m.ty
      → HasClass defs (ty.Pointer (ty.Struct s)) class.Sensitive
