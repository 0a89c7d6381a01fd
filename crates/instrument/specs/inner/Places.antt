-- The code of a body as it is made, whatever function gives the classes of types.
use Rattle.std.specs.Prelude.{◌≡◌, ℕ, Bool, not, List, length, map, Option, Some, slice_get}
use Rattle.c_types.specs.declared.structs.StructDef.{StructDef}
use Rattle.c_types.specs.declared.ty.Ty.{Ty}
use Rattle.c_types.specs.declared.ty.Ty.TheVariants as ty
use Rattle.core_ir.specs.declared.instr.Instr.{Instr}
use Rattle.core_ir.specs.declared.program.Function.{Function}
use Rattle.core_ir.specs.declared.program.GlobalVar.{GlobalVar}
use Rattle.core_ir.specs.declared.program.Local.{Local}
use Rattle.core_ir.specs.declared.program.Program.{Program}
use Rattle.core_ir.specs.Instructions.{outline_of}
use Rattle.sensitivity.specs.Classes.{AreClasses, HasClass}
use Rattle.sensitivity.specs.declared.class.Class.{Class}
use Rattle.machine.specs.declared.code.CodeFunction.{CodeFunction}
use Rattle.machine.specs.declared.code.CodeLocal.{CodeLocal}
use Rattle.machine.specs.declared.code.CodePlace.{CodePlace}
use Rattle.machine.specs.Decided.{Context, decided, global_code, is_regular, local_code}
use Rattle.machine.specs.Stands.{FunctionStands, LocalStands}
use Rattle.icode.specs.declared.site.Site.{Site}
use Rattle.icode.specs.Sites.{IsSite}

-- the table is that of these structs, and the function gives the class of each type
pub record AreClassesOf (defs : List StructDef) (classes : List Class) (class : Ty → Class) : Type 0 where
  pub table : AreClasses defs classes
  pub each : (t : Ty) → HasClass defs t (class t)

-- pointers to a variable of this type keep its bounds
abbrev pub keeps : (Ty → Class) → Ty → Bool
keeps class t = not (is_regular (class (ty.Pointer t)))

-- what is known of a place with this site
abbrev pub context : Program → Function → (Ty → Class) → Site → Context
context program f class site = record {
  program = program;
  function = f;
  class = class;
  unit = site.unit;
  origin = site.origin;
}

-- the code of the instruction at a place with this site
abbrev pub IsDecided : Program → Function → List Class → Site → Instr → CodePlace → Type 0
IsDecided program f classes site i place =
    (class : Ty → Class)
    → AreClassesOf program.structs classes class
    → place ≡ decided (context program f class site) i

-- the code of a variable's address, whatever function gives the classes
abbrev pub IsGlobal : List Class → ℕ → ℕ → Option GlobalVar → CodePlace → Type 0
IsGlobal classes d g o place =
    (x : Context) → AreClassesOf x.program.structs classes x.class → place ≡ global_code x d g o

abbrev pub IsLocal : List Class → ℕ → ℕ → Option Local → CodePlace → Type 0
IsLocal classes d v o place =
    (x : Context) → AreClassesOf x.program.structs classes x.class → place ≡ local_code x d v o

-- the code at place k
pub record IsMade
    (program : Program) (f : Function) (classes : List Class) (locals : List CodeLocal) (k : ℕ) (i : Instr)
    (place : CodePlace)
    : Type 0 where
  pub site : Site
  pub is_site : IsSite (map outline_of f.body) locals k (outline_of i).role site
  pub is : IsDecided program f classes site i place

-- one place for each of the first so many instructions
pub record AreMade
    (program : Program) (f : Function) (classes : List Class) (locals : List CodeLocal) (upto : ℕ)
    (places : List CodePlace)
    : Type 0 where
  pub count : length places ≡ upto
  pub each :
      (k : ℕ) (i : Instr) (place : CodePlace)
      → slice_get f.body k ≡ Some i
      → slice_get places k ≡ Some place
      → IsMade program f classes locals k i place

-- these stand for the first so many locals of a function
pub record StandUpto (f : Function) (upto : ℕ) (locals : List CodeLocal) : Type 0 where
  pub count : length locals ≡ upto
  pub each :
      (v : ℕ) (l : Local) (m : CodeLocal)
      → slice_get f.locals v ≡ Some l
      → slice_get locals v ≡ Some m
      → LocalStands f v l m

-- the code of a function stands for it
abbrev pub StandsBy : Program → List Class → Function → CodeFunction → Type 0
StandsBy program classes f c =
    (class : Ty → Class) → AreClassesOf program.structs classes class → FunctionStands program class f c

-- so does that of each of the first so many functions
pub record AreStanding (program : Program) (classes : List Class) (upto : ℕ) (functions : List CodeFunction)
    : Type 0 where
  pub count : length functions ≡ upto
  pub each :
      (n : ℕ) (f : Function) (c : CodeFunction)
      → slice_get program.functions n ≡ Some f
      → slice_get functions n ≡ Some c
      → StandsBy program classes f c
