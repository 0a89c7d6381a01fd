-- What the levels of a typed source are compared with.
use Rattle.std.specs.Prelude.{ℕ, Bool, if◌then◌else◌, List, [], ◌∷◌, Option, Some, None, slice_get}
use Rattle.std.specs.Option.{option_map}
use Rattle.std.specs.Str.{bytes_eq}
use Rattle.c_types.specs.declared.structs.StructDef.{StructDef}
use Rattle.c_types.specs.declared.ty.FnTy.{FnTy}
use Rattle.c_types.specs.declared.ty.Ty.{Ty}
use Rattle.c_typed.specs.declared.unit.Local.{Local}

abbrev pub Name : Type 0
Name = List ℕ

-- the name and the type of a function that is defined
pub record Signature : Type 0 where
  pub name : Name
  pub ty : FnTy

-- a whole source, and the function that a level stands in
pub record Context : Type 0 where
  pub structs : List StructDef
  -- in order of their definitions
  pub functions : List Signature
  -- the types of the global variables, in order of declaration
  pub globals : List Ty
  -- the bytes of each string object
  pub strings : List (List ℕ)
  -- the parameters and variables of the function, none outside functions
  pub locals : List Local
  -- what the function returns
  pub result : Ty

-- the type of the function of this name that is defined
abbrev pub defined_as : List Signature → Name → Option FnTy
defined_as [] x = None
defined_as (s ∷ ss) x = if bytes_eq s.name x then Some s.ty else defined_as ss x

abbrev pub global_type : Context → ℕ → Option Ty
global_type k n = slice_get k.globals n

abbrev pub local_type : Context → ℕ → Option Ty
local_type k n = option_map (λ l. l.ty) (slice_get k.locals n)

-- whether the address of this local is taken
abbrev pub local_addressed : Context → ℕ → Option Bool
local_addressed k n = option_map (λ l. l.is_addressed) (slice_get k.locals n)
