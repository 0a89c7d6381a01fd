-- The global variables and strings of a typed source, and where they lie.
use Rattle.std.specs.Prelude.{ℕ, ◌+◌, List, [], ◌∷◌, ◌++◌, length, map, Option}
use Rattle.c_types.specs.declared.structs.StructDef.{StructDef}
use Rattle.c_types.specs.declared.ty.Ty.{Ty}
use Rattle.c_types.specs.declared.ty.Ty.TheVariants as ty
use Rattle.c_typed.specs.declared.entity.Entity.{Entity}
use Rattle.c_typed.specs.declared.entity.Entity.TheVariants as entity
use Rattle.c_typed.specs.declared.expression.Declared.{out-Declared}
use Rattle.c_typed.specs.declared.statement.TypedInit.{TypedInit}
use Rattle.c_typed.specs.declared.statement.TypedInitDeclarator.{TypedInitDeclarator}
use Rattle.c_typed.specs.declared.unit.Typed.{Typed}
use Rattle.c_typed.specs.declared.unit.TypedItem.{TypedItem}
use Rattle.c_typed.specs.declared.unit.TypedItem.TheVariants as item
use Rattle.core_ir.specs.declared.program.GlobalVar.{GlobalVar}
use Rattle.core_ir.specs.Layout.{first_address}
use Rattle.elab_rows.specs.Units.{units}

-- a global variable: its type, and its initialiser, if it has one
pub record Global : Type 0 where
  pub ty : Ty
  pub init : Option TypedInit

abbrev pub with_global : TypedInitDeclarator → Entity → List Global → List Global
with_global d (entity.Global n) gs = record { ty = (out-Declared d.declared).ty; init = d.init } ∷ gs
with_global d _ gs = gs

abbrev pub declared_globals : List TypedInitDeclarator → List Global → List Global
declared_globals [] gs = gs
declared_globals (d ∷ ds) gs = with_global d d.entity (declared_globals ds gs)

-- the global variables, in order of declaration
abbrev pub globals : List TypedItem → List Global
globals [] = []
globals (item.Decl d ∷ is) = declared_globals d.declarators (globals is)
globals (i ∷ is) = globals is

-- the type of a string's object
abbrev pub string_type : List ℕ → Ty
string_type bytes = ty.Array ty.Char (length bytes + 1)

abbrev pub global_at : List StructDef → ℕ → Ty → GlobalVar
global_at defs at t = record { ty = t; address = at; units = units defs t }

-- variables of these types, one behind the other from an address on
abbrev pub laid_out : List StructDef → ℕ → List Ty → List GlobalVar
laid_out defs at [] = []
laid_out defs at (t ∷ ts) = global_at defs at t ∷ laid_out defs (at + units defs t) ts

-- global variables, and strings behind them
unfoldable pub global_list : Typed → List GlobalVar
global_list typed =
    laid_out typed.structs first_address (map (λ g. g.ty) (globals typed.items) ++ map string_type typed.strings)
