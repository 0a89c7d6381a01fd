-- How variables lie: globals from address 128, a function's locals from offset 0, without gaps.
use Rattle.std.specs.Prelude.{◌≡◌, ℕ, ◌+◌, ◌≤◌, IsTrue, List, [], ◌∷◌, length, Ok}
use Rattle.c_types.specs.declared.structs.StructDef.{StructDef}
use Rattle.c_types.specs.declared.ty.Ty.{Ty}
use Rattle.c_types.specs.Sound.{names_below}
use Rattle.c_types.specs.Units.{units_of}
use Rattle.core_ir.specs.declared.program.GlobalVar.{GlobalVar}
use Rattle.core_ir.specs.declared.program.Local.{Local}

abbrev pub first_address : ℕ
first_address = 128

-- a variable of this type and so many units stands at a place, where it should
pub record Lies (defs : List StructDef) (should place : ℕ) (t : Ty) (units : ℕ) : Type 0 where
  pub at : place ≡ should
  pub laid_out : units_of defs t ≡ Ok units
  pub names : IsTrue (names_below (length defs) t)

-- each global follows the one before
abbrev pub GlobalsLie : List StructDef → ℕ → List GlobalVar → Type 0
GlobalsLie defs at [] = Unit {0}
GlobalsLie defs at (g ∷ gs) =
    Lies defs at g.address g.ty g.units
    × GlobalsLie defs (at + g.units) gs

-- each local follows the one before, and has at least one unit
abbrev pub LocalsLie : List StructDef → ℕ → List Local → Type 0
LocalsLie defs at [] = Unit {0}
LocalsLie defs at (v ∷ vs) =
    Lies defs at v.offset v.ty v.units
    × (1 ≤ v.units)
    × LocalsLie defs (at + v.units) vs

abbrev pub global_units : List GlobalVar → ℕ
global_units [] = 0
global_units (g ∷ gs) = g.units + global_units gs

abbrev pub local_units : List Local → ℕ
local_units [] = 0
local_units (v ∷ vs) = v.units + local_units vs
