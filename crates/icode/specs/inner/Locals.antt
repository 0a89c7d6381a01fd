-- The locals of a function of code: its frame, and tables by their numbers.
use Rattle.std.specs.Prelude.{◌≡◌, ◌<◌, ℕ, Bool, false, List, Some, IfSome, length, slice_get, slice_index, slice_index_or, take}
use Rattle.core_ir.specs.Flow.{Stands}
use Rattle.core_ir.specs.Outline.{Outline}
use Rattle.machine.specs.declared.code.CodeFunction.{CodeFunction}
use Rattle.machine.specs.declared.code.CodeLocal.{CodeLocal}
use Rattle.machine.specs.Stands.{safe_units}
use Rattle.machine.specs.Stands as stands
use Rattle.machine.specs.ValidCode.{CodeLocalsLie, code_local_units}

abbrev pub safe_part : CodeLocal → ℕ
safe_part = stands.safe_part

-- the frame is the locals, one behind the other, and the safe units are those of the safe ones
pub record AreFramed (f : CodeFunction) : Type 0 where
  pub lie : CodeLocalsLie 0 f.locals
  pub frame_is_its_locals : f.frame_units ≡ code_local_units f.locals
  pub safe_units_are : f.safe_units ≡ safe_units f.locals

-- the table has the units of each local
abbrev pub AreUnits : List CodeLocal → List ℕ → Type 0
AreUnits locals units = (v : ℕ) (l : CodeLocal) → slice_get locals v ≡ Some l → slice_get units v ≡ Some l.units

-- the table has for each local the units of the safe ones before it
abbrev pub AreUnitsBefore : List CodeLocal → List ℕ → Type 0
AreUnitsBefore locals before = (v : ℕ) → v < length locals → slice_index before v ≡ safe_units (take v locals)

-- the marks are these
abbrev pub MarksAre : List CodeLocal → List Bool → Type 0
MarksAre locals safe = (v : ℕ) (l : CodeLocal) → slice_get locals v ≡ Some l → l.safe ≡ slice_index_or safe v false

-- no instruction defines a register past the most that a function may have
abbrev pub DefinesFew : List Outline → Type 0
DefinesFew code = (u : ℕ) (i : Outline) → Stands code 0 u i → IfSome i.defined (λ d. d < 1024)
