-- Functions and programs, from their parts.
use Rattle.std.proofs.Common.{◌≡◌, List, length}
use Rattle.c_types.specs.declared.ty.Ty.{Ty}
use Rattle.core_ir.specs.declared.program.Function.{Function}
use Rattle.core_ir.specs.declared.program.Program.{Program}
use Rattle.sensitivity.specs.Classes.{AreClasses, HasClass}
use Rattle.sensitivity.specs.Theorems.{TypesHaveClasses}
use Rattle.sensitivity.specs.declared.class.Class.{Class}
use Rattle.machine.specs.declared.code.Code.{Code}
use Rattle.machine.specs.declared.code.CodeFunction.{CodeFunction}
use Rattle.machine.specs.Stands.{Stands, safe_units}
use Rattle.icode.specs.Sites.{LocalsStand}
use Rattle.instrument.specs.inner.Places.{AreMade, AreStanding, StandsBy}

-- the parts of a function's code
pub function_stands : (program : Program) (f : Function) (classes : List Class) (c : CodeFunction)
    → c.ty ≡ f.ty → c.registers ≡ f.registers → c.slots ≡ f.slots → c.frame_units ≡ f.frame_units → c.safe_units ≡ safe_units c.locals
    → LocalsStand f c.locals → AreMade program f classes c.locals (length f.body) c.body → StandsBy program classes f c
function_stands program f classes c ty registers slots frame_units safe locals made class are = record {
  type = ty;
  registers = registers;
  slots = slots;
  frame_units = frame_units;
  safe_units = safe;
  local_count = locals.count;
  locals = locals.each;
  place_count = made.count;
  places = λ k i place there is.
      let at = made.each k i place there is in
      record { unit = at.site.unit; origin = at.site.origin; is_unit = at.is_site.unit; is_origin = at.is_site.origin; is = at.is class are };
}

pub program_stands : (program : Program) (classes : List Class) (code : Code)
    → TypesHaveClasses → AreClasses program.structs classes → code.entry ≡ program.entry → AreStanding program classes (length program.functions) code.functions → Stands code program
program_stands program classes code law are entry standing =
    let class : Ty → Class = λ t. (law program.structs classes are t).0 in
    let each : (t : Ty) → HasClass program.structs t (class t) = λ t. (law program.structs classes are t).1 in
    record {
      class = class;
      classes = each;
      entry = entry;
      function_count = standing.count;
      functions = λ n f c there is. standing.each n f c there is class (record { table = are; each = each });
    }
