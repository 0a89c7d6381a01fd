-- No program has two codes.
use Rattle.std.proofs.Common.{◌≡◌, ◌∙◌, ℕ, Bool, true, false, IsTrue, map, refl, sym, ap, subst}
use Rattle.c_types.specs.declared.ty.Ty.{Ty}
use Rattle.core_ir.specs.declared.instr.Instr.{Instr}
use Rattle.core_ir.specs.declared.program.Function.{Function}
use Rattle.core_ir.specs.declared.program.Local.{Local}
use Rattle.core_ir.specs.declared.program.Program.{Program}
use Rattle.core_ir.specs.Instructions.{outline_of, role_of}
use Rattle.sensitivity.specs.declared.class.Class.{Class}
use Rattle.sensitivity.specs.Theorems.{ClassesAreUnique}
use Rattle.machine.specs.declared.code.Code.{Code}
use Rattle.machine.specs.declared.code.CodeFunction.{CodeFunction}
use Rattle.machine.specs.declared.code.CodeLocal.{CodeLocal}
use Rattle.machine.specs.declared.code.CodePlace.{CodePlace}
use Rattle.machine.specs.Stands.{FunctionStands, IsUnitOf, LocalStands, PlaceStands, Stands, accessed, safe_units}
use Rattle.code_laws.specs.Theorems.{ProgramsHaveOneCode}
use Rattle.code_laws.proofs.Lists.{same_lists}
use Rattle.code_laws.proofs.Units.{one_unit}
use Rattle.code_laws.proofs.Decisions.{same_code}

same_bool : (a b : Bool) → (IsTrue a → IsTrue b) → (IsTrue b → IsTrue a) → a ≡ b
same_bool true true there back = refl
same_bool true false there back = sym (there refl)
same_bool false true there back = back refl
same_bool false false there back = refl

one_local : {f : Function} {v : ℕ} {l : Local} {c d : CodeLocal} → LocalStands f v l c → LocalStands f v l d → c ≡ d
one_local {f} {v} {l} {c} {d} a b =
    let offset : c.offset ≡ d.offset = a.offset ∙ sym b.offset in
    let units : c.units ≡ d.units = a.units ∙ sym b.units in
    let safe : c.safe ≡ d.safe = same_bool c.safe d.safe (λ x. b.safe.1 (a.safe.0 x)) (λ x. a.safe.1 (b.safe.0 x)) in
    λ t. record { offset = offset t; units = units t; safe = safe t }

module _ (program : Program) (class other_class : Ty → Class) (classes : class ≡ other_class) (f : Function) (c d : CodeFunction) where
  one_place :
      (k : ℕ) (i : Instr) (p q : CodePlace)
      → c.locals ≡ d.locals
      → PlaceStands program class f c k i p
      → PlaceStands program other_class f d k i q
      → p ≡ q
  one_place k i p q locals a b =
      let is_unit = subst (λ ls. IsUnitOf (map outline_of f.body) ls k (accessed (role_of i)) b.unit) (sym locals) b.is_unit in
      let unit : a.unit ≡ b.unit = one_unit (map outline_of f.body) c.locals k (accessed (role_of i)) a.unit b.unit a.is_unit is_unit in
      a.is ∙ same_code program f (map outline_of f.body) k class other_class a.unit b.unit a.origin b.origin classes unit i a.is_origin b.is_origin ∙ sym b.is

  module _ (a : FunctionStands program class f c) (b : FunctionStands program other_class f d) where
    locals_are : c.locals ≡ d.locals
    locals_are = same_lists f.locals c.locals d.locals a.local_count b.local_count
        (λ v l x y there is other. one_local (a.locals v l x there is) (b.locals v l y there other))

    body_is : c.body ≡ d.body
    body_is = same_lists f.body c.body d.body a.place_count b.place_count
        (λ k i p q there is other. one_place k i p q locals_are (a.places k i p there is) (b.places k i q there other))

    one_function : c ≡ d
    one_function =
        let type : c.ty ≡ d.ty = a.type ∙ sym b.type in
        let registers : c.registers ≡ d.registers = a.registers ∙ sym b.registers in
        let slots : c.slots ≡ d.slots = a.slots ∙ sym b.slots in
        let safe : c.safe_units ≡ d.safe_units = a.safe_units ∙ ap safe_units locals_are ∙ sym b.safe_units in
        let frame : c.frame_units ≡ d.frame_units = a.frame_units ∙ sym b.frame_units in
        λ t. record {
          ty = type t;
          registers = registers t;
          slots = slots t;
          locals = locals_are t;
          safe_units = safe t;
          frame_units = frame t;
          body = body_is t;
        }

module _ (unique : ClassesAreUnique) (program : Program) (c d : Code) (a : Stands c program) (b : Stands d program) where
  classes_are : a.class ≡ b.class
  classes_are = λ t ty. unique program.structs ty (a.class ty) (b.class ty) (a.classes ty) (b.classes ty) t

  functions_are : c.functions ≡ d.functions
  functions_are = same_lists program.functions c.functions d.functions a.function_count b.function_count
      (λ n f x y there is other. one_function program a.class b.class classes_are f x y (a.functions n f x there is) (b.functions n f y there other))

pub programs_have_one_code : ClassesAreUnique → ProgramsHaveOneCode
programs_have_one_code unique program c d a b =
    let functions = functions_are unique program c d a b in
    let entry : c.entry ≡ d.entry = a.entry ∙ sym b.entry in
    λ t. record { functions = functions t; entry = entry t }
