-- Code that stands for a valid program is valid.
use Rattle.std.proofs.Common.{◌≡◌, ◌∙◌, ℕ, suc, All, List, length, map, nat_lt, Some, slice_get, refl, sym, ap, subst, arith}
use Rattle.std.specs.Option.{option_map}
use Rattle.std.proofs.lemmas.Option.{same_Some, slice_get-map}
use Rattle.c_types.specs.declared.ty.FnTy.{FnTy, out-FnTy}
use Rattle.core_ir.specs.declared.instr.Instr.{Instr}
use Rattle.core_ir.specs.declared.program.Function.{Function}
use Rattle.core_ir.specs.declared.program.Local.{Local}
use Rattle.core_ir.specs.declared.program.Program.{Program}
use Rattle.core_ir.specs.declared.role.Role.TheVariants as role
use Rattle.core_ir.specs.Flow.{HasRole, Stands as StandsAt}
use Rattle.core_ir.specs.Instructions.{outline_of, role_of}
use Rattle.core_ir.specs.Order.{IsWellFormed}
use Rattle.core_ir.specs.Outline.{Outline}
use Rattle.core_ir.specs.SafeLocal.{IsSafe}
use Rattle.core_ir.specs.Valid.{IsInRange, IsValid, IsValidFunction, has_locals}
use Rattle.sensitivity.specs.Theorems.{ArraysAreAsTheirElements, ClassesAreUnique, HoldersAreSensitive, PointersHold}
use Rattle.machine.specs.declared.code.Code.{Code}
use Rattle.machine.specs.declared.code.CodeFunction.{CodeFunction}
use Rattle.machine.specs.declared.code.CodePlace.{CodePlace}
use Rattle.machine.specs.Decided.{Context}
use Rattle.machine.specs.Numbers.{is_kept}
use Rattle.machine.specs.Outlines.{outline_of_code}
use Rattle.machine.specs.Stands.{FunctionStands, IsOriginOf, IsUnitOf, PlaceStands, Stands, accessed}
use Rattle.machine.specs.ValidCode.{AreMarked, CodeFits, CodeHasEntry, CodeIsWithinLimits, IsSensitiveTouch, IsValidCodeFunction, SaysWhere, TouchesAreSensitive, ValidCode, access_kind}
use Rattle.icode.specs.Theorems.{StandingCodeIsValid}
use Rattle.icode.proofs.Lists.{all_at, all_from, there_too}
use Rattle.icode.proofs.SameOutlines.{same_outline, same_outlines}
use Rattle.icode.proofs.LocalsStand.{LieAlike, locals_lie, units_alike}
use Rattle.icode.proofs.RangesStand.{code_fits}
use Rattle.icode.proofs.SensitiveTouches.{access_behind, access_of, sensitive_touch, touch_of}
use Rattle.icode.proofs.PlacesSay.{place_says}

-- what stands at a place of a list of outlines, read from place 0
stands_at : (outlines : List Outline) (k : ℕ) (i : Outline) → slice_get outlines k ≡ Some i → StandsAt outlines 0 k i
stands_at outlines k i is = record { from = omega arith; there = ap (λ n. slice_get outlines n) (omega arith) ∙ is }

at_place : {outlines : List Outline} {k : ℕ} {i : Outline} → StandsAt outlines 0 k i → slice_get outlines k ≡ Some i
at_place {outlines} {k} {i} s = ap (λ n. slice_get outlines n) (omega arith) ∙ s.there

mapped : (body : List Instr) (k : ℕ) (i : Instr) → slice_get body k ≡ Some i → slice_get (map outline_of body) k ≡ Some (outline_of i)
mapped body k i is = slice_get-map outline_of body k ∙ ap (λ o. option_map outline_of o) is

module _ (unique : ClassesAreUnique) (hold : PointersHold) (arrays : ArraysAreAsTheirElements) (holders : HoldersAreSensitive)
    (program : Program) (code : Code) (valid : IsValid program) (stands : Stands code program) where
  module _ (f : Function) (c : CodeFunction) (is_valid : IsValidFunction program f) (same : FunctionStands program stands.class f c) where
    -- the context of a place
    abbrev context : (k : ℕ) (i : Instr) (p : CodePlace) → PlaceStands program stands.class f c k i p → Context
    context k i p s = record { program = program; function = f; class = stands.class; unit = s.unit; origin = s.origin }

    -- the instruction at a place of the code, and what stands there
    abbrev At : ℕ → CodePlace → Type 0
    At k p = (i : Instr) × (slice_get f.body k ≡ Some i) × PlaceStands program stands.class f c k i p

    at : (k : ℕ) (p : CodePlace) → slice_get c.body k ≡ Some p → At k p
    at k p is =
        let there = there_too f.body c.body same.place_count k p is in
        (there.0, there.1, same.places k there.0 p there.1 is)

    outlines_are : map outline_of_code c.body ≡ map outline_of f.body
    outlines_are = same_outlines f.body c.body same.place_count (λ k i p there is.
        let s = same.places k i p there is in
        ap outline_of_code s.is ∙ same_outline (context k i p s) i)

    parameters_are : length (out-FnTy c.ty).params ≡ length (out-FnTy f.ty).params
    parameters_are = ap (λ (t : FnTy). length (out-FnTy t).params) same.type

    within_limits : CodeIsWithinLimits c
    within_limits =
        let limits = is_valid.within_limits in
        record {
          parameters = omega (arith, parameters_are, limits.parameters);
          parameters_have_slots = omega (arith, parameters_are, limits.parameters_have_slots, same.slots);
          instructions = omega (arith, same.place_count, limits.instructions);
          registers = omega (arith, same.registers, limits.registers);
          slots = omega (arith, same.slots, limits.slots);
          frame_units = omega (arith, same.frame_units, limits.frame_units);
        }

    alike : LieAlike f.locals c.locals
    alike v l m there is = let s = same.locals v l m there is in (s.offset, s.units)

    marked : AreMarked c
    marked v m is =
        let there = there_too f.locals c.locals same.local_count v m is in
        let s = same.locals v there.0 m there.1 is in (
          λ yes.
              let safe = s.safe.0 yes in
              let units : safe.local.units ≡ m.units = ap (λ (l : Local). l.units) (same_Some safe.local there.0 (sym safe.there ∙ there.1)) ∙ sym s.units in
              subst (λ o. IsSafe o v m.units) (sym outlines_are) (subst (λ n. IsSafe (map outline_of f.body) v n) units safe.safe),
          λ safe.
              let here : IsSafe (map outline_of f.body) v there.0.units = subst (λ n. IsSafe (map outline_of f.body) v n) s.units (subst (λ o. IsSafe o v m.units) outlines_are safe) in
              s.safe.1 (record { local = there.0; there = there.1; safe = here }),
        )

    in_range : All (CodeFits code c) c.body
    in_range = all_from (CodeFits code c) c.body (λ k p is.
        let a = at k p is in
        let fits = (all_at (IsInRange program f) f.body is_valid.in_range k a.0 a.1).rest in
        subst (CodeFits code c) (sym a.2.is) (code_fits program code stands f c same valid.globals (context k a.0 p a.2) refl refl a.0 fits))

    well_formed : IsWellFormed c.registers c.slots (nat_lt 0 (length c.locals)) (map outline_of_code c.body)
    well_formed =
        subst (λ n. IsWellFormed n c.slots (nat_lt 0 (length c.locals)) (map outline_of_code c.body)) (sym same.registers)
        (subst (λ n. IsWellFormed f.registers n (nat_lt 0 (length c.locals)) (map outline_of_code c.body)) (sym same.slots)
        (subst (λ n. IsWellFormed f.registers f.slots (nat_lt 0 n) (map outline_of_code c.body)) (sym same.local_count)
        (subst (λ o. IsWellFormed f.registers f.slots (has_locals f) o) (sym outlines_are) is_valid.well_formed)))

    touched : TouchesAreSensitive c.body
    touched k t a kind touch_is access_is of_kind kept =
        let x = at k t touch_is in
        let y = at (suc k) a access_is in
        let context_of = context (suc k) y.0 a y.2 in
        let access = access_of context_of y.0 kind (ap access_kind (sym y.2.is) ∙ of_kind) in
        let outlines = map outline_of f.body in
        let here : StandsAt outlines 0 (suc k) (outline_of y.0) = stands_at outlines (suc k) (outline_of y.0) (mapped f.body (suc k) y.0 y.1) in
        let behind = access_behind y.0 access.0 outlines (suc k) access.1 (is_valid.well_formed.ordered.each (suc k) (outline_of y.0) here).fits in
        let before : behind.1.before ≡ k = omega (arith, behind.1.next) in
        let has : HasRole outlines 0 k (role.Touch behind.0) = subst (λ n. HasRole outlines 0 n (role.Touch behind.0)) before behind.1.there in
        let role_is : role_of x.0 ≡ role.Touch behind.0 =
        ap (λ (o : Outline). o.role) (same_Some (outline_of x.0) has.instruction (sym (mapped f.body k x.0 x.1) ∙ at_place has.there)) ∙ has.is in
        let touch = touch_of (context k x.0 t x.2) x.0 behind.0 role_is in
        let part = is_valid.touched k x.0 y.0 touch.type access.0 x.1 y.1 touch.of_type access.1 in
        subst IsSensitiveTouch (sym x.2.is)
        (sensitive_touch unique hold arrays holders program.structs (context k x.0 t x.2) x.0 access.0 touch stands.classes part (ap is_kept access.2 ∙ kept))

    places : (k : ℕ) (p : CodePlace) → slice_get c.body k ≡ Some p → SaysWhere c k p
    places k p is =
        let a = at k p is in
        subst (SaysWhere c k) (sym a.2.is) (place_says c k (context k a.0 p a.2) a.0
        (subst (λ o. IsUnitOf o c.locals k (accessed (role_of a.0)) a.2.unit) (sym outlines_are) a.2.is_unit)
        (subst (λ o. IsOriginOf o k (role_of a.0) a.2.origin) (sym outlines_are) a.2.is_origin))

    function_valid : IsValidCodeFunction code c
    function_valid = record {
      within_limits = within_limits;
      locals_lie = locals_lie program.structs 0 f.locals c.locals same.local_count alike is_valid.laid_out.locals_lie;
      frame_is_its_locals = same.frame_units ∙ is_valid.laid_out.frame_is_its_locals ∙ sym (units_alike f.locals c.locals same.local_count alike);
      safe_units_are = same.safe_units;
      marked = marked;
      in_range = in_range;
      well_formed = well_formed;
      touched = touched;
      places = places;
    }

  has_entry : CodeHasEntry code
  has_entry =
      let there = there_too code.functions program.functions (sym stands.function_count) program.entry valid.entry.entry valid.entry.there in
      let same = stands.functions program.entry valid.entry.entry there.0 valid.entry.there there.1 in
      record {
        entry = there.0;
        there = ap (λ n. slice_get code.functions n) stands.entry ∙ there.1;
        no_parameters = ap (λ (t : FnTy). (out-FnTy t).params) same.type ∙ valid.entry.no_parameters;
      }

  pub code_valid : ValidCode code
  code_valid = record {
    few_functions = omega (arith, stands.function_count, valid.few_functions);
    entry = has_entry;
    functions = all_from (IsValidCodeFunction code) code.functions (λ n c is.
        let there = there_too program.functions code.functions stands.function_count n c is in
        function_valid there.0 c (all_at (IsValidFunction program) program.functions valid.functions n there.0 there.1) (stands.functions n there.0 c there.1 is));
  }

pub standing_code_is_valid : ClassesAreUnique → PointersHold → ArraysAreAsTheirElements → HoldersAreSensitive → StandingCodeIsValid
standing_code_is_valid unique hold arrays holders program code valid stands = code_valid unique hold arrays holders program code valid stands
