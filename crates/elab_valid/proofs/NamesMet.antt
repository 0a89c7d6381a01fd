-- Names, numbers and strings: what is made of them is as asked.
use Rattle.std.proofs.Common.{◌≡◌, ◌∙◌, ℕ, zero, suc, ℤ, ◌+◌, ◌<◌, true, false, List, [], ◌∷◌, length, Option, Some, None, option_map, is_some, unwrap_or, ◌≢◌, refl, ap, sym, subst, slice_get, arith}
use Rattle.std.proofs.lemmas.Option.{same_Some}
use Rattle.c_types.specs.declared.ty.FnTy.{FnTy}
use Rattle.c_types.specs.declared.ty.Ty.{Ty}
use Rattle.c_types.specs.declared.ty.Ty.TheVariants as ty
use Rattle.c_types.specs.Units.{has_units}
use Rattle.c_types.specs.Kinds.{decay, decay_at, is_function, is_function_at, is_integer, is_integer_at, is_scalar, is_struct, struct_at, struct_of}
use Rattle.c_typed.specs.declared.entity.BuiltIn.{BuiltIn}
use Rattle.c_typed.specs.declared.entity.Constant.{Constant}
use Rattle.c_typed.specs.declared.entity.Constant.TheVariants as constant
use Rattle.c_typed.specs.declared.entity.Entity.{Entity}
use Rattle.c_typed.specs.declared.entity.Entity.TheVariants as entity
use Rattle.c_typed.specs.declared.expression.TypedDirect.TheOpen.{TypedForm-F}
use Rattle.c_typed.specs.declared.unit.Local.{Local}
use Rattle.c_typed_rows.specs.Contexts.{Context}
use Rattle.c_typed_rows.specs.Expressions.{NameRow, TextRow}
use Rattle.core_ir.specs.declared.instr.Instr.TheVariants.{AddrF, AddrG, AddrL, GetLocal}
use Rattle.core_ir.specs.declared.program.Function.{Function}
use Rattle.core_ir.specs.declared.program.Program.{Program}
use Rattle.core_ir.specs.Typed.{plain_type}
use Rattle.core_ir.specs.Parts as parts
use Rattle.elab_rows.specs.declared.named.Named.{Named}
use Rattle.elab_rows.specs.declared.named.Named.TheVariants as named
use Rattle.elab_rows.specs.declared.scope.Scope.{Scope}
use Rattle.elab_rows.specs.declared.scope.Standing.{Standing}
use Rattle.elab_rows.specs.declared.scope.Standing.TheVariants as stands
use Rattle.elab_rows.specs.Addresses.{global_address, local_address}
use Rattle.elab_rows.specs.Made.{nothing}
use Rattle.elab_rows.specs.Rows.{function_name, number, slot_value, string}
use Rattle.elab_rows.specs.Scope.{function_number, standing_of}
use Rattle.elab_rows.specs.Values.{folded, local_name, made_of, name_address, name_value, no_lvalue, whole}
use Rattle.elab_laws.specs.Values.{IsGood}
use Rattle.elab_laws.specs.Theorems.{IsDone}
use Rattle.elab_valid.proofs.Names.{LocalFits, ScopeFits, StandingFits, local_type as frame_type, type_of_global}
use Rattle.elab_valid.proofs.HeldTypes as held
use Rattle.elab_valid.proofs.KeptRows as kept
use Rattle.elab_valid.proofs.ListPlaces.{at-length}
use Rattle.elab_valid.proofs.MetParts as met
use Rattle.elab_valid.proofs.MetParts.{GivesValue, InMemory, IsScalar, Laws, Names, PartMet, SlotIs, Slots, Sound, Valued}
use Rattle.elab_valid.proofs.NamedTypes.{int-named}
use Rattle.elab_valid.proofs.Operations.{int-scalar}
use Rattle.elab_valid.proofs.PartNodes.{node}
use Rattle.elab_valid.proofs.PlainTypes.{element-array, plain-pointers}
use Rattle.elab_valid.proofs.RegisterTypes as registers
use Rattle.elab_valid.proofs.RegisterTypes.{HasAt, Types}
use Rattle.elab_valid.proofs.Sources as source
use Rattle.elab_valid.proofs.Sources.{HasSource}
use Rattle.elab_valid.proofs.TypedRows as typing
use Rattle.elab_valid.proofs.TypeKinds.{ConstantFits, function-plain, out-Array, out-Function, out-Int, scalar-same}

pub int-integer : is_integer ty.Int ≡ true
unfolding is_integer
int-integer = ap is_integer_at out-Int

pub function-is : (t : Ty) (f : FnTy) → t ≡ ty.Function f → is_function t ≡ true
unfolding is_function
function-is t f e = ap is_function e ∙ ap is_function_at (out-Function f)

pub array-no_struct : (t : Ty) (n : ℕ) → is_struct (ty.Array t n) ≡ false
unfolding is_struct struct_of
array-no_struct t n = ap (λ o. is_some (struct_at o)) (out-Array t n)

function-decays : (t : Ty) (f : FnTy) → t ≡ ty.Function f → decay t ≡ ty.Pointer (ty.Function f)
unfolding decay
function-decays t f e = ap decay e ∙ ap (decay_at (ty.Function f)) (out-Function f)

array-decays : (t : Ty) (n : ℕ) → decay (ty.Array t n) ≡ ty.Pointer t
unfolding decay
array-decays t n = ap (decay_at (ty.Array t n)) (out-Array t n)

pub mapped : {A B : Type 0} (g : A → B) (o : Option A) (b : B) → option_map g o ≡ Some b → (a : A) × (o ≡ Some a) × (g a ≡ b)
mapped g None b e = absurd (cc)
mapped g (Some a) b e = (a, refl, same_Some (g a) b e)

pub other-fits : (c : Constant) (t : Ty) → c ≡ constant.Other → ConstantFits c t
other-fits c t e = subst (λ z. ConstantFits z t) (sym e) tt

module _ (laws : Laws) (p : Program) (f : Function) (k : Context) (scope : Scope) (fits : ScopeFits laws.known k scope p f) where
  -- ---- variables

  pub global-memory : (n : ℕ) (t : Ty) → n < length p.globals → type_of_global p n ≡ Some t → Names laws p f t → InMemory laws p f (whole (global_address n) t)
  global-memory n t lt is names = record {
    good = laws.rows.singles.global_address n;
    kept = kept.kept_string laws.fit laws.touch p f n lt;
    source = source.single_source laws.parts (λ d. AddrG d n) (λ d. refl) (λ d e. cc);
    root = names;
    ty = names;
    part = parts.whole t;
    typed = typing.single-typed p f (Slots laws p f) (λ d. AddrG d n) (ty.Pointer t) (λ d. refl) (λ slots b e d. (tt, ap (λ o. plain_type (ty.Pointer (unwrap_or o ty.Void))) is));
  }

  pub local-memory : (v : ℕ) (t : Ty) → v < length f.locals → frame_type f v ≡ Some t → Names laws p f t → InMemory laws p f (whole (local_address v) t)
  local-memory v t lt is names = record {
    good = laws.rows.singles.local_address v;
    kept = kept.kept_local laws.fit laws.touch p f v lt;
    source = source.single_source laws.parts (λ d. AddrL d v) (λ d. refl) (λ d e. cc);
    root = names;
    ty = names;
    part = parts.whole t;
    typed = typing.single-typed p f (Slots laws p f) (λ d. AddrL d v) (ty.Pointer t) (λ d. refl) (λ slots b e d. (tt, ap (λ o. plain_type (ty.Pointer (unwrap_or o ty.Void))) is));
  }

  pub slot-valued : (s : ℕ) (t : Ty) → SlotIs laws p f s t → Valued laws p f (slot_value s) t
  slot-valued s t is = typing.single-typed p f (Slots laws p f) (λ d. GetLocal d s) t (λ d. refl) (λ slots b e d. (tt, ap plain_type (is slots b)))

  slot-source : (s : ℕ) → HasSource (slot_value s)
  slot-source s = source.single_source laws.parts (λ d. GetLocal d s) (λ d. refl) (λ d e. cc)

  -- what the first slots have
  slot-at : (slots : Types) (m s : ℕ) (ts : List Ty) (t : Ty) → HasAt slots m ts → slice_get ts s ≡ Some t → slots (m + s) ≡ t
  slot-at slots m s [] t h e = absurd (cc)
  slot-at slots m zero (u ∷ ts) t h e = ap slots (let z : m + 0 ≡ m = omega arith in z) ∙ h.0 ∙ same_Some u t e
  slot-at slots m (suc s) (u ∷ ts) t h e = ap slots (let z : m + suc s ≡ suc m + s = omega arith in z) ∙ slot-at slots (suc m) s ts t h.1 e

  pub slot-known : (s : ℕ) (t : Ty) → slice_get laws.known s ≡ Some t → SlotIs laws p f s t
  slot-known s t e slots h = ap slots (let z : s ≡ 0 + s = omega arith in z) ∙ slot-at slots 0 s laws.known t h e

  function-valued : (n : ℕ) (g : FnTy) (h : Function) → slice_get p.functions n ≡ Some h → h.ty ≡ g → n ≢ p.entry → Valued laws p f (function_name n) (ty.Pointer (ty.Function g))
  function-valued n g h there is other = typing.single-typed p f (Slots laws p f) (λ d. AddrF d n) (ty.Pointer (ty.Function g)) (λ d. refl)
      (λ slots b e d. (other, ap (λ z. plain_type (ty.Pointer (ty.Function z))) (registers.callee-is p n h there ∙ is)))

  string-valued : (g m : ℕ) → type_of_global p g ≡ Some (ty.Array ty.Char m) → Valued laws p f (string g) (ty.Pointer ty.Char)
  string-valued g m is = typing.single-typed p f (Slots laws p f) (λ d. AddrG d g) (ty.Pointer ty.Char) (λ d. refl)
      (λ slots b e d. (tt, ap (λ o. plain_type (ty.Pointer (unwrap_or o ty.Void))) is ∙ plain-pointers (ty.Array ty.Char m) ty.Char (element-array ty.Char m)))

  module _ (x : List ℕ) (t : Ty) (c : Constant) (names : Names laws p f t) (none : c ≡ constant.Other) where
    -- what a name gives that stands for this
    abbrev Gives : Entity → Named → Type 0
    Gives e n = PartMet laws p f k scope (TypedForm-F.Identifier x e) (record {
      ty = t;
      constant = c;
      value = folded scope.folds c (name_value n t);
      lvalue = whole (name_address n) t;
      name = n;
    })

    global-gives : (n : ℕ) → NameRow k x (entity.Global n) t → Gives (entity.Global n) (named.Global n)
    global-gives n row =
        let g = fits.globals n t row in
        let m = global-memory n t g.there g.is names in
        met.memory laws p f k scope (TypedForm-F.Identifier x (entity.Global n)) c (whole (global_address n) t) (named.Global n) refl refl (other-fits c t none) g.units m m tt refl (λ s e. cc)

    slot-gives : (n s : ℕ) (l : Local) → slice_get k.locals n ≡ Some l → LocalFits laws.known p f scope n l → l.ty ≡ t → s < f.slots → is_scalar l.ty ≡ true → l.is_addressed ≡ false → SlotIs laws p f s t → Gives (entity.Local n) (named.Slot s)
    slot-gives n s l there fit same lt scalar unaddressed slot_is =
        let good = laws.rows.singles.slot_value s in
        let is_kept = kept.kept_slot laws.fit laws.touch p f s lt in
        let at_t = subst (λ u. is_scalar u ≡ true) same scalar in
        record {
          names = names;
          constant = other-fits c t none;
          done = met.folded-keeps laws p f k scope IsDone scope.folds c (slot_value s) (met.done laws p f (slot_value s) good) (λ m. met.done laws p f (number m) (laws.rows.singles.number m));
          kept = met.folded-keeps laws p f k scope (Sound laws p f) scope.folds c (slot_value s) is_kept (λ m. kept.kept_number laws.fit laws.touch p f m);
          good = λ is nonvoid. met.folded-keeps laws p f k scope IsGood scope.folds c (slot_value s) good (λ m. laws.rows.singles.number m);
          source = λ is pointer. met.folded-keeps laws p f k scope HasSource scope.folds c (slot_value s) (slot-source s) (met.number-source laws p f k scope);
          lvalue = λ is. record { units = subst (λ u. has_units p.structs u ≡ true) same fit.units; place = (lt, at_t, slot_is); same = refl };
          struct = λ is. refl;
          name = tt;
          valued = refl;
          unaddressed = λ r e addressed.
              let is : l.is_addressed ≡ true = same_Some l.is_addressed true (sym (ap (λ o. option_map (λ (l : Local). l.is_addressed) o) there) ∙ addressed) in
              let no_one : l.is_addressed ≡ false = unaddressed in
              cc;
          typed_done = met.constant-done laws p f k scope c (slot_value s) (met.typed-done laws p f (slot_value s) t (slot-valued s t slot_is));
          typed = λ is z. met.constant-typed laws p f k scope c (slot_value s) t (other-fits c t none) (subst (Valued laws p f (slot_value s)) (sym (scalar-same t at_t)) (slot-valued s t slot_is));
        }

    frame-gives : (n v : ℕ) (l : Local) → LocalFits laws.known p f scope n l → l.ty ≡ t → v < length f.locals → frame_type f v ≡ Some l.ty → Gives (entity.Local n) (named.Frame v)
    frame-gives n v l fit same lt is =
        let m = local-memory v t lt (subst (λ u. frame_type f v ≡ Some u) same is) names in
        met.memory laws p f k scope (TypedForm-F.Identifier x (entity.Local n)) c (whole (local_address v) t) (named.Frame v) refl refl (other-fits c t none)
        (subst (λ u. has_units p.structs u ≡ true) same fit.units) m m tt refl (λ s e. cc)

    standing-gives : (n : ℕ) (l : Local) → slice_get k.locals n ≡ Some l → LocalFits laws.known p f scope n l → l.ty ≡ t → (s : Standing) → StandingFits laws.known f l s → Gives (entity.Local n) (local_name (Some s))
    standing-gives n l there fit same (stands.Slot s) h = slot-gives n s l there fit same h.0 h.1 h.2 (subst (SlotIs laws p f s) same (slot-known s l.ty h.3))
    standing-gives n l there fit same (stands.Frame v) h = frame-gives n v l fit same h.0 h.1

    local-gives : (n : ℕ) → NameRow k x (entity.Local n) t → Gives (entity.Local n) (local_name (standing_of scope n))
    local-gives n row =
        let l = mapped (λ (l : Local). l.ty) (slice_get k.locals n) t row in
        let fit = fits.locals n l.0 l.1 in
        subst (λ o. Gives (entity.Local n) (local_name o)) (sym fit.there) (standing-gives n l.0 l.1 fit l.2 fit.standing fit.fits)

    function-gives : NameRow k x entity.Function t → Gives entity.Function (named.Function (function_number scope.functions x))
    function-gives row =
        let fn = fits.functions x row.0 row.1 in
        let n = function_number scope.functions x in
        let good = laws.rows.singles.function_name n in
        let is_kept = kept.kept_function laws.fit laws.touch p f n (at-length p.functions n fn.function fn.there) in
        let sourced : HasSource (function_name n) = source.single_source laws.parts (λ d. AddrF d n) (λ d. refl) (λ d e. cc) in
        record {
          names = names;
          constant = other-fits c t none;
          done = met.folded-keeps laws p f k scope IsDone scope.folds c (function_name n) (met.done laws p f (function_name n) good) (λ m. met.done laws p f (number m) (laws.rows.singles.number m));
          kept = met.folded-keeps laws p f k scope (Sound laws p f) scope.folds c (function_name n) is_kept (λ m. kept.kept_number laws.fit laws.touch p f m);
          good = λ is nonvoid. met.folded-keeps laws p f k scope IsGood scope.folds c (function_name n) good (λ m. laws.rows.singles.number m);
          source = λ is pointer. met.folded-keeps laws p f k scope HasSource scope.folds c (function_name n) sourced (met.number-source laws p f k scope);
          lvalue = λ is. absurd (cc);
          struct = λ is. absurd (let never : is_struct t ≡ false = (function-plain t (function-is t row.0 row.2)).0 in let z : is_struct t ≡ true = is in cc);
          name = (fn.function, fn.there, row.2 ∙ ap ty.Function (sym fn.ty));
          valued = refl;
          unaddressed = λ s e h. cc;
          typed_done = met.constant-done laws p f k scope c (function_name n) (met.typed-done laws p f (function_name n) (ty.Pointer (ty.Function row.0)) (function-valued n row.0 fn.function fn.there fn.ty fn.other));
          typed = λ is z. met.constant-typed laws p f k scope c (function_name n) t (other-fits c t none)
              (subst (Valued laws p f (function_name n)) (sym (function-decays t row.0 row.2)) (function-valued n row.0 fn.function fn.there fn.ty fn.other));
        }

    built_in-gives : (b : BuiltIn) → NameRow k x (entity.BuiltIn b) t → Gives (entity.BuiltIn b) (named.BuiltIn b)
    built_in-gives b row =
        let is_done : IsDone nothing = (λ place register slot. laws.parts.composition.none place register) in
        record {
          names = names;
          constant = other-fits c t none;
          done = met.folded-keeps laws p f k scope IsDone scope.folds c nothing is_done (λ m. met.done laws p f (number m) (laws.rows.singles.number m));
          kept = met.folded-keeps laws p f k scope (Sound laws p f) scope.folds c nothing (kept.kept_nothing laws.fit laws.touch p f) (λ m. kept.kept_number laws.fit laws.touch p f m);
          good = λ is nonvoid. absurd (cc);
          source = λ is pointer. absurd (cc);
          lvalue = λ is. absurd (cc);
          struct = λ is. absurd (let never : is_struct t ≡ false = (function-plain t (function-is t _ row)).0 in let z : is_struct t ≡ true = is in cc);
          name = row;
          valued = tt;
          unaddressed = λ s e h. cc;
          typed_done = met.constant-done laws p f k scope c nothing (λ place register slot. held.nothing-holds p f (Slots laws p f) register slot);
          typed = λ is z. absurd (cc);
        }

    pub identifier-met : (e : Entity) → NameRow k x e t → PartMet laws p f k scope (TypedForm-F.Identifier x e) (made_of scope (node scope (TypedForm-F.Identifier x e)) t c)
    identifier-met (entity.Global n) row = global-gives n row
    identifier-met (entity.Local n) row = local-gives n row
    identifier-met entity.Parameter row = absurd row
    identifier-met entity.Function row = function-gives row
    identifier-met (entity.BuiltIn b) row = built_in-gives b row

  -- ---- numbers and strings

  pub int-at : (t : Ty) → t ≡ ty.Int → IsScalar laws p f t
  int-at t e = (subst (λ u. is_scalar u ≡ true) (sym e) int-scalar, subst (Names laws p f) (sym e) (int-named (length p.structs)))

  pub number-met : (n : ℤ) (t : Ty) (c : Constant) → t ≡ ty.Int → c ≡ constant.Value n
      → PartMet laws p f k scope (TypedForm-F.Number n) (made_of scope (node scope (TypedForm-F.Number n)) t c)
  number-met n t c is value =
      met.scalar laws p f k scope (TypedForm-F.Number n) t c (number n) (no_lvalue t) refl refl (int-at t is)
      (subst (λ z. ConstantFits z t) (sym value) (subst (λ u. is_integer u ≡ true) (sym is) int-integer)) (met.number-gives laws p f k scope n t (subst (λ u. is_integer u ≡ true) (sym is) int-integer))

  pub text-met : (bytes : List ℕ) (n : ℕ) (t : Ty) (c : Constant) → Names laws p f t → TextRow k bytes n t → c ≡ constant.Other
      → PartMet laws p f k scope (TypedForm-F.Text bytes n) (made_of scope (node scope (TypedForm-F.Text bytes n)) t c)
  text-met bytes n t c names row none =
      let g = scope.first_string + n in
      let good = laws.rows.singles.string g in
      let is_kept = kept.kept_string laws.fit laws.touch p f g (fits.strings n bytes row.object) in
      met.rvalue laws p f k scope (TypedForm-F.Text bytes n) t c (string g) (no_lvalue t) refl refl names (other-fits c t none)
      (ap is_struct row.ty ∙ array-no_struct ty.Char (length bytes + 1)) (met.done laws p f (string g) good) is_kept (λ nonvoid. good)
      (λ is. source.single_source laws.parts (λ d. AddrG d g) (λ d. refl) (λ d e. cc)) (met.typed-done laws p f (string g) (ty.Pointer ty.Char) (string-valued g (length bytes + 1) (fits.string_types n bytes row.object)))
      (λ s. subst (Valued laws p f (string g)) (sym (ap decay row.ty ∙ array-decays ty.Char (length bytes + 1))) (string-valued g (length bytes + 1) (fits.string_types n bytes row.object)))
