-- Calls: what is made of them is as asked.
use Rattle.std.proofs.Common.{◌≡◌, ◌≢◌, ◌∙◌, ℕ, suc, ◌+◌, Bool, true, false, not, List, [], ◌∷◌, ◌++◌, length, map, Option, Some, None, option_and_then, is_some, unwrap_or, refl, ap, sym, subst, slice_get, ⊎_elim, arith}
use Rattle.std.proofs.lemmas.Bool.{eqb-true}
use Rattle.std.proofs.lemmas.Option.{same_Some}
use Rattle.std.specs.List.{list_all}
use Rattle.c_types.specs.declared.ty.FnTy.{FnTy, out-FnTy, roll-FnTy, out-roll-FnTy}
use Rattle.c_types.specs.declared.ty.Ty.{Ty, out-Ty, roll-Ty, roll-out-Ty}
use Rattle.c_types.specs.declared.ty.Ty.TheOpen.{FnTy-F, Ty-F}
use Rattle.c_types.specs.declared.ty.Ty.TheVariants as ty
use Rattle.c_types.specs.Kinds.{Outer, decay, function_at, function_of, is_pointer, is_scalar, is_void, is_void_at, target_at, target_of}
use Rattle.c_types.specs.Sound.{function_names_below}
use Rattle.c_typed.specs.declared.entity.BuiltIn.{BuiltIn}
use Rattle.c_typed.specs.declared.entity.BuiltIn.TheVariants as built_in
use Rattle.c_typed.specs.declared.entity.Constant.{Constant}
use Rattle.c_typed.specs.declared.entity.Constant.TheVariants as constant
use Rattle.c_typed.specs.declared.expression.TypedDirect.TheOpen.{TypedForm-F}
use Rattle.c_typed.specs.declared.expression.TypedExpr.{TypedExpr}
use Rattle.c_typed.specs.declared.expression.TypedForm.{out-TypedForm}
use Rattle.c_operators.specs.Operators.{converts, form_of}
use Rattle.c_rules.specs.Rules.{all_convert, called_type as callee_of}
use Rattle.c_scope.specs.BuiltIns.{built_in_type, void_pointer}
use Rattle.c_typed_rows.specs.Contexts.{Context}
use Rattle.c_typed_rows.specs.Expressions.{CallRow, is_value, is_value_at}
use Rattle.c_typed_rows.specs.Sources.{IsFunctionType}
use Rattle.core_ir.specs.declared.instr.Instr.TheVariants.{Call, CallInd, Malloc, Touch}
use Rattle.core_ir.specs.declared.program.Function.{Function}
use Rattle.core_ir.specs.declared.program.Program.{Program}
use Rattle.core_ir.specs.Valid.{IsInRange}
use Rattle.elab_rows.specs.declared.named.Named.{Named}
use Rattle.elab_rows.specs.declared.named.Named.TheVariants as named
use Rattle.elab_rows.specs.declared.scope.Scope.{Scope}
use Rattle.elab_rows.specs.Calls.{arguments, built_in_code, call_code, first_of, indirect_code, placed, with_callee}
use Rattle.elab_rows.specs.Made.{Code}
use Rattle.elab_rows.specs.Values.{Part, call_by, call_part, called_type, converted_parts, made_of, no_lvalue, part, returns}
use Rattle.elab_laws.specs.Fitting.{AreFitting}
use Rattle.elab_laws.specs.Theorems.{IsDone}
use Rattle.elab_laws.specs.Touching.{AreTouching}
use Rattle.elab_laws.specs.Values.{AreGood, IsGood}
use Rattle.elab_valid.proofs.Names.{ScopeFits}
use Rattle.elab_valid.proofs.KeptRows as kept
use Rattle.elab_valid.proofs.MetParts as met
use Rattle.elab_valid.proofs.MetParts.{GivesValue, IsMet, IsScalar, Laws, NameFits, Names, PartMet, Slots, Sound, TypedDone, UnlessBuiltIn, Valued, pointer-is}
use Rattle.elab_valid.proofs.NamedTypes.{AreNamed, function-named, int-named, params-named, target-named}
use Rattle.elab_valid.proofs.NamesMet.{other-fits}
use Rattle.elab_valid.proofs.PartNodes.{node}
use Rattle.elab_valid.proofs.Sources as source
use Rattle.elab_valid.proofs.Sources.{HasSource}
use Rattle.elab_valid.proofs.RegisterTypes.{callee-is}
use Rattle.elab_valid.proofs.TreeInduction.{EachOf}
use Rattle.elab_valid.proofs.TypedCalls as typed_calls
use Rattle.elab_valid.proofs.TypedCalls.{HaveValues, IsSingle}
use Rattle.elab_valid.proofs.TypeKinds.{either, first, out-Function, out-Int, out-Pointer, out-Void, out-decay, decayed, pointer-scalar, scalar-decays, scalar_value-nonvoid, second}
use Rattle.elab_valid.proofs.UnaryMet as unary

-- ---- what is called

function-called : (t : Ty) (g : FnTy) → t ≡ ty.Function g → option_and_then function_of (target_of (decay t)) ≡ Some g
unfolding target_of function_of
function-called t g e =
    let out : out-Ty t ≡ Ty-F.Function g = ap out-Ty e ∙ out-Function g in
    let target : target_at (out-Ty (decay t)) ≡ Some t = ap target_at (out-decay t) ∙ ap (λ o. target_at (decayed t o)) out in
    ap (λ o. option_and_then function_of o) target ∙ ap function_at out

behind : (o : Option Ty) (g : FnTy) → option_and_then function_of o ≡ Some g → (u : Ty) × (o ≡ Some u) × (function_of u ≡ Some g)
behind None g e = absurd (cc)
behind (Some u) g e = (u, refl, e)

-- ---- types of built-in functions

int-no_pointer : is_pointer ty.Int ≡ false
unfolding is_pointer target_of
int-no_pointer = ap (λ o. is_some (target_at o)) out-Int

void-no_pointer : is_pointer ty.Void ≡ false
unfolding is_pointer target_of
void-no_pointer = ap (λ o. is_some (target_at o)) out-Void

pub is-pointer : (u : Ty) → is_pointer (ty.Pointer u) ≡ true
unfolding is_pointer target_of
is-pointer u = ap (λ o. is_some (target_at o)) (out-Pointer u)

result-of : (r : Ty) (ps : List Ty) → (out-FnTy (roll-FnTy (record { result = r; params = ps }))).result ≡ r
result-of r ps = ap (λ (g : FnTy-F Ty FnTy). g.result) (out-roll-FnTy (record { result = r; params = ps }))

params-of : (r : Ty) (ps : List Ty) → (out-FnTy (roll-FnTy (record { result = r; params = ps }))).params ≡ ps
params-of r ps = ap (λ (g : FnTy-F Ty FnTy). g.params) (out-roll-FnTy (record { result = r; params = ps }))

int-result : (ps : List Ty) → is_pointer (out-FnTy (roll-FnTy (record { result = ty.Int; params = ps }))).result ≡ false
int-result ps = ap is_pointer (result-of ty.Int ps) ∙ int-no_pointer

void-result : (ps : List Ty) → is_pointer (out-FnTy (roll-FnTy (record { result = ty.Void; params = ps }))).result ≡ false
void-result ps = ap is_pointer (result-of ty.Void ps) ∙ void-no_pointer

-- what a thread runs
abbrev started : Ty
started = ty.Function (roll-FnTy (record { result = ty.Void; params = void_pointer ∷ [] }))

-- the result of a built-in, but for `malloc`, is no pointer
built_in-result : (b : BuiltIn) → b ≢ built_in.Malloc → is_pointer (out-FnTy (built_in_type b)).result ≡ false
unfolding built_in_type
built_in-result built_in.Spawn other = int-result (ty.Pointer started ∷ void_pointer ∷ [])
built_in-result built_in.Join other = void-result (ty.Int ∷ [])
built_in-result built_in.Lock other = void-result (ty.Pointer ty.Int ∷ [])
built_in-result built_in.Unlock other = void-result (ty.Pointer ty.Int ∷ [])
built_in-result built_in.Print other = void-result (ty.Int ∷ [])
built_in-result built_in.Input other = int-result (ty.Int ∷ [])
built_in-result built_in.Malloc other = absurd (other refl)
built_in-result built_in.Free other = void-result (void_pointer ∷ [])

-- the type of the parameter of a built-in that has one
abbrev param_of : BuiltIn → Ty
param_of built_in.Spawn = ty.Void
param_of built_in.Lock = ty.Pointer ty.Int
param_of built_in.Unlock = ty.Pointer ty.Int
param_of built_in.Free = ty.Pointer ty.Void
param_of _ = ty.Int

param-is : (b : BuiltIn) → IsSingle b → (out-FnTy (built_in_type b)).params ≡ param_of b ∷ []
unfolding built_in_type
param-is built_in.Spawn s = absurd s
param-is built_in.Join s = params-of ty.Void (ty.Int ∷ [])
param-is built_in.Lock s = params-of ty.Void (ty.Pointer ty.Int ∷ [])
param-is built_in.Unlock s = params-of ty.Void (ty.Pointer ty.Int ∷ [])
param-is built_in.Print s = params-of ty.Void (ty.Int ∷ [])
param-is built_in.Input s = params-of ty.Int (ty.Int ∷ [])
param-is built_in.Malloc s = params-of void_pointer (ty.Int ∷ [])
param-is built_in.Free s = params-of ty.Void (void_pointer ∷ [])

spawn-result : (out-FnTy (built_in_type built_in.Spawn)).result ≡ ty.Int
unfolding built_in_type
spawn-result = result-of ty.Int (ty.Pointer started ∷ void_pointer ∷ [])

input-result : (out-FnTy (built_in_type built_in.Input)).result ≡ ty.Int
unfolding built_in_type
input-result = result-of ty.Int (ty.Int ∷ [])

malloc-result : (out-FnTy (built_in_type built_in.Malloc)).result ≡ ty.Pointer ty.Void
unfolding built_in_type
malloc-result = result-of void_pointer (ty.Int ∷ [])

void-of : (ps : List Ty) → is_void (out-FnTy (roll-FnTy (record { result = ty.Void; params = ps }))).result ≡ true
unfolding is_void
void-of ps = ap is_void (result-of ty.Void ps) ∙ ap is_void_at out-Void

join-void : is_void (out-FnTy (built_in_type built_in.Join)).result ≡ true
unfolding built_in_type
join-void = void-of (ty.Int ∷ [])

lock-void : is_void (out-FnTy (built_in_type built_in.Lock)).result ≡ true
unfolding built_in_type
lock-void = void-of (ty.Pointer ty.Int ∷ [])

unlock-void : is_void (out-FnTy (built_in_type built_in.Unlock)).result ≡ true
unfolding built_in_type
unlock-void = void-of (ty.Pointer ty.Int ∷ [])

print-void : is_void (out-FnTy (built_in_type built_in.Print)).result ≡ true
unfolding built_in_type
print-void = void-of (ty.Int ∷ [])

free-void : is_void (out-FnTy (built_in_type built_in.Free)).result ≡ true
unfolding built_in_type
free-void = void-of (void_pointer ∷ [])

function_is_at : (t : Ty) (o : Outer) (g : FnTy) → out-Ty t ≡ o → function_at o ≡ Some g → t ≡ ty.Function g
function_is_at t Ty-F.Int g e h = absurd (cc)
function_is_at t Ty-F.Char g e h = absurd (cc)
function_is_at t Ty-F.Void g e h = absurd (cc)
function_is_at t (Ty-F.Struct n) g e h = absurd (cc)
function_is_at t (Ty-F.Pointer v) g e h = absurd (cc)
function_is_at t (Ty-F.Array v n) g e h = absurd (cc)
function_is_at t (Ty-F.Function f) g e h = sym (roll-out-Ty t) ∙ ap roll-Ty e ∙ ty.rolls-Function f ∙ ap ty.Function (same_Some f g h)

function-is : (t : Ty) (g : FnTy) → function_of t ≡ Some g → t ≡ ty.Function g
unfolding function_of
function-is t g h = function_is_at t (out-Ty t) g refl h

one-of : (r t : Ty) → length (out-FnTy (roll-FnTy (record { result = r; params = t ∷ [] }))).params ≡ 1
one-of r t = ap length (params-of r (t ∷ []))

-- one parameter, but of `spawn`
one-parameter : (b : BuiltIn) → b ≢ built_in.Spawn → length (out-FnTy (built_in_type b)).params ≡ 1
unfolding built_in_type
one-parameter built_in.Spawn other = absurd (other refl)
one-parameter built_in.Join other = one-of ty.Void ty.Int
one-parameter built_in.Lock other = one-of ty.Void (ty.Pointer ty.Int)
one-parameter built_in.Unlock other = one-of ty.Void (ty.Pointer ty.Int)
one-parameter built_in.Print other = one-of ty.Void ty.Int
one-parameter built_in.Input other = one-of ty.Int ty.Int
one-parameter built_in.Malloc other = one-of void_pointer ty.Int
one-parameter built_in.Free other = one-of ty.Void void_pointer

spawn-parameters : (out-FnTy (built_in_type built_in.Spawn)).params ≡ ty.Pointer started ∷ void_pointer ∷ []
unfolding built_in_type
spawn-parameters = params-of ty.Int (ty.Pointer started ∷ void_pointer ∷ [])

module _ (laws : Laws) (p : Program) (f : Function) (k : Context) (scope : Scope) (fits : ScopeFits laws.known k scope p f) where
  abbrev Met : TypedExpr → Type 0
  Met x = IsMet laws p f k scope x

  abbrev At : TypedExpr → Part
  At x = part scope x

  -- ---- arguments

  abbrev GivesAll : List Code → List Ty → Type 0
  GivesAll [] ts = Unit {0}
  GivesAll cs [] = Unit {0}
  GivesAll (c ∷ cs) (t ∷ ts) = GivesValue laws p f c t × GivesAll cs ts

  arguments-given : (es : List TypedExpr) (ts : List Ty) → EachOf Met es → list_all is_value es ≡ true → all_convert es ts ≡ true → list_all is_scalar ts ≡ true → AreNamed (length p.structs) ts
      → GivesAll (converted_parts (map At es) ts) ts
  arguments-given [] ts hs values converting scalars named = tt
  arguments-given (e ∷ es) [] hs values converting scalars named = tt
  arguments-given (e ∷ es) (t ∷ ts) hs values converting scalars named = (
    met.converted-given laws p f k scope e hs.0 t (first (is_value e) (list_all is_value es) values) (first (is_scalar t) (list_all is_scalar ts) scalars, named.0)
        (met.value-converts laws p f k scope e hs.0 t (first (converts e t) (all_convert es ts) converting)) (unary.names-value laws p f k scope fits e hs.0),
    arguments-given es ts hs.1 (second (is_value e) (list_all is_value es) values) (second (converts e t) (all_convert es ts) converting) (second (is_scalar t) (list_all is_scalar ts) scalars) named.1,
  )

  as-many : (es : List TypedExpr) (ts : List Ty) → length es ≡ length ts → length (converted_parts (map At es) ts) ≡ length ts
  as-many [] [] e = refl
  as-many [] (t ∷ ts) e = absurd (cc)
  as-many (x ∷ es) [] e = absurd (cc)
  as-many (x ∷ es) (t ∷ ts) e = let same : length es ≡ length ts = omega (arith, e) in ap suc (as-many es ts same)

  all-good : (cs : List Code) (ts : List Ty) → length cs ≡ length ts → GivesAll cs ts → AreGood cs
  all-good [] ts e h = tt
  all-good (c ∷ cs) [] e h = absurd (cc)
  all-good (c ∷ cs) (t ∷ ts) e h = (h.0.good, all-good cs ts (omega (arith, e)) h.1)

  all-fitting : (cs : List Code) (ts : List Ty) → length cs ≡ length ts → GivesAll cs ts → AreFitting (IsInRange p f) f.slots cs
  all-fitting [] ts e h = tt
  all-fitting (c ∷ cs) [] e h = absurd (cc)
  all-fitting (c ∷ cs) (t ∷ ts) e h = (h.0.kept.0, all-fitting cs ts (omega (arith, e)) h.1)

  all-touching : (cs : List Code) (ts : List Ty) → length cs ≡ length ts → GivesAll cs ts → AreTouching p.structs cs
  all-touching [] ts e h = tt
  all-touching (c ∷ cs) [] e h = absurd (cc)
  all-touching (c ∷ cs) (t ∷ ts) e h = (h.0.kept.1, all-touching cs ts (omega (arith, e)) h.1)

  all-valued : (cs : List Code) (ts : List Ty) → length cs ≡ length ts → GivesAll cs ts → HaveValues p f (Slots laws p f) cs ts
  all-valued [] ts e h = tt
  all-valued (c ∷ cs) [] e h = absurd (cc)
  all-valued (c ∷ cs) (t ∷ ts) e h = (h.0.typed, all-valued cs ts (omega (arith, e)) h.1)

  -- ---- calls

  -- nothing where the result is `void`, and else a value
  abbrev pub CallGives : Code → Ty → Type 0
  CallGives c t = (is_void t ≡ true → IsDone c × Sound laws p f c × TypedDone laws p f c) × (is_void t ≡ false → GivesValue laws p f c t)

  module _ (g : FnTy) (cs : List Code) (count : length cs ≡ length (out-FnTy g).params) (given : GivesAll cs (out-FnTy g).params) where
    abbrev t : Ty
    t = (out-FnTy g).result

    good : AreGood cs
    good = all-good cs (out-FnTy g).params count given

    fitting : AreFitting (IsInRange p f) f.slots cs
    fitting = all-fitting cs (out-FnTy g).params count given

    touching : AreTouching p.structs cs
    touching = all-touching cs (out-FnTy g).params count given

    arguments_valued : HaveValues p f (Slots laws p f) cs (out-FnTy g).params
    arguments_valued = all-valued cs (out-FnTy g).params count given

    -- by a function's name
    module _ (n : ℕ) (h : Function) (there : slice_get p.functions n ≡ Some h) (is : h.ty ≡ g) where
      can-call : (args : List ℕ) (s : Option ℕ) → length args ≡ length cs → IsInRange p f (Call n args s)
      can-call args s same = kept.untyped laws.fit laws.touch p f (Call n args s) refl
          (record { callee = h; there = there; arguments = same ∙ count ∙ ap (λ (z : FnTy). length (out-FnTy z).params) (sym is) })

      call-value : GivesValue laws p f (call_code n true cs) t
      call-value = record {
        good = laws.rows.calls.call n cs good;
        kept = ((laws.fit p f).call n cs can-call fitting, (laws.touch p.structs).call n true cs touching);
        source = λ pointer place register slot. source.called_source laws.parts (λ s. Call n (arguments cs place register slot).results s) (arguments cs place register slot) place;
        typed = typed_calls.call-typed p f (Slots laws p f) n g (callee-is p n h there ∙ is) cs arguments_valued;
      }

      call-done : IsDone (call_code n false cs) × Sound laws p f (call_code n false cs) × TypedDone laws p f (call_code n false cs)
      call-done = (laws.rows.calls.void_call n cs good, ((laws.fit p f).void_call n cs can-call fitting, (laws.touch p.structs).call n false cs touching), typed_calls.void_call-typed p f (Slots laws p f) n g (callee-is p n h there ∙ is) cs arguments_valued)

      call-by : (b : Bool) → is_void t ≡ b → CallGives (call_code n (not b) cs) t
      call-by true e = (λ void. call-done, λ nonvoid. absurd (let z : true ≡ false = sym e ∙ nonvoid in cc))
      call-by false e = (λ void. absurd (let z : true ≡ false = sym void ∙ e in cc), λ nonvoid. call-value)

      pub named-call : CallGives (call_code n (returns g) cs) t
      named-call = call-by (is_void t) refl

    -- by a pointer
    module _ (c : Code) (callee : IsGood c) (callee_kept : Sound laws p f c) (callee_typed : Valued laws p f c (ty.Pointer (ty.Function g))) (names : function_names_below (length p.structs) g ≡ true) where
      can-reach : (r : ℕ) (args : List ℕ) (s : Option ℕ) → length args ≡ length cs → IsInRange p f (CallInd r args g s)
      can-reach r args s same = kept.untyped laws.fit laws.touch p f (CallInd r args g s) refl (same ∙ count, names)

      indirect-value : GivesValue laws p f (indirect_code g true c cs) t
      indirect-value = record {
        good = laws.rows.calls.indirect g c cs callee good;
        kept = ((laws.fit p f).indirect g c cs can-reach callee_kept.0 fitting, (laws.touch p.structs).indirect g true c cs callee_kept.1 touching);
        source = λ pointer place register slot.
            let l = arguments cs place register slot in
            let x = placed (c (place + length l.code) l.register l.slot) in
            source.called_source laws.parts (λ s. CallInd x.result l.results g s) (with_callee l x) place;
        typed = typed_calls.indirect-typed p f (Slots laws p f) g c cs callee_typed arguments_valued;
      }

      indirect-done : IsDone (indirect_code g false c cs) × Sound laws p f (indirect_code g false c cs) × TypedDone laws p f (indirect_code g false c cs)
      indirect-done = (laws.rows.calls.void_indirect g c cs callee good, ((laws.fit p f).void_indirect g c cs can-reach callee_kept.0 fitting, (laws.touch p.structs).indirect g false c cs callee_kept.1 touching), typed_calls.void_indirect-typed p f (Slots laws p f) g c cs callee_typed arguments_valued)

      indirect-by : (b : Bool) → is_void t ≡ b → CallGives (indirect_code g (not b) c cs) t
      indirect-by true e = (λ void. indirect-done, λ nonvoid. absurd (let z : true ≡ false = sym e ∙ nonvoid in cc))
      indirect-by false e = (λ void. absurd (let z : true ≡ false = sym void ∙ e in cc), λ nonvoid. indirect-value)

      pub pointed-call : CallGives (indirect_code g (returns g) c cs) t
      pointed-call = indirect-by (is_void t) refl

    -- ---- built-in functions

    int-touch : (q : ℕ) → IsInRange p f (Touch q ty.Int)
    int-touch q = (kept.touch_fits laws.fit laws.touch p f ty.Int (int-named (length p.structs)) q).0

    built_in-kept : (b : BuiltIn) → Sound laws p f (built_in_code b cs)
    built_in-kept b = ((laws.fit p f).built_in b cs int-touch fitting, (laws.touch p.structs).built_in b cs touching)

    from-good : (c : Code) → IsGood c → Sound laws p f c → (is_pointer t ≡ true → HasSource c) → TypedDone laws p f c → (is_void t ≡ false → Valued laws p f c t) → CallGives c t
    from-good c is_good is_kept sourced is_typed has_type = (λ void. (met.done laws p f c is_good, is_kept, is_typed), λ nonvoid. record { good = is_good; kept = is_kept; source = sourced; typed = has_type nonvoid })

    alone : (b : BuiltIn) → b ≢ built_in.Spawn → (ds : List Code) → length ds ≡ 1 → AreGood ds → IsGood (built_in_code b ds)
    alone b other [] e h = absurd (cc)
    alone b other (c ∷ []) e h = λ place register slot.
        laws.rows.built_ins b other (arguments (c ∷ []) place register slot) (c place register slot).result place register refl (laws.rows.calls.arguments (c ∷ []) place register slot h)
    alone b other (c ∷ d ∷ ds) e h = absurd (let z : suc (suc (length ds)) ≡ 1 = e in omega (arith, z))

    allocated : HasSource (built_in_code built_in.Malloc cs)
    allocated place register slot =
        let l = arguments cs place register slot in
        source.last laws.parts l.code (Malloc l.register (first_of l.results)) place l.register refl (λ e. cc)

    spawned : (u : Ty) (ds : List Code) → length ds ≡ length (ty.Pointer u ∷ void_pointer ∷ []) → GivesAll ds (ty.Pointer u ∷ void_pointer ∷ []) → AreGood ds → IsGood (built_in_code built_in.Spawn ds)
    spawned u [] e h goods = absurd (let z : 0 ≡ 2 = e in cc)
    spawned u (c ∷ []) e h goods = absurd (let z : 1 ≡ 2 = e in cc)
    spawned u (c ∷ d ∷ []) e h goods = λ place register slot.
        let l = arguments (c ∷ d ∷ []) place register slot in
        let x = c place register slot in
        let y = d (place + length x.code) x.register x.slot in
        let values = laws.rows.calls.arguments (c ∷ d ∷ []) place register slot goods in
        let sourced = source.in_front laws.parts x.code (y.code ++ []) place x.result (h.0.source (is-pointer u) place register slot) in
        laws.rows.calls.spawn l x.result y.result place register refl (source.no_number laws.parts l.code place register l.register x.result l.results values sourced) values
    spawned u (c ∷ d ∷ b ∷ ds) e h goods = absurd (let z : suc (suc (suc (length ds))) ≡ 2 = e in omega (arith, z))

    -- their types

    single : (b : BuiltIn) → g ≡ built_in_type b → IsSingle b → HaveValues p f (Slots laws p f) cs (param_of b ∷ [])
    single b e s = subst (HaveValues p f (Slots laws p f) cs) (ap (λ (z : FnTy). (out-FnTy z).params) e ∙ param-is b s) arguments_valued

    one-left : (b : BuiltIn) → g ≡ built_in_type b → IsSingle b → length cs ≡ 1
    one-left b e s = count ∙ ap length (ap (λ (z : FnTy). (out-FnTy z).params) e ∙ param-is b s)

    free-param : (b : BuiltIn) → b ≡ built_in.Free → param_of b ≡ ty.Pointer ty.Void
    free-param b e = ap param_of e

    single-done : (b : BuiltIn) → IsSingle b → (ds : List Code) → length ds ≡ 1 → HaveValues p f (Slots laws p f) ds (param_of b ∷ []) → TypedDone laws p f (built_in_code b ds)
    single-done b s [] e h = absurd (cc)
    single-done b s (c ∷ []) e h = typed_calls.single-done p f (Slots laws p f) b s c (param_of b) (free-param b) h.0
    single-done b s (c ∷ d ∷ ds) e h = absurd (let z : suc (suc (length ds)) ≡ 1 = e in omega (arith, z))

    built_in-done : (b : BuiltIn) → g ≡ built_in_type b → IsSingle b → TypedDone laws p f (built_in_code b cs)
    built_in-done b e s = single-done b s cs (one-left b e s) (single b e s)

    no-value : (b : BuiltIn) → g ≡ built_in_type b → is_void (out-FnTy (built_in_type b)).result ≡ true → is_void t ≡ false → Valued laws p f (built_in_code b cs) t
    no-value b e void nonvoid = absurd (let z : true ≡ false = sym void ∙ ap (λ (w : FnTy). is_void (out-FnTy w).result) (sym e) ∙ nonvoid in cc)

    input-value : (ds : List Code) → length ds ≡ 1 → HaveValues p f (Slots laws p f) ds (ty.Int ∷ []) → Valued laws p f (built_in_code built_in.Input ds) ty.Int
    input-value [] e h = absurd (cc)
    input-value (c ∷ []) e h = typed_calls.input-typed p f (Slots laws p f) c ty.Int h.0
    input-value (c ∷ d ∷ ds) e h = absurd (let z : suc (suc (length ds)) ≡ 1 = e in omega (arith, z))

    malloc-value : (ds : List Code) → length ds ≡ 1 → HaveValues p f (Slots laws p f) ds (ty.Int ∷ []) → Valued laws p f (built_in_code built_in.Malloc ds) (ty.Pointer ty.Void)
    malloc-value [] e h = absurd (cc)
    malloc-value (c ∷ []) e h = typed_calls.malloc-typed p f (Slots laws p f) c ty.Int h.0
    malloc-value (c ∷ d ∷ ds) e h = absurd (let z : suc (suc (length ds)) ≡ 1 = e in omega (arith, z))

    spawn-value : (ds : List Code) → length ds ≡ 2 → HaveValues p f (Slots laws p f) ds (ty.Pointer started ∷ void_pointer ∷ []) → Valued laws p f (built_in_code built_in.Spawn ds) ty.Int
    spawn-value [] e h = absurd (let z : 0 ≡ 2 = e in cc)
    spawn-value (c ∷ []) e h = absurd (let z : 1 ≡ 2 = e in cc)
    spawn-value (c ∷ d ∷ []) e h = typed_calls.spawned-typed p f (Slots laws p f) c d h.0 h.1.0
    spawn-value (c ∷ d ∷ b ∷ ds) e h = absurd (let z : suc (suc (suc (length ds))) ≡ 2 = e in omega (arith, z))

    plain-built_in : (b : BuiltIn) → g ≡ built_in_type b → b ≢ built_in.Spawn → b ≢ built_in.Malloc → IsSingle b → (is_void t ≡ false → Valued laws p f (built_in_code b cs) t) → CallGives (built_in_code b cs) t
    plain-built_in b e no_spawn no_malloc s has_type =
        from-good (built_in_code b cs)
        (alone b no_spawn cs (count ∙ ap (λ (z : FnTy). length (out-FnTy z).params) e ∙ one-parameter b no_spawn) good) (built_in-kept b)
        (λ pointer. absurd (let z : true ≡ false = sym pointer ∙ ap (λ (z : FnTy). is_pointer (out-FnTy z).result) e ∙ built_in-result b no_malloc in cc)) (built_in-done b e s) has_type

    built_in-call : (b : BuiltIn) → g ≡ built_in_type b → CallGives (built_in_code b cs) t
    built_in-call built_in.Spawn e =
        let params = ap (λ (z : FnTy). (out-FnTy z).params) e ∙ spawn-parameters in
        let is_good = spawned started cs (count ∙ ap length params) (subst (GivesAll cs) params given) good in
        from-good (built_in_code built_in.Spawn cs) is_good (built_in-kept built_in.Spawn) (λ pointer. absurd (let z : true ≡ false = sym pointer ∙ ap (λ (z : FnTy). is_pointer (out-FnTy z).result) e ∙ built_in-result built_in.Spawn (λ w. cc) in cc))
        (met.typed-done laws p f (built_in_code built_in.Spawn cs) ty.Int (spawn-value cs (count ∙ ap length params) (subst (HaveValues p f (Slots laws p f) cs) params arguments_valued)))
        (λ nonvoid. subst (Valued laws p f (built_in_code built_in.Spawn cs)) (sym (ap (λ (z : FnTy). (out-FnTy z).result) e ∙ spawn-result)) (spawn-value cs (count ∙ ap length params) (subst (HaveValues p f (Slots laws p f) cs) params arguments_valued)))
    built_in-call built_in.Join e = plain-built_in built_in.Join e (λ w. cc) (λ w. cc) tt (no-value built_in.Join e join-void)
    built_in-call built_in.Lock e = plain-built_in built_in.Lock e (λ w. cc) (λ w. cc) tt (no-value built_in.Lock e lock-void)
    built_in-call built_in.Unlock e = plain-built_in built_in.Unlock e (λ w. cc) (λ w. cc) tt (no-value built_in.Unlock e unlock-void)
    built_in-call built_in.Print e = plain-built_in built_in.Print e (λ w. cc) (λ w. cc) tt (no-value built_in.Print e print-void)
    built_in-call built_in.Input e = plain-built_in built_in.Input e (λ w. cc) (λ w. cc) tt
        (λ nonvoid. subst (Valued laws p f (built_in_code built_in.Input cs)) (sym (ap (λ (z : FnTy). (out-FnTy z).result) e ∙ input-result)) (input-value cs (one-left built_in.Input e tt) (single built_in.Input e tt)))
    built_in-call built_in.Malloc e =
        from-good (built_in_code built_in.Malloc cs)
        (alone built_in.Malloc (λ w. cc) cs (count ∙ ap (λ (z : FnTy). length (out-FnTy z).params) e ∙ one-parameter built_in.Malloc (λ w. cc)) good) (built_in-kept built_in.Malloc) (λ pointer. allocated) (built_in-done built_in.Malloc e tt)
        (λ nonvoid. subst (Valued laws p f (built_in_code built_in.Malloc cs)) (sym (ap (λ (z : FnTy). (out-FnTy z).result) e ∙ malloc-result)) (malloc-value cs (one-left built_in.Malloc e tt) (single built_in.Malloc e tt)))
    built_in-call built_in.Free e = plain-built_in built_in.Free e (λ w. cc) (λ w. cc) tt (no-value built_in.Free e free-void)

  -- ---- whole calls

  by-pointer : (x : TypedExpr) → Met x → is_value_at (out-TypedForm (form_of x)) ≡ true → (g : FnTy) → option_and_then function_of (target_of (decay (At x).ty)) ≡ Some g → (cs : List Code)
      → length cs ≡ length (out-FnTy g).params → GivesAll cs (out-FnTy g).params → CallGives (indirect_code g (returns g) (At x).value cs) (out-FnTy g).result
  by-pointer x h valued g called cs count given =
      let u = behind (target_of (decay (At x).ty)) g called in
      let scalar = pointer-scalar (decay (At x).ty) (unary.target-pointer (decay (At x).ty) u.0 u.1) in
      let named = function-named (length p.structs) u.0 g (target-named (length p.structs) (decay (At x).ty) u.0 (unary.names-value laws p f k scope fits x h) u.1) u.2 in
      pointed-call g cs count given (At x).value (h.met.good valued (scalar_value-nonvoid (At x).ty scalar)) h.met.kept
      (subst (Valued laws p f (At x).value) (unary.target-is (decay (At x).ty) u.0 u.1 ∙ ap ty.Pointer (function-is u.0 g u.2)) (h.met.typed valued scalar)) named

  call_by-gives : (n : Named) (x : TypedExpr) → Met x → (At x).name ≡ n → NameFits laws p f n (At x).ty → UnlessBuiltIn laws p f n (is_value_at (out-TypedForm (form_of x)))
      → (g : FnTy) → option_and_then function_of (target_of (decay (At x).ty)) ≡ Some g → (cs : List Code) → length cs ≡ length (out-FnTy g).params → GivesAll cs (out-FnTy g).params
      → CallGives (call_by n (At x) g cs) (out-FnTy g).result
  call_by-gives (named.Function n) x h e name valued g called cs count given =
      let same = same_Some name.0.ty g (sym (function-called (At x).ty name.0.ty name.2) ∙ called) in
      named-call g cs count given n name.0 name.1 same
  call_by-gives (named.BuiltIn b) x h e name valued g called cs count given =
      let same = same_Some (built_in_type b) g (sym (function-called (At x).ty (built_in_type b) name) ∙ called) in
      built_in-call g cs count given b (sym same)
  call_by-gives (named.Slot n) x h e name valued g called cs count given = by-pointer x h valued g called cs count given
  call_by-gives (named.Global n) x h e name valued g called cs count given = by-pointer x h valued g called cs count given
  call_by-gives (named.Frame n) x h e name valued g called cs count given = by-pointer x h valued g called cs count given
  call_by-gives named.Other x h e name valued g called cs count given = by-pointer x h valued g called cs count given

  pub call-met : (x : TypedExpr) (es : List TypedExpr) (t : Ty) (c : Constant) → Met x → EachOf Met es → list_all is_value es ≡ true → Names laws p f t → CallRow x es t
      → ((g : FnTy) → callee_of x ≡ Some g → IsFunctionType g) → c ≡ constant.Other → PartMet laws p f k scope (TypedForm-F.Call x es) (made_of scope (node scope (TypedForm-F.Call x es)) t c)
  unfolding callee_of called_type
  call-met x es t c hx hs values names row fit none =
      let g = row.callee in
      let kinds = fit g row.called in
      let called : option_and_then function_of (target_of (decay (At x).ty)) ≡ Some g = ap (λ u. option_and_then function_of (target_of u)) (sym (unary.value-type laws p f k scope fits x hx)) ∙ row.called in
      let is : called_type (At x).ty ≡ g = ap (λ o. unwrap_or o (roll-FnTy (record { result = ty.Void; params = [] }))) called in
      let u = behind (target_of (decay (At x).ty)) g called in
      let named = function-named (length p.structs) u.0 g (target-named (length p.structs) (decay (At x).ty) u.0 (unary.names-value laws p f k scope fits x hx) u.1) u.2 in
      let count = as-many es (out-FnTy g).params (eqb-true (length es) (length (out-FnTy g).params) row.count) in
      let cs = converted_parts (map At es) (out-FnTy g).params in
      let given = arguments-given es (out-FnTy g).params hs values row.convert kinds.params (params-named (length p.structs) g named) in
      let gives = call_by-gives (At x).name x hx refl hx.met.name hx.met.valued g called cs count given in
      let at_t = subst (λ u. CallGives (call_by (At x).name (At x) g cs) u) (sym row.ty) gives in
      let whole = subst (λ (z : FnTy). CallGives (call_by (At x).name (At x) z (converted_parts (map At es) (out-FnTy z).params)) t) (sym is) at_t in
      ⊎_elim
      (λ (s : is_scalar (out-FnTy g).result ≡ true).
      let scalar = subst (λ u. is_scalar u ≡ true) (sym row.ty) s in
      met.scalar laws p f k scope (TypedForm-F.Call x es) t c (call_part (At x) (map At es)) (no_lvalue t) refl refl (scalar, names) (other-fits c t none) (whole.1 (scalar_value-nonvoid t (scalar-decays t scalar))))
      (λ (v : is_void (out-FnTy g).result ≡ true).
      let void = subst (λ u. is_void u ≡ true) (sym row.ty) v in
      met.nothing-given laws p f k scope (TypedForm-F.Call x es) t c (call_part (At x) (map At es)) (no_lvalue t) refl refl names (other-fits c t none) void (whole.0 void).0 (whole.0 void).1 (whole.0 void).2)
      (either (is_scalar (out-FnTy g).result) (is_void (out-FnTy g).result) kinds.result)
