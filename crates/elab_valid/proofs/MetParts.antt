-- What is asked of what is made of an expression, and what gives it.
use Rattle.std.proofs.Common.{◌≡◌, ℕ, ℤ, ◌<◌, Bool, true, false, ◌&&◌, ◌||◌, List, [], ◌∷◌, length, Some, refl, ap, sym, subst, slice_get}
use Rattle.c_types.specs.declared.ty.Ty.{Ty, out-Ty}
use Rattle.c_types.specs.declared.ty.Ty.TheOpen.{Ty-F}
use Rattle.c_types.specs.declared.ty.Ty.TheVariants as ty
use Rattle.c_types.specs.Kinds.{Outer, decay, decay_at, is_function, is_function_at, is_integer, is_pointer, is_scalar, is_scalar_at, is_struct, is_void}
use Rattle.c_types.specs.Sound.{names_below}
use Rattle.c_types.specs.Theorems.{SameIsEquality}
use Rattle.c_types.specs.Units.{has_units}
use Rattle.c_typed.specs.declared.entity.Constant.{Constant}
use Rattle.c_typed.specs.declared.entity.Constant.TheVariants as constant
use Rattle.c_typed.specs.declared.expression.TypedExpr.{TypedExpr, out-TypedExpr}
use Rattle.c_typed.specs.declared.expression.TypedForm.{out-TypedForm}
use Rattle.c_operators.specs.Operators.{FormLayer, constant_of, converts, form_of, is_lvalue, is_lvalue_at, is_null, is_zero_constant, type_converts, type_of, value_type}
use Rattle.c_scope.specs.BuiltIns.{built_in_type}
use Rattle.c_typed_rows.specs.Contexts.{Context}
use Rattle.c_typed_rows.specs.Expressions.{NamedAddressed, is_value, is_value_at}
use Rattle.core_ir.specs.declared.instr.Instr.TheVariants.{Const}
use Rattle.core_ir.specs.declared.program.Function.{Function}
use Rattle.core_ir.specs.declared.program.Program.{Program}
use Rattle.core_ir.specs.Parts.{HasPart}
use Rattle.core_parts.specs.Theorems.{PartLaws}
use Rattle.elab_rows.specs.declared.named.Named.{Named}
use Rattle.elab_rows.specs.declared.named.Named.TheVariants as named
use Rattle.elab_rows.specs.declared.scope.Scope.{Scope}
use Rattle.elab_rows.specs.Addresses.{Lvalue, loaded, lvalue_value, pointing, value_at}
use Rattle.elab_rows.specs.Made.{Code}
use Rattle.elab_rows.specs.Rows.{number}
use Rattle.elab_rows.specs.Values.{Part, converted_part, folded, made_of, part}
use Rattle.elab_laws.specs.FittingLaws.{RowsFit}
use Rattle.elab_laws.specs.Theorems.{IsDone, RowsAreGood}
use Rattle.elab_laws.specs.TouchingLaws.{RowsTouch}
use Rattle.elab_laws.specs.Values.{IsGood, outlines}
use Rattle.elab_valid.proofs.KeptRows as kept
use Rattle.elab_valid.proofs.KeptRows.{Kept}
use Rattle.elab_valid.proofs.NamedTypes.{named-at, pointer-named}
use Rattle.elab_valid.proofs.PartNodes.{node, part-of}
use Rattle.elab_valid.proofs.PlainTypes.{plain-integer, plain-pointers}
use Rattle.elab_valid.proofs.RegisterTypes.{HasAt, Types}
use Rattle.elab_valid.proofs.Sources as source
use Rattle.elab_valid.proofs.Sources.{HasSource}
use Rattle.elab_valid.proofs.TypedRows as typing
use Rattle.elab_valid.proofs.TypedRows.{HasValue, IsTypedDone}
use Rattle.elab_valid.proofs.TypeKinds.{ConstantFits, Converts, converts-split, integer-scalar, out-Pointer, same-equal, scalar-decays, scalar-no_struct, scalar-same, scalar_value-nonvoid, to-scalar, unit_object, void-plain, zero-integer}

-- the laws of rows and of types, and the types of the slots that variables have
pub record Laws : Type 0 where
  pub rows : RowsAreGood
  pub parts : PartLaws
  pub fit : RowsFit
  pub touch : RowsTouch
  pub equal : SameIsEquality
  pub known : List Ty

pub pointer-is : (u : Ty) → is_scalar (ty.Pointer u) ≡ true
unfolding is_scalar
pointer-is u = ap is_scalar_at (out-Pointer u)

module _ (laws : Laws) (p : Program) (f : Function) where
  abbrev pub Sound : Code → Type 0
  Sound c = Kept laws.fit laws.touch p f c

  abbrev pub Names : Ty → Type 0
  Names t = names_below (length p.structs) t ≡ true

  abbrev pub IsScalar : Ty → Type 0
  IsScalar t = (is_scalar t ≡ true) × Names t

  pub done : (c : Code) → IsGood c → IsDone c
  done c h place register slot =
      let x = c place register slot in
      laws.parts.composition.fewer (outlines x.code) place register x.register (x.result ∷ []) [] (h place register slot) (λ r is. absurd is)

  -- the first slots have the types of variables
  abbrev pub Slots : Types → Type 0
  Slots slots = HasAt slots 0 laws.known

  abbrev pub Valued : Code → Ty → Type 0
  Valued c t = HasValue p f Slots c t

  abbrev pub TypedDone : Code → Type 0
  TypedDone c = IsTypedDone p f Slots c

  pub typed-done : (c : Code) (t : Ty) → Valued c t → TypedDone c
  typed-done c t h = typing.done p f Slots c t h

  -- a variable's slot has its type
  abbrev pub SlotIs : ℕ → Ty → Type 0
  SlotIs s t = (slots : Types) → Slots slots → slots s ≡ t

  -- code of a value, whatever its type
  pub record GivesSome (c : Code) : Type 0 where
    pub good : IsGood c
    pub kept : Sound c
    pub source : HasSource c

  -- code of a value of this type
  pub record GivesValue (c : Code) (t : Ty) : Type 0 where
    pub good : IsGood c
    pub kept : Sound c
    pub source : is_pointer t ≡ true → HasSource c
    pub typed : Valued c t

  -- ---- lvalues

  pub record InMemory (x : Lvalue) : Type 0 where
    pub good : IsGood x.address
    pub kept : Sound x.address
    pub source : HasSource x.address
    pub typed : Valued x.address (ty.Pointer x.root)
    pub root : Names x.root
    pub ty : Names x.ty
    pub part : HasPart p.structs x.root x.ty

  abbrev pub PlaceFits : Named → Lvalue → Type 0
  PlaceFits (named.Slot s) x = (s < f.slots) × (is_scalar x.ty ≡ true) × SlotIs s x.ty
  PlaceFits _ x = InMemory x

  pub record Placed (x : Part) : Type 0 where
    pub units : has_units p.structs x.ty ≡ true
    pub place : PlaceFits x.name x.lvalue
    pub same : x.lvalue.ty ≡ x.ty

  value_source_at : (x : Lvalue) (o : Outer) → HasSource x.address → HasSource (value_at x o)
  value_source_at x Ty-F.Int h = source.loaded_source laws.parts x
  value_source_at x Ty-F.Char h = source.loaded_source laws.parts x
  value_source_at x Ty-F.Void h = source.loaded_source laws.parts x
  value_source_at x (Ty-F.Struct s) h = h
  value_source_at x (Ty-F.Pointer u) h = source.loaded_source laws.parts x
  value_source_at x (Ty-F.Array u n) h = source.pointing_source laws.parts x.root u x.address h
  value_source_at x (Ty-F.Function g) h = source.loaded_source laws.parts x

  value_kept_at : (x : Lvalue) (o : Outer) → out-Ty x.ty ≡ o → InMemory x → Sound (value_at x o)
  value_kept_at x Ty-F.Int e h = kept.kept_loaded laws.fit laws.touch p f x h.root h.ty h.part h.kept
  value_kept_at x Ty-F.Char e h = kept.kept_loaded laws.fit laws.touch p f x h.root h.ty h.part h.kept
  value_kept_at x Ty-F.Void e h = kept.kept_loaded laws.fit laws.touch p f x h.root h.ty h.part h.kept
  value_kept_at x (Ty-F.Struct s) e h = h.kept
  value_kept_at x (Ty-F.Pointer u) e h = kept.kept_loaded laws.fit laws.touch p f x h.root h.ty h.part h.kept
  value_kept_at x (Ty-F.Array u n) e h =
      kept.kept_pointing laws.fit laws.touch p f x.root u x.address (pointer-is x.root) (pointer-is u) (pointer-named (length p.structs) x.root h.root)
      (pointer-named (length p.structs) u (named-at (length p.structs) x.ty (Ty-F.Array u n) e h.ty)) h.kept
  value_kept_at x (Ty-F.Function g) e h = kept.kept_loaded laws.fit laws.touch p f x h.root h.ty h.part h.kept

  pub lvalue-gives : (x : Lvalue) → InMemory x → GivesSome (lvalue_value x)
  lvalue-gives x h = record {
    good = λ place register slot. laws.rows.addresses.value x place register slot [] (h.good place register slot);
    kept = value_kept_at x (out-Ty x.ty) refl h;
    source = value_source_at x (out-Ty x.ty) h.source;
  }

  pub loaded-valued : (x : Lvalue) → InMemory x → Valued (loaded x) x.ty
  loaded-valued x h place register slot = typing.loaded-typed p f Slots x (ty.Pointer x.root) place register slot [] (h.typed place register slot)

  pub pointing-valued : (x : Lvalue) (u : Ty) → InMemory x → Valued (pointing x.root u x.address) (ty.Pointer u)
  pointing-valued x u h place register slot = typing.pointing-typed p f Slots laws.equal plain-pointers x.root u x.address place register slot [] (h.typed place register slot)

  lvalue_done_at : (x : Lvalue) (o : Outer) → InMemory x → TypedDone (value_at x o)
  lvalue_done_at x Ty-F.Int h = typed-done (loaded x) x.ty (loaded-valued x h)
  lvalue_done_at x Ty-F.Char h = typed-done (loaded x) x.ty (loaded-valued x h)
  lvalue_done_at x Ty-F.Void h = typed-done (loaded x) x.ty (loaded-valued x h)
  lvalue_done_at x (Ty-F.Struct s) h = typed-done x.address (ty.Pointer x.root) h.typed
  lvalue_done_at x (Ty-F.Pointer u) h = typed-done (loaded x) x.ty (loaded-valued x h)
  lvalue_done_at x (Ty-F.Array u n) h = typed-done (pointing x.root u x.address) (ty.Pointer u) (pointing-valued x u h)
  lvalue_done_at x (Ty-F.Function g) h = typed-done (loaded x) x.ty (loaded-valued x h)

  decay-out : (t : Ty) (o : Outer) → out-Ty t ≡ o → decay t ≡ decay_at t o
  unfolding decay
  decay-out t o e = ap (decay_at t) e

  scalar-out : (t : Ty) (o : Outer) → out-Ty t ≡ o → is_scalar t ≡ is_scalar_at o
  unfolding is_scalar
  scalar-out t o e = ap is_scalar_at e

  function-out : (t : Ty) (o : Outer) → out-Ty t ≡ o → is_function t ≡ is_function_at o
  unfolding is_function
  function-out t o e = ap is_function_at e

  lvalue_typed_at : (x : Lvalue) (o : Outer) → out-Ty x.ty ≡ o → is_function x.ty ≡ false → is_scalar (decay x.ty) ≡ true → InMemory x → Valued (value_at x o) (decay x.ty)
  lvalue_typed_at x Ty-F.Int e object s h = subst (Valued (loaded x)) (sym (decay-out x.ty Ty-F.Int e)) (loaded-valued x h)
  lvalue_typed_at x Ty-F.Char e object s h = subst (Valued (loaded x)) (sym (decay-out x.ty Ty-F.Char e)) (loaded-valued x h)
  lvalue_typed_at x Ty-F.Void e object s h = subst (Valued (loaded x)) (sym (decay-out x.ty Ty-F.Void e)) (loaded-valued x h)
  lvalue_typed_at x (Ty-F.Struct n) e object s h =
      absurd (let z : is_scalar x.ty ≡ true = subst (λ u. is_scalar u ≡ true) (decay-out x.ty (Ty-F.Struct n) e) s in let w : is_scalar x.ty ≡ false = scalar-out x.ty (Ty-F.Struct n) e in cc)
  lvalue_typed_at x (Ty-F.Pointer u) e object s h = subst (Valued (loaded x)) (sym (decay-out x.ty (Ty-F.Pointer u) e)) (loaded-valued x h)
  lvalue_typed_at x (Ty-F.Array u n) e object s h = subst (Valued (pointing x.root u x.address)) (sym (decay-out x.ty (Ty-F.Array u n) e)) (pointing-valued x u h)
  lvalue_typed_at x (Ty-F.Function g) e object s h = absurd (let z : is_function x.ty ≡ true = function-out x.ty (Ty-F.Function g) e in cc)

  pub lvalue-typed : (x : Lvalue) → has_units p.structs x.ty ≡ true → is_scalar (decay x.ty) ≡ true → InMemory x → Valued (lvalue_value x) (decay x.ty)
  lvalue-typed x units s h = lvalue_typed_at x (out-Ty x.ty) refl (unit_object p.structs x.ty units).1 s h

  pub number-typed : (n : ℤ) (t : Ty) → is_integer t ≡ true → Valued (number n) t
  number-typed n t i = typing.single-typed p f Slots (λ d. Const d n) t (λ d. refl) (λ slots b e d. (tt, plain-integer t i))

  pub number-done : (n : ℤ) → TypedDone (number n)
  number-done n = typed-done (number n) ty.Int (typing.single-typed p f Slots (λ d. Const d n) ty.Int (λ d. refl) (λ slots b e d. (tt, refl)))

  -- ---- names

  abbrev pub NameFits : Named → Ty → Type 0
  NameFits (named.Function n) t = (h : Function) × (slice_get p.functions n ≡ Some h) × (t ≡ ty.Function h.ty)
  NameFits (named.BuiltIn b) t = t ≡ ty.Function (built_in_type b)
  NameFits _ t = Unit {0}

  abbrev pub UnlessBuiltIn : Named → Bool → Type 0
  UnlessBuiltIn (named.BuiltIn b) value = Unit {0}
  UnlessBuiltIn _ value = value ≡ true

  module _ (k : Context) (scope : Scope) where
    -- a form, and what is made of it
    pub record PartMet (g : FormLayer) (x : Part) : Type 0 where
      pub names : Names x.ty
      pub constant : ConstantFits x.constant x.ty
      pub done : IsDone x.value
      pub kept : Sound x.value
      pub good : is_value_at g ≡ true → is_void x.ty ≡ false → IsGood x.value
      pub source : is_value_at g ≡ true → is_pointer (decay x.ty) ≡ true → HasSource x.value
      pub lvalue : is_lvalue_at x.ty g ≡ true → Placed x
      pub struct : is_struct x.ty ≡ true → is_lvalue_at x.ty g ≡ true
      pub name : NameFits x.name x.ty
      pub valued : UnlessBuiltIn x.name (is_value_at g)
      pub unaddressed : (s : ℕ) → x.name ≡ named.Slot s → NamedAddressed k g → ⊥
      pub typed_done : TypedDone x.value
      pub typed : is_value_at g ≡ true → is_scalar (decay x.ty) ≡ true → Valued x.value (decay x.ty)

    -- an expression of which it is so
    pub record IsMet (e : TypedExpr) : Type 0 where
      pub met : PartMet (out-TypedForm (form_of e)) (part scope e)
      pub ty : (part scope e).ty ≡ type_of e
      pub constant : (part scope e).constant ≡ constant_of e

    pub from-node : (e : TypedExpr)
        → (PartMet (out-TypedForm (form_of e)) (made_of scope (node scope (out-TypedForm (form_of e))) (type_of e) (constant_of e)))
        → IsMet e
    unfolding form_of type_of constant_of
    from-node e h = record {
      met = subst (PartMet (out-TypedForm (out-TypedExpr e).form)) (sym (part-of scope e)) h;
      ty = ap (λ z. z.ty) (part-of scope e);
      constant = ap (λ z. z.constant) (part-of scope e);
    }

    -- ---- constants in place of values

    pub folded-keeps : (P : Code → Type 0) (b : Bool) (c : Constant) (v : Code) → P v → ((n : ℤ) → P (number n)) → P (folded b c v)
    folded-keeps P true constant.Other v h num = h
    folded-keeps P true constant.Divides v h num = h
    folded-keeps P true (constant.Value n) v h num = num n
    folded-keeps P false c v h num = h

    pub number-source : (n : ℤ) → HasSource (number n)
    number-source n = source.single_source laws.parts (λ d. Const d n) (λ d. refl) (λ d e. cc)

    pub number-some : (n : ℤ) → GivesSome (number n)
    number-some n = record { good = laws.rows.singles.number n; kept = kept.kept_number laws.fit laws.touch p f n; source = number-source n }

    pub number-gives : (n : ℤ) (t : Ty) → is_integer t ≡ true → GivesValue (number n) t
    number-gives n t i = record {
      good = laws.rows.singles.number n;
      kept = kept.kept_number laws.fit laws.touch p f n;
      source = λ is. number-source n;
      typed = number-typed n t i;
    }

    -- a number that is a constant's value has the constant's type
    constant-valued : (n : ℤ) (c : Constant) (t : Ty) → ConstantFits c t → c ≡ constant.Value n → Valued (number n) (decay t)
    constant-valued n c t fits is =
        let i : is_integer t ≡ true = subst (λ z. ConstantFits z t) is fits in subst (Valued (number n)) (sym (scalar-same t (integer-scalar t i))) (number-typed n t i)

    folded-valued : (b : Bool) (c : Constant) (v : Code) (t : Ty) → Valued v t → ((n : ℤ) → c ≡ constant.Value n → Valued (number n) t) → Valued (folded b c v) t
    folded-valued true constant.Other v t h num = h
    folded-valued true constant.Divides v t h num = h
    folded-valued true (constant.Value n) v t h num = num n refl
    folded-valued false c v t h num = h

    pub constant-typed : (c : Constant) (v : Code) (t : Ty) → ConstantFits c t → Valued v (decay t) → Valued (folded scope.folds c v) (decay t)
    constant-typed c v t fits h = folded-valued scope.folds c v (decay t) h (λ n is. constant-valued n c t fits is)

    pub constant-done : (c : Constant) (v : Code) → TypedDone v → TypedDone (folded scope.folds c v)
    constant-done c v h = folded-keeps TypedDone scope.folds c v h number-done

    -- ---- forms that are no lvalues

    abbrev made : Ty → Constant → Code → Lvalue → Named → Part
    made t c v x n = record { ty = t; constant = c; value = folded scope.folds c v; lvalue = x; name = n }

    pub rvalue : (g : FormLayer) (t : Ty) (c : Constant) (v : Code) (x : Lvalue) → is_lvalue_at t g ≡ false → is_value_at g ≡ true → Names t → ConstantFits c t → is_struct t ≡ false
        → IsDone v → Sound v → (is_void t ≡ false → IsGood v) → (is_pointer (decay t) ≡ true → HasSource v) → TypedDone v → (is_scalar (decay t) ≡ true → Valued v (decay t)) → PartMet g (made t c v x named.Other)
    rvalue g t c v x never value names fits plain is_done is_kept good sourced is_typed valued_at = record {
      names = names;
      constant = fits;
      done = folded-keeps IsDone scope.folds c v is_done (λ n. done (number n) (number-some n).good);
      kept = folded-keeps Sound scope.folds c v is_kept (λ n. (number-some n).kept);
      good = λ is nonvoid. folded-keeps IsGood scope.folds c v (good nonvoid) (λ n. (number-some n).good);
      source = λ is pointer. folded-keeps HasSource scope.folds c v (sourced pointer) number-source;
      lvalue = λ is. absurd (let z : is_lvalue_at t g ≡ true = is in cc);
      struct = λ is. absurd (let z : is_struct t ≡ true = is in cc);
      name = tt;
      valued = value;
      unaddressed = λ s e h. cc;
      typed_done = constant-done c v is_typed;
      typed = λ is s. constant-typed c v t fits (valued_at s);
    }

    pub scalar : (g : FormLayer) (t : Ty) (c : Constant) (v : Code) (x : Lvalue) → is_lvalue_at t g ≡ false → is_value_at g ≡ true → IsScalar t → ConstantFits c t → GivesValue v t
        → PartMet g (made t c v x named.Other)
    scalar g t c v x never value at fits gives =
        rvalue g t c v x never value at.1 fits (scalar-no_struct t at.0) (done v gives.good) gives.kept (λ nonvoid. gives.good)
        (λ is. gives.source (subst (λ u. is_pointer u ≡ true) (scalar-same t at.0) is)) (typed-done v t gives.typed) (λ s. subst (Valued v) (sym (scalar-same t at.0)) gives.typed)

    pub nothing-given : (g : FormLayer) (t : Ty) (c : Constant) (v : Code) (x : Lvalue) → is_lvalue_at t g ≡ false → is_value_at g ≡ true → Names t → ConstantFits c t → is_void t ≡ true
        → IsDone v → Sound v → TypedDone v → PartMet g (made t c v x named.Other)
    nothing-given g t c v x never value names fits void is_done is_kept is_typed =
        let plain = void-plain t void in
        rvalue g t c v x never value names fits plain.0 is_done is_kept (λ nonvoid. absurd (let a : is_void t ≡ false = nonvoid in cc)) (λ is. absurd (let a : is_pointer (decay t) ≡ false = plain.1 in cc))
        is_typed (λ s. absurd (let a : is_void t ≡ false = scalar_value-nonvoid t s in cc))

    -- ---- lvalues in memory

    pub memory : (g : FormLayer) (c : Constant) (x : Lvalue) (n : Named) → is_lvalue_at x.ty g ≡ true → is_value_at g ≡ true → ConstantFits c x.ty → has_units p.structs x.ty ≡ true → InMemory x
        → PlaceFits n x → NameFits n x.ty → UnlessBuiltIn n true → ((s : ℕ) → n ≡ named.Slot s → ⊥) → PartMet g (made x.ty c (lvalue_value x) x n)
    memory g c x n is value fits units h place name valued noslot =
        let gives = lvalue-gives x h in
        record {
          names = h.ty;
          constant = fits;
          done = folded-keeps IsDone scope.folds c (lvalue_value x) (done (lvalue_value x) gives.good) (λ m. done (number m) (number-some m).good);
          kept = folded-keeps Sound scope.folds c (lvalue_value x) gives.kept (λ m. (number-some m).kept);
          good = λ z nonvoid. folded-keeps IsGood scope.folds c (lvalue_value x) gives.good (λ m. (number-some m).good);
          source = λ z pointer. folded-keeps HasSource scope.folds c (lvalue_value x) (value_source_at x (out-Ty x.ty) h.source) number-source;
          lvalue = λ z. record { units = units; place = place; same = refl };
          struct = λ z. is;
          name = name;
          valued = subst (UnlessBuiltIn n) (sym value) valued;
          unaddressed = λ s e z. noslot s e;
          typed_done = constant-done c (lvalue_value x) (lvalue_done_at x (out-Ty x.ty) h);
          typed = λ z s. constant-typed c (lvalue_value x) x.ty fits (lvalue-typed x units s h);
        }

    -- ---- parts as operands

    module _ (e : TypedExpr) (h : IsMet e) where
      abbrev x : Part
      x = part scope e

      pub lvalue-placed : is_lvalue e ≡ true → Placed x
      unfolding is_lvalue
      lvalue-placed is = h.met.lvalue (subst (λ t. is_lvalue_at t (out-TypedForm (form_of e)) ≡ true) (sym h.ty) is)

      pub zero-scalar : is_zero_constant x.constant ≡ true → is_scalar (decay x.ty) ≡ true
      zero-scalar z = scalar-decays x.ty (integer-scalar x.ty (zero-integer x.constant x.ty h.met.constant z))

      pub value-converts : (t : Ty) → converts e t ≡ true → Converts (decay x.ty) t
      unfolding converts value_type is_null
      value-converts t c =
          converts-split (decay x.ty) t (is_zero_constant x.constant) zero-scalar
          (subst (λ u. (type_converts (decay u) t || (is_zero_constant x.constant && is_pointer t)) ≡ true) (sym h.ty)
          (subst (λ v. (type_converts (decay (type_of e)) t || (is_zero_constant v && is_pointer t)) ≡ true) (sym h.constant) c))

      -- a scalar value
      pub value-given : is_value e ≡ true → is_scalar (decay x.ty) ≡ true → GivesValue x.value (decay x.ty)
      unfolding is_value
      value-given is s = record {
        good = h.met.good is (scalar_value-nonvoid x.ty s);
        kept = h.met.kept;
        source = λ pointer. h.met.source is pointer;
        typed = h.met.typed is s;
      }

      pub converted-given : (t : Ty) → is_value e ≡ true → IsScalar t → Converts (decay x.ty) t → Names (decay x.ty) → GivesValue (converted_part x t) t
      converted-given t is at c names =
          let from = to-scalar laws.equal (decay x.ty) t at.0 c in
          let v = value-given is from in
          record {
            good = λ place register slot. laws.rows.operators.conversion (decay x.ty) t x.value place register slot [] (v.good place register slot);
            kept = kept.kept_converted laws.fit laws.touch p f (decay x.ty) t x.value c names at.1 v.kept;
            source = λ pointer. source.converted_source laws.parts (decay x.ty) t x.value
                (λ is_same. v.source (subst (λ u. is_pointer u ≡ true) (sym (same-equal laws.equal (decay x.ty) t is_same)) pointer));
            typed = λ place register slot. typing.converted-typed p f Slots laws.equal (decay x.ty) t x.value place register slot [] (v.typed place register slot);
          }
