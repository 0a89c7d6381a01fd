-- Assignments: what is made of them is as asked.
use Rattle.std.proofs.Common.{◌≡◌, ◌∙◌, ℕ, ◌<◌, Bool, true, false, not, ◌||◌, ◌⊎◌, inl, inr, List, [], ◌∷◌, Some, unwrap_or, refl, ap, sym, subst, ⊎_elim}
use Rattle.std.specs.Prelude.{if◌then◌else◌}
use Rattle.c_types.specs.declared.ty.Ty.{Ty}
use Rattle.c_types.specs.declared.ty.Ty.TheVariants as ty
use Rattle.c_types.specs.Kinds.{decay, is_array, is_scalar, is_struct}
use Rattle.c_tree.specs.declared.operator.BinaryOperator.{BinaryOperator}
use Rattle.c_typed.specs.declared.expression.TypedExpr.{TypedExpr}
use Rattle.c_operators.specs.Operators.{converts, is_assignable, is_lvalue, is_zero_constant, operated_types, takes_value, type_of}
use Rattle.c_rules.specs.Rules.{assigned_type, takes}
use Rattle.c_typed_rows.specs.Contexts.{Context}
use Rattle.c_typed_rows.specs.Expressions.{PlainRow, is_value}
use Rattle.core_ir.specs.declared.instr.Instr.{Instr}
use Rattle.core_ir.specs.declared.instr.Instr.TheVariants.{GetLocal, SetLocal, Store, Touch}
use Rattle.core_ir.specs.declared.program.Function.{Function}
use Rattle.core_ir.specs.declared.program.Program.{Program}
use Rattle.core_ir.specs.Parts.{HasPart}
use Rattle.core_ir.specs.Typed.{plain_type}
use Rattle.core_parts.specs.Pieces.{IsPart}
use Rattle.core_parts.specs.Theorems.{AreAmong}
use Rattle.elab_rows.specs.declared.named.Named.{Named}
use Rattle.elab_rows.specs.declared.named.Named.TheVariants as named
use Rattle.elab_rows.specs.declared.scope.Scope.{Scope}
use Rattle.elab_rows.specs.Addresses.{Lvalue, assigned, loaded, slot_assigned, slot_updated, struct_assigned, updated, with_old_value}
use Rattle.elab_rows.specs.Made.{Code, Made}
use Rattle.elab_rows.specs.Rows.{Operand, operated, operated_type, operation_of, slot_value}
use Rattle.elab_rows.specs.Units.{scalars}
use Rattle.elab_rows.specs.Values.{Part, assigned_by, converted_part, new_value, old_operand, old_value, operand, part, plain_assigned, updated_by, updated_part}
use Rattle.elab_laws.specs.Theorems.{GivesAt, IsDone}
use Rattle.elab_laws.specs.Values.{IsGood, outlines}
use Rattle.elab_valid.proofs.Names.{ScopeFits}
use Rattle.elab_valid.proofs.KeptRows as kept
use Rattle.elab_valid.proofs.MetParts as met
use Rattle.elab_valid.proofs.MetParts.{GivesValue, InMemory, IsMet, IsScalar, Laws, Names, PartMet, PlaceFits, Placed, SlotIs, Slots, Sound, TypedDone, Valued}
use Rattle.elab_valid.proofs.NamedTypes.{ScalarsOf, parts-of, scalars-of}
use Rattle.elab_valid.proofs.NamesMet.{slot-valued}
use Rattle.elab_valid.proofs.Operations as operations
use Rattle.elab_valid.proofs.Operations.{Begins, IsOperated, begins-converted, begins-operation, int-is}
use Rattle.elab_valid.proofs.OperatorTypes.{given, operated-only}
use Rattle.elab_valid.proofs.Sources as source
use Rattle.elab_valid.proofs.Sources.{HasSource, Sourced}
use Rattle.elab_valid.proofs.HeldTypes as held
use Rattle.elab_valid.proofs.TypedOperations as typed_operations
use Rattle.elab_valid.proofs.TypedRows as typing
use Rattle.elab_valid.proofs.TypedRows.{GivesType}
use Rattle.elab_valid.proofs.TypeKinds.{Converts, first, scalar-no_struct, scalar-same, second, struct-back, struct-no_scalar, struct-same, to-struct, unit_kinds}
use Rattle.elab_valid.proofs.UnaryMet as unary

-- what stands behind a test that holds
unless-not : (a b : Bool) → a ≡ true → (not a || b) ≡ true → b ≡ true
unless-not true b e h = h
unless-not false b e h = absurd (cc)

or-true-left : (a b : Bool) → a ≡ true → (a || b) ≡ true
or-true-left true b e = refl
or-true-left false b e = absurd (cc)

or-true-right : (a b : Bool) → b ≡ true → (a || b) ≡ true
or-true-right true b e = refl
or-true-right false b e = e

not-true-false : (b : Bool) → not b ≡ true → b ≡ false
not-true-false true e = absurd (cc)
not-true-false false e = refl

again : (r : ℕ) → AreAmong (r ∷ r ∷ []) (r ∷ [])
again r q (inl e) = inl e
again r q (inr (inl e)) = inl e
again r q (inr (inr z)) = absurd z

behind-first : (a b : ℕ) → AreAmong (b ∷ []) (a ∷ b ∷ [])
behind-first a b q (inl e) = inr (inl e)
behind-first a b q (inr z) = absurd z

-- the third register is the first again
first-again : (r a : ℕ) → AreAmong (r ∷ a ∷ r ∷ []) (r ∷ a ∷ [])
first-again r a q (inl e) = inl e
first-again r a q (inr (inl e)) = inr (inl e)
first-again r a q (inr (inr (inl e))) = inl e
first-again r a q (inr (inr (inr z))) = absurd z

module _ (laws : Laws) (p : Program) (f : Function) (k : Context) (scope : Scope) (fits : ScopeFits laws.known k scope p f) where
  abbrev Met : TypedExpr → Type 0
  Met x = IsMet laws p f k scope x

  abbrev At : TypedExpr → Part
  At x = part scope x

  fewer : (c : List Instr) (place a b : ℕ) (live less : List ℕ) → IsPart (outlines c) place a b live → AreAmong less live → IsPart (outlines c) place a b less
  fewer c place a b live less h known = laws.parts.composition.fewer (outlines c) place a b live less h known

  -- ---- stores

  memory-assigned : (x : Lvalue) (v : Code) (t : Ty) → InMemory laws p f x → x.ty ≡ t → GivesValue laws p f v t → GivesValue laws p f (assigned x v) t
  memory-assigned x v t m same g = record {
    good = λ place register slot. laws.rows.addresses.assigned x m.good v place register slot [] (g.good place register slot);
    kept = kept.kept_assigned laws.fit laws.touch p f x v m.root m.ty m.part m.kept g.kept;
    source = λ pointer. source.assigned_source laws.parts x v (g.source pointer);
    typed = subst (Valued laws p f (assigned x v)) same
        (λ place register slot. typing.assigned-typed p f (Slots laws p f) x v (met.typed-done laws p f x.address (ty.Pointer x.root) m.typed) place register slot [] (subst (Valued laws p f v) (sym same) g.typed place register slot));
  }

  pub slot-given : (s : ℕ) (v : Code) (t : Ty) → s < f.slots → SlotIs laws p f s t → GivesValue laws p f v t → GivesValue laws p f (slot_assigned s v) t
  slot-given s v t lt is g = record {
    good = λ place register slot. laws.rows.addresses.slot_assigned s v place register slot [] (g.good place register slot);
    kept = kept.kept_set laws.fit laws.touch p f s v lt g.kept;
    source = λ pointer. source.followed_source laws.parts (λ x. SetLocal s x) v (g.source pointer);
    typed = λ place register slot. typing.set-typed p f (Slots laws p f) s v t (λ slots b. ap plain_type (is slots b)) place register slot [] (g.typed place register slot);
  }

  pub assigned-gives : (n : Named) (x : Lvalue) (v : Code) (t : Ty) → PlaceFits laws p f n x → x.ty ≡ t → GivesValue laws p f v t → GivesValue laws p f (assigned_by n x v) t
  assigned-gives (named.Slot s) x v t h same g = slot-given s v t h.0 (subst (SlotIs laws p f s) same h.2) g
  assigned-gives (named.Function n) x v t h same g = memory-assigned x v t h same g
  assigned-gives (named.BuiltIn b) x v t h same g = memory-assigned x v t h same g
  assigned-gives (named.Global n) x v t h same g = memory-assigned x v t h same g
  assigned-gives (named.Frame n) x v t h same g = memory-assigned x v t h same g
  assigned-gives named.Other x v t h same g = memory-assigned x v t h same g

  -- ---- structs

  named-list : (t : Ty) (xs : List Ty) → ScalarsOf p.structs t xs → kept.NamedParts laws.fit laws.touch p f xs
  named-list t [] h = tt
  named-list t (x ∷ xs) h = (h.0.2, named-list t xs h.1)

  -- an lvalue of this struct, from one of the same
  pub struct-given : (t : Ty) (to from : Lvalue) → InMemory laws p f to → InMemory laws p f from → to.ty ≡ t → from.ty ≡ t
      → IsGood (struct_assigned (scalars p.structs t) to from) × Sound laws p f (struct_assigned (scalars p.structs t) to from) × TypedDone laws p f (struct_assigned (scalars p.structs t) to from)
  struct-given t to from ht hf to_t from_t =
      let xs = scalars p.structs t in
      let parts = scalars-of p.structs fits.sound t (subst (Names laws p f) to_t ht.ty) in (
        λ place register slot. laws.rows.addresses.struct_assigned xs to ht.good from place register slot [] (hf.good place register slot),
        kept.kept_struct laws.fit laws.touch p f xs to from hf.root ht.root (named-list t xs parts)
            (parts-of p.structs from.root t xs (subst (HasPart p.structs from.root) from_t hf.part) parts) (parts-of p.structs to.root t xs (subst (HasPart p.structs to.root) to_t ht.part) parts) hf.kept ht.kept,
        typing.struct-typed p f (Slots laws p f) xs to from (met.typed-done laws p f to.address (ty.Pointer to.root) ht.typed) (met.typed-done laws p f from.address (ty.Pointer from.root) hf.typed),
      )

  -- an expression that is a struct is an lvalue in memory
  pub struct-memory : (x : TypedExpr) → Met x → is_struct (At x).ty ≡ true → InMemory laws p f (At x).lvalue × ((At x).lvalue.ty ≡ (At x).ty)
  struct-memory x h s =
      let place = h.met.lvalue (h.met.struct s) in
      (unary.memory-unless_slot laws p f k scope fits (At x).name (At x).lvalue (subst (λ u. is_scalar u ≡ false) (sym place.same) (struct-no_scalar (At x).ty s)) place.place, place.same)

  -- what is assigned to an lvalue of its type
  pub struct-converts : (y : TypedExpr) → Met y → (t : Ty) → is_struct t ≡ true → Converts (decay (At y).ty) t → (At y).ty ≡ t
  struct-converts y h t s c =
      let is : decay (At y).ty ≡ t = to-struct laws.equal (decay (At y).ty) t s c in
      sym (struct-back (At y).ty (subst (λ u. is_struct u ≡ true) (sym is) s)) ∙ is

  pub struct-from : (to : Lvalue) (t : Ty) → InMemory laws p f to → to.ty ≡ t → is_struct t ≡ true → (y : TypedExpr) → Met y → Converts (decay (At y).ty) t
      → IsGood (struct_assigned (scalars p.structs t) to (At y).lvalue) × Sound laws p f (struct_assigned (scalars p.structs t) to (At y).lvalue) × TypedDone laws p f (struct_assigned (scalars p.structs t) to (At y).lvalue)
  struct-from to t ht to_t s y hy c =
      let is = struct-converts y hy t s c in
      let from = struct-memory y hy (subst (λ u. is_struct u ≡ true) (sym is) s) in
      struct-given t to (At y).lvalue ht from.0 to_t (from.1 ∙ is)

  -- ---- `x = y`

  -- what may be assigned is a scalar or a struct
  pub assignable : (x : TypedExpr) → Met x → is_assignable x ≡ true → Placed laws p f (At x) × ((is_scalar (At x).ty ≡ true) ⊎ (is_struct (At x).ty ≡ true))
  unfolding is_assignable
  assignable x h a =
      let place = met.lvalue-placed laws p f k scope x h (first (is_lvalue x) (not (is_array (type_of x))) a) in
      let plain = not-true-false (is_array (type_of x)) (second (is_lvalue x) (not (is_array (type_of x))) a) in
      (place, unit_kinds p.structs (At x).ty place.units (subst (λ u. is_array u ≡ false) (sym h.ty) plain))

  plain-converts : (x y : TypedExpr) → Met x → Met y → PlainRow x y (assigned_type (type_of x)) → takes_value (At x).ty ≡ true → Converts (decay (At y).ty) (At x).ty
  unfolding takes
  plain-converts x y hx hy row value =
      let tv : takes_value (type_of x) ≡ true = subst (λ u. takes_value u ≡ true) hx.ty value in
      met.value-converts laws p f k scope y hy (At x).ty (subst (λ u. converts y u ≡ true) (sym hx.ty) (unless-not (takes_value (type_of x)) (converts y (type_of x)) tv row.converts))

  scalar-takes : (t : Ty) → is_scalar t ≡ true → takes_value t ≡ true
  unfolding takes_value
  scalar-takes t s = or-true-left (is_scalar t) (is_struct t) s

  struct-takes : (t : Ty) → is_struct t ≡ true → takes_value t ≡ true
  unfolding takes_value
  struct-takes t s = or-true-right (is_scalar t) (is_struct t) s

  -- of a scalar: the value that is assigned; of a struct: none
  pub scalar-assigned : (x y : TypedExpr) → Met x → Met y → is_value y ≡ true → PlainRow x y (assigned_type (type_of x)) → is_scalar (At x).ty ≡ true → GivesValue laws p f (plain_assigned scope (At x) (At y)) (At x).ty
  scalar-assigned x y hx hy vy row s =
      let place = (assignable x hx row.lvalue).0 in
      let v = met.converted-given laws p f k scope y hy (At x).ty vy (s, hx.met.names) (plain-converts x y hx hy row (scalar-takes (At x).ty s)) (unary.names-value laws p f k scope fits y hy) in
      let plain : is_struct (At x).ty ≡ false = scalar-no_struct (At x).ty s in
      subst (λ (d : Bool). GivesValue laws p f (if d then struct_assigned (scalars scope.structs (At x).ty) (At x).lvalue (At y).lvalue else assigned_by (At x).name (At x).lvalue (converted_part (At y) (At x).ty)) (At x).ty)
      (sym plain) (assigned-gives (At x).name (At x).lvalue (converted_part (At y) (At x).ty) (At x).ty place.place place.same v)

  pub struct-assigned : (x y : TypedExpr) → Met x → Met y → PlainRow x y (assigned_type (type_of x)) → is_struct (At x).ty ≡ true → IsDone (plain_assigned scope (At x) (At y)) × Sound laws p f (plain_assigned scope (At x) (At y)) × TypedDone laws p f (plain_assigned scope (At x) (At y))
  struct-assigned x y hx hy row s =
      let to = struct-memory x hx s in
      let both = struct-from (At x).lvalue (At x).ty to.0 to.1 s y hy (plain-converts x y hx hy row (struct-takes (At x).ty s)) in
      let code = struct_assigned (scalars p.structs (At x).ty) (At x).lvalue (At y).lvalue in
      let done = met.done laws p f code both.0 in
      subst (λ (d : Bool). IsDone (if d then struct_assigned (scalars scope.structs (At x).ty) (At x).lvalue (At y).lvalue else assigned_by (At x).name (At x).lvalue (converted_part (At y) (At x).ty))
      × Sound laws p f (if d then struct_assigned (scalars scope.structs (At x).ty) (At x).lvalue (At y).lvalue else assigned_by (At x).name (At x).lvalue (converted_part (At y) (At x).ty))
      × TypedDone laws p f (if d then struct_assigned (scalars scope.structs (At x).ty) (At x).lvalue (At y).lvalue else assigned_by (At x).name (At x).lvalue (converted_part (At y) (At x).ty))) (sym s)
      (subst (λ ds. IsDone (struct_assigned (scalars ds (At x).ty) (At x).lvalue (At y).lvalue) × Sound laws p f (struct_assigned (scalars ds (At x).ty) (At x).lvalue (At y).lvalue)
      × TypedDone laws p f (struct_assigned (scalars ds (At x).ty) (At x).lvalue (At y).lvalue)) (sym fits.structs_of_scope) (done, both.1, both.2))

  -- ---- `op=`, `++`, `--`

  module _ (x : TypedExpr) (hx : Met x) (assigns : is_assignable x ≡ true) (o : BinaryOperator) (is : IsOperated o) (y : Operand) (at_y : IsScalar laws p f y.ty) (good_y : IsGood y.code) (kept_y : Sound laws p f y.code)
      (at_x : is_scalar (decay (At x).ty) ≡ true) (value : Ty) (types : operated_types p.structs o (decay (At x).ty) (is_zero_constant (At x).constant) y.ty y.is_null ≡ Some value)
      (typed_y : Valued laws p f y.code y.ty) where
    abbrev a : Ty
    a = decay (At x).ty

    placed : Placed laws p f (At x)
    placed = (assignable x hx assigns).0

    -- it is a scalar, since it is one as a value
    pub target-scalar : is_scalar (At x).ty ≡ true
    target-scalar = ⊎_elim (λ s. s) (λ s. absurd (let z : is_scalar (At x).ty ≡ false = struct-no_scalar (At x).ty s in let w : is_scalar (At x).ty ≡ true = subst (λ u. is_scalar u ≡ true) (struct-same (At x).ty s) at_x in cc))
        (assignable x hx assigns).1

    names-x : Names laws p f a
    names-x = unary.names-value laws p f k scope fits x hx

    abbrev result : Ty
    result = operated_type scope.structs o (operand (At x)) y

    result-is : IsScalar laws p f result
    unfolding operated_type
    result-is =
        given (IsScalar laws p f) (int-is laws.rows laws.parts laws.fit laws.touch p f) (operated_types scope.structs o a (is_zero_constant (At x).constant) y.ty y.is_null)
        (operated-only (IsScalar laws p f) (int-is laws.rows laws.parts laws.fit laws.touch p f) scope.structs a (is_zero_constant (At x).constant) y.ty y.is_null (at_x, names-x) at_y o)

    abbrev new : Code → Code
    new old = new_value scope o (At x) y old

    abbrev inner : Code → Code
    inner old = operated scope.structs o (old_operand (At x) old) y

    new-good : (old : Code) (place register slot : ℕ) (more : List ℕ) → GivesAt old place register slot more → GivesAt (new old) place register slot more
    new-good old place register slot more h =
        laws.rows.operators.conversion result (At x).ty (inner old) place register slot more
        (operations.operated-good laws.rows laws.parts laws.fit laws.touch p f scope.structs o is y at_y good_y kept_y (old_operand (At x) old) (at_x, names-x) place register slot more h)

    new-kept : (old : Code) → Sound laws p f old → Sound laws p f (new old)
    new-kept old h =
        kept.kept_converted laws.fit laws.touch p f result (At x).ty (inner old) (inr (result-is.0, target-scalar)) result-is.1 hx.met.names
        (operations.operated-kept laws.rows laws.parts laws.fit laws.touch p f scope.structs o is y at_y good_y kept_y (old_operand (At x) old) (at_x, names-x) h)

    new-source : (old : Code) → HasSource (new old)
    new-source old =
        source.converted_source laws.parts result (At x).ty (inner old)
        (λ same. operations.operated-source laws.rows laws.parts laws.fit laws.touch p f scope.structs o is y at_y good_y kept_y (old_operand (At x) old) (at_x, names-x))

    new-begins : (old : Code) → Begins old (new old)
    new-begins old = begins-converted result (At x).ty old (inner old) (begins-operation (operation_of scope.structs o (old_operand (At x) old) y) (old_operand (At x) old) y)

    result-value : operated_types scope.structs o a (is_zero_constant (At x).constant) y.ty y.is_null ≡ Some value
    result-value = subst (λ ds. operated_types ds o a (is_zero_constant (At x).constant) y.ty y.is_null ≡ Some value) (sym fits.structs_of_scope) types

    result-same : value ≡ result
    unfolding operated_type
    result-same = sym (ap (λ z. unwrap_or z ty.Int) result-value)

    new-typed : (old : Code) (place register slot : ℕ) (more : List (ℕ × Ty)) → GivesType p f (Slots laws p f) (old place register slot) register slot (At x).ty more
        → GivesType p f (Slots laws p f) (new old place register slot) register slot (At x).ty more
    new-typed old place register slot more h =
        let first = typed_operations.operated-typed p f (Slots laws p f) laws.equal scope.structs o is (old_operand (At x) old) y value result-value typed_y place register slot more
        (subst (λ u. GivesType p f (Slots laws p f) (old place register slot) register slot u more) (sym (scalar-same (At x).ty target-scalar)) h) in
        typing.converted-typed p f (Slots laws p f) laws.equal result (At x).ty (inner old) place register slot more
        (subst (λ u. GivesType p f (Slots laws p f) (inner old place register slot) register slot u more) result-same first)

    -- ---- in front

    slot-updated : (s : ℕ) → s < f.slots → SlotIs laws p f s (At x).ty → GivesValue laws p f (slot_updated s new) (At x).ty
    slot-updated s lt slot_is = slot-given s (new (slot_value s)) (At x).ty lt slot_is (record {
      good = λ place register slot. new-good (slot_value s) place register slot [] (laws.rows.singles.slot_value s place register slot);
      kept = new-kept (slot_value s) (kept.kept_slot laws.fit laws.touch p f s lt);
      source = λ pointer. new-source (slot_value s);
      typed = λ place register slot. new-typed (slot_value s) place register slot [] (slot-valued laws p f k scope fits s (At x).ty slot_is place register slot);
    })

    -- the old value, with the address's register
    loaded-at : (l : Lvalue) → InMemory laws p f l → (place register slot : ℕ) → GivesAt (loaded l) place register slot ((l.address place register slot).result ∷ [])
    loaded-at l m place register slot =
        let q = l.address place register slot in
        laws.rows.addresses.load l place register slot (q.result ∷ [])
        (fewer q.code place register q.register (q.result ∷ []) (q.result ∷ q.result ∷ []) (m.good place register slot) (again q.result))

    memory-kept : (l : Lvalue) → InMemory laws p f l → Sound laws p f (updated l new)
    memory-kept l m = kept.kept_updated laws.fit laws.touch p f l new m.root m.ty m.part (new-kept (loaded l) (kept.kept_loaded laws.fit laws.touch p f l m.root m.ty m.part m.kept))

    -- the old value, from which others may follow
    loaded-typed : (l : Lvalue) → InMemory laws p f l → l.ty ≡ (At x).ty → (place register slot : ℕ) → GivesType p f (Slots laws p f) (loaded l place register slot) register slot (At x).ty []
    loaded-typed l m same place register slot = subst (Valued laws p f (loaded l)) same (met.loaded-valued laws p f l m) place register slot

    updated-typed : (l : Lvalue) → l.ty ≡ (At x).ty → (place register slot : ℕ) (more : List (ℕ × Ty)) → GivesType p f (Slots laws p f) (loaded l place register slot) register slot (At x).ty more
        → GivesType p f (Slots laws p f) (updated l new place register slot) register slot (At x).ty more
    updated-typed l same place register slot more h =
        subst (λ u. GivesType p f (Slots laws p f) (updated l new place register slot) register slot u more) same
        (typing.updated-typed p f (Slots laws p f) l new place register slot more
        (subst (λ u. GivesType p f (Slots laws p f) (new (loaded l) place register slot) register slot u more) (sym same) (new-typed (loaded l) place register slot more h)))

    memory-updated : (l : Lvalue) → InMemory laws p f l → l.ty ≡ (At x).ty → GivesValue laws p f (updated l new) (At x).ty
    memory-updated l m same = record {
      good = λ place register slot. laws.rows.addresses.updated l new place register slot []
          (new-good (loaded l) place register slot ((l.address place register slot).result ∷ []) (loaded-at l m place register slot));
      kept = memory-kept l m;
      source = λ pointer. source.updated_source laws.parts l new (new-source (loaded l));
      typed = λ place register slot. updated-typed l same place register slot [] (loaded-typed l m same place register slot);
    }

    updated-by : (n : Named) (l : Lvalue) → PlaceFits laws p f n l → l.ty ≡ (At x).ty → GivesValue laws p f (updated_by n l new) (At x).ty
    updated-by (named.Slot s) l h same = slot-updated s h.0 (subst (SlotIs laws p f s) same h.2)
    updated-by (named.Function n) l h same = memory-updated l h same
    updated-by (named.BuiltIn b) l h same = memory-updated l h same
    updated-by (named.Global n) l h same = memory-updated l h same
    updated-by (named.Frame n) l h same = memory-updated l h same
    updated-by named.Other l h same = memory-updated l h same

    pub updated-gives : GivesValue laws p f (updated_part scope o (At x) y) (At x).ty
    updated-gives = updated-by (At x).name (At x).lvalue placed.place placed.same

    -- ---- behind

    -- the old value's instruction stands in the code of the new one
    old-source : (old : Code) → HasSource old → (place register slot : ℕ) → Sourced (new old place register slot).code place (old place register slot).result
    old-source old h place register slot =
        let b = new-begins old place register slot in
        subst (λ c. Sourced c place (old place register slot).result) (sym b.1) (source.in_front laws.parts (old place register slot).code b.0 place (old place register slot).result (h place register slot))

    -- the old value again, with its register
    twice-live : (c z : Made) (register slot : ℕ) → GivesType p f (Slots laws p f) c register slot (At x).ty [] → GivesType p f (Slots laws p f) c register slot (At x).ty ((c.result, (At x).ty) ∷ [])
    twice-live c z register slot h = held.less p f (Slots laws p f) [] c register slot ((c.result, (At x).ty) ∷ []) ((c.result, (At x).ty) ∷ (c.result, (At x).ty) ∷ []) (λ n b. (b.0, b)) (λ e l. (l.0, l)) h

    old-live : (z : Made) (r register slot : ℕ) → GivesType p f (Slots laws p f) z register slot (At x).ty ((r, (At x).ty) ∷ []) → GivesType p f (Slots laws p f) (record z { result = r }) register slot (At x).ty []
    old-live z r register slot h =
        held.with_result p f (Slots laws p f) [] z r register slot ((r, (At x).ty) ∷ [])
        (held.less p f (Slots laws p f) [] z register slot ((z.result, (At x).ty) ∷ (r, (At x).ty) ∷ []) ((r, (At x).ty) ∷ []) (λ n b. b.1) (λ e l. l.1) h)

    slot-postfix : (s : ℕ) → s < f.slots → SlotIs laws p f s (At x).ty → GivesValue laws p f (with_old_value (slot_value s) (slot_updated s new)) (At x).ty
    slot-postfix s lt slot_is = record {
      good = λ place register slot.
          let old = slot_value s place register slot in
          let twice = fewer old.code place register old.register (old.result ∷ []) (old.result ∷ old.result ∷ []) (laws.rows.singles.slot_value s place register slot) (again old.result) in
          let m = laws.rows.addresses.slot_assigned s (new (slot_value s)) place register slot (old.result ∷ []) (new-good (slot_value s) place register slot (old.result ∷ []) twice) in
          let z = slot_updated s new place register slot in
          fewer z.code place register z.register (z.result ∷ old.result ∷ []) (old.result ∷ []) m (behind-first z.result old.result);
      kept = kept.kept_old laws.fit laws.touch p f (slot_value s) (slot_updated s new) (slot-updated s lt slot_is).kept;
      source = λ pointer place register slot.
          let y = new (slot_value s) place register slot in
          source.in_front laws.parts y.code (SetLocal s y.result ∷ []) place (slot_value s place register slot).result (old-source (slot_value s) (source.single_source laws.parts (λ d. GetLocal d s) (λ d. refl) (λ d e. cc)) place register slot);
      typed = λ place register slot.
          let old = slot_value s place register slot in
          let more = (old.result, (At x).ty) ∷ [] in
          old-live (slot_updated s new place register slot) old.result register slot
          (typing.set-typed p f (Slots laws p f) s (new (slot_value s)) (At x).ty (λ slots b. ap plain_type (slot_is slots b)) place register slot more
          (new-typed (slot_value s) place register slot more (twice-live old old register slot (slot-valued laws p f k scope fits s (At x).ty slot_is place register slot))));
    }

    memory-postfix : (l : Lvalue) → InMemory laws p f l → l.ty ≡ (At x).ty → GivesValue laws p f (with_old_value (loaded l) (updated l new)) (At x).ty
    memory-postfix l m same = record {
      good = λ place register slot.
          let q = (l.address place register slot).result in
          let old = loaded l place register slot in
          let three = fewer old.code place register old.register (old.result ∷ q ∷ []) (old.result ∷ q ∷ old.result ∷ []) (loaded-at l m place register slot) (first-again old.result q) in
          let whole = laws.rows.addresses.updated l new place register slot (old.result ∷ []) (new-good (loaded l) place register slot (q ∷ old.result ∷ []) three) in
          let z = updated l new place register slot in
          fewer z.code place register z.register (z.result ∷ old.result ∷ []) (old.result ∷ []) whole (behind-first z.result old.result);
      kept = kept.kept_old laws.fit laws.touch p f (loaded l) (updated l new) (memory-kept l m);
      source = λ pointer place register slot.
          let q = (l.address place register slot).result in
          let y = new (loaded l) place register slot in
          source.in_front laws.parts y.code (Touch q l.root ∷ Store q y.result l.ty ∷ []) place (loaded l place register slot).result (old-source (loaded l) (source.loaded_source laws.parts l) place register slot);
      typed = λ place register slot.
          let old = loaded l place register slot in
          old-live (updated l new place register slot) old.result register slot
          (updated-typed l same place register slot ((old.result, (At x).ty) ∷ []) (twice-live old old register slot (loaded-typed l m same place register slot)));
    }

    postfix-by : (n : Named) (l : Lvalue) → PlaceFits laws p f n l → l.ty ≡ (At x).ty → GivesValue laws p f (with_old_value (old_value n l) (updated_by n l new)) (At x).ty
    postfix-by (named.Slot s) l h same = slot-postfix s h.0 (subst (SlotIs laws p f s) same h.2)
    postfix-by (named.Function n) l h same = memory-postfix l h same
    postfix-by (named.BuiltIn b) l h same = memory-postfix l h same
    postfix-by (named.Global n) l h same = memory-postfix l h same
    postfix-by (named.Frame n) l h same = memory-postfix l h same
    postfix-by named.Other l h same = memory-postfix l h same

    pub postfix-gives : GivesValue laws p f (with_old_value (old_value (At x).name (At x).lvalue) (updated_part scope o (At x) y)) (At x).ty
    postfix-gives = postfix-by (At x).name (At x).lvalue placed.place placed.same
