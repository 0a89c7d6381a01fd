-- Unary operators, indices and members: what is made of them is as asked.
use Rattle.std.proofs.Common.{◌≡◌, ◌∙◌, ℕ, ℤ, Bool, true, false, not, ◌&&◌, inr, List, [], ◌∷◌, length, Option, Some, None, option_and_then, is_some, unwrap_or, refl, ap, sym, subst, ⊎_elim}
use Rattle.std.proofs.lemmas.Option.{same_Some}
use Rattle.std.specs.List.{list_all}
use Rattle.std.specs.Prelude.{if◌then◌else◌}
use Rattle.c_types.specs.declared.ty.Ty.{Ty, out-Ty, roll-Ty, roll-out-Ty}
use Rattle.c_types.specs.declared.ty.Ty.TheOpen.{Ty-F}
use Rattle.c_types.specs.declared.ty.Ty.TheVariants as ty
use Rattle.c_types.specs.Kinds.{Outer, decay, decay_at, is_function, is_function_at, is_integer, is_pointer, is_scalar, is_struct, target_at, target_of}
use Rattle.c_types.specs.Units.{has_units}
use Rattle.c_tree.specs.declared.operator.UnaryOperator.{UnaryOperator}
use Rattle.c_tree.specs.declared.operator.UnaryOperator.TheVariants as unary
use Rattle.c_typed.specs.declared.entity.Constant.{Constant}
use Rattle.c_typed.specs.declared.entity.Constant.TheVariants as constant
use Rattle.c_typed.specs.declared.expression.TypedDirect.TheOpen.{TypedForm-F}
use Rattle.c_typed.specs.declared.expression.TypedExpr.{TypedExpr}
use Rattle.c_operators.specs.Constants.{of_unary, of_value}
use Rattle.c_operators.specs.Operators.{FormLayer, constant_of, is_integer_value, is_lvalue, is_scalar_value, type_of, value_type}
use Rattle.c_rules.specs.Rules.{has_address, member_behind, member_of}
use Rattle.c_typed_rows.specs.Contexts.{Context}
use Rattle.c_typed_rows.specs.Expressions.{AddressRow, DereferenceRow, IndexRow, MemberRow, UnaryRow, is_value}
use Rattle.core_ir.specs.declared.instr.Instr.TheVariants.{PtrAdd, PtrConst, Unary}
use Rattle.core_ir.specs.declared.operator.Operator.{Operator}
use Rattle.core_ir.specs.declared.operator.Operator.TheVariants as operator
use Rattle.core_ir.specs.declared.program.Function.{Function}
use Rattle.core_ir.specs.declared.program.Program.{Program}
use Rattle.core_ir.specs.Parts as parts
use Rattle.core_ir.specs.Parts.{HasPart}
use Rattle.core_ir.specs.Valid.{is_unary}
use Rattle.elab_rows.specs.declared.named.Named.{Named}
use Rattle.elab_rows.specs.declared.named.Named.TheVariants as named
use Rattle.elab_rows.specs.declared.scope.Scope.{Scope}
use Rattle.elab_rows.specs.Addresses.{Lvalue, address_of, element_address, lvalue_value, member_address}
use Rattle.elab_rows.specs.Made.{Code}
use Rattle.elab_rows.specs.Rows.{unary_code}
use Rattle.elab_rows.specs.Units.{units}
use Rattle.elab_rows.specs.Values.{Part, address_value, arrow_lvalue, converted_part, dot_lvalue, folded, made_of, member_lvalue, member_offset, no_lvalue, part, target, value_type as part_type, whole}
use Rattle.elab_laws.specs.Values.{IsGood}
use Rattle.elab_valid.proofs.Names.{ScopeFits}
use Rattle.elab_valid.proofs.KeptRows as kept
use Rattle.elab_valid.proofs.MemberParts.{member-fits}
use Rattle.elab_valid.proofs.MetParts as met
use Rattle.elab_valid.proofs.MetParts.{GivesValue, InMemory, IsMet, IsScalar, Laws, Names, PartMet, PlaceFits, Placed, Slots, Sound, Valued, pointer-is}
use Rattle.elab_valid.proofs.NamedTypes.{decay-named, int-named, part-more, pointer-named, target-named}
use Rattle.elab_valid.proofs.NamesMet.{int-at, int-integer, other-fits}
use Rattle.elab_valid.proofs.Operations.{int-scalar}
use Rattle.elab_valid.proofs.PartNodes.{node}
use Rattle.elab_valid.proofs.Sources as source
use Rattle.elab_valid.proofs.Sources.{HasSource}
use Rattle.elab_valid.proofs.TypedOperations as operations
use Rattle.elab_valid.proofs.TypedRows as typing
use Rattle.elab_valid.proofs.TypeKinds.{ConstantFits, either, first, function-plain, integer-scalar, pointer-scalar, second, struct-no_scalar}

target_is_at : (t : Ty) (o : Outer) (u : Ty) → out-Ty t ≡ o → target_at o ≡ Some u → t ≡ ty.Pointer u
target_is_at t Ty-F.Int u e h = absurd (cc)
target_is_at t Ty-F.Char u e h = absurd (cc)
target_is_at t Ty-F.Void u e h = absurd (cc)
target_is_at t (Ty-F.Struct n) u e h = absurd (cc)
target_is_at t (Ty-F.Pointer v) u e h = sym (roll-out-Ty t) ∙ ap roll-Ty e ∙ ty.rolls-Pointer v ∙ ap ty.Pointer (same_Some v u h)
target_is_at t (Ty-F.Array v n) u e h = absurd (cc)
target_is_at t (Ty-F.Function f) u e h = absurd (cc)

pub target-is : (t u : Ty) → target_of t ≡ Some u → t ≡ ty.Pointer u
unfolding target_of
target-is t u h = target_is_at t (out-Ty t) u refl h

pub target-pointer : (t u : Ty) → target_of t ≡ Some u → is_pointer t ≡ true
unfolding is_pointer
target-pointer t u h = ap is_some h

function_decayed_at : (t : Ty) (o : Outer) → is_function_at o ≡ true → decay_at t o ≡ ty.Pointer t
function_decayed_at t Ty-F.Int h = absurd (cc)
function_decayed_at t Ty-F.Char h = absurd (cc)
function_decayed_at t Ty-F.Void h = absurd (cc)
function_decayed_at t (Ty-F.Struct n) h = absurd (cc)
function_decayed_at t (Ty-F.Pointer v) h = absurd (cc)
function_decayed_at t (Ty-F.Array v n) h = absurd (cc)
function_decayed_at t (Ty-F.Function f) h = refl

-- a function becomes a pointer to it
pub function-decayed : (t : Ty) → is_function t ≡ true → decay t ≡ ty.Pointer t
unfolding is_function decay
function-decayed t h = function_decayed_at t (out-Ty t) h

-- the only operand of a form
pub only-value : (x : TypedExpr) → list_all is_value (x ∷ []) ≡ true → is_value x ≡ true
only-value x h = first (is_value x) true h

pub first-value : (x y : TypedExpr) → list_all is_value (x ∷ y ∷ []) ≡ true → is_value x ≡ true
first-value x y h = first (is_value x) (is_value y && true) h

pub second-value : (x y : TypedExpr) → list_all is_value (x ∷ y ∷ []) ≡ true → is_value y ≡ true
second-value x y h = first (is_value y) true (second (is_value x) (is_value y && true) h)

pub constant-any : (c : Constant) (t : Ty) → is_integer t ≡ true → ConstantFits c t
constant-any constant.Other t h = tt
constant-any constant.Divides t h = h
constant-any (constant.Value n) t h = h

module _ (laws : Laws) (p : Program) (f : Function) (k : Context) (scope : Scope) (fits : ScopeFits laws.known k scope p f) where
  abbrev Met : TypedExpr → Type 0
  Met x = IsMet laws p f k scope x

  abbrev MadeOf : FormLayer → Ty → Constant → Type 0
  MadeOf g t c = PartMet laws p f k scope g (made_of scope (node scope g) t c)

  abbrev At : TypedExpr → Part
  At x = part scope x

  -- ---- types of operands

  module _ (x : TypedExpr) (h : Met x) where
    pub value-type : value_type x ≡ decay (At x).ty
    unfolding value_type
    value-type = ap decay (sym h.ty)

    pub names-value : Names laws p f (decay (At x).ty)
    names-value = decay-named (length p.structs) (At x).ty h.met.names

    pub pointer-target : (t : Ty) → target_of (value_type x) ≡ Some t → target_of (decay (At x).ty) ≡ Some t
    pointer-target t e = ap target_of (sym value-type) ∙ e

    pub target-names : (t : Ty) → target_of (value_type x) ≡ Some t → Names laws p f t
    target-names t e = target-named (length p.structs) (decay (At x).ty) t names-value (pointer-target t e)

    pub pointer-given : (t : Ty) → is_value x ≡ true → target_of (value_type x) ≡ Some t → GivesValue laws p f (At x).value (decay (At x).ty)
    pointer-given t is e = met.value-given laws p f k scope x h is (pointer-scalar (decay (At x).ty) (target-pointer (decay (At x).ty) t (pointer-target t e)))

    pub pointer-source : (t : Ty) → is_value x ≡ true → target_of (value_type x) ≡ Some t → HasSource (At x).value
    pointer-source t is e = (pointer-given t is e).source (target-pointer (decay (At x).ty) t (pointer-target t e))

    -- what a pointer points to
    pub pointer-valued : (t : Ty) → is_value x ≡ true → target_of (value_type x) ≡ Some t → Valued laws p f (At x).value (ty.Pointer t)
    pointer-valued t is e = subst (Valued laws p f (At x).value) (target-is (decay (At x).ty) t (pointer-target t e)) (pointer-given t is e).typed

    pub pointed-memory : (t : Ty) → is_value x ≡ true → target_of (value_type x) ≡ Some t → InMemory laws p f (whole (At x).value t)
    pointed-memory t is e =
        let v = pointer-given t is e in
        record { good = v.good; kept = v.kept; source = pointer-source t is e; root = target-names t e; ty = target-names t e; part = parts.whole t; typed = pointer-valued t is e }

    pub integer-scalar_value : is_integer_value x ≡ true → is_scalar (decay (At x).ty) ≡ true
    unfolding is_integer_value
    integer-scalar_value i = integer-scalar (decay (At x).ty) (subst (λ u. is_integer u ≡ true) value-type i)

    pub scalar-scalar_value : is_scalar_value x ≡ true → is_scalar (decay (At x).ty) ≡ true
    unfolding is_scalar_value
    scalar-scalar_value i = subst (λ u. is_scalar u ≡ true) value-type i

    -- an integer operand, as an `int`
    pub integer-given : is_value x ≡ true → is_integer_value x ≡ true → GivesValue laws p f (converted_part (At x) ty.Int) ty.Int
    integer-given is i = met.converted-given laws p f k scope x h ty.Int is (int-scalar, int-named (length p.structs)) (inr (integer-scalar_value i, int-scalar)) names-value

  -- ---- `-`, `~`, `!`

  unary-gives : (x : TypedExpr) → Met x → is_value x ≡ true → is_scalar (decay (At x).ty) ≡ true → (o : Operator) → is_unary o ≡ true → (t : Ty) → t ≡ ty.Int → GivesValue laws p f (unary_code o (At x).value) t
  unary-gives x h is s o un t int =
      let v = met.value-given laws p f k scope x h is s in
      record {
        good = λ place register slot. laws.rows.operators.unary o (At x).value place register slot [] (v.good place register slot);
        kept = kept.kept_unary laws.fit laws.touch p f o (At x).value un v.kept;
        source = λ pointer. source.extended_source laws.parts (λ d a. Unary d o a) (At x).value (λ d a. refl) (λ d a e. cc);
        typed = subst (Valued laws p f (unary_code o (At x).value)) (sym int) (operations.unary-typed p f (Slots laws p f) o (decay (At x).ty) (At x).value v.typed);
      }

  value-constant : (g : ℤ → ℤ) (c : Constant) (t : Ty) → is_integer t ≡ true → ConstantFits (of_value g c) t
  value-constant g c t h = constant-any (of_value g c) t h

  int-integer_at : (t : Ty) → t ≡ ty.Int → is_integer t ≡ true
  int-integer_at t e = subst (λ u. is_integer u ≡ true) (sym e) int-integer

  -- ---- `&`

  memory-of : (n : Named) (x : Lvalue) → PlaceFits laws p f n x → ((s : ℕ) → n ≡ named.Slot s → ⊥) → InMemory laws p f x
  memory-of (named.Slot s) x h unslotted = absurd (unslotted s refl)
  memory-of (named.Function n) x h unslotted = h
  memory-of (named.BuiltIn b) x h unslotted = h
  memory-of (named.Global n) x h unslotted = h
  memory-of (named.Frame n) x h unslotted = h
  memory-of named.Other x h unslotted = h

  address-gives : (x : TypedExpr) (b : Bool) → is_function (At x).ty ≡ b → Met x → is_value x ≡ true → AddressRow k x (ty.Pointer (type_of x)) → GivesValue laws p f (address_value (At x)) (ty.Pointer (type_of x))
  unfolding has_address
  address-gives x true e h is row =
      let plain = function-plain (At x).ty e in
      let v = met.value-given laws p f k scope x h is (pointer-scalar (decay (At x).ty) plain.1) in
      subst (λ (b : Bool). GivesValue laws p f (if b then (At x).value else address_of (At x).lvalue) (ty.Pointer (type_of x))) (sym e)
      (record { good = v.good; kept = v.kept; source = λ pointer. v.source plain.1; typed = subst (Valued laws p f (At x).value) (function-decayed (At x).ty e ∙ ap ty.Pointer h.ty) v.typed })
  address-gives x false e h is row =
      let function_no : is_function (type_of x) ≡ false = subst (λ u. is_function u ≡ false) h.ty e in
      let lvalue : is_lvalue x ≡ true = ⊎_elim (λ fn. absurd (let z : is_function (type_of x) ≡ true = fn in cc)) (λ l. l) (either (is_function (type_of x)) (is_lvalue x) row.lvalue) in
      let place = met.lvalue-placed laws p f k scope x h lvalue in
      let m = memory-of (At x).name (At x).lvalue place.place (λ s same. h.met.unaddressed s same row.addressed) in
      subst (λ (b : Bool). GivesValue laws p f (if b then (At x).value else address_of (At x).lvalue) (ty.Pointer (type_of x))) (sym e)
      (record {
        good = λ place register slot. laws.rows.addresses.address (At x).lvalue place register slot [] (m.good place register slot);
        kept = kept.kept_pointing laws.fit laws.touch p f (At x).lvalue.root (At x).lvalue.ty (At x).lvalue.address (pointer-is (At x).lvalue.root) (pointer-is (At x).lvalue.ty)
            (pointer-named (length p.structs) (At x).lvalue.root m.root) (pointer-named (length p.structs) (At x).lvalue.ty m.ty) m.kept;
        source = λ pointer. source.pointing_source laws.parts (At x).lvalue.root (At x).lvalue.ty (At x).lvalue.address m.source;
        typed = subst (Valued laws p f (address_of (At x).lvalue)) (ap ty.Pointer (place.same ∙ h.ty)) (met.pointing-valued laws p f (At x).lvalue (At x).lvalue.ty m);
      })

  -- ---- `*`

  dereference-met : (x : TypedExpr) (t : Ty) (c : Constant) (b : Bool) → is_function t ≡ b → Met x → is_value x ≡ true → DereferenceRow k x t → c ≡ constant.Other
      → PartMet laws p f k scope (TypedForm-F.Unary unary.Dereference x) (made_of scope (node scope (TypedForm-F.Unary unary.Dereference x)) t c)
  dereference-met x t c true e h is row none =
      let v = pointer-given x h t is row.target in
      let plain = function-plain t e in
      let names = target-names x h t row.target in
      subst (λ (d : Bool). PartMet laws p f k scope (TypedForm-F.Unary unary.Dereference x) (record (made_of scope (node scope (TypedForm-F.Unary unary.Dereference x)) t c) {
        value = folded scope.folds c (if d then (At x).value else lvalue_value (whole (At x).value t));
      })) (sym e)
      (met.rvalue laws p f k scope (TypedForm-F.Unary unary.Dereference x) t c (At x).value (whole (At x).value t) (ap not e) refl names (other-fits c t none) plain.0
      (met.done laws p f (At x).value v.good) v.kept (λ nonvoid. v.good) (λ pointer. pointer-source x h t is row.target)
      (met.typed-done laws p f (At x).value (ty.Pointer t) (pointer-valued x h t is row.target)) (λ s. subst (Valued laws p f (At x).value) (sym (function-decayed t e)) (pointer-valued x h t is row.target)))
  dereference-met x t c false e h is row none =
      let units : has_units p.structs t ≡ true = subst (λ ds. has_units ds t ≡ true) fits.structs_of_context
      (⊎_elim (λ fn. absurd (let z : is_function t ≡ true = fn in cc)) (λ u. u) (either (is_function t) (has_units k.structs t) row.units)) in
      let m = pointed-memory x h t is row.target in
      subst (λ (d : Bool). PartMet laws p f k scope (TypedForm-F.Unary unary.Dereference x) (record (made_of scope (node scope (TypedForm-F.Unary unary.Dereference x)) t c) {
        value = folded scope.folds c (if d then (At x).value else lvalue_value (whole (At x).value t));
      })) (sym e)
      (met.memory laws p f k scope (TypedForm-F.Unary unary.Dereference x) c (whole (At x).value t) named.Other (ap not e) refl (other-fits c t none) units m m tt refl (λ s z. cc))

  pub unary-met : (o : UnaryOperator) (x : TypedExpr) (t : Ty) (c : Constant) → Met x → is_value x ≡ true → Names laws p f t → UnaryRow k o x t → c ≡ of_unary o (constant_of x) → MadeOf (TypedForm-F.Unary o x) t c
  unary-met unary.Address x t c h is names row value =
      let at = subst (λ u. is_scalar u ≡ true) (sym row.ty) (pointer-is (type_of x)) in
      met.scalar laws p f k scope (TypedForm-F.Unary unary.Address x) t c (address_value (At x)) (no_lvalue t) refl refl (at, names) (other-fits c t value)
      (subst (GivesValue laws p f (address_value (At x))) (sym row.ty) (address-gives x (is_function (At x).ty) refl h is (subst (AddressRow k x) row.ty row)))
  unary-met unary.Dereference x t c h is names row value = dereference-met x t c (is_function t) refl h is row value
  unary-met unary.Negate x t c h is names row value =
      met.scalar laws p f k scope (TypedForm-F.Unary unary.Negate x) t c (unary_code operator.Subtract (At x).value) (no_lvalue t) refl refl (int-at laws p f k scope fits t row.ty)
      (constant-any c t (int-integer_at t row.ty)) (unary-gives x h is (integer-scalar_value x h row.integer) operator.Subtract refl t row.ty)
  unary-met unary.Complement x t c h is names row value =
      met.scalar laws p f k scope (TypedForm-F.Unary unary.Complement x) t c (unary_code operator.Complement (At x).value) (no_lvalue t) refl refl (int-at laws p f k scope fits t row.ty)
      (constant-any c t (int-integer_at t row.ty)) (unary-gives x h is (integer-scalar_value x h row.integer) operator.Complement refl t row.ty)
  unary-met unary.Not x t c h is names row value =
      met.scalar laws p f k scope (TypedForm-F.Unary unary.Not x) t c (unary_code operator.Not (At x).value) (no_lvalue t) refl refl (int-at laws p f k scope fits t row.ty)
      (constant-any c t (int-integer_at t row.ty)) (unary-gives x h is (scalar-scalar_value x h row.scalar) operator.Not refl t row.ty)

  -- ---- indices

  pub index-met : (x i : TypedExpr) (t : Ty) (c : Constant) → Met x → Met i → is_value x ≡ true → is_value i ≡ true → IndexRow k x i t → c ≡ constant.Other → MadeOf (TypedForm-F.Index x i) t c
  index-met x i t c hx hi vx vi row none =
      let v = pointer-given x hx t vx row.target in
      let w = integer-given i hi vi row.integer in
      let n = units scope.structs t in
      let units : has_units p.structs t ≡ true = subst (λ ds. has_units ds t ≡ true) fits.structs_of_context row.units in
      let names = target-names x hx t row.target in
      let m : InMemory laws p f (whole (element_address n (At x).value (converted_part (At i) ty.Int)) t) = record {
        good = λ place register slot. laws.rows.operators.pointer_plus n (At x).value (converted_part (At i) ty.Int) place register slot [] (v.good place register slot) w.good;
        kept = kept.kept_plus laws.fit laws.touch p f n (At x).value (converted_part (At i) ty.Int) v.kept w.kept;
        source = source.combined_source laws.parts (λ d a b. PtrAdd d a b n) (At x).value (converted_part (At i) ty.Int) (λ d a b. refl) (λ d a b e. cc);
        root = names;
        ty = names;
        part = parts.whole t;
        typed = λ place register slot.
            typing.combined-typed p f (Slots laws p f) (λ d a b. PtrAdd d a b n) (ty.Pointer t) ty.Int (ty.Pointer t) (λ d a b. refl) (λ slots known e d a b fa fb. (tt, fa)) ((At x).value place register slot) place register slot []
            (converted_part (At i) ty.Int) (pointer-valued x hx t vx row.target place register slot) w.typed;
      } in
      met.memory laws p f k scope (TypedForm-F.Index x i) c (whole (element_address n (At x).value (converted_part (At i) ty.Int)) t) named.Other refl refl (other-fits c t none) units m m tt refl (λ s z. cc)

  -- ---- members

  -- a member of what stands in memory
  member-memory : (root u t : Ty) (a : Code) (n : ℕ) → IsGood a → Sound laws p f a → HasSource a → Valued laws p f a (ty.Pointer root) → Names laws p f root → Names laws p f t → HasPart p.structs root t
      → InMemory laws p f (member_lvalue root (member_address n a) t)
  member-memory root u t a n good is_kept sourced typed names named part = record {
    good = λ place register slot. laws.rows.addresses.member n a place register slot [] (good place register slot);
    kept = kept.kept_member laws.fit laws.touch p f n a is_kept;
    source = source.extended_source laws.parts (λ d q. PtrConst d q n) a (λ d q. refl) (λ d q e. cc);
    root = names;
    ty = named;
    part = part;
    typed = λ place register slot.
        typing.extended-typed p f (Slots laws p f) (λ d q. PtrConst d q n) (ty.Pointer root) (ty.Pointer root) (λ d q. refl) (λ slots b e d q is. (tt, is)) (a place register slot) register slot [] (typed place register slot);
  }

  pub memory-unless_slot : (n : Named) (x : Lvalue) → is_scalar x.ty ≡ false → PlaceFits laws p f n x → InMemory laws p f x
  memory-unless_slot (named.Slot s) x plain h = absurd (let a : is_scalar x.ty ≡ true = h.1 in cc)
  memory-unless_slot (named.Function n) x plain h = h
  memory-unless_slot (named.BuiltIn b) x plain h = h
  memory-unless_slot (named.Global n) x plain h = h
  memory-unless_slot (named.Frame n) x plain h = h
  memory-unless_slot named.Other x plain h = h

  -- a struct's lvalue is in memory
  pub struct-memory : (x : TypedExpr) → Met x → is_lvalue x ≡ true → is_struct (At x).ty ≡ true → InMemory laws p f (At x).lvalue
  struct-memory x h l s =
      let place = met.lvalue-placed laws p f k scope x h l in
      memory-unless_slot (At x).name (At x).lvalue (subst (λ u. is_scalar u ≡ false) (sym place.same) (struct-no_scalar (At x).ty s)) place.place

  pub member-met : (x : TypedExpr) (name : List ℕ) (n : ℕ) (t : Ty) (c : Constant) → Met x → Names laws p f t → MemberRow k x name n t → c ≡ constant.Other → MadeOf (TypedForm-F.Member x name n) t c
  member-met x name n t c h names row none =
      let found = subst (λ ds. member_of ds name (type_of x) ≡ Some (n, t)) fits.structs_of_context row.member in
      let m = member-fits p.structs fits.sound name (At x).ty n t (subst (λ u. member_of p.structs name u ≡ Some (n, t)) (sym h.ty) found) in
      let place = met.lvalue-placed laws p f k scope x h row.lvalue in
      let inside = struct-memory x h row.lvalue m.struct in
      let part = part-more p.structs (At x).lvalue.root (At x).ty t (subst (HasPart p.structs (At x).lvalue.root) place.same inside.part) m.part in
      let whole_one = member-memory (At x).lvalue.root (At x).ty t (At x).lvalue.address (member_offset scope (At x).ty n) inside.good inside.kept inside.source inside.typed inside.root names part in
      met.memory laws p f k scope (TypedForm-F.Member x name n) c (dot_lvalue scope (At x) n t) named.Other refl refl (other-fits c t none) m.units whole_one whole_one tt refl (λ s z. cc)

  behind-target : (name : List ℕ) (o : Option Ty) (n : ℕ) (t : Ty) → option_and_then (member_of k.structs name) o ≡ Some (n, t) → (u : Ty) × (o ≡ Some u) × (member_of k.structs name u ≡ Some (n, t))
  behind-target name None n t e = absurd (cc)
  behind-target name (Some u) n t e = (u, refl, e)

  target-given : (t u : Ty) → target_of t ≡ Some u → target t ≡ u
  unfolding target
  target-given t u e = ap (λ o. unwrap_or o ty.Void) e

  pub arrow-met : (x : TypedExpr) (name : List ℕ) (n : ℕ) (t : Ty) (c : Constant) → Met x → is_value x ≡ true → Names laws p f t → member_behind k.structs x name ≡ Some (n, t) → c ≡ constant.Other
      → MadeOf (TypedForm-F.Arrow x name n) t c
  unfolding member_behind
  arrow-met x name n t c h is names row none =
      let found = behind-target name (target_of (value_type x)) n t row in
      let u = found.0 in
      let m = member-fits p.structs fits.sound name u n t (subst (λ ds. member_of ds name u ≡ Some (n, t)) fits.structs_of_context found.2) in
      let v = pointer-given x h u is found.1 in
      let s = target (part_type (At x)) in
      let is_u : s ≡ u = target-given (decay (At x).ty) u (pointer-target x h u found.1) in
      let whole_one = member-memory s u t (At x).value (member_offset scope s n) v.good v.kept (pointer-source x h u is found.1) (subst (λ w. Valued laws p f (At x).value (ty.Pointer w)) (sym is_u) (pointer-valued x h u is found.1)) (subst (Names laws p f) (sym is_u) (target-names x h u found.1)) names
      (subst (λ w. HasPart p.structs w t) (sym is_u) m.part) in
      met.memory laws p f k scope (TypedForm-F.Arrow x name n) c (arrow_lvalue scope (At x) n t) named.Other refl refl (other-fits c t none) m.units whole_one whole_one tt refl (λ s z. cc)
