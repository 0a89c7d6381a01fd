-- What is made of a typed expression is as asked: an induction over its forms.
use Rattle.std.proofs.Common.{◌≡◌, ◌∙◌, ℤ, pos, Bool, true, false, [], ◌∷◌, length, Option, Some, None, refl, ap, sym, subst, ⊎_elim}
use Rattle.std.specs.List.{list_all}
use Rattle.std.specs.Prelude.{if◌then◌else◌}
use Rattle.c_types.specs.declared.ty.FnTy.{FnTy}
use Rattle.c_types.specs.declared.ty.Ty.{Ty}
use Rattle.c_types.specs.declared.ty.Ty.TheVariants as ty
use Rattle.c_types.specs.Kinds.{decay, is_integer, is_scalar, is_struct, is_void, is_void_at}
use Rattle.c_tree.specs.declared.operator.AssignOperator.{AssignOperator}
use Rattle.c_tree.specs.declared.operator.BinaryOperator.{BinaryOperator}
use Rattle.c_tree.specs.declared.operator.BinaryOperator.TheVariants as op
use Rattle.c_tree.specs.Operators.{binary_operator}
use Rattle.c_typed.specs.declared.entity.Constant.{Constant}
use Rattle.c_typed.specs.declared.entity.Constant.TheVariants as constant
use Rattle.c_typed.specs.declared.expression.TypedDirect.TheOpen.{TypedForm-F}
use Rattle.c_typed.specs.declared.expression.TypedExpr.{TypedExpr, out-TypedExpr, out-roll-TypedExpr}
use Rattle.c_typed.specs.declared.expression.TypedForm.{out-TypedForm}
use Rattle.c_typed.specs.declared.expression.TypedForm.TheVariants as form
use Rattle.c_typed.specs.declared.expression.TypedTypeWord.{out-TypedTypeWord}
use Rattle.c_operators.specs.Operators.{FormLayer, constant_of, form_of, is_assignable, is_lvalue_at, is_null, is_zero_constant, operated as typed_operated, operated_types, type_of, typed, value_type}
use Rattle.c_rules.specs.Rules.{assigned_type, called_type, one as typed_one}
use Rattle.c_typed_rows.specs.Contexts.{Context}
use Rattle.c_typed_rows.specs.Types as types
use Rattle.c_typed_rows.specs.Types.{ExprTypes}
use Rattle.c_typed_rows.specs.Sources.{IsFunctionType}
use Rattle.c_typed_rows.specs.Expressions.{AssignmentRow, ExprLevel, ExprNode, IsTypedExpr, NodeLevel, PlainRow, UpdateRow, is_value, is_value_at}
use Rattle.core_ir.specs.declared.program.Function.{Function}
use Rattle.core_ir.specs.declared.program.Program.{Program}
use Rattle.elab_rows.specs.declared.named.Named.TheVariants as named
use Rattle.elab_rows.specs.declared.scope.Scope.{Scope}
use Rattle.elab_rows.specs.Addresses.{with_old_value}
use Rattle.elab_rows.specs.Rows.{Operand, number}
use Rattle.elab_rows.specs.Units.{units}
use Rattle.elab_rows.specs.Values.{Part, assignment_by, folded, made_of, no_lvalue, old_value, one, operand, part, plain_assigned, postfix_part, updated_part}
use Rattle.elab_laws.specs.Values.{IsGood}
use Rattle.elab_valid.proofs.Names.{ScopeFits}
use Rattle.elab_valid.specs.Types.{TellsTypes}
use Rattle.elab_valid.proofs.AssignmentsMet as assignments
use Rattle.elab_valid.proofs.CallsMet.{call-met}
use Rattle.elab_valid.proofs.KeptRows as kept
use Rattle.elab_valid.proofs.MetParts as met
use Rattle.elab_valid.proofs.MetParts.{GivesValue, IsMet, IsScalar, Laws, Names, PartMet, Sound, Valued}
use Rattle.elab_valid.proofs.NamedTypes.{int-named}
use Rattle.elab_valid.proofs.NamesMet.{identifier-met, int-at, int-integer, number-met, other-fits, text-met}
use Rattle.elab_valid.proofs.Operations.{IsOperated, assigned-operated, int-scalar}
use Rattle.elab_valid.proofs.OperatorsMet as operators
use Rattle.elab_valid.proofs.OperatorTypes.{operated-take}
use Rattle.elab_valid.proofs.PartNodes.{node}
use Rattle.elab_valid.proofs.TreeInduction as tree
use Rattle.elab_valid.proofs.TreeInduction.{EachPart, Every}
use Rattle.elab_valid.proofs.TypeKinds.{first, out-Void, scalar-no_struct, scalar-same, second}
use Rattle.elab_valid.proofs.UnaryMet as unary
use Rattle.elab_valid.proofs.UnaryMet.{constant-any, first-value, only-value, second-value}

pub void-is : is_void ty.Void ≡ true
unfolding is_void
void-is = ap is_void_at out-Void

three-first : (x y z : TypedExpr) → list_all is_value (x ∷ y ∷ z ∷ []) ≡ true → is_value x ≡ true
three-first x y z h = first (is_value x) (list_all is_value (y ∷ z ∷ [])) h

three-rest : (x y z : TypedExpr) → list_all is_value (x ∷ y ∷ z ∷ []) ≡ true → list_all is_value (y ∷ z ∷ []) ≡ true
three-rest x y z h = second (is_value x) (list_all is_value (y ∷ z ∷ [])) h

one-type : ty.Int ≡ type_of typed_one
unfolding type_of typed
one-type = sym (ap (λ (n : ExprNode). n.ty) (out-roll-TypedExpr (record { form = form.Number (pos 1); ty = ty.Int; constant = constant.Value (pos 1) })))

one-constant : constant.Value (pos 1) ≡ constant_of typed_one
unfolding constant_of typed
one-constant = sym (ap (λ (n : ExprNode). n.constant) (out-roll-TypedExpr (record { form = form.Number (pos 1); ty = ty.Int; constant = constant.Value (pos 1) })))

module _ (laws : Laws) (p : Program) (f : Function) (k : Context) (scope : Scope) (fits : ScopeFits laws.known k scope p f) where
  abbrev Met : TypedExpr → Type 0
  Met x = IsMet laws p f k scope x

  abbrev At : TypedExpr → Part
  At x = part scope x

  abbrev MadeOf : FormLayer → Ty → Constant → Type 0
  MadeOf g t c = PartMet laws p f k scope g (made_of scope (node scope g) t c)

  -- ---- assignments

  abbrev AssignMet : TypedExpr → AssignOperator → TypedExpr → Ty → Constant → Option BinaryOperator → Type 0
  AssignMet x a y t c bo = PartMet laws p f k scope (TypedForm-F.Assign x a y) (record {
    ty = t;
    constant = c;
    value = folded scope.folds c (assignment_by scope bo (At x) (At y));
    lvalue = no_lvalue t;
    name = named.Other;
  })

  plain-type : (t : Ty) (b : Bool) → is_struct t ≡ b → assigned_type t ≡ (if b then ty.Void else t)
  unfolding assigned_type
  plain-type t b e = ap (λ (d : Bool). if d then ty.Void else t) e

  plain-met : (x : TypedExpr) (a : AssignOperator) (y : TypedExpr) (t : Ty) (c : Constant) → Met x → Met y → is_value y ≡ true → Names laws p f t → PlainRow x y t → c ≡ constant.Other → AssignMet x a y t c None
  plain-met x a y t c hx hy vy names row none =
      let same_row = subst (PlainRow x y) row.ty row in
      ⊎_elim
      (λ (s : is_scalar (At x).ty ≡ true).
      let plain = subst (λ u. is_struct u ≡ false) hx.ty (scalar-no_struct (At x).ty s) in
      let is : (At x).ty ≡ t = hx.ty ∙ sym (row.ty ∙ plain-type (type_of x) false plain) in
      met.scalar laws p f k scope (TypedForm-F.Assign x a y) t c (plain_assigned scope (At x) (At y)) (no_lvalue t) refl refl (subst (λ u. is_scalar u ≡ true) is s, names) (other-fits c t none)
      (subst (GivesValue laws p f (plain_assigned scope (At x) (At y))) is (assignments.scalar-assigned laws p f k scope fits x y hx hy vy same_row s)))
      (λ (s : is_struct (At x).ty ≡ true).
      let struct = subst (λ u. is_struct u ≡ true) hx.ty s in
      let is : t ≡ ty.Void = row.ty ∙ plain-type (type_of x) true struct in
      let both = assignments.struct-assigned laws p f k scope fits x y hx hy same_row s in
      met.nothing-given laws p f k scope (TypedForm-F.Assign x a y) t c (plain_assigned scope (At x) (At y)) (no_lvalue t) refl refl names (other-fits c t none)
      (subst (λ u. is_void u ≡ true) (sym is) void-is) both.0 both.1 both.2)
      (assignments.assignable laws p f k scope fits x hx row.lvalue).1

  -- an lvalue that is changed by this operand
  module _ (x : TypedExpr) (hx : Met x) (assigns : is_assignable x ≡ true) (o : BinaryOperator) (is : IsOperated o) (y : Operand) (at_y : IsScalar laws p f y.ty) (good_y : IsGood y.code)
      (kept_y : Sound laws p f y.code) (at_x : is_scalar (decay (At x).ty) ≡ true) (given_type : Ty) (types : operated_types p.structs o (decay (At x).ty) (is_zero_constant (At x).constant) y.ty y.is_null ≡ Some given_type)
      (typed_y : Valued laws p f y.code y.ty) (t : Ty) (c : Constant) (same : t ≡ type_of x) (none : c ≡ constant.Other) where
    is-t : (At x).ty ≡ t
    is-t = hx.ty ∙ sym same

    at-t : IsScalar laws p f t
    at-t = subst (IsScalar laws p f) is-t (assignments.target-scalar laws p f k scope fits x hx assigns o is y at_y good_y kept_y at_x given_type types typed_y, hx.met.names)

    pub changed : (g : FormLayer) → is_lvalue_at t g ≡ false → is_value_at g ≡ true
        → PartMet laws p f k scope g (record { ty = t; constant = c; value = folded scope.folds c (updated_part scope o (At x) y); lvalue = no_lvalue t; name = named.Other })
    changed g never value =
        met.scalar laws p f k scope g t c (updated_part scope o (At x) y) (no_lvalue t) never value at-t (other-fits c t none)
        (subst (GivesValue laws p f (updated_part scope o (At x) y)) is-t (assignments.updated-gives laws p f k scope fits x hx assigns o is y at_y good_y kept_y at_x given_type types typed_y))

    pub changed-behind : (g : FormLayer) → is_lvalue_at t g ≡ false → is_value_at g ≡ true
        → PartMet laws p f k scope g (record { ty = t; constant = c; value = folded scope.folds c (with_old_value (old_value (At x).name (At x).lvalue) (updated_part scope o (At x) y)); lvalue = no_lvalue t; name = named.Other })
    changed-behind g never value =
        met.scalar laws p f k scope g t c (with_old_value (old_value (At x).name (At x).lvalue) (updated_part scope o (At x) y)) (no_lvalue t) never value at-t (other-fits c t none)
        (subst (GivesValue laws p f (with_old_value (old_value (At x).name (At x).lvalue) (updated_part scope o (At x) y))) is-t (assignments.postfix-gives laws p f k scope fits x hx assigns o is y at_y good_y kept_y at_x given_type types typed_y))

  update-met : (x : TypedExpr) (a : AssignOperator) (o : BinaryOperator) (y : TypedExpr) (t : Ty) (c : Constant) → IsOperated o → Met x → Met y → is_value y ≡ true → UpdateRow k o x y t → c ≡ constant.Other
      → AssignMet x a y t c (Some o)
  update-met x a o y t c is hx hy vy row none =
      let types = operators.binary-types laws p f k scope fits x y hx hy o row.value row.operated in
      let both = operated-take laws.equal p.structs (decay (At x).ty) (is_zero_constant (At x).constant) (decay (At y).ty) (is_zero_constant (At y).constant)
      (operators.zero-x laws p f k scope fits x y hx hy) (operators.zero-y laws p f k scope fits x y hx hy) o row.value types in
      let v = met.value-given laws p f k scope y hy vy both.1 in
      changed x hx row.lvalue o is (operand (At y)) (both.1, unary.names-value laws p f k scope fits y hy) v.good v.kept both.0 row.value types v.typed t c row.ty none (TypedForm-F.Assign x a y) refl refl

  assign-met : (x : TypedExpr) (a : AssignOperator) (y : TypedExpr) (t : Ty) (c : Constant) (bo : Option BinaryOperator) → binary_operator a ≡ bo → Met x → Met y → is_value y ≡ true → Names laws p f t
      → AssignmentRow k bo x y t → c ≡ constant.Other → AssignMet x a y t c bo
  assign-met x a y t c None e hx hy vy names row none = plain-met x a y t c hx hy vy names row none
  assign-met x a y t c (Some o) e hx hy vy names row none = update-met x a o y t c (assigned-operated a o e) hx hy vy row none

  -- ---- `++` and `--`

  int-decays : decay ty.Int ≡ ty.Int
  int-decays = scalar-same ty.Int int-scalar

  one-is : IsScalar laws p f (decay ty.Int)
  one-is = subst (IsScalar laws p f) (sym int-decays) (int-scalar, int-named (length p.structs))

  one-path : (x : TypedExpr) → Met x → (g : Ty → Bool → Ty → Bool → Option Ty)
      → g (decay (At x).ty) (is_zero_constant (At x).constant) (decay ty.Int) (is_zero_constant (constant.Value (pos 1))) ≡ g (value_type x) (is_null x) (value_type typed_one) (is_null typed_one)
  unfolding value_type is_null
  one-path x hx g = λ i. g (decay (hx.ty i)) (is_zero_constant (hx.constant i)) (decay (one-type i)) (is_zero_constant (one-constant i))

  stepped-types : (x : TypedExpr) → Met x → (o : BinaryOperator) (t : Ty) → typed_operated k.structs o x typed_one ≡ Some t
      → operated_types p.structs o (decay (At x).ty) (is_zero_constant (At x).constant) (decay ty.Int) (is_zero_constant (constant.Value (pos 1))) ≡ Some t
  unfolding typed_operated
  stepped-types x hx o t e =
      subst (λ ds. operated_types ds o (decay (At x).ty) (is_zero_constant (At x).constant) (decay ty.Int) (is_zero_constant (constant.Value (pos 1))) ≡ Some t) fits.structs_of_context
      (one-path x hx (operated_types k.structs o) ∙ e)

  stepped-scalar : (x : TypedExpr) → Met x → (o : BinaryOperator) (t : Ty) → UpdateRow k o x typed_one t → is_scalar (decay (At x).ty) ≡ true
  stepped-scalar x hx o t row =
      (operated-take laws.equal p.structs (decay (At x).ty) (is_zero_constant (At x).constant) (decay ty.Int) (is_zero_constant (constant.Value (pos 1)))
      (met.zero-scalar laws p f k scope x hx) (λ z. one-is.0) o row.value (stepped-types x hx o row.value row.operated)).0

  one-valued : Valued laws p f (number (pos 1)) (decay ty.Int)
  one-valued = subst (Valued laws p f (number (pos 1))) (sym int-decays) (met.number-typed laws p f (pos 1) ty.Int int-integer)

  stepped-met : (g : FormLayer) (x : TypedExpr) (o : BinaryOperator) (t : Ty) (c : Constant) → is_lvalue_at t g ≡ false → is_value_at g ≡ true → IsOperated o
      → Met x → UpdateRow k o x typed_one t → c ≡ constant.Other
      → PartMet laws p f k scope g (record { ty = t; constant = c; value = folded scope.folds c (updated_part scope o (At x) (operand one)); lvalue = no_lvalue t; name = named.Other })
  stepped-met g x o t c never value is hx row none =
      changed x hx row.lvalue o is (operand one) one-is (laws.rows.singles.number (pos 1)) (kept.kept_number laws.fit laws.touch p f (pos 1)) (stepped-scalar x hx o t row) row.value (stepped-types x hx o row.value row.operated) one-valued t c row.ty none g never value

  stepped-behind : (g : FormLayer) (x : TypedExpr) (o : BinaryOperator) (t : Ty) (c : Constant) → is_lvalue_at t g ≡ false → is_value_at g ≡ true → IsOperated o
      → Met x → UpdateRow k o x typed_one t → c ≡ constant.Other
      → PartMet laws p f k scope g (record { ty = t; constant = c; value = folded scope.folds c (postfix_part scope o (At x)); lvalue = no_lvalue t; name = named.Other })
  stepped-behind g x o t c never value is hx row none =
      changed-behind x hx row.lvalue o is (operand one) one-is (laws.rows.singles.number (pos 1)) (kept.kept_number laws.fit laws.touch p f (pos 1)) (stepped-scalar x hx o t row) row.value (stepped-types x hx o row.value row.operated) one-valued t c row.ty none g never value

  -- ---- sizes

  size-met : (g : FormLayer) (n : ℤ) (t : Ty) (c : Constant) → is_lvalue_at t g ≡ false → is_value_at g ≡ true → t ≡ ty.Int
      → PartMet laws p f k scope g (record { ty = t; constant = c; value = folded scope.folds c (number n); lvalue = no_lvalue t; name = named.Other })
  size-met g n t c never value is =
      met.scalar laws p f k scope g t c (number n) (no_lvalue t) never value (int-at laws p f k scope fits t is) (constant-any c t (subst (λ u. is_integer u ≡ true) (sym is) int-integer))
      (met.number-gives laws p f k scope n t (subst (λ u. is_integer u ≡ true) (sym is) int-integer))

  -- ---- forms

  -- what is called takes scalars, and gives a scalar or nothing
  abbrev CallFits : FormLayer → Type 0
  CallFits (TypedForm-F.Call x arguments) = (g : FnTy) → called_type x ≡ Some g → IsFunctionType g
  CallFits _ = Unit {0}

  pub form-met : (g : FormLayer) (t : Ty) (c : Constant) → ExprLevel k g t c → Names laws p f t → CallFits g → EachPart Met g → MadeOf g t c
  form-met (TypedForm-F.Assign x a y) t c l names fit h =
      assign-met x a y t c (binary_operator a) refl h.0 h.1 (second-value x y l.values) names l.row.0 l.row.1
  form-met (TypedForm-F.Conditional e x y) t c l names fit h =
      operators.conditional-met laws p f k scope fits x y h.1 h.2 e h.0 t c l.row.0 (first-value x y (three-rest e x y l.values)) (second-value x y (three-rest e x y l.values)) (three-first e x y l.values) l.row.1
  form-met (TypedForm-F.Binary x o y) t c l names fit h =
      operators.binary-met laws p f k scope fits x y h.0 h.1 t c (first-value x y l.values) (second-value x y l.values) o l.row.0 l.row.1
  form-met (TypedForm-F.Cast w x) t c l names fit h = operators.cast-met laws p f k scope fits w x t c h (only-value x l.values) names l.row.0 l.row.1
  form-met (TypedForm-F.PreIncrement x) t c l names fit h = stepped-met (TypedForm-F.PreIncrement x) x op.Add t c refl refl tt h l.row.0 l.row.1
  form-met (TypedForm-F.PreDecrement x) t c l names fit h = stepped-met (TypedForm-F.PreDecrement x) x op.Subtract t c refl refl tt h l.row.0 l.row.1
  form-met (TypedForm-F.Unary o x) t c l names fit h = unary.unary-met laws p f k scope fits o x t c h (only-value x l.values) names l.row.0 l.row.1
  form-met (TypedForm-F.SizeofExpr x) t c l names fit h = size-met (TypedForm-F.SizeofExpr x) (pos (units scope.structs (At x).ty)) t c refl refl l.row.0.ty
  form-met (TypedForm-F.SizeofType w) t c l names fit h = size-met (TypedForm-F.SizeofType w) (pos (units scope.structs (out-TypedTypeWord w).ty)) t c refl refl l.row.ty
  form-met (TypedForm-F.Index x i) t c l names fit h = unary.index-met laws p f k scope fits x i t c h.0 h.1 (first-value x i l.values) (second-value x i l.values) l.row.0 l.row.1
  form-met (TypedForm-F.Call x es) t c l names fit h = call-met laws p f k scope fits x es t c h.0 h.1 l.values names l.row.0 fit l.row.1
  form-met (TypedForm-F.Member x name n) t c l names fit h = unary.member-met laws p f k scope fits x name n t c h names l.row.0 l.row.1
  form-met (TypedForm-F.Arrow x name n) t c l names fit h = unary.arrow-met laws p f k scope fits x name n t c h (only-value x l.values) names l.row.0 l.row.1
  form-met (TypedForm-F.PostIncrement x) t c l names fit h = stepped-behind (TypedForm-F.PostIncrement x) x op.Add t c refl refl tt h l.row.0 l.row.1
  form-met (TypedForm-F.PostDecrement x) t c l names fit h = stepped-behind (TypedForm-F.PostDecrement x) x op.Subtract t c refl refl tt h l.row.0 l.row.1
  form-met (TypedForm-F.Identifier x e) t c l names fit h = identifier-met laws p f k scope fits x t c names l.row.1 e l.row.0
  form-met (TypedForm-F.Number n) t c l names fit h = number-met laws p f k scope fits n t c l.row.0 l.row.1
  form-met (TypedForm-F.Text bytes n) t c l names fit h = text-met laws p f k scope fits bytes n t c names l.row.0 l.row.1

  -- ---- trees

  module _ (test : Ty → Bool) (tells : TellsTypes p.structs test) where
    abbrev Typed : TypedExpr → Type 0
    Typed = Every (λ _. Unit {0}) (λ _. Unit {0}) (NodeLevel k) (λ _. Unit {0})

    abbrev Fit : TypedExpr → Type 0
    Fit = Every (types.ParamLevel test) (types.DeclaredLevel test) (types.ExprLevel test) (types.TypeWordLevel test)

    abbrev Follows : TypedExpr → Type 0
    Follows e = Typed e → Fit e → Met e

    fit-here : (e : TypedExpr) → Fit e → test (type_of e) ≡ true
    unfolding type_of
    fit-here e h = tree.here (types.ParamLevel test) (types.DeclaredLevel test) (types.ExprLevel test) (types.TypeWordLevel test) e h

    call-fits : (g : FormLayer) → EachPart Fit g → CallFits g
    call-fits (TypedForm-F.Call x es) h = λ g e. tells.called x g (fit-here x h.0) e
    call-fits (TypedForm-F.Assign x a y) h = tt
    call-fits (TypedForm-F.Conditional e x y) h = tt
    call-fits (TypedForm-F.Binary x o y) h = tt
    call-fits (TypedForm-F.Cast w x) h = tt
    call-fits (TypedForm-F.PreIncrement x) h = tt
    call-fits (TypedForm-F.PreDecrement x) h = tt
    call-fits (TypedForm-F.Unary o x) h = tt
    call-fits (TypedForm-F.SizeofExpr x) h = tt
    call-fits (TypedForm-F.SizeofType w) h = tt
    call-fits (TypedForm-F.Index x i) h = tt
    call-fits (TypedForm-F.Member x name n) h = tt
    call-fits (TypedForm-F.Arrow x name n) h = tt
    call-fits (TypedForm-F.PostIncrement x) h = tt
    call-fits (TypedForm-F.PostDecrement x) h = tt
    call-fits (TypedForm-F.Identifier x e) h = tt
    call-fits (TypedForm-F.Number n) h = tt
    call-fits (TypedForm-F.Text bytes n) h = tt

    step : (e : TypedExpr) → EachPart Follows (out-TypedForm (out-TypedExpr e).form) → Follows e
    unfolding form_of type_of constant_of
    step e parts typed fit =
        let g = out-TypedForm (out-TypedExpr e).form in
        let one_left = tree.both Follows Typed (λ x. Fit x → Met x) (λ x h t. h t) g parts (tree.inside (λ _. Unit {0}) (λ _. Unit {0}) (NodeLevel k) (λ _. Unit {0}) e typed) in
        let inner = tree.inside (types.ParamLevel test) (types.DeclaredLevel test) (types.ExprLevel test) (types.TypeWordLevel test) e fit in
        let all = tree.both (λ x. Fit x → Met x) Fit Met (λ x h t. h t) g one_left inner in
        met.from-node laws p f k scope e
        (form-met g (out-TypedExpr e).ty (out-TypedExpr e).constant (tree.here (λ _. Unit {0}) (λ _. Unit {0}) (NodeLevel k) (λ _. Unit {0}) e typed)
        (tells.named (out-TypedExpr e).ty (tree.here (types.ParamLevel test) (types.DeclaredLevel test) (types.ExprLevel test) (types.TypeWordLevel test) e fit)) (call-fits g inner) all)

    pub expression-met : (e : TypedExpr) → IsTypedExpr k e → ExprTypes test e → Met e
    unfolding IsTypedExpr ExprTypes
    expression-met e typed fit = tree.induction Follows step e typed fit
