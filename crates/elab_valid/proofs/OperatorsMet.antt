-- Binary operators, `?:` and casts: what is made of them is as asked.
use Rattle.std.proofs.Common.{◌≡◌, ◌∙◌, Bool, true, false, ◌&&◌, inr, [], Option, Some, refl, ap, sym, subst, ⊎_elim}
use Rattle.std.specs.Prelude.{if◌then◌else◌}
use Rattle.c_types.specs.declared.ty.Ty.{Ty, out-Ty}
use Rattle.c_types.specs.declared.ty.Ty.TheOpen.{Ty-F}
use Rattle.c_types.specs.declared.ty.Ty.TheVariants as ty
use Rattle.c_types.specs.Kinds.{Outer, decay, is_integer, is_integer_at, is_scalar, is_void}
use Rattle.c_tree.specs.declared.operator.BinaryOperator.{BinaryOperator}
use Rattle.c_tree.specs.declared.operator.BinaryOperator.TheVariants as op
use Rattle.c_const.specs.Values.{as_char}
use Rattle.c_typed.specs.declared.entity.Constant.{Constant}
use Rattle.c_typed.specs.declared.entity.Constant.TheVariants as constant
use Rattle.c_typed.specs.declared.expression.TypedDirect.TheOpen.{TypedForm-F}
use Rattle.c_typed.specs.declared.expression.TypedExpr.{TypedExpr}
use Rattle.c_typed.specs.declared.expression.TypedTypeWord.{TypedTypeWord}
use Rattle.c_operators.specs.Constants.{of_and, of_binary, of_both, of_cast, of_conditional, of_or, of_value}
use Rattle.c_operators.specs.Operators.{chosen, chosen_type, constant_of, is_null, is_scalar_value, is_zero_constant, operated as typed_operated, operated_types, value_type}
use Rattle.c_rules.specs.Rules.{may_be_cast}
use Rattle.c_typed_rows.specs.Contexts.{Context}
use Rattle.c_typed_rows.specs.Expressions.{CastRow, ConditionalRow, is_value}
use Rattle.core_ir.specs.declared.program.Function.{Function}
use Rattle.core_ir.specs.declared.program.Program.{Program}
use Rattle.elab_rows.specs.declared.scope.Scope.{Scope}
use Rattle.elab_rows.specs.Choices.{and_code, conditional_code, or_code}
use Rattle.elab_rows.specs.Rows.{binary_row, operated}
use Rattle.elab_rows.specs.Values.{Part, cast_part, converted_part, made_of, no_lvalue, operand, part}
use Rattle.elab_laws.specs.Theorems.{IsDone}
use Rattle.elab_valid.proofs.Names.{ScopeFits}
use Rattle.elab_valid.proofs.MetParts as met
use Rattle.elab_valid.proofs.MetParts.{GivesValue, IsMet, IsScalar, Laws, Names, PartMet, Slots, Valued}
use Rattle.elab_valid.proofs.NamesMet.{int-integer, other-fits}
use Rattle.elab_valid.proofs.Operations as operations
use Rattle.elab_valid.proofs.TypedChoices as choices
use Rattle.elab_valid.proofs.TypedOperations as typed_operations
use Rattle.elab_valid.proofs.Operations.{IsOperated, if-holds, int-is}
use Rattle.elab_valid.proofs.OperatorTypes.{chosen-only, chosen-take, operated-only, operated-take}
use Rattle.elab_valid.proofs.PartNodes.{node}
use Rattle.elab_valid.proofs.Sources as source
use Rattle.elab_valid.proofs.TypeKinds.{ConstantFits, either, first, integer-scalar, scalar-same, second}
use Rattle.elab_valid.proofs.UnaryMet as unary
use Rattle.elab_valid.proofs.UnaryMet.{constant-any, first-value, second-value}

-- ---- constants

-- where a part is no constant, the whole isn't
fits-of : (cx cy r : Constant) (a b t : Ty) → (cx ≡ constant.Other → r ≡ constant.Other) → (cy ≡ constant.Other → r ≡ constant.Other) → (is_integer a ≡ true → is_integer b ≡ true → is_integer t ≡ true)
    → ConstantFits cx a → ConstantFits cy b → ConstantFits r t
fits-of constant.Other cy r a b t left right ints hx hy = other-fits r t (left refl)
fits-of constant.Divides constant.Other r a b t left right ints hx hy = other-fits r t (right refl)
fits-of constant.Divides constant.Divides r a b t left right ints hx hy = constant-any r t (ints hx hy)
fits-of constant.Divides (constant.Value n) r a b t left right ints hx hy = constant-any r t (ints hx hy)
fits-of (constant.Value m) constant.Other r a b t left right ints hx hy = other-fits r t (right refl)
fits-of (constant.Value m) constant.Divides r a b t left right ints hx hy = constant-any r t (ints hx hy)
fits-of (constant.Value m) (constant.Value n) r a b t left right ints hx hy = constant-any r t (ints hx hy)

both-right : (o : BinaryOperator) (c : Constant) → of_both o c constant.Other ≡ constant.Other
both-right o constant.Other = refl
both-right o constant.Divides = refl
both-right o (constant.Value n) = refl

or-right : (c : Constant) → of_or c constant.Other ≡ constant.Other
or-right constant.Other = refl
or-right constant.Divides = refl
or-right (constant.Value n) = refl

and-right : (c : Constant) → of_and c constant.Other ≡ constant.Other
and-right constant.Other = refl
and-right constant.Divides = refl
and-right (constant.Value n) = refl

binary-left : (o : BinaryOperator) (c : Constant) → of_binary o constant.Other c ≡ constant.Other
binary-left op.LogicalOr c = refl
binary-left op.LogicalAnd c = refl
binary-left op.Equal c = refl
binary-left op.NotEqual c = refl
binary-left op.Less c = refl
binary-left op.Greater c = refl
binary-left op.LessEqual c = refl
binary-left op.GreaterEqual c = refl
binary-left op.Add c = refl
binary-left op.Subtract c = refl
binary-left op.BitwiseOr c = refl
binary-left op.BitwiseExclusiveOr c = refl
binary-left op.BitwiseAnd c = refl
binary-left op.ShiftLeft c = refl
binary-left op.ShiftRight c = refl
binary-left op.Multiply c = refl
binary-left op.Divide c = refl
binary-left op.Remainder c = refl

binary-right : (o : BinaryOperator) (c : Constant) → of_binary o c constant.Other ≡ constant.Other
binary-right op.LogicalOr c = or-right c
binary-right op.LogicalAnd c = and-right c
binary-right op.Equal c = both-right op.Equal c
binary-right op.NotEqual c = both-right op.NotEqual c
binary-right op.Less c = both-right op.Less c
binary-right op.Greater c = both-right op.Greater c
binary-right op.LessEqual c = both-right op.LessEqual c
binary-right op.GreaterEqual c = both-right op.GreaterEqual c
binary-right op.Add c = both-right op.Add c
binary-right op.Subtract c = both-right op.Subtract c
binary-right op.BitwiseOr c = both-right op.BitwiseOr c
binary-right op.BitwiseExclusiveOr c = both-right op.BitwiseExclusiveOr c
binary-right op.BitwiseAnd c = both-right op.BitwiseAnd c
binary-right op.ShiftLeft c = both-right op.ShiftLeft c
binary-right op.ShiftRight c = both-right op.ShiftRight c
binary-right op.Multiply c = both-right op.Multiply c
binary-right op.Divide c = both-right op.Divide c
binary-right op.Remainder c = both-right op.Remainder c

conditional-left : (ce c : Constant) → of_conditional ce constant.Other c ≡ constant.Other
conditional-left constant.Other c = refl
conditional-left constant.Divides c = refl
conditional-left (constant.Value n) c = refl

conditional-right : (ce c : Constant) → of_conditional ce c constant.Other ≡ constant.Other
conditional-right constant.Other c = refl
conditional-right constant.Divides constant.Other = refl
conditional-right constant.Divides constant.Divides = refl
conditional-right constant.Divides (constant.Value n) = refl
conditional-right (constant.Value m) constant.Other = refl
conditional-right (constant.Value m) constant.Divides = refl
conditional-right (constant.Value m) (constant.Value n) = refl

cast-constant : (t : Ty) (o : Outer) (c : Constant) → out-Ty t ≡ o → ConstantFits (of_cast o c) t
unfolding is_integer
cast-constant t Ty-F.Int c e = constant-any c t (ap is_integer_at e)
cast-constant t Ty-F.Char c e = constant-any (of_value as_char c) t (ap is_integer_at e)
cast-constant t Ty-F.Void c e = tt
cast-constant t (Ty-F.Struct s) c e = tt
cast-constant t (Ty-F.Pointer u) c e = tt
cast-constant t (Ty-F.Array u n) c e = tt
cast-constant t (Ty-F.Function g) c e = tt

module _ (laws : Laws) (p : Program) (f : Function) (k : Context) (scope : Scope) (fits : ScopeFits laws.known k scope p f) where
  abbrev Met : TypedExpr → Type 0
  Met x = IsMet laws p f k scope x

  abbrev At : TypedExpr → Part
  At x = part scope x

  abbrev Scalar : Ty → Type 0
  Scalar t = IsScalar laws p f t

  int-at-scalar : Scalar ty.Int
  int-at-scalar = int-is laws.rows laws.parts laws.fit laws.touch p f

  -- ---- two operands

  module _ (x y : TypedExpr) (hx : Met x) (hy : Met y) where
    abbrev a : Ty
    a = decay (At x).ty

    abbrev b : Ty
    b = decay (At y).ty

    abbrev a_null : Bool
    a_null = is_zero_constant (At x).constant

    abbrev b_null : Bool
    b_null = is_zero_constant (At y).constant

    types-path : (g : Ty → Bool → Ty → Bool → Option Ty) → g a a_null b b_null ≡ g (value_type x) (is_null x) (value_type y) (is_null y)
    unfolding value_type is_null
    types-path g = λ i. g (decay (hx.ty i)) (is_zero_constant (hx.constant i)) (decay (hy.ty i)) (is_zero_constant (hy.constant i))

    pub chosen-types : (t : Ty) → chosen x y ≡ Some t → chosen_type a a_null b b_null ≡ Some t
    unfolding chosen
    chosen-types t e = types-path chosen_type ∙ e

    pub binary-types : (o : BinaryOperator) (t : Ty) → typed_operated k.structs o x y ≡ Some t → operated_types p.structs o a a_null b b_null ≡ Some t
    unfolding typed_operated
    binary-types o t e = subst (λ ds. operated_types ds o a a_null b b_null ≡ Some t) fits.structs_of_context (types-path (operated_types k.structs o) ∙ e)

    pub zero-x : a_null ≡ true → is_scalar a ≡ true
    zero-x = met.zero-scalar laws p f k scope x hx

    pub zero-y : b_null ≡ true → is_scalar b ≡ true
    zero-y = met.zero-scalar laws p f k scope y hy

    names-x : Names laws p f a
    names-x = unary.names-value laws p f k scope fits x hx

    names-y : Names laws p f b
    names-y = unary.names-value laws p f k scope fits y hy

    integer-value : (z : TypedExpr) → is_integer (At z).ty ≡ true → is_integer (decay (At z).ty) ≡ true
    integer-value z h = subst (λ u. is_integer u ≡ true) (sym (scalar-same (At z).ty (integer-scalar (At z).ty h))) h

    -- ---- `?:`

    module _ (e : TypedExpr) (he : Met e) (t : Ty) (c : Constant) (row : ConditionalRow e x y t) (vx : is_value x ≡ true) (vy : is_value y ≡ true) (ve : is_value e ≡ true) where
      types : chosen_type a a_null b b_null ≡ Some t
      types = chosen-types t row.chosen

      scalars : (is_scalar a ≡ true) × (is_scalar b ≡ true)
      scalars = chosen-take laws.equal p.structs a a_null b b_null zero-x zero-y t types

      at_t : Scalar t
      at_t = chosen-only Scalar int-at-scalar p.structs a a_null b b_null (scalars.0, names-x) (scalars.1, names-y) t types

      conditional-gives : GivesValue laws p f (conditional_code (At e).value (converted_part (At x) t) (converted_part (At y) t)) t
      conditional-gives =
          let v = met.value-given laws p f k scope e he ve (unary.scalar-scalar_value laws p f k scope fits e he row.scalar) in
          let first_arm = met.converted-given laws p f k scope x hx t vx at_t (inr (scalars.0, at_t.0)) names-x in
          let second_arm = met.converted-given laws p f k scope y hy t vy at_t (inr (scalars.1, at_t.0)) names-y in
          record {
            good = laws.rows.choices.conditional (At e).value (converted_part (At x) t) (converted_part (At y) t) v.good first_arm.good second_arm.good;
            kept = (
              (laws.fit p f).conditional (At e).value (converted_part (At x) t) (converted_part (At y) t) v.kept.0 first_arm.kept.0 second_arm.kept.0,
              (laws.touch p.structs).conditional (At e).value (converted_part (At x) t) (converted_part (At y) t) v.kept.1 first_arm.kept.1 second_arm.kept.1,
            );
            source = λ pointer. source.conditional_source laws.parts (At e).value (converted_part (At x) t) (converted_part (At y) t);
            typed = choices.conditional-typed p f (Slots laws p f) (At e).value (converted_part (At x) t) (converted_part (At y) t) (decay (At e).ty) t v.typed first_arm.typed second_arm.typed;
          }

      pub conditional-met : c ≡ of_conditional (constant_of e) (constant_of x) (constant_of y)
          → PartMet laws p f k scope (TypedForm-F.Conditional e x y) (made_of scope (node scope (TypedForm-F.Conditional e x y)) t c)
      conditional-met value =
          let is : c ≡ of_conditional (constant_of e) (At x).constant (At y).constant = value ∙ (λ i. of_conditional (constant_of e) (sym hx.constant i) (sym hy.constant i)) in
          met.scalar laws p f k scope (TypedForm-F.Conditional e x y) t c (conditional_code (At e).value (converted_part (At x) t) (converted_part (At y) t)) (no_lvalue t) refl refl at_t
          (subst (λ z. ConstantFits z t) (sym is)
          (fits-of (At x).constant (At y).constant (of_conditional (constant_of e) (At x).constant (At y).constant) (At x).ty (At y).ty t
          (λ same. ap (λ z. of_conditional (constant_of e) z (At y).constant) same ∙ conditional-left (constant_of e) (At y).constant)
          (λ same. ap (λ z. of_conditional (constant_of e) (At x).constant z) same ∙ conditional-right (constant_of e) (At x).constant)
          (λ ix iy. chosen-only (λ u. is_integer u ≡ true) int-integer p.structs a a_null b b_null (integer-value x ix) (integer-value y iy) t types)
          hx.met.constant hy.met.constant)) conditional-gives

    -- ---- binary operators

    module _ (t : Ty) (c : Constant) (vx : is_value x ≡ true) (vy : is_value y ≡ true) where
      operands : (o : BinaryOperator) → operated_types p.structs o a a_null b b_null ≡ Some t → (is_scalar a ≡ true) × (is_scalar b ≡ true)
      operands o e = operated-take laws.equal p.structs a a_null b b_null zero-x zero-y o t e

      value-x : is_scalar a ≡ true → GivesValue laws p f (At x).value a
      value-x s = met.value-given laws p f k scope x hx vx s

      value-y : is_scalar b ≡ true → GivesValue laws p f (At y).value b
      value-y s = met.value-given laws p f k scope y hy vy s

      plain-gives : (o : BinaryOperator) → IsOperated o → operated_types p.structs o a a_null b b_null ≡ Some t → GivesValue laws p f (operated scope.structs o (operand (At x)) (operand (At y))) t
      plain-gives o is e =
          let both = operands o e in
          let v = value-x both.0 in
          let w = value-y both.1 in
          record {
            good = λ place register slot. operations.operated-good laws.rows laws.parts laws.fit laws.touch p f scope.structs o is (operand (At y)) (both.1, names-y) w.good w.kept (operand (At x)) (both.0, names-x)
                place register slot [] (v.good place register slot);
            kept = operations.operated-kept laws.rows laws.parts laws.fit laws.touch p f scope.structs o is (operand (At y)) (both.1, names-y) w.good w.kept (operand (At x)) (both.0, names-x) v.kept;
            source = λ pointer. operations.operated-source laws.rows laws.parts laws.fit laws.touch p f scope.structs o is (operand (At y)) (both.1, names-y) w.good w.kept (operand (At x)) (both.0, names-x);
            typed = λ place register slot.
                typed_operations.operated-typed p f (Slots laws p f) laws.equal scope.structs o is (operand (At x)) (operand (At y)) t
                (subst (λ ds. operated_types ds o a a_null b b_null ≡ Some t) (sym fits.structs_of_scope) e) w.typed place register slot [] (v.typed place register slot);
          }

      -- `&&` and `||`

      both-gives : operated_types p.structs op.LogicalAnd a a_null b b_null ≡ Some t → GivesValue laws p f (and_code (At x).value (At y).value) t
      both-gives e =
          let both = operands op.LogicalAnd e in
          let v = value-x both.0 in
          let w = value-y both.1 in
          record {
            good = laws.rows.choices.both (At x).value (At y).value v.good w.good;
            kept = ((laws.fit p f).both (At x).value (At y).value v.kept.0 w.kept.0, (laws.touch p.structs).both (At x).value (At y).value v.kept.1 w.kept.1);
            source = λ pointer. source.truth_source_and laws.parts (At x).value (At y).value;
            typed = subst (Valued laws p f (and_code (At x).value (At y).value)) (typed_operations.tested-int a b t e) (choices.and-typed p f (Slots laws p f) (At x).value (At y).value a b v.typed w.typed);
          }

      either-gives : operated_types p.structs op.LogicalOr a a_null b b_null ≡ Some t → GivesValue laws p f (or_code (At x).value (At y).value) t
      either-gives e =
          let both = operands op.LogicalOr e in
          let v = value-x both.0 in
          let w = value-y both.1 in
          record {
            good = laws.rows.choices.either (At x).value (At y).value v.good w.good;
            kept = ((laws.fit p f).either (At x).value (At y).value v.kept.0 w.kept.0, (laws.touch p.structs).either (At x).value (At y).value v.kept.1 w.kept.1);
            source = λ pointer. source.truth_source_or laws.parts (At x).value (At y).value;
            typed = subst (Valued laws p f (or_code (At x).value (At y).value)) (typed_operations.tested-int a b t e) (choices.or-typed p f (Slots laws p f) (At x).value (At y).value a b v.typed w.typed);
          }

      binary-gives : (o : BinaryOperator) → operated_types p.structs o a a_null b b_null ≡ Some t → GivesValue laws p f (binary_row scope.structs o (operand (At x)) (operand (At y))) t
      binary-gives op.LogicalOr e = either-gives e
      binary-gives op.LogicalAnd e = both-gives e
      binary-gives op.Equal e = plain-gives op.Equal tt e
      binary-gives op.NotEqual e = plain-gives op.NotEqual tt e
      binary-gives op.Less e = plain-gives op.Less tt e
      binary-gives op.Greater e = plain-gives op.Greater tt e
      binary-gives op.LessEqual e = plain-gives op.LessEqual tt e
      binary-gives op.GreaterEqual e = plain-gives op.GreaterEqual tt e
      binary-gives op.Add e = plain-gives op.Add tt e
      binary-gives op.Subtract e = plain-gives op.Subtract tt e
      binary-gives op.BitwiseOr e = plain-gives op.BitwiseOr tt e
      binary-gives op.BitwiseExclusiveOr e = plain-gives op.BitwiseExclusiveOr tt e
      binary-gives op.BitwiseAnd e = plain-gives op.BitwiseAnd tt e
      binary-gives op.ShiftLeft e = plain-gives op.ShiftLeft tt e
      binary-gives op.ShiftRight e = plain-gives op.ShiftRight tt e
      binary-gives op.Multiply e = plain-gives op.Multiply tt e
      binary-gives op.Divide e = plain-gives op.Divide tt e
      binary-gives op.Remainder e = plain-gives op.Remainder tt e

      pub binary-met : (o : BinaryOperator) → typed_operated k.structs o x y ≡ Some t → c ≡ of_binary o (constant_of x) (constant_of y)
          → PartMet laws p f k scope (TypedForm-F.Binary x o y) (made_of scope (node scope (TypedForm-F.Binary x o y)) t c)
      binary-met o row value =
          let types = binary-types o t row in
          let both = operands o types in
          let is : c ≡ of_binary o (At x).constant (At y).constant = value ∙ (λ i. of_binary o (sym hx.constant i) (sym hy.constant i)) in
          met.scalar laws p f k scope (TypedForm-F.Binary x o y) t c (binary_row scope.structs o (operand (At x)) (operand (At y))) (no_lvalue t) refl refl
          (operated-only Scalar int-at-scalar p.structs a a_null b b_null (both.0, names-x) (both.1, names-y) o t types)
          (subst (λ z. ConstantFits z t) (sym is)
          (fits-of (At x).constant (At y).constant (of_binary o (At x).constant (At y).constant) (At x).ty (At y).ty t
          (λ same. ap (λ z. of_binary o z (At y).constant) same ∙ binary-left o (At y).constant)
          (λ same. ap (λ z. of_binary o (At x).constant z) same ∙ binary-right o (At x).constant)
          (λ ix iy. operated-only (λ u. is_integer u ≡ true) int-integer p.structs a a_null b b_null (integer-value x ix) (integer-value y iy) o t types)
          hx.met.constant hy.met.constant)) (binary-gives o types)

  -- ---- casts

  cast-if : (x : TypedExpr) (w : TypedTypeWord) (t : Ty) (c : Constant) (b : Bool) → is_void t ≡ b → Met x → is_value x ≡ true → Names laws p f t → may_be_cast x t ≡ true → ConstantFits c t
      → PartMet laws p f k scope (TypedForm-F.Cast w x) (made_of scope (node scope (TypedForm-F.Cast w x)) t c)
  unfolding may_be_cast
  cast-if x w t c true void h is names row fit =
      met.nothing-given laws p f k scope (TypedForm-F.Cast w x) t c (cast_part (At x) t) (no_lvalue t) refl refl names fit void
      (subst (λ (d : Bool). IsDone (if d then (At x).value else converted_part (At x) t)) (sym void) h.met.done)
      (subst (λ (d : Bool). met.Sound laws p f (if d then (At x).value else converted_part (At x) t)) (sym void) h.met.kept)
      (subst (λ (d : Bool). met.TypedDone laws p f (if d then (At x).value else converted_part (At x) t)) (sym void) h.met.typed_done)
  cast-if x w t c false nonvoid h is names row fit =
      let both : (is_scalar t && is_scalar_value x) ≡ true = ⊎_elim (λ v. absurd (let z : is_void t ≡ true = v in cc)) (λ s. s) (either (is_void t) (is_scalar t && is_scalar_value x) row) in
      let s = first (is_scalar t) (is_scalar_value x) both in
      let from = unary.scalar-scalar_value laws p f k scope fits x h (second (is_scalar t) (is_scalar_value x) both) in
      met.scalar laws p f k scope (TypedForm-F.Cast w x) t c (cast_part (At x) t) (no_lvalue t) refl refl (s, names) fit
      (subst (λ (d : Bool). GivesValue laws p f (if d then (At x).value else converted_part (At x) t) t) (sym nonvoid)
      (met.converted-given laws p f k scope x h t is (s, names) (inr (from, s)) (unary.names-value laws p f k scope fits x h)))

  pub cast-met : (w : TypedTypeWord) (x : TypedExpr) (t : Ty) (c : Constant) → Met x → is_value x ≡ true → Names laws p f t → CastRow w x t → c ≡ of_cast (out-Ty t) (constant_of x)
      → PartMet laws p f k scope (TypedForm-F.Cast w x) (made_of scope (node scope (TypedForm-F.Cast w x)) t c)
  cast-met w x t c h is names row value =
      cast-if x w t c (is_void t) refl h is names row.castable (subst (λ z. ConstantFits z t) (sym value) (cast-constant t (out-Ty t) (constant_of x) refl))
