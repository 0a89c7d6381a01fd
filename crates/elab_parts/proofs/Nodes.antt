-- What is made of a typed tree, by what is made of its parts.
use Rattle.std.proofs.Common.{◌≡◌, ◌∙◌, ◌⊎◌, inl, inr, ℕ, ℤ, pos, Bool, true, false, ap, sym, refl, subst, Result}
use Rattle.c_types.specs.declared.ty.Ty.{Ty}
use Rattle.c_types.specs.declared.ty.Ty.TheVariants as ty
use Rattle.c_types.specs.Kinds.{decay, is_pointer}
use Rattle.c_typed.specs.declared.entity.Constant.TheVariants as constant
use Rattle.c_typed.specs.declared.expression.TypedDirect.TheOpen.{TypedForm-F}
use Rattle.c_typed.specs.declared.expression.TypedExpr.{TypedExpr, fold_out-TypedExpr, out-TypedExpr, out-roll-TypedExpr}
use Rattle.c_typed.specs.declared.expression.TypedForm.{fold_out-TypedForm, map-TypedForm, out-TypedForm, out-roll-TypedForm}
use Rattle.c_typed.specs.declared.expression.TypedForm.TheVariants as form
use Rattle.c_typed.specs.declared.expression.TypedTypeWord.{TypedTypeWord, fold-TypedTypeWord, fold_out-TypedTypeWord, out-TypedTypeWord}
use Rattle.c_tree.specs.declared.operator.UnaryOperator.{UnaryOperator}
use Rattle.c_tree.specs.declared.operator.UnaryOperator.TheVariants as unary
use Rattle.c_operators.specs.Operators.{constant_of, is_null, type_of, typed, value_type}
use Rattle.elab_rows.specs.Rows.{number, target_units}
use Rattle.elab_rows.specs.Addresses.{lvalue_value}
use Rattle.elab_rows.specs.Values.{Part, PartForm, form_lvalue, form_name, form_value, folded, made_of, name_address, name_value, one, operand, part, target, unary_lvalue, value_type as part_type, whole}
use Rattle.elab_emit.specs.Emits.{Outcome, code_of}
use Rattle.elab_emit.specs.declared.emitter.Emitter.{Emitter}
use Rattle.elab_emit.specs.declared.emitter.Trouble.{Trouble}
use Rattle.elab_rows.specs.declared.scope.Scope.{Scope}
use Rattle.elab_rows.specs.declared.named.Named.{Named}
use Rattle.elab_rows.specs.declared.named.Named.TheVariants as named
use Rattle.elab_parts.specs.inner.Nodes.{node, node_with, of_form, root_by}

module _ (scope : Scope) where
  abbrev word_type : TypedTypeWord → Ty
  word_type = fold-TypedTypeWord _ _ _ _ _ _ _ _ _ _ _ _ (λ _. tt) (made_of scope) (λ _. tt) (λ _. tt) (λ _. tt) (λ _. tt)
      (λ _. tt) (λ _. tt) (λ _. tt) (λ e. e.form e.ty e.constant) (λ _. tt) (λ w. w.ty)

  word-of : (w : TypedTypeWord) → word_type w ≡ (out-TypedTypeWord w).ty
  word-of w = fold_out-TypedTypeWord _ _ _ _ _ _ _ _ _ _ _ _ (λ _. tt) (made_of scope) (λ _. tt) (λ _. tt) (λ _. tt) (λ _. tt)
      (λ _. tt) (λ _. tt) (λ _. tt) (λ e. e.form e.ty e.constant) (λ _. tt) (λ w. w.ty) w

  form-of : (e : TypedExpr) → of_form scope (out-TypedExpr e).form ≡ made_of scope (node_with scope word_type (out-TypedExpr e).form)
  unfolding part
  form-of e = fold_out-TypedForm _ _ _ _ _ _ _ _ _ _ _ _ (λ _. tt) (made_of scope) (λ _. tt) (λ _. tt) (λ _. tt) (λ _. tt)
      (λ _. tt) (λ _. tt) (λ _. tt) (λ e. e.form e.ty e.constant) (λ _. tt) (λ w. w.ty) (out-TypedExpr e).form

  expr-of : (e : TypedExpr) → part scope e ≡ of_form scope (out-TypedExpr e).form (out-TypedExpr e).ty (out-TypedExpr e).constant
  unfolding part
  expr-of e = fold_out-TypedExpr _ _ _ _ _ _ _ _ _ _ _ _ (λ _. tt) (made_of scope) (λ _. tt) (λ _. tt) (λ _. tt) (λ _. tt)
      (λ _. tt) (λ _. tt) (λ _. tt) (λ e. e.form e.ty e.constant) (λ _. tt) (λ w. w.ty) e

  pub part-of : (e : TypedExpr) → part scope e ≡ made_of scope (node scope e) (out-TypedExpr e).ty (out-TypedExpr e).constant
  part-of e =
      expr-of e ∙ ap (λ f. f (out-TypedExpr e).ty (out-TypedExpr e).constant) (form-of e)
      ∙ (λ i. made_of scope (node_with scope (λ w. word-of w i) (out-TypedExpr e).form) (out-TypedExpr e).ty (out-TypedExpr e).constant)

pub name_is : (scope : Scope) (e : TypedExpr) → (part scope e).name ≡ form_name scope (node scope e)
name_is scope e = ap (λ p. p.name) (part-of scope e)

pub value_is : (scope : Scope) (e : TypedExpr) → (part scope e).value
    ≡ folded scope.folds (out-TypedExpr e).constant (form_value scope (node scope e) (out-TypedExpr e).ty)
value_is scope e = ap (λ p. p.value) (part-of scope e)

pub lvalue_is : (scope : Scope) (e : TypedExpr) → (part scope e).lvalue ≡ form_lvalue scope (node scope e) (out-TypedExpr e).ty
lvalue_is scope e = ap (λ p. p.lvalue) (part-of scope e)

pub type_is : (scope : Scope) (e : TypedExpr) → (part scope e).ty ≡ (out-TypedExpr e).ty
type_is scope e = ap (λ p. p.ty) (part-of scope e)

pub operand_is : (scope : Scope) (e : TypedExpr)
    → operand (part scope e) ≡ record { ty = value_type e; is_null = is_null e; code = (part scope e).value }
unfolding value_type is_null type_of constant_of
operand_is scope e = λ i. operand (record { ty = (part-of scope e i).ty; constant = (part-of scope e i).constant; value = (part scope e).value; lvalue = (part scope e).lvalue; name = (part scope e).name })

pub target_is : (scope : Scope) (e : TypedExpr) → target (part_type (part scope e)) ≡ target (decay (out-TypedExpr e).ty)
target_is scope e = ap (λ t. target (decay t)) (type_is scope e)

pub pointer_is : (scope : Scope) (e : TypedExpr) → is_pointer (decay (part scope e).ty) ≡ is_pointer (decay (out-TypedExpr e).ty)
pointer_is scope e = ap (λ t. is_pointer (decay t)) (type_is scope e)

pub units_are : (scope : Scope) (e : TypedExpr) → target_units scope.structs (decay (part scope e).ty) ≡ target_units scope.structs (decay (out-TypedExpr e).ty)
units_are scope e = ap (λ t. target_units scope.structs (decay t)) (type_is scope e)

unary_type : (o : UnaryOperator) (a : Part) (t : Ty) → (unary_lvalue o a t).ty ≡ t
unary_type unary.Dereference a t = refl
unary_type unary.Address a t = refl
unary_type unary.Negate a t = refl
unary_type unary.Complement a t = refl
unary_type unary.Not a t = refl

form_type : (scope : Scope) (f : PartForm) (t : Ty) → (form_lvalue scope f t).ty ≡ t
form_type scope (TypedForm-F.Unary o a) t = unary_type o a t
form_type scope (TypedForm-F.Assign a o b) t = refl
form_type scope (TypedForm-F.Conditional e a b) t = refl
form_type scope (TypedForm-F.Binary a o b) t = refl
form_type scope (TypedForm-F.Cast w a) t = refl
form_type scope (TypedForm-F.PreIncrement a) t = refl
form_type scope (TypedForm-F.PreDecrement a) t = refl
form_type scope (TypedForm-F.SizeofExpr a) t = refl
form_type scope (TypedForm-F.SizeofType w) t = refl
form_type scope (TypedForm-F.Index a i) t = refl
form_type scope (TypedForm-F.Call f arguments) t = refl
form_type scope (TypedForm-F.Member a x n) t = refl
form_type scope (TypedForm-F.Arrow a x n) t = refl
form_type scope (TypedForm-F.PostIncrement a) t = refl
form_type scope (TypedForm-F.PostDecrement a) t = refl
form_type scope (TypedForm-F.Identifier x e) t = refl
form_type scope (TypedForm-F.Number n) t = refl
form_type scope (TypedForm-F.Text bytes n) t = refl

-- an lvalue has its expression's type
pub lvalue_type : (scope : Scope) (e : TypedExpr) → (part scope e).lvalue.ty ≡ (out-TypedExpr e).ty
lvalue_type scope e = ap (λ l. l.ty) (lvalue_is scope e) ∙ form_type scope (node scope e) (out-TypedExpr e).ty

unary_root : (o : UnaryOperator) (a : Part) (t : Ty) → (unary_lvalue o a t).root ≡ t
unary_root unary.Dereference a t = refl
unary_root unary.Address a t = refl
unary_root unary.Negate a t = refl
unary_root unary.Complement a t = refl
unary_root unary.Not a t = refl

form_root : (scope : Scope) (f : PartForm) (t : Ty) → (form_lvalue scope f t).root ≡ root_by f t
form_root scope (TypedForm-F.Unary o a) t = unary_root o a t
form_root scope (TypedForm-F.Assign a o b) t = refl
form_root scope (TypedForm-F.Conditional e a b) t = refl
form_root scope (TypedForm-F.Binary a o b) t = refl
form_root scope (TypedForm-F.Cast w a) t = refl
form_root scope (TypedForm-F.PreIncrement a) t = refl
form_root scope (TypedForm-F.PreDecrement a) t = refl
form_root scope (TypedForm-F.SizeofExpr a) t = refl
form_root scope (TypedForm-F.SizeofType w) t = refl
form_root scope (TypedForm-F.Index a i) t = refl
form_root scope (TypedForm-F.Call f arguments) t = refl
form_root scope (TypedForm-F.Member a x n) t = refl
form_root scope (TypedForm-F.Arrow a x n) t = refl
form_root scope (TypedForm-F.PostIncrement a) t = refl
form_root scope (TypedForm-F.PostDecrement a) t = refl
form_root scope (TypedForm-F.Identifier x e) t = refl
form_root scope (TypedForm-F.Number n) t = refl
form_root scope (TypedForm-F.Text bytes n) t = refl

pub root_is : (scope : Scope) (e : TypedExpr) → (part scope e).lvalue.root ≡ root_by (node scope e) (out-TypedExpr e).ty
root_is scope e = ap (λ l. l.root) (lvalue_is scope e) ∙ form_root scope (node scope e) (out-TypedExpr e).ty

folded_one : (b : Bool) → folded b (constant.Value (pos 1)) (number (pos 1)) ≡ number (pos 1)
folded_one true = refl
folded_one false = refl

-- the number 1 as a tree
abbrev pub one_tree : TypedExpr
one_tree = typed (form.Number (pos 1)) ty.Int (constant.Value (pos 1))

one_out : out-TypedExpr one_tree ≡ record { form = form.Number (pos 1); ty = ty.Int; constant = constant.Value (pos 1) }
unfolding typed
one_out = out-roll-TypedExpr (record { form = form.Number (pos 1); ty = ty.Int; constant = constant.Value (pos 1) })

number_out : (n : ℤ) → out-TypedForm (form.Number n) ≡ TypedForm-F.Number n
number_out n = ap out-TypedForm (sym (form.rolls-Number n)) ∙ out-roll-TypedForm (TypedForm-F.Number n)

number_node : (scope : Scope) (n : ℤ) → node_with scope (λ w. (out-TypedTypeWord w).ty) (form.Number n) ≡ TypedForm-F.Number n
number_node scope n =
    λ i. map-TypedForm _ _ _ _ _ _ _ _ _ _ _ _ _ _ _ _ _ _ _ _ _ _ _ _ (λ _. tt) (of_form scope)
    (λ _. tt) (λ _. tt) (λ _. tt) (λ _. tt) (λ _. tt) (λ _. tt) (λ _. tt) (part scope) (λ _. tt)
    (λ w. (out-TypedTypeWord w).ty) (number_out n i)

pub one_is : (scope : Scope) → part scope one_tree ≡ one
one_is scope =
    part-of scope one_tree
    ∙ (λ i. made_of scope (node_with scope (λ w. (out-TypedTypeWord w).ty) (one_out i).form) (one_out i).ty (one_out i).constant)
    ∙ ap (λ f. made_of scope f ty.Int (constant.Value (pos 1))) (number_node scope (pos 1))
    ∙ (λ i. record one { value = folded_one scope.folds i })

-- ---- names

-- a variable in memory is an lvalue at its own address
form_named : (scope : Scope) (f : PartForm) (t : Ty) → (form_name scope f ≡ named.Other) ⊎ (form_lvalue scope f t ≡ whole (name_address (form_name scope f)) t)
form_named scope (TypedForm-F.Identifier x e) t = inr refl
form_named scope (TypedForm-F.Unary o a) t = inl refl
form_named scope (TypedForm-F.Assign a o b) t = inl refl
form_named scope (TypedForm-F.Conditional e a b) t = inl refl
form_named scope (TypedForm-F.Binary a o b) t = inl refl
form_named scope (TypedForm-F.Cast w a) t = inl refl
form_named scope (TypedForm-F.PreIncrement a) t = inl refl
form_named scope (TypedForm-F.PreDecrement a) t = inl refl
form_named scope (TypedForm-F.SizeofExpr a) t = inl refl
form_named scope (TypedForm-F.SizeofType w) t = inl refl
form_named scope (TypedForm-F.Index a i) t = inl refl
form_named scope (TypedForm-F.Call f arguments) t = inl refl
form_named scope (TypedForm-F.Member a x n) t = inl refl
form_named scope (TypedForm-F.Arrow a x n) t = inl refl
form_named scope (TypedForm-F.PostIncrement a) t = inl refl
form_named scope (TypedForm-F.PostDecrement a) t = inl refl
form_named scope (TypedForm-F.Number n) t = inl refl
form_named scope (TypedForm-F.Text bytes n) t = inl refl

by_form : (scope : Scope) (f : PartForm) (t : Ty) (n : Named) → (named.Other ≡ n → ⊥) → form_name scope f ≡ n
    → (form_name scope f ≡ named.Other) ⊎ (form_lvalue scope f t ≡ whole (name_address (form_name scope f)) t)
    → form_lvalue scope f t ≡ whole (name_address n) t
by_form scope f t n differs is (inl other) = absurd (differs (sym other ∙ is))
by_form scope f t n differs is (inr same) = same ∙ ap (λ m. whole (name_address m) t) is

pub global_lvalue : (scope : Scope) (e : TypedExpr) (g : ℕ) → (part scope e).name ≡ named.Global g
    → (part scope e).lvalue ≡ whole (name_address (named.Global g)) (out-TypedExpr e).ty
global_lvalue scope e g is =
    lvalue_is scope e
    ∙ by_form scope (node scope e) (out-TypedExpr e).ty (named.Global g) (λ other. cc) (sym (name_is scope e) ∙ is)
    (form_named scope (node scope e) (out-TypedExpr e).ty)

pub frame_lvalue : (scope : Scope) (e : TypedExpr) (v : ℕ) → (part scope e).name ≡ named.Frame v
    → (part scope e).lvalue ≡ whole (name_address (named.Frame v)) (out-TypedExpr e).ty
frame_lvalue scope e v is =
    lvalue_is scope e
    ∙ by_form scope (node scope e) (out-TypedExpr e).ty (named.Frame v) (λ other. cc) (sym (name_is scope e) ∙ is)
    (form_named scope (node scope e) (out-TypedExpr e).ty)

-- a variable in memory has the value of its lvalue
pub global_row : (scope : Scope) (e : TypedExpr) (g : ℕ) (old new : Emitter) (r : Result ℕ Trouble) → (part scope e).name ≡ named.Global g
    → Outcome old (code_of old (lvalue_value (part scope e).lvalue)) r new → Outcome old (code_of old (name_value (part scope e).name (out-TypedExpr e).ty)) r new
global_row scope e g old new r is h =
    let same : lvalue_value (part scope e).lvalue ≡ name_value (part scope e).name (out-TypedExpr e).ty =
    ap lvalue_value (global_lvalue scope e g is) ∙ ap (λ n. name_value n (out-TypedExpr e).ty) (sym is) in
    subst (λ c. Outcome old (code_of old c) r new) same h

pub frame_row : (scope : Scope) (e : TypedExpr) (v : ℕ) (old new : Emitter) (r : Result ℕ Trouble) → (part scope e).name ≡ named.Frame v
    → Outcome old (code_of old (lvalue_value (part scope e).lvalue)) r new → Outcome old (code_of old (name_value (part scope e).name (out-TypedExpr e).ty)) r new
frame_row scope e v old new r is h =
    let same : lvalue_value (part scope e).lvalue ≡ name_value (part scope e).name (out-TypedExpr e).ty =
    ap lvalue_value (frame_lvalue scope e v is) ∙ ap (λ n. name_value n (out-TypedExpr e).ty) (sym is) in
    subst (λ c. Outcome old (code_of old c) r new) same h

-- ---- the code of a node is that of its tree

pub by_value : (scope : Scope) (e : TypedExpr) (old new : Emitter) (r : Result ℕ Trouble)
    → Outcome old (code_of old (folded scope.folds (out-TypedExpr e).constant (form_value scope (node scope e) (out-TypedExpr e).ty))) r new
    → Outcome old (code_of old (part scope e).value) r new
by_value scope e old new r h = subst (λ c. Outcome old (code_of old c) r new) (sym (value_is scope e)) h

pub by_lvalue : (scope : Scope) (e : TypedExpr) (old new : Emitter) (r : Result ℕ Trouble)
    → Outcome old (code_of old (form_lvalue scope (node scope e) (out-TypedExpr e).ty).address) r new
    → Outcome old (code_of old (part scope e).lvalue.address) r new
by_lvalue scope e old new r h = subst (λ l. Outcome old (code_of old l.address) r new) (sym (lvalue_is scope e)) h
