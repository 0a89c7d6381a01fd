-- Each form of an expression, without its types.
use Rattle.std.proofs.Common.{◌≡◌, ◌∙◌, ℕ, ℤ, List, map, ap, sym}
use Rattle.c_tree.specs.declared.expression.Expr.TheVariants as expr
use Rattle.c_tree.specs.declared.operator.AssignOperator.{AssignOperator}
use Rattle.c_tree.specs.declared.operator.BinaryOperator.{BinaryOperator}
use Rattle.c_tree.specs.declared.operator.UnaryOperator.{UnaryOperator}
use Rattle.c_types.specs.declared.ty.Ty.{Ty}
use Rattle.c_typed.specs.declared.entity.Constant.{Constant}
use Rattle.c_typed.specs.declared.entity.Entity.{Entity}
use Rattle.c_typed.specs.declared.expression.TypedForm.{TypedForm, roll-TypedForm, map-TypedForm, fold-roll-TypedForm}
use Rattle.c_typed.specs.declared.expression.TypedExpr.{TypedExpr, fold-roll-TypedExpr}
use Rattle.c_typed.specs.declared.expression.TypedTypeWord.{TypedTypeWord}
use Rattle.c_typed.specs.declared.expression.TypedForm.TheVariants as form
use Rattle.c_typed.specs.declared.expression.TypedDirect.TheOpen.{TypedForm-F}
use Rattle.c_typed.specs.Erased.{erased_abstract, erased_declarator, erased_declared, erased_declared_node, erased_direct, erased_expr, erased_expr_node, erased_form, erased_member, erased_param, erased_params, erased_spec, erased_spec_node, erased_suffix, erased_type_word}
use Rattle.c_operators.specs.Operators.{typed}
use Rattle.c_typing_laws.specs.inner.ErasedTrees.{abstract_tree, declarator_tree, direct_tree, form_tree, Layer, member_tree, param_tree, params_tree, suffix_tree, type_word_tree}

form-made : (node : Layer TypedForm-F) → form_tree (roll-TypedForm node)
    ≡ erased_form (map-TypedForm _ _ _ _ _ _ _ _ _ _ _ _ _ _ _ _ _ _ _ _ _ _ _ _
    direct_tree form_tree param_tree params_tree erased_spec suffix_tree
    erased_declared abstract_tree declarator_tree erased_expr member_tree type_word_tree node)
unfolding direct_tree form_tree param_tree params_tree erased_spec suffix_tree erased_declared abstract_tree declarator_tree erased_expr member_tree type_word_tree
form-made node = fold-roll-TypedForm _ _ _ _ _ _ _ _ _ _ _ _
    erased_direct erased_form erased_param erased_params erased_spec_node erased_suffix
    erased_declared_node erased_abstract erased_declarator erased_expr_node erased_member erased_type_word node

pub typed-made : (f : TypedForm) (t : Ty) (c : Constant) → erased_expr (typed f t c) ≡ form_tree f
unfolding erased_expr form_tree typed
typed-made f t c = fold-roll-TypedExpr _ _ _ _ _ _ _ _ _ _ _ _
    erased_direct erased_form erased_param erased_params erased_spec_node erased_suffix
    erased_declared_node erased_abstract erased_declarator erased_expr_node erased_member erased_type_word
    (record { form = f; ty = t; constant = c })

pub form-Assign : (a : TypedExpr) (o : AssignOperator) (b : TypedExpr) → form_tree (form.Assign a o b) ≡ expr.Assign (erased_expr a) o (erased_expr b)
form-Assign a o b = ap form_tree (sym (form.rolls-Assign a o b)) ∙ form-made (TypedForm-F.Assign a o b)

pub form-Conditional : (c a b : TypedExpr) → form_tree (form.Conditional c a b) ≡ expr.Conditional (erased_expr c) (erased_expr a) (erased_expr b)
form-Conditional c a b = ap form_tree (sym (form.rolls-Conditional c a b)) ∙ form-made (TypedForm-F.Conditional c a b)

pub form-Binary : (a : TypedExpr) (o : BinaryOperator) (b : TypedExpr) → form_tree (form.Binary a o b) ≡ expr.Binary (erased_expr a) o (erased_expr b)
form-Binary a o b = ap form_tree (sym (form.rolls-Binary a o b)) ∙ form-made (TypedForm-F.Binary a o b)

pub form-Cast : (t : TypedTypeWord) (a : TypedExpr) → form_tree (form.Cast t a) ≡ expr.Cast (type_word_tree t) (erased_expr a)
form-Cast t a = ap form_tree (sym (form.rolls-Cast t a)) ∙ form-made (TypedForm-F.Cast t a)

pub form-PreIncrement : (a : TypedExpr) → form_tree (form.PreIncrement a) ≡ expr.PreIncrement (erased_expr a)
form-PreIncrement a = ap form_tree (sym (form.rolls-PreIncrement a)) ∙ form-made (TypedForm-F.PreIncrement a)

pub form-PreDecrement : (a : TypedExpr) → form_tree (form.PreDecrement a) ≡ expr.PreDecrement (erased_expr a)
form-PreDecrement a = ap form_tree (sym (form.rolls-PreDecrement a)) ∙ form-made (TypedForm-F.PreDecrement a)

pub form-Unary : (o : UnaryOperator) (a : TypedExpr) → form_tree (form.Unary o a) ≡ expr.Unary o (erased_expr a)
form-Unary o a = ap form_tree (sym (form.rolls-Unary o a)) ∙ form-made (TypedForm-F.Unary o a)

pub form-SizeofExpr : (a : TypedExpr) → form_tree (form.SizeofExpr a) ≡ expr.SizeofExpr (erased_expr a)
form-SizeofExpr a = ap form_tree (sym (form.rolls-SizeofExpr a)) ∙ form-made (TypedForm-F.SizeofExpr a)

pub form-SizeofType : (t : TypedTypeWord) → form_tree (form.SizeofType t) ≡ expr.SizeofType (type_word_tree t)
form-SizeofType t = ap form_tree (sym (form.rolls-SizeofType t)) ∙ form-made (TypedForm-F.SizeofType t)

pub form-Index : (a i : TypedExpr) → form_tree (form.Index a i) ≡ expr.Index (erased_expr a) (erased_expr i)
form-Index a i = ap form_tree (sym (form.rolls-Index a i)) ∙ form-made (TypedForm-F.Index a i)

pub form-Call : (f : TypedExpr) (arguments : List TypedExpr) → form_tree (form.Call f arguments) ≡ expr.Call (erased_expr f) (map erased_expr arguments)
form-Call f arguments = ap form_tree (sym (form.rolls-Call f arguments)) ∙ form-made (TypedForm-F.Call f arguments)

pub form-Member : (a : TypedExpr) (x : List ℕ) (n : ℕ) → form_tree (form.Member a x n) ≡ expr.Member (erased_expr a) x
form-Member a x n = ap form_tree (sym (form.rolls-Member a x n)) ∙ form-made (TypedForm-F.Member a x n)

pub form-Arrow : (a : TypedExpr) (x : List ℕ) (n : ℕ) → form_tree (form.Arrow a x n) ≡ expr.Arrow (erased_expr a) x
form-Arrow a x n = ap form_tree (sym (form.rolls-Arrow a x n)) ∙ form-made (TypedForm-F.Arrow a x n)

pub form-PostIncrement : (a : TypedExpr) → form_tree (form.PostIncrement a) ≡ expr.PostIncrement (erased_expr a)
form-PostIncrement a = ap form_tree (sym (form.rolls-PostIncrement a)) ∙ form-made (TypedForm-F.PostIncrement a)

pub form-PostDecrement : (a : TypedExpr) → form_tree (form.PostDecrement a) ≡ expr.PostDecrement (erased_expr a)
form-PostDecrement a = ap form_tree (sym (form.rolls-PostDecrement a)) ∙ form-made (TypedForm-F.PostDecrement a)

pub form-Identifier : (x : List ℕ) (e : Entity) → form_tree (form.Identifier x e) ≡ expr.Identifier x
form-Identifier x e = ap form_tree (sym (form.rolls-Identifier x e)) ∙ form-made (TypedForm-F.Identifier x e)

pub form-Number : (n : ℤ) → form_tree (form.Number n) ≡ expr.Number n
form-Number n = ap form_tree (sym (form.rolls-Number n)) ∙ form-made (TypedForm-F.Number n)

pub form-Text : (bytes : List ℕ) (n : ℕ) → form_tree (form.Text bytes n) ≡ expr.Text bytes
form-Text bytes n = ap form_tree (sym (form.rolls-Text bytes n)) ∙ form-made (TypedForm-F.Text bytes n)
