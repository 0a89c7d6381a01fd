-- What is known of an expression that may give a global its value, from what is known of those in it.
use Rattle.std.proofs.Common.{◌≡◌, ◌∙◌, ◌||◌, ap}
use Rattle.c_types.specs.declared.ty.Ty.{Ty}
use Rattle.c_typed.specs.declared.entity.Constant.{Constant}
use Rattle.c_typed.specs.declared.expression.TypedExpr.{TypedExpr, out-TypedExpr, fold_out-TypedExpr}
use Rattle.c_typed.specs.declared.expression.TypedForm.{TypedForm, out-TypedForm, map-TypedForm}
use Rattle.c_typed.specs.declared.expression.TypedForm.{fold-TypedForm, fold_out-TypedForm}
use Rattle.c_declaration_typing.specs.Leaves.{Leaf, LeafForm, function_form, has_value, leaf, leaf_form, leaf_step, place_form}

abbrev of_form : TypedForm → Ty → Constant → Leaf
of_form = fold-TypedForm _ _ _ _ _ _ _ _ _ _ _ _ (λ _. tt) leaf_step (λ _. tt) (λ _. tt) (λ _. tt) (λ _. tt)
    (λ _. tt) (λ _. tt) (λ _. tt) (λ e. e.form e.ty e.constant) (λ _. tt) (λ _. tt)

-- the form of an expression, with what is known of the expressions in it
abbrev pub leaf_node : TypedExpr → LeafForm
leaf_node e = map-TypedForm _ _ _ _ _ _ _ _ _ _ _ _ _ _ _ _ _ _ _ _ _ _ _ _ (λ _. tt) of_form (λ _. tt) (λ _. tt)
    (λ _. tt) (λ _. tt) (λ _. tt) (λ _. tt) (λ _. tt) leaf (λ _. tt) (λ _. tt) (out-TypedForm (out-TypedExpr e).form)

form-of : (e : TypedExpr) → of_form (out-TypedExpr e).form ≡ leaf_step (leaf_node e)
unfolding leaf
form-of e = fold_out-TypedForm _ _ _ _ _ _ _ _ _ _ _ _ (λ _. tt) leaf_step (λ _. tt) (λ _. tt) (λ _. tt) (λ _. tt)
    (λ _. tt) (λ _. tt) (λ _. tt) (λ e. e.form e.ty e.constant) (λ _. tt) (λ _. tt) (out-TypedExpr e).form

expr-of : (e : TypedExpr) → leaf e ≡ of_form (out-TypedExpr e).form (out-TypedExpr e).ty (out-TypedExpr e).constant
unfolding leaf
expr-of e = fold_out-TypedExpr _ _ _ _ _ _ _ _ _ _ _ _ (λ _. tt) leaf_step (λ _. tt) (λ _. tt) (λ _. tt) (λ _. tt)
    (λ _. tt) (λ _. tt) (λ _. tt) (λ e. e.form e.ty e.constant) (λ _. tt) (λ _. tt) e

leaf-of : (e : TypedExpr) → leaf e ≡ leaf_step (leaf_node e) (out-TypedExpr e).ty (out-TypedExpr e).constant
leaf-of e = expr-of e ∙ ap (λ f. f (out-TypedExpr e).ty (out-TypedExpr e).constant) (form-of e)

pub is_leaf-of : (e : TypedExpr)
    → (leaf e).is_leaf ≡ has_value (out-TypedExpr e).constant || leaf_form (out-TypedExpr e).ty (leaf_node e)
is_leaf-of e = ap (λ l. l.is_leaf) (leaf-of e)

pub is_place-of : (e : TypedExpr) → (leaf e).is_place ≡ place_form (leaf_node e)
is_place-of e = ap (λ l. l.is_place) (leaf-of e)

pub is_function-of : (e : TypedExpr) → (leaf e).is_function ≡ function_form (leaf_node e)
is_function-of e = ap (λ l. l.is_function) (leaf-of e)

pub ty-of : (e : TypedExpr) → (leaf e).ty ≡ (out-TypedExpr e).ty
ty-of e = ap (λ l. l.ty) (leaf-of e)

pub constant-of : (e : TypedExpr) → (leaf e).constant ≡ (out-TypedExpr e).constant
constant-of e = ap (λ l. l.constant) (leaf-of e)

pub ruleset leaves = (is_leaf-of, is_place-of, is_function-of, ty-of, constant-of)
