-- What is made of an expression, by what is made of those in it.
use Rattle.std.proofs.Common.{◌≡◌, ◌∙◌, ap}
use Rattle.c_types.specs.declared.ty.Ty.{Ty}
use Rattle.c_typed.specs.declared.entity.Constant.{Constant}
use Rattle.c_typed.specs.declared.expression.TypedExpr.{TypedExpr, fold_out-TypedExpr, out-TypedExpr}
use Rattle.c_typed.specs.declared.expression.TypedForm.{TypedForm, fold-TypedForm, fold_out-TypedForm, map-TypedForm, out-TypedForm}
use Rattle.c_typed.specs.declared.expression.TypedTypeWord.{TypedTypeWord, fold-TypedTypeWord, fold_out-TypedTypeWord, out-TypedTypeWord}
use Rattle.c_operators.specs.Operators.{FormLayer}
use Rattle.elab_rows.specs.declared.scope.Scope.{Scope}
use Rattle.elab_rows.specs.Values.{Part, PartForm, made_of, part}

module _ (scope : Scope) where
  abbrev of_form : TypedForm → Ty → Constant → Part
  of_form = fold-TypedForm _ _ _ _ _ _ _ _ _ _ _ _ (λ _. tt) (made_of scope) (λ _. tt) (λ _. tt) (λ _. tt) (λ _. tt)
      (λ _. tt) (λ _. tt) (λ _. tt) (λ e. e.form e.ty e.constant) (λ _. tt) (λ w. w.ty)

  abbrev word_type : TypedTypeWord → Ty
  word_type = fold-TypedTypeWord _ _ _ _ _ _ _ _ _ _ _ _ (λ _. tt) (made_of scope) (λ _. tt) (λ _. tt) (λ _. tt) (λ _. tt)
      (λ _. tt) (λ _. tt) (λ _. tt) (λ e. e.form e.ty e.constant) (λ _. tt) (λ w. w.ty)

  abbrev node_with : (TypedTypeWord → Ty) → FormLayer → PartForm
  node_with word f = map-TypedForm _ _ _ _ _ _ _ _ _ _ _ _ _ _ _ _ _ _ _ _ _ _ _ _ (λ _. tt) of_form
      (λ _. tt) (λ _. tt) (λ _. tt) (λ _. tt) (λ _. tt) (λ _. tt) (λ _. tt) (part scope) (λ _. tt) word f

  -- a form, with what is made of the expressions in it
  abbrev pub node : FormLayer → PartForm
  node = node_with (λ w. (out-TypedTypeWord w).ty)

  word-of : (w : TypedTypeWord) → word_type w ≡ (out-TypedTypeWord w).ty
  word-of w = fold_out-TypedTypeWord _ _ _ _ _ _ _ _ _ _ _ _ (λ _. tt) (made_of scope) (λ _. tt) (λ _. tt) (λ _. tt) (λ _. tt)
      (λ _. tt) (λ _. tt) (λ _. tt) (λ e. e.form e.ty e.constant) (λ _. tt) (λ w. w.ty) w

  form-of : (e : TypedExpr) → of_form (out-TypedExpr e).form ≡ made_of scope (node_with word_type (out-TypedForm (out-TypedExpr e).form))
  unfolding part
  form-of e = fold_out-TypedForm _ _ _ _ _ _ _ _ _ _ _ _ (λ _. tt) (made_of scope) (λ _. tt) (λ _. tt) (λ _. tt) (λ _. tt)
      (λ _. tt) (λ _. tt) (λ _. tt) (λ e. e.form e.ty e.constant) (λ _. tt) (λ w. w.ty) (out-TypedExpr e).form

  expr-of : (e : TypedExpr) → part scope e ≡ of_form (out-TypedExpr e).form (out-TypedExpr e).ty (out-TypedExpr e).constant
  unfolding part
  expr-of e = fold_out-TypedExpr _ _ _ _ _ _ _ _ _ _ _ _ (λ _. tt) (made_of scope) (λ _. tt) (λ _. tt) (λ _. tt) (λ _. tt)
      (λ _. tt) (λ _. tt) (λ _. tt) (λ e. e.form e.ty e.constant) (λ _. tt) (λ w. w.ty) e

  pub part-of : (e : TypedExpr) → part scope e ≡ made_of scope (node (out-TypedForm (out-TypedExpr e).form)) (out-TypedExpr e).ty (out-TypedExpr e).constant
  part-of e =
      expr-of e ∙ ap (λ g. g (out-TypedExpr e).ty (out-TypedExpr e).constant) (form-of e)
      ∙ (λ i. made_of scope (node_with (λ w. word-of w i) (out-TypedForm (out-TypedExpr e).form)) (out-TypedExpr e).ty (out-TypedExpr e).constant)
