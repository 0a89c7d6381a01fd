-- A node of a typed tree, with what is made of its expressions.
use Rattle.c_types.specs.declared.ty.Ty.{Ty}
use Rattle.c_typed.specs.declared.entity.Constant.{Constant}
use Rattle.c_typed.specs.declared.expression.TypedDirect.TheOpen.{TypedForm-F}
use Rattle.c_typed.specs.declared.expression.TypedExpr.{TypedExpr, out-TypedExpr}
use Rattle.c_typed.specs.declared.expression.TypedForm.{TypedForm, fold-TypedForm, out-TypedForm, map-TypedForm}
use Rattle.c_typed.specs.declared.expression.TypedTypeWord.{TypedTypeWord, out-TypedTypeWord}
use Rattle.elab_rows.specs.declared.scope.Scope.{Scope}
use Rattle.elab_rows.specs.Values.{Part, PartForm, made_of, part, target, value_type}

abbrev pub of_form : Scope → TypedForm → Ty → Constant → Part
of_form scope = fold-TypedForm _ _ _ _ _ _ _ _ _ _ _ _ (λ _. tt) (made_of scope) (λ _. tt) (λ _. tt) (λ _. tt) (λ _. tt)
    (λ _. tt) (λ _. tt) (λ _. tt) (λ e. e.form e.ty e.constant) (λ _. tt) (λ w. w.ty)

abbrev pub node_with : Scope → (TypedTypeWord → Ty) → TypedForm → PartForm
node_with scope word f = map-TypedForm _ _ _ _ _ _ _ _ _ _ _ _ _ _ _ _ _ _ _ _ _ _ _ _ (λ _. tt) (of_form scope)
    (λ _. tt) (λ _. tt) (λ _. tt) (λ _. tt) (λ _. tt) (λ _. tt) (λ _. tt) (part scope) (λ _. tt) word (out-TypedForm f)

abbrev pub node : Scope → TypedExpr → PartForm
node scope e = node_with scope (λ w. (out-TypedTypeWord w).ty) (out-TypedExpr e).form

-- the root of an lvalue, by its form and type
abbrev pub root_by : PartForm → Ty → Ty
root_by (TypedForm-F.Member a x n) t = a.lvalue.root
root_by (TypedForm-F.Arrow a x n) t = target (value_type a)
root_by f t = t
