-- What holds of the walk of each tree.
use Rattle.std.specs.Prelude.{◌≡◌, Bool, Ok}
use Rattle.c_tree.specs.declared.expression.Declarator.{Declarator}
use Rattle.c_tree.specs.declared.expression.Expr.{Expr}
use Rattle.c_tree.specs.declared.expression.Spec.{Spec}
use Rattle.c_types.specs.declared.ty.Ty.{Ty}
use Rattle.c_typed.specs.declared.expression.TypedExpr.{TypedExpr}
use Rattle.c_typed.specs.declared.expression.TypedSpec.{TypedSpec}
use Rattle.c_typed.specs.Erased.{erased_expr, erased_spec}
use Rattle.c_rules.specs.declared.place.Place.{Place}
use Rattle.c_scope.specs.declared.world.World.{World}
use Rattle.c_declarator_rules.specs.declared.declarators.LayeredDeclarator.{LayeredDeclarator}
use Rattle.c_expr_typing.specs.Trees.{typed_declarator, typed_expr, typed_spec}
use Rattle.c_typing_laws.specs.inner.ErasedTrees.{declarator_tree}

-- what the walk of a tree finds is that tree, with types
pub record WalksKeepTrees : Type 0 where
  pub expression :
      (e : Expr) (place : Place) (w new : World) (x : TypedExpr)
      → typed_expr e place w ≡ Ok (x, new)
      → erased_expr x ≡ e
  pub spec :
      (s : Spec) (bodies : Bool) (w new : World) (x : TypedSpec) (t : Ty)
      → typed_spec s bodies w ≡ Ok ((x, t), new)
      → erased_spec x ≡ s
  pub declarator :
      (d : Declarator) (w new : World) (x : LayeredDeclarator)
      → typed_declarator d w ≡ Ok (x, new)
      → declarator_tree x.tree ≡ d
