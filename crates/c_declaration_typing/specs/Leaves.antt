-- Which expressions may give a global variable its value.
use Rattle.std.specs.Prelude.{ℕ, Bool, true, false, ◌&&◌, ◌||◌, Option, Some, pos, int_le, int_lt}
use Rattle.c_types.specs.declared.ty.Ty.{Ty}
use Rattle.c_types.specs.Kinds.{bound_of, is_array}
use Rattle.c_tree.specs.declared.operator.UnaryOperator.TheVariants as unary
use Rattle.c_typed.specs.declared.entity.Constant.{Constant}
use Rattle.c_typed.specs.declared.entity.Constant.TheVariants as constant
use Rattle.c_typed.specs.declared.entity.Entity.{Entity}
use Rattle.c_typed.specs.declared.entity.Entity.TheVariants as entity
use Rattle.c_typed.specs.declared.expression.TypedDirect.TheOpen.{TypedForm-F}
use Rattle.c_typed.specs.declared.expression.TypedExpr.{TypedExpr, fold-TypedExpr}

-- what is known of a part of such an expression
pub record Leaf : Type 0 where
  -- it may give the value
  pub is_leaf : Bool
  -- it is a global with members and constant indices inside their arrays
  pub is_place : Bool
  pub is_function : Bool
  pub ty : Ty
  pub constant : Constant

-- it is an integer constant expression
abbrev pub has_value : Constant → Bool
has_value (constant.Value v) = true
has_value _ = false

-- a constant index inside an array of this bound
abbrev pub is_below : Constant → Option ℕ → Bool
is_below (constant.Value v) (Some n) = int_le (pos 0) v && int_lt v (pos n)
is_below _ _ = false

-- the name stands for a global variable
abbrev pub is_global_variable : Entity → Bool
is_global_variable (entity.Global n) = true
is_global_variable _ = false

-- the name stands for a function of the source
abbrev pub is_function_entity : Entity → Bool
is_function_entity entity.Function = true
is_function_entity _ = false

-- a form, with what is known of the expressions in it
abbrev pub LeafForm : Type 0
LeafForm = TypedForm-F (Unit {0}) (Ty → Constant → Leaf) (Unit {0}) (Unit {0}) (Unit {0}) (Unit {0}) (Unit {0})
    (Unit {0}) (Unit {0}) Leaf (Unit {0}) (Unit {0})

-- a global variable, a member of a place, or an element of one at a constant index inside it
abbrev pub place_form : LeafForm → Bool
place_form (TypedForm-F.Identifier x e) = is_global_variable e
place_form (TypedForm-F.Member a x n) = a.is_place
place_form (TypedForm-F.Index a i) = a.is_place && is_below i.constant (bound_of a.ty)
place_form _ = false

-- a string, a function, a global array, or an address of a function or a place; each under any casts
abbrev pub leaf_form : Ty → LeafForm → Bool
leaf_form t (TypedForm-F.Cast w a) = a.is_leaf
leaf_form t (TypedForm-F.Text bytes n) = true
leaf_form t (TypedForm-F.Identifier x e) = is_function_entity e || (is_global_variable e && is_array t)
leaf_form t (TypedForm-F.Unary unary.Address a) = a.is_function || a.is_place
leaf_form t _ = false

-- the name of a function
abbrev pub function_form : LeafForm → Bool
function_form (TypedForm-F.Identifier x e) = is_function_entity e
function_form _ = false

-- what is known of an expression, by its form, its type and its constant
abbrev pub leaf_step : LeafForm → Ty → Constant → Leaf
leaf_step f t c = record {
  is_leaf = has_value c || leaf_form t f;
  is_place = place_form f;
  is_function = function_form f;
  ty = t;
  constant = c;
}

-- what is known of an expression
unfoldable pub leaf : TypedExpr → Leaf
leaf = fold-TypedExpr _ _ _ _ _ _ _ _ _ _ _ _ (λ _. tt) leaf_step (λ _. tt) (λ _. tt) (λ _. tt) (λ _. tt)
    (λ _. tt) (λ _. tt) (λ _. tt) (λ e. e.form e.ty e.constant) (λ _. tt) (λ _. tt)

-- an integer constant expression, or one of those forms
unfoldable pub is_constant_leaf : TypedExpr → Bool
is_constant_leaf e = (leaf e).is_leaf
