-- What declarations of variables and functions change, and what is asked of functions behind the last item.
use Rattle.std.specs.Prelude.{ℕ, ◌+◌, Bool, true, false, not, ◌&&◌, ◌||◌, if◌then◌else◌, List, [], ◌∷◌, ◌++◌, length, nat_eq, Option, Some, None, is_none, is_some}
use Rattle.c_layers.specs.declared.layer.Layer.{Layer}
use Rattle.c_layers.specs.declared.layer.Layer.TheVariants as layer
use Rattle.c_layers.specs.declared.layer.Parameter.{Parameter}
use Rattle.c_layers.specs.declared.layer.Shape.{Shape}
use Rattle.c_types.specs.declared.ty.FnTy.{FnTy, out-FnTy}
use Rattle.c_types.specs.declared.ty.Ty.{Ty}
use Rattle.c_types.specs.declared.ty.Ty.TheVariants as ty
use Rattle.c_types.specs.Same.{same}
use Rattle.c_typed.specs.declared.entity.BuiltIn.{BuiltIn}
use Rattle.c_typed.specs.declared.entity.Entity.{Entity}
use Rattle.c_typed.specs.declared.entity.Entity.TheVariants as entity
use Rattle.c_scope.specs.declared.world.KnownFunction.{KnownFunction}
use Rattle.c_scope.specs.declared.scopes.Meaning.TheVariants as means
use Rattle.c_scope.specs.declared.world.World.{World}
use Rattle.c_scope.specs.BuiltIns.{Name, built_in_named}
use Rattle.c_scope.specs.Declarations.{may_be_declared}
use Rattle.c_scope.specs.Scopes.{bind, innermost, known_function, meaning_here, with_function}
use Rattle.c_scope.specs.Walk.{Walk, ◌>>=◌, ◌>>◌, change, world, pure}

-- ---- functions

abbrev pub make_known_by : Name → FnTy → Option KnownFunction → Walk (Unit {0})
make_known_by x f (Some k) = pure tt
make_known_by x f None = change (λ w. record w { functions = w.functions ++ record { name = x; ty = f; first = w.item; is_used = false; is_defined = false } ∷ [] })

-- a function of this name becomes known, unless it is known already
abbrev pub make_known : Name → FnTy → Walk (Unit {0})
make_known x f = world >>= (λ w. make_known_by x f (known_function w.functions x))

unfoldable pub is_bound_here : World → Name → Bool
is_bound_here w x = is_some (meaning_here (innermost w.scopes) x)

-- it gets its name in the innermost scope, unless it has it there
abbrev pub bind_function : Name → Walk (Unit {0})
bind_function x = world >>= (λ w. if is_bound_here w x then pure tt else bind x means.Function)

-- a built-in that is declared again stays what it is
abbrev pub declare_function_by : Name → FnTy → Option BuiltIn → Walk Entity
declare_function_by x f (Some b) = pure (entity.BuiltIn b)
declare_function_by x f None = make_known x f >> bind_function x >> pure entity.Function

unfoldable pub declare_function : Name → FnTy → Walk Entity
declare_function x f = declare_function_by x f (built_in_named x)

abbrev pub is_undefined_function : Option KnownFunction → Bool
is_undefined_function None = true
is_undefined_function (Some k) = not k.is_defined

-- a function may be defined here: it is no built-in, and it wasn't defined
unfoldable pub may_be_defined : World → Name → Shape → Bool
may_be_defined w x s = is_none (built_in_named x) && may_be_declared w x s && is_undefined_function (known_function w.functions x)

-- the same function, used or defined from here on
unfoldable pub marked : Bool → Bool → KnownFunction → KnownFunction
marked used defined k = record k { is_used = used || k.is_used; is_defined = defined || k.is_defined }

-- the function of this name is used
unfoldable pub mark_used : Name → Walk (Unit {0})
mark_used x = change (λ w. record w { functions = with_function (marked true false) w.functions x })

-- the function of this name is defined, and its locals begin
unfoldable pub mark_defined : Name → Walk (Unit {0})
mark_defined x = change (λ w. record w { functions = with_function (marked false true) w.functions x; locals = [] })

-- ---- variables

abbrev pub new_global : Walk Entity
new_global = do
  w ← world
  change (λ w. record w { globals = w.globals + 1 })
  pure (entity.Global w.globals)

abbrev pub new_local : Name → Ty → Walk Entity
new_local x t = do
  w ← world
  change (λ w. record w { locals = w.locals ++ record { name = x; ty = t; is_addressed = false } ∷ [] })
  pure (entity.Local (length w.locals))

abbrev pub new_variable : Bool → Name → Ty → Walk Entity
new_variable true x t = new_global
new_variable false x t = new_local x t

unfoldable pub declare_variable : Bool → Name → Ty → Walk Entity
declare_variable is_global x t = do
  e ← new_variable is_global x t
  bind x (means.Variable e t)
  pure e

-- ---- the parameters of a definition

-- the parameters of the list at the name
abbrev pub own_parameters : List Layer → Option (List Parameter)
own_parameters (layer.Function ps ∷ ls) = Some ps
own_parameters _ = None

abbrev pub all_named : List Parameter → Bool
all_named [] = true
all_named (p ∷ ps) = is_some p.name && all_named ps

abbrev pub own_parameter : Parameter → Option Name → Walk (Unit {0})
own_parameter p None = pure tt
own_parameter p (Some x) = declare_variable false x p.ty >> pure tt

-- each parameter becomes a local variable
abbrev pub bind_parameters : List Parameter → Walk (Unit {0})
bind_parameters [] = pure tt
bind_parameters (p ∷ ps) = own_parameter p p.name >> bind_parameters ps

-- ---- behind the last item

-- the first function that is used and not defined
abbrev pub undefined_use : List KnownFunction → Option ℕ
undefined_use [] = None
undefined_use (k ∷ ks) = if k.is_used && not k.is_defined then Some k.first else undefined_use ks

unfoldable pub is_main_type : FnTy → Bool
is_main_type f = same (out-FnTy f).result ty.Int && nat_eq (length (out-FnTy f).params) 0

-- it is defined, as `int main(void)`
abbrev pub is_main : Option KnownFunction → Bool
is_main None = false
is_main (Some k) = k.is_defined && is_main_type k.ty
