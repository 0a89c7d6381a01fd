-- The rules of names that are declared: variables, types, functions, parameters, members and type words.
use Rattle.std.specs.Prelude.{ℕ, zero, suc, ◌+◌, Bool, true, false, not, ◌&&◌, ◌||◌, if◌then◌else◌, nat_le, List, [], ◌∷◌, ◌++◌, length, map, Option, Some, None, is_some, is_none, slice_get, slice_set}
use Rattle.tables.specs.Places.{first_named}
use Rattle.c_layers.specs.declared.layer.Layer.{Layer}
use Rattle.c_layers.specs.declared.layer.Layer.TheVariants as layer
use Rattle.c_layers.specs.declared.layer.Parameter.{Parameter}
use Rattle.c_layers.specs.declared.layer.Shape.{Shape}
use Rattle.c_layers.specs.declared.layer.Shape.TheVariants as shape
use Rattle.c_types.specs.declared.structs.Member.{Member}
use Rattle.c_types.specs.declared.structs.StructDef.{StructDef}
use Rattle.c_types.specs.declared.ty.FnTy.{FnTy}
use Rattle.c_types.specs.declared.ty.Ty.{Ty}
use Rattle.c_types.specs.declared.ty.Ty.TheVariants as ty
use Rattle.c_types.specs.Kinds.{is_scalar, is_function, decay, function_of, passes}
use Rattle.c_types.specs.Same.{same_function}
use Rattle.c_layers.specs.Shapes.{adjusted, is_function_shape, limited, results_fit, shaped, whole_of}
use Rattle.c_types.specs.Structs.{with_body}
use Rattle.c_types.specs.Sound.{are_members, is_member_type}
use Rattle.c_typed.specs.declared.entity.BuiltIn.{BuiltIn}
use Rattle.c_typed.specs.declared.entity.Entity.{Entity}
use Rattle.c_typed.specs.declared.entity.Entity.TheVariants as entity
use Rattle.c_scope.specs.declared.rule.Rule.TheVariants as broken
use Rattle.c_scope.specs.declared.scopes.Binding.{Binding}
use Rattle.c_scope.specs.declared.world.KnownFunction.{KnownFunction}
use Rattle.c_scope.specs.declared.scopes.Meaning.{Meaning}
use Rattle.c_scope.specs.declared.scopes.Meaning.TheVariants as means
use Rattle.c_scope.specs.declared.world.World.{World}
use Rattle.c_scope.specs.BuiltIns.{Name, built_in_named, built_in_type}
use Rattle.c_scope.specs.Scopes.{bind, innermost, known_function, meaning_here, meaning_of}
use Rattle.c_scope.specs.Walk.{Walk, ◌>>=◌, ◌>>◌, change, found, world, pure, rule}

-- ---- which names may be declared

abbrev pub is_type_name : Option Meaning → Bool
is_type_name (Some (means.TypeName t)) = true
is_type_name _ = false

abbrev pub is_function_name : Option Meaning → Bool
is_function_name (Some means.Function) = true
is_function_name _ = false

-- a variable, a parameter or a type may have the name here
unfoldable pub is_free : World → Name → Bool
is_free w x =
    is_none (built_in_named x) && is_none (meaning_here (innermost w.scopes) x) && not (is_type_name (meaning_of w.scopes x))

abbrev pub is_of_type : FnTy → Shape → Bool
is_of_type f (shape.Whole t) = passes (same_function f) (function_of t)
is_of_type f _ = false

-- one name has one type wherever it is declared as a function
abbrev pub agrees : Option KnownFunction → Shape → Bool
agrees None s = true
agrees (Some k) s = is_of_type k.ty s

-- nothing has the name in this scope, or the function of that name
abbrev pub is_free_for_function : Option Meaning → Bool
is_free_for_function here = is_none here || is_function_name here

abbrev pub may_be_function_by : World → Name → Shape → Option BuiltIn → Bool
may_be_function_by w x s (Some b) = is_of_type (built_in_type b) s
may_be_function_by w x s None =
    is_free_for_function (meaning_here (innermost w.scopes) x) && not (is_type_name (meaning_of w.scopes x)) && agrees (known_function w.functions x) s

-- a function of this type may have the name here
unfoldable pub may_be_function : World → Name → Shape → Bool
may_be_function w x s = may_be_function_by w x s (built_in_named x)

unfoldable pub may_be_declared : World → Name → Shape → Bool
may_be_declared w x s = if is_function_shape s then may_be_function w x s else is_free w x

-- ---- parameters

abbrev pub may_be_parameter : World → Option Name → Bool
may_be_parameter w None = true
may_be_parameter w (Some x) = is_free w x

abbrev pub bind_parameter : Option Name → Ty → Walk (Unit {0})
bind_parameter None t = pure tt
bind_parameter (Some x) t = bind x (means.Variable entity.Parameter t)

-- a parameter's adjusted type
unfoldable pub parameter : Option Name → Ty → List Layer → Walk Ty
parameter x base layers = do
  w ← world
  rule broken.Redeclared (may_be_parameter w x)
  t ← found broken.Unsized (whole_of (adjusted (shaped w.structs base layers)))
  rule broken.Form (results_fit w.structs base layers && is_scalar t)
  bind_parameter x t
  pure t

abbrev pub most_parameters : ℕ
most_parameters = 8

-- ---- type words

unfoldable pub word_type : Ty → List Layer → Walk Ty
word_type base layers = do
  w ← world
  t ← found broken.Unsized (whole_of (shaped w.structs base layers))
  rule broken.Form (results_fit w.structs base layers)
  pure t

-- ---- members and structs

-- no member before has the name
unfoldable pub is_new_member : List Member → Name → Bool
is_new_member before x = is_none (first_named (λ m. m.name) before x)

-- what is asked of a member that stands behind these; `fits` says whether the functions in its type return scalars or nothing
unfoldable pub member_rules : List Member → Name → Ty → Bool → Walk (Unit {0})
member_rules before x t fits = do
  w ← world
  rule broken.Unsized (is_member_type w.structs t)
  rule broken.Tag (is_new_member before x)
  rule broken.Form fits

-- the type of such a member
unfoldable pub member_type : List Member → Name → Ty → List Layer → Walk Ty
member_type before x base layers = do
  w ← world
  t ← found broken.Unsized (whole_of (shaped w.structs base layers))
  member_rules before x t (results_fit w.structs base layers)
  pure t

abbrev pub is_undefined_at : Option StructDef → Bool
is_undefined_at None = false
is_undefined_at (Some d) = is_none d.members

-- the struct has no body so far
unfoldable pub is_undefined : List StructDef → ℕ → Bool
is_undefined defs n = is_undefined_at (slice_get defs n)

-- the struct gets its body, which the rules of its members have made sure that it may
unfoldable pub define : ℕ → List Member → Walk (Unit {0})
define n ms = do
  w ← world
  rule broken.Tag (is_undefined w.structs n && are_members w.structs ms)
  change (λ w. record w { structs = with_body w.structs n ms })
