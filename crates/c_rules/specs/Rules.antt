-- The rules of each form of expression, behind its parts: the tests in the order of the rules' numbers, then the typed
-- form. A rule that nothing asks where a higher one is broken stands behind that one.
use Rattle.std.specs.Prelude.{ℕ, zero, suc, ◌+◌, Bool, true, false, not, ◌&&◌, ◌||◌, if◌then◌else◌, nat_eq, List, [], ◌∷◌, ◌++◌, length, Option, Some, None, slice_get, ℤ, pos}
use Rattle.std.specs.Option.{option_map, option_and_then}
use Rattle.std.specs.Result.{result_ok}
use Rattle.c_types.specs.declared.structs.Member.{Member}
use Rattle.c_types.specs.declared.structs.StructDef.{StructDef}
use Rattle.c_types.specs.declared.ty.FnTy.{FnTy, out-FnTy}
use Rattle.c_types.specs.declared.ty.Ty.{Ty, out-Ty}
use Rattle.c_types.specs.declared.ty.Ty.TheVariants as ty
use Rattle.c_types.specs.Kinds.{function_of, is_function, is_integer, is_scalar, is_struct, is_void, struct_of, target_of}
use Rattle.c_types.specs.Structs.{body_of, member_named}
use Rattle.c_types.specs.Units.{has_units, units_of}
use Rattle.c_tree.specs.declared.operator.AssignOperator.{AssignOperator}
use Rattle.c_tree.specs.declared.operator.AssignOperator.TheVariants as assign
use Rattle.c_tree.specs.declared.operator.BinaryOperator.{BinaryOperator}
use Rattle.c_tree.specs.declared.operator.BinaryOperator.TheVariants as op
use Rattle.c_tree.specs.declared.operator.UnaryOperator.{UnaryOperator}
use Rattle.c_tree.specs.declared.operator.UnaryOperator.TheVariants as unary
use Rattle.c_tree.specs.Operators.{binary_operator, is_logical}
use Rattle.c_typed.specs.declared.entity.BuiltIn.{BuiltIn}
use Rattle.c_typed.specs.declared.entity.Constant.{Constant}
use Rattle.c_typed.specs.declared.entity.Constant.TheVariants as constant
use Rattle.c_typed.specs.declared.entity.Entity.{Entity}
use Rattle.c_typed.specs.declared.entity.Entity.TheVariants as entity
use Rattle.c_typed.specs.declared.expression.TypedDirect.TheOpen.{TypedForm-F}
use Rattle.c_typed.specs.declared.expression.TypedExpr.{TypedExpr}
use Rattle.c_typed.specs.declared.expression.TypedForm.{TypedForm, out-TypedForm}
use Rattle.c_typed.specs.declared.expression.TypedForm.TheVariants as form
use Rattle.c_typed.specs.declared.expression.TypedTypeWord.{TypedTypeWord, out-TypedTypeWord}
use Rattle.c_typed.specs.declared.unit.Local.{Local}
use Rattle.c_scope.specs.declared.rule.Rule.{Rule}
use Rattle.c_scope.specs.declared.rule.Rule.TheVariants as broken
use Rattle.c_scope.specs.declared.world.KnownFunction.{KnownFunction}
use Rattle.c_scope.specs.declared.scopes.Meaning.{Meaning}
use Rattle.c_scope.specs.declared.scopes.Meaning.TheVariants as means
use Rattle.c_scope.specs.declared.world.World.{World}
use Rattle.c_scope.specs.BuiltIns.{Name, built_in_named, built_in_type}
use Rattle.c_scope.specs.Declarations.{is_function_name}
use Rattle.c_scope.specs.Definitions.{mark_used}
use Rattle.c_scope.specs.Scopes.{known_function, meaning_of}
use Rattle.c_scope.specs.Walk.{Walk, ◌>>=◌, ◌>>◌, breaks, change, found, world, pure, rule}
use Rattle.c_rules.specs.declared.place.Place.{Place}
use Rattle.c_rules.specs.declared.place.Place.TheVariants.{Callee, Value}
use Rattle.c_operators.specs.Constants.{of_binary, of_cast, of_conditional, of_unary}
use Rattle.c_operators.specs.Operators.{FormLayer, chosen, constant_of, converts, form_of, is_assignable, is_integer_value, is_lvalue, is_scalar_value, operated, takes_value, type_converts, type_of, typed, value_type}

-- ---- names

unfoldable pub named : Name → Entity → Ty → TypedExpr
named x e t = typed (form.Identifier x e) t constant.Other

abbrev pub mentioned_by : Name → Option KnownFunction → Walk TypedExpr
mentioned_by x None = breaks broken.Undeclared
mentioned_by x (Some k) = do
  mark_used x
  pure (named x entity.Function (ty.Function k.ty))

-- a name that means a function, which is always known
abbrev pub mentioned : Name → Walk TypedExpr
mentioned x = world >>= (λ w. mentioned_by x (known_function w.functions x))

unfoldable pub means_function : World → Name → Bool
means_function w x = is_function_name (meaning_of w.scopes x)

-- a variable or a parameter; a type name is none
abbrev pub variable : Name → Option Meaning → Walk TypedExpr
variable x (Some (means.Variable e t)) = pure (named x e t)
variable x _ = breaks broken.Undeclared

-- a name that is no built-in's
abbrev pub meant : Name → Walk TypedExpr
meant x = world >>= (λ w. if means_function w x then mentioned x else variable x (meaning_of w.scopes x))

abbrev pub built_in_at : Name → Place → BuiltIn → Walk TypedExpr
built_in_at x Value b = breaks broken.Undeclared
built_in_at x Callee b = pure (named x (entity.BuiltIn b) (ty.Function (built_in_type b)))

abbrev pub identifier_by : Name → Place → Option BuiltIn → Walk TypedExpr
identifier_by x place (Some b) = built_in_at x place b
identifier_by x place None = meant x

unfoldable pub identifier : Name → Place → Walk TypedExpr
identifier x place = identifier_by x place (built_in_named x)

-- ---- literals

unfoldable pub number : ℤ → Walk TypedExpr
number n = pure (typed (form.Number n) ty.Int (constant.Value n))

-- each string that is an expression is an object of its own
unfoldable pub text : List ℕ → Walk TypedExpr
text bytes = do
  w ← world
  change (λ w. record w { strings = w.strings ++ bytes ∷ [] })
  pure (typed (form.Text bytes (length w.strings)) (ty.Array ty.Char (length bytes + 1)) constant.Other)

-- ---- operators

-- `&&` and `||` ask for scalars as conditions do
abbrev pub operand_rule : BinaryOperator → Rule
operand_rule o = if is_logical o then broken.NotScalar else broken.Operands

unfoldable pub binary : TypedExpr → BinaryOperator → TypedExpr → Walk TypedExpr
binary x o y = do
  w ← world
  t ← found (operand_rule o) (operated w.structs o x y)
  pure (typed (form.Binary x o y) t (of_binary o (constant_of x) (constant_of y)))

-- what `?:` asks, and the type that it gives
unfoldable pub conditional_type : TypedExpr → TypedExpr → TypedExpr → Walk Ty
conditional_type c x y = do
  t ← found broken.Operands (chosen x y)
  rule broken.NotScalar (is_scalar_value c)
  pure t

unfoldable pub conditional : TypedExpr → TypedExpr → TypedExpr → Walk TypedExpr
conditional c x y = do
  t ← conditional_type c x y
  pure (typed (form.Conditional c x y) t (of_conditional (constant_of c) (constant_of x) (constant_of y)))

abbrev pub addressed_at : ℕ → List Local → List Local
addressed_at n [] = []
addressed_at zero (l ∷ ls) = record l { is_addressed = true } ∷ ls
addressed_at (suc n) (l ∷ ls) = l ∷ addressed_at n ls

abbrev pub mark_at : FormLayer → Walk (Unit {0})
mark_at (TypedForm-F.Identifier x (entity.Local n)) = change (λ w. record w { locals = addressed_at n w.locals })
mark_at _ = pure tt

-- a local that is itself the operand of `&` becomes one whose address is taken
unfoldable pub mark_addressed : TypedExpr → Walk (Unit {0})
mark_addressed x = mark_at (out-TypedForm (form_of x))

-- what its value points to
unfoldable pub pointed : TypedExpr → Walk Ty
pointed x = found broken.Pointer (target_of (value_type x))

unfoldable pub has_address : TypedExpr → Bool
has_address x = is_function (type_of x) || is_lvalue x

unfoldable pub address : TypedExpr → Walk TypedExpr
address x = do
  rule broken.NotLvalue (has_address x)
  mark_addressed x
  pure (typed (form.Unary unary.Address x) (ty.Pointer (type_of x)) constant.Other)

-- what `*` asks, and the type that it gives
unfoldable pub dereferenced : TypedExpr → Walk Ty
dereferenced x = do
  w ← world
  t ← pointed x
  rule broken.Pointer (is_function t || has_units w.structs t)
  pure t

unfoldable pub dereference : TypedExpr → Walk TypedExpr
dereference x = do
  t ← dereferenced x
  pure (typed (form.Unary unary.Dereference x) t constant.Other)

-- `-` and `~`
unfoldable pub arithmetic : UnaryOperator → TypedExpr → Walk TypedExpr
arithmetic o x = do
  rule broken.Operands (is_integer_value x)
  pure (typed (form.Unary o x) ty.Int (of_unary o (constant_of x)))

unfoldable pub negation : TypedExpr → Walk TypedExpr
negation x = do
  rule broken.NotScalar (is_scalar_value x)
  pure (typed (form.Unary unary.Not x) ty.Int (of_unary unary.Not (constant_of x)))

abbrev pub unary_by : UnaryOperator → TypedExpr → Walk TypedExpr
unary_by unary.Address x = address x
unary_by unary.Dereference x = dereference x
unary_by unary.Not x = negation x
unary_by o x = arithmetic o x

unfoldable pub unary_of : UnaryOperator → TypedExpr → Walk TypedExpr
unary_of = unary_by

-- what an index asks, and the type that it gives
unfoldable pub indexed : TypedExpr → TypedExpr → Walk Ty
indexed x i = do
  w ← world
  rule broken.Operands (is_integer_value i)
  t ← pointed x
  rule broken.Pointer (has_units w.structs t)
  pure t

unfoldable pub index : TypedExpr → TypedExpr → Walk TypedExpr
index x i = do
  t ← indexed x i
  pure (typed (form.Index x i) t constant.Other)

-- ---- members

-- the type of a member by its number
abbrev pub member_at : List StructDef → ℕ → ℕ → Option Ty
member_at defs s n = option_map (λ m. m.ty) (option_and_then (λ ms. slice_get ms n) (body_of defs s))

abbrev pub numbered : List StructDef → ℕ → ℕ → Option (ℕ × Ty)
numbered defs s n = option_map (λ t. (n, t)) (member_at defs s n)

-- the number and the type of the member of this name
abbrev pub member_in : List StructDef → Name → ℕ → Option (ℕ × Ty)
member_in defs x s = option_and_then (numbered defs s) (member_named defs s x)

-- the same, of a struct that has units
unfoldable pub member_of : List StructDef → Name → Ty → Option (ℕ × Ty)
member_of defs x t = if has_units defs t then option_and_then (member_in defs x) (struct_of t) else None

-- the same, of the struct that a pointer points to
unfoldable pub member_behind : List StructDef → TypedExpr → Name → Option (ℕ × Ty)
member_behind defs e x = option_and_then (member_of defs x) (target_of (value_type e))

-- what `.` asks, and the member's number and type
unfoldable pub member_found : TypedExpr → Name → Walk (ℕ × Ty)
member_found e x = do
  w ← world
  rule broken.Member (is_lvalue e)
  found broken.Member (member_of w.structs x (type_of e))

unfoldable pub member : TypedExpr → Name → Walk TypedExpr
member e x = do
  m ← member_found e x
  pure (typed (form.Member e x m.0) m.1 constant.Other)

unfoldable pub arrow : TypedExpr → Name → Walk TypedExpr
arrow e x = do
  w ← world
  m ← found broken.Member (member_behind w.structs e x)
  pure (typed (form.Arrow e x m.0) m.1 constant.Other)

-- ---- calls

-- a function, or a pointer to one
unfoldable pub called_type : TypedExpr → Option FnTy
called_type e = option_and_then function_of (target_of (value_type e))

-- each argument that has a parameter converts to it
abbrev pub all_convert : List TypedExpr → List Ty → Bool
all_convert [] ts = true
all_convert es [] = true
all_convert (e ∷ es) (t ∷ ts) = converts e t && all_convert es ts

-- the rules of a call, and the type of its result
unfoldable pub called : TypedExpr → List TypedExpr → Walk Ty
called e arguments = do
  f ← found broken.Call (called_type e)
  rule broken.Unconverted (all_convert arguments (out-FnTy f).params)
  rule broken.Call (nat_eq (length arguments) (length (out-FnTy f).params))
  pure (out-FnTy f).result

unfoldable pub call : TypedExpr → List TypedExpr → Walk TypedExpr
call e arguments = do
  t ← called e arguments
  pure (typed (form.Call e arguments) t constant.Other)

-- ---- assignments

-- a struct assignment has no value
unfoldable pub assigned_type : Ty → Ty
assigned_type t = if is_struct t then ty.Void else t

-- the target takes no value at all, or the value converts to it
unfoldable pub takes : TypedExpr → TypedExpr → Bool
takes x y = not (takes_value (type_of x)) || converts y (type_of x)

-- the same of a value of this type
unfoldable pub takes_type : TypedExpr → Ty → Bool
takes_type x t = not (takes_value (type_of x)) || type_converts t (type_of x)

-- what `x = y` asks, and the type that it gives
unfoldable pub plain : TypedExpr → TypedExpr → Walk Ty
plain x y = do
  rule broken.Unconverted (takes x y)
  rule broken.NotLvalue (is_assignable x)
  pure (assigned_type (type_of x))

-- what `x op= y` asks: the operator's operands, the conversion back, and an lvalue; and the type that it gives
unfoldable pub updated : BinaryOperator → TypedExpr → TypedExpr → Walk Ty
updated o x y = do
  w ← world
  t ← found broken.Operands (operated w.structs o x y)
  rule broken.Unconverted (takes_type x t)
  rule broken.NotLvalue (is_assignable x)
  pure (type_of x)

abbrev pub assigned_by : TypedExpr → TypedExpr → Option BinaryOperator → Walk Ty
assigned_by x y None = plain x y
assigned_by x y (Some o) = updated o x y

unfoldable pub assignment : TypedExpr → AssignOperator → TypedExpr → Walk TypedExpr
assignment x a y = do
  t ← assigned_by x y (binary_operator a)
  pure (typed (form.Assign x a y) t constant.Other)

abbrev pub one : TypedExpr
one = typed (form.Number (pos 1)) ty.Int (constant.Value (pos 1))

-- `++` and `--` as `op= 1`
unfoldable pub stepped : BinaryOperator → (TypedExpr → TypedForm) → TypedExpr → Walk TypedExpr
stepped o made x = do
  t ← updated o x one
  pure (typed (made x) t constant.Other)

-- ---- sizes and casts

unfoldable pub size_of_value : TypedExpr → Walk TypedExpr
size_of_value x = do
  w ← world
  rule broken.Unsized (has_units w.structs (type_of x))
  pure (typed (form.SizeofExpr x) ty.Int constant.Other)

unfoldable pub size_of_type : TypedTypeWord → Walk TypedExpr
size_of_type t = do
  w ← world
  n ← found broken.Unsized (result_ok (units_of w.structs (out-TypedTypeWord t).ty))
  pure (typed (form.SizeofType t) ty.Int (constant.Value (pos n)))

-- to `void` from anything, else from a scalar to a scalar
unfoldable pub may_be_cast : TypedExpr → Ty → Bool
may_be_cast x to = is_void to || (is_scalar to && is_scalar_value x)

unfoldable pub cast : TypedTypeWord → TypedExpr → Walk TypedExpr
cast t x = do
  let to = (out-TypedTypeWord t).ty
  rule broken.Cast (may_be_cast x to)
  pure (typed (form.Cast t x) to (of_cast (out-Ty to) (constant_of x)))
