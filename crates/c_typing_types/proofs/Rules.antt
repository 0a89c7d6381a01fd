-- What the rules of each form give has types that pass, where the parts do.
use Rattle.std.proofs.Common.{◌≡◌, ◌∙◌, ℕ, ℤ, Bool, true, false, ◌+◌, ◌||◌, nat_le, nat_eq, if◌then◌else◌, List, [], ◌∷◌, length, Option, Some, None, pos, le-leb, arith, refl, ap}
use Rattle.std.specs.List.{AllByRecursion}
use Rattle.std.specs.Result.{result_ok}
use Rattle.c_tree.specs.declared.operator.AssignOperator.{AssignOperator}
use Rattle.c_tree.specs.declared.operator.BinaryOperator.{BinaryOperator}
use Rattle.c_tree.specs.declared.operator.UnaryOperator.{UnaryOperator}
use Rattle.c_tree.specs.declared.operator.UnaryOperator.TheVariants as unary
use Rattle.c_tree.specs.Operators.{binary_operator}
use Rattle.c_types.specs.declared.ty.FnTy.{FnTy, out-FnTy}
use Rattle.c_types.specs.declared.ty.Ty.{Ty}
use Rattle.c_types.specs.declared.ty.Ty.TheVariants as ty
use Rattle.c_types.specs.Kinds.{is_function, is_struct, target_of}
use Rattle.c_types.specs.Units.{has_units, units_of}
use Rattle.c_typed.specs.declared.entity.BuiltIn.{BuiltIn}
use Rattle.c_typed.specs.declared.entity.Constant.{Constant}
use Rattle.c_typed.specs.declared.entity.Constant.TheVariants as constant
use Rattle.c_typed.specs.declared.entity.Entity.{Entity}
use Rattle.c_typed.specs.declared.entity.Entity.TheVariants as entity
use Rattle.c_typed.specs.declared.expression.TypedDirect.TheOpen.{TypedForm-F}
use Rattle.c_typed.specs.declared.expression.TypedExpr.{TypedExpr, out-roll-TypedExpr}
use Rattle.c_typed.specs.declared.expression.TypedForm.{TypedForm, out-TypedForm}
use Rattle.c_typed.specs.declared.expression.TypedForm.TheVariants as form
use Rattle.c_typed.specs.declared.expression.TypedTypeWord.{TypedTypeWord, out-TypedTypeWord}
use Rattle.c_scope.specs.declared.rule.Rule.TheVariants as broken
use Rattle.c_scope.specs.declared.scopes.Meaning.{Meaning}
use Rattle.c_scope.specs.declared.scopes.Meaning.TheVariants as means
use Rattle.c_scope.specs.declared.world.KnownFunction.{KnownFunction}
use Rattle.c_scope.specs.declared.world.World.{World}
use Rattle.c_scope.specs.BuiltIns.{Name, built_in_named, built_in_type}
use Rattle.c_scope.specs.Definitions.{mark_used}
use Rattle.c_scope.specs.Scopes.{known_function, meaning_of}
use Rattle.c_rules.specs.declared.place.Place.{Place}
use Rattle.c_rules.specs.declared.place.Place.TheVariants.{Callee, Value}
use Rattle.c_operators.specs.Constants.{of_unary}
use Rattle.c_operators.specs.Operators.{FormLayer, chosen, constant_of, form_of, is_assignable, is_integer_value, is_lvalue, is_scalar_value, operated, type_of, typed, value_type}
use Rattle.c_rules.specs.Rules.{address, all_convert, arithmetic, arrow, assigned_by, assigned_type, assignment, binary, call, called, called_type, cast, conditional, conditional_type, dereference, dereferenced, has_address, identifier, identifier_by, index, indexed, mark_addressed, mark_at, may_be_cast, means_function, member, member_behind, member_found, member_of, mentioned, mentioned_by, named, negation, number, one, operand_rule, plain, pointed, size_of_type, size_of_value, stepped, takes, takes_type, text, unary_of, updated, variable}
use Rattle.c_typed_rows.specs.Types.{ExprTypes}
use Rattle.c_typing_types.proofs.Good.{Fine, Good, built_in-fine, chosen-gives, decay-fine, function_type-fine, operated-gives, pointer-fine, target-fine}
use Rattle.c_typing_types.proofs.Known.{addressed-fine, behind_by, callee-fine, known-fine, marked-fine, meaning-fine, member-fine}
use Rattle.c_typing_types.proofs.Steps.{Fit, Goes, MeaningFine, after, changed, ends, finds, found-goes, longer-same, never, ruled, under}
use Rattle.c_typing_types.proofs.TypedParts as parts
use Rattle.c_typing_types.proofs.TypedParts.{FormTypes, WordTypes}

-- each type of the expression passes
pub record Ready (g : Good) (x : TypedExpr) : Type 0 where
  pub ty : Fine g (type_of x)
  pub types : ExprTypes g.good x

-- the same of a type word
pub record ReadyWord (g : Good) (w : TypedTypeWord) : Type 0 where
  pub ty : Fine g (out-TypedTypeWord w).ty
  pub types : WordTypes g.good w

module _ (g : Good) where
  type-typed : (f : TypedForm) (t : Ty) (c : Constant) → type_of (typed f t c) ≡ t
  unfolding typed type_of
  type-typed f t c = ap (λ e. e.ty) (out-roll-TypedExpr (record { form = f; ty = t; constant = c }))

  made : (f : TypedForm) (t : Ty) (c : Constant) → FormTypes g.good f → Fine g t → Ready g (typed f t c)
  made f t c types fine = record { ty = ap g.good (type-typed f t c) ∙ fine; types = parts.expr-made g.good f t c types fine }

  value-fine : (x : TypedExpr) → Ready g x → Fine g (value_type x)
  unfolding value_type
  value-fine x ready = decay-fine g (type_of x) ready.ty

  -- ---- names

  named-ready : (x : Name) (e : Entity) (t : Ty) → Fine g t → Ready g (named x e t)
  unfolding named
  named-ready x e t fine = made (form.Identifier x e) t constant.Other (parts.form-Identifier g.good x e) fine

  function-goes : (x : Name) (o : Option KnownFunction) (w : World) → known_function w.functions x ≡ o → Goes g (Unit {0}) w (mentioned_by x o w) (Ready g)
  unfolding mark_used
  function-goes x None w is = never g
  function-goes x (Some f) w is = changed g w _ (longer-same w) (λ few known fit. (
    record { scopes = fit.scopes; functions = marked-fine g true false w.functions x fit.functions; structs = fit.structs; locals = fit.locals; few = fit.few },
    named-ready x entity.Function (ty.Function f.ty) (function_type-fine g f.ty (known-fine g w.functions x f fit.functions is)),
  ))

  variable-goes : (x : Name) (o : Option Meaning) (w : World) → ((m : Meaning) → o ≡ Some m → Fit g w → MeaningFine g m) → Goes g (Unit {0}) w (variable x o w) (Ready g)
  variable-goes x (Some (means.Variable e t)) w fine = ends g (λ known fit. named-ready x e t (fine (means.Variable e t) refl fit))
  variable-goes x (Some means.Function) w fine = never g
  variable-goes x (Some (means.TypeName t)) w fine = never g
  variable-goes x None w fine = never g

  meant-goes : (x : Name) (is_function : Bool) (w : World) → Goes g (Unit {0}) w ((if is_function then mentioned x else variable x (meaning_of w.scopes x)) w) (Ready g)
  meant-goes x true w = function-goes x (known_function w.functions x) w refl
  meant-goes x false w = variable-goes x (meaning_of w.scopes x) w (λ m is fit. meaning-fine g w.scopes x m fit.scopes is)

  named-goes : (x : Name) (place : Place) (o : Option BuiltIn) (w : World) → Goes g (Unit {0}) w (identifier_by x place o w) (Ready g)
  named-goes x place None w = meant-goes x (means_function w x) w
  named-goes x Value (Some b) w = never g
  named-goes x Callee (Some b) w = ends g (λ known fit. named-ready x (entity.BuiltIn b) (ty.Function (built_in_type b)) (function_type-fine g (built_in_type b) (built_in-fine g b)))

  pub identifier-goes : (x : Name) (place : Place) (w : World) → Goes g (Unit {0}) w (identifier x place w) (Ready g)
  unfolding identifier
  identifier-goes x place w = named-goes x place (built_in_named x) w

  -- ---- literals

  pub number-goes : (n : ℤ) (w : World) → Goes g (Unit {0}) w (number n w) (Ready g)
  unfolding number
  number-goes n w = ends g (λ known fit. made (form.Number n) ty.Int (constant.Value n) (parts.form-Number g.good n) g.int)

  one-more : (free : Bool) (n : ℕ) → (free || nat_le 1 (n + 1)) ≡ true
  one-more true n = refl
  one-more false n = le-leb 1 (n + 1) (omega arith)

  pub text-goes : (bytes : List ℕ) (w : World) → Goes g (Unit {0}) w (text bytes w) (Ready g)
  unfolding text
  text-goes bytes w = changed g w _ (longer-same w) (λ few known fit. (
    record { scopes = fit.scopes; functions = fit.functions; structs = fit.structs; locals = fit.locals; few = fit.few },
    made (form.Text bytes (length w.strings)) (ty.Array ty.Char (length bytes + 1)) constant.Other (parts.form-Text g.good bytes (length w.strings))
        (g.array ty.Char (length bytes + 1) g.char (one-more g.free (length bytes))),
  ))

  -- ---- operators

  operated-fine : (x y : TypedExpr) (o : BinaryOperator) (w : World) (t : Ty) → operated w.structs o x y ≡ Some t → Ready g x → Fine g (value_type y) → Fine g t
  unfolding operated
  operated-fine x y o w t is hx hy = operated-gives g w.structs o (value_type x) _ (value_type y) _ (value-fine x hx) hy t is

  pub binary-goes : (x y : TypedExpr) (o : BinaryOperator) (w : World) → Goes g (Ready g x × Ready g y) w (binary x o y w) (Ready g)
  unfolding binary
  binary-goes x y o w = finds g (operand_rule o) (operated w.structs o x y) _ (λ t is. ends g (λ known fit.
      made (form.Binary x o y) t _ (parts.form-Binary g.good x o y known.0.types known.1.types) (operated-fine x y o w t is known.0 (value-fine y known.1))))

  chosen-fine : (x y : TypedExpr) (t : Ty) → chosen x y ≡ Some t → Ready g x → Ready g y → Fine g t
  unfolding chosen
  chosen-fine x y t is hx hy = chosen-gives g (value_type x) _ (value_type y) _ (value-fine x hx) (value-fine y hy) t is

  chosen-goes : (e x y : TypedExpr) (w : World) → Goes g (Ready g e × Ready g x × Ready g y) w (conditional_type e x y w) (Fine g)
  unfolding conditional_type
  chosen-goes e x y w = finds g broken.Operands (chosen x y) _ (λ t is. ruled g broken.NotScalar (is_scalar_value e) _ (λ scalar. ends g (λ known fit. chosen-fine x y t is known.1 known.2)))

  pub conditional-goes : (e x y : TypedExpr) (w : World) → Goes g (Ready g e × Ready g x × Ready g y) w (conditional e x y w) (Ready g)
  unfolding conditional
  conditional-goes e x y w = after g _ _ (chosen-goes e x y w) (λ t v. ends g (λ known fit.
      made (form.Conditional e x y) t _ (parts.form-Conditional g.good e x y known.0.0.types known.0.1.types known.0.2.types) known.1))

  -- ---- casts and sizes

  pub cast-goes : (t : TypedTypeWord) (x : TypedExpr) (w : World) → Goes g (ReadyWord g t × Ready g x) w (cast t x w) (Ready g)
  unfolding cast
  cast-goes t x w = ruled g broken.Cast (may_be_cast x (out-TypedTypeWord t).ty) _ (λ castable. ends g (λ known fit.
      made (form.Cast t x) (out-TypedTypeWord t).ty _ (parts.form-Cast g.good t x known.0.types known.1.types) known.0.ty))

  pub size_of_value-goes : (x : TypedExpr) (w : World) → Goes g (Ready g x) w (size_of_value x w) (Ready g)
  unfolding size_of_value
  size_of_value-goes x w = ruled g broken.Unsized (has_units w.structs (type_of x)) _ (λ units. ends g (λ known fit.
      made (form.SizeofExpr x) ty.Int constant.Other (parts.form-SizeofExpr g.good x known.types) g.int))

  pub size_of_type-goes : (t : TypedTypeWord) (w : World) → Goes g (ReadyWord g t) w (size_of_type t w) (Ready g)
  unfolding size_of_type
  size_of_type-goes t w = finds g broken.Unsized (result_ok (units_of w.structs (out-TypedTypeWord t).ty)) _ (λ n is. ends g (λ known fit.
      made (form.SizeofType t) ty.Int (constant.Value (pos n)) (parts.form-SizeofType g.good t known.types) g.int))

  -- ---- pointers

  indexed-goes : (x i : TypedExpr) (w : World) → Goes g (Ready g x × Ready g i) w (indexed x i w) (Fine g)
  unfolding indexed pointed
  indexed-goes x i w = ruled g broken.Operands (is_integer_value i) _ (λ integer. finds g broken.Pointer (target_of (value_type x)) _ (λ t is. ruled g broken.Pointer (has_units w.structs t) _ (λ units.
      ends g (λ known fit. target-fine g (value_type x) t is (value-fine x known.0)))))

  pub index-goes : (x i : TypedExpr) (w : World) → Goes g (Ready g x × Ready g i) w (index x i w) (Ready g)
  unfolding index
  index-goes x i w = after g _ _ (indexed-goes x i w) (λ t v. ends g (λ known fit.
      made (form.Index x i) t constant.Other (parts.form-Index g.good x i known.0.0.types known.0.1.types) known.1))

  unary-made : (o : UnaryOperator) (x : TypedExpr) (t : Ty) → Fine g t → Ready g x → Ready g (typed (form.Unary o x) t (of_unary o (constant_of x)))
  unary-made o x t fine hx = made (form.Unary o x) t (of_unary o (constant_of x)) (parts.form-Unary g.good o x hx.types) fine

  dereferenced-goes : (x : TypedExpr) (w : World) → Goes g (Ready g x) w (dereferenced x w) (Fine g)
  unfolding dereferenced pointed
  dereferenced-goes x w = finds g broken.Pointer (target_of (value_type x)) _ (λ t is. ruled g broken.Pointer (is_function t || has_units w.structs t) _ (λ units.
      ends g (λ known fit. target-fine g (value_type x) t is (value-fine x known))))

  dereference-goes : (x : TypedExpr) (w : World) → Goes g (Ready g x) w (dereference x w) (Ready g)
  unfolding dereference
  dereference-goes x w = after g _ _ (dereferenced-goes x w) (λ t v. ends g (λ known fit. unary-made unary.Dereference x t known.1 known.0))

  negation-goes : (x : TypedExpr) (w : World) → Goes g (Ready g x) w (negation x w) (Ready g)
  unfolding negation
  negation-goes x w = ruled g broken.NotScalar (is_scalar_value x) _ (λ scalar. ends g (λ known fit. unary-made unary.Not x ty.Int g.int known))

  negate-goes : (x : TypedExpr) (w : World) → Goes g (Ready g x) w (arithmetic unary.Negate x w) (Ready g)
  unfolding arithmetic
  negate-goes x w = ruled g broken.Operands (is_integer_value x) _ (λ integer. ends g (λ known fit. unary-made unary.Negate x ty.Int g.int known))

  complement-goes : (x : TypedExpr) (w : World) → Goes g (Ready g x) w (arithmetic unary.Complement x w) (Ready g)
  unfolding arithmetic
  complement-goes x w = ruled g broken.Operands (is_integer_value x) _ (λ integer. ends g (λ known fit. unary-made unary.Complement x ty.Int g.int known))

  mark_at-goes : (node : FormLayer) (w : World) → Goes g (Unit {0}) w (mark_at node w) (λ u. Unit {0})
  mark_at-goes (TypedForm-F.Identifier y (entity.Local n)) w = changed g w _ (longer-same w) (λ few known fit. (
    record { scopes = fit.scopes; functions = fit.functions; structs = fit.structs; locals = addressed-fine g n w.locals fit.locals; few = fit.few },
    tt,
  ))
  mark_at-goes (TypedForm-F.Identifier y (entity.Global n)) w = ends g (λ known fit. tt)
  mark_at-goes (TypedForm-F.Identifier y entity.Parameter) w = ends g (λ known fit. tt)
  mark_at-goes (TypedForm-F.Identifier y entity.Function) w = ends g (λ known fit. tt)
  mark_at-goes (TypedForm-F.Identifier y (entity.BuiltIn n)) w = ends g (λ known fit. tt)
  mark_at-goes _ w = ends g (λ known fit. tt)

  address-goes : (x : TypedExpr) (w : World) → Goes g (Ready g x) w (address x w) (Ready g)
  unfolding address mark_addressed
  address-goes x w = ruled g broken.NotLvalue (has_address x) _ (λ lvalue. after g _ _ (under g _ (λ known. tt) (mark_at-goes (out-TypedForm (form_of x)) w)) (λ u v. ends g (λ known fit.
      unary-made unary.Address x (ty.Pointer (type_of x)) (pointer-fine g (type_of x) known.0.ty) known.0)))

  pub unary-goes : (o : UnaryOperator) (x : TypedExpr) (w : World) → Goes g (Ready g x) w (unary_of o x w) (Ready g)
  unfolding unary_of
  unary-goes unary.Address x w = address-goes x w
  unary-goes unary.Dereference x w = dereference-goes x w
  unary-goes unary.Not x w = negation-goes x w
  unary-goes unary.Negate x w = negate-goes x w
  unary-goes unary.Complement x w = complement-goes x w

  -- ---- members

  member_found-goes : (x : TypedExpr) (n : Name) (w : World) → Goes g (Unit {0}) w (member_found x n w) (λ m. Fine g m.1)
  unfolding member_found
  member_found-goes x n w = ruled g broken.Member (is_lvalue x) _ (λ lvalue. found-goes g broken.Member (member_of w.structs n (type_of x)) (λ m is known fit.
      member-fine g w.structs n (type_of x) m fit.structs is))

  pub member-goes : (x : TypedExpr) (n : Name) (w : World) → Goes g (Ready g x) w (member x n w) (Ready g)
  unfolding member
  member-goes x n w = after g _ _ (under g _ (λ known. tt) (member_found-goes x n w)) (λ m v. ends g (λ known fit.
      made (form.Member x n m.0) m.1 constant.Other (parts.form-Member g.good x n m.0 known.0.types) known.1))

  behind-fine : (x : TypedExpr) (n : Name) (w : World) (m : ℕ × Ty) → member_behind w.structs x n ≡ Some m → Fit g w → Fine g m.1
  unfolding member_behind
  behind-fine x n w m is fit = behind_by g w.structs n m (target_of (value_type x)) fit.structs is

  pub arrow-goes : (x : TypedExpr) (n : Name) (w : World) → Goes g (Ready g x) w (arrow x n w) (Ready g)
  unfolding arrow
  arrow-goes x n w = finds g broken.Member (member_behind w.structs x n) _ (λ m is. ends g (λ known fit.
      made (form.Arrow x n m.0) m.1 constant.Other (parts.form-Arrow g.good x n m.0 known.types) (behind-fine x n w m is fit)))

  -- ---- calls

  types-of : (ys : List TypedExpr) → AllByRecursion (Ready g) ys → AllByRecursion (ExprTypes g.good) ys
  types-of [] hs = tt
  types-of (y ∷ ys) hs = (hs.0.types, types-of ys hs.1)

  call-form : (x : TypedExpr) (ys : List TypedExpr) → Ready g x → AllByRecursion (Ready g) ys → FormTypes g.good (form.Call x ys)
  call-form x ys hx hs = parts.of_held (ExprTypes g.good) (λ zs. FormTypes g.good (form.Call x zs)) (parts.form-Call g.good x hx.types) ys (types-of ys hs)

  callee-result : (x : TypedExpr) (f : FnTy) → called_type x ≡ Some f → Ready g x → Fine g (out-FnTy f).result
  unfolding called_type
  callee-result x f is hx = g.result f (callee-fine g (value_type x) f (value-fine x hx) is)

  called-goes : (x : TypedExpr) (ys : List TypedExpr) (w : World) → Goes g (Ready g x × AllByRecursion (Ready g) ys) w (called x ys w) (Fine g)
  unfolding called
  called-goes x ys w = finds g broken.Call (called_type x) _ (λ f is. ruled g broken.Unconverted (all_convert ys (out-FnTy f).params) _ (λ convert.
      ruled g broken.Call (nat_eq (length ys) (length (out-FnTy f).params)) _ (λ count. ends g (λ known fit. callee-result x f is known.0))))

  pub call-goes : (x : TypedExpr) (ys : List TypedExpr) (w : World) → Goes g (Ready g x × AllByRecursion (Ready g) ys) w (call x ys w) (Ready g)
  unfolding call
  call-goes x ys w = after g _ _ (called-goes x ys w) (λ t v. ends g (λ known fit.
      made (form.Call x ys) t constant.Other (call-form x ys known.0.0 known.0.1) known.1))

  -- ---- assignments

  assigned_by-fine : (t : Ty) (is_one : Bool) → Fine g t → Fine g (if is_one then ty.Void else t)
  assigned_by-fine t true fine = g.void
  assigned_by-fine t false fine = fine

  assigned-fine : (t : Ty) → Fine g t → Fine g (assigned_type t)
  unfolding assigned_type
  assigned-fine t fine = assigned_by-fine t (is_struct t) fine

  plain-goes : (x y : TypedExpr) (w : World) → Goes g (Ready g x) w (plain x y w) (Fine g)
  unfolding plain
  plain-goes x y w = ruled g broken.Unconverted (takes x y) _ (λ converts. ruled g broken.NotLvalue (is_assignable x) _ (λ lvalue. ends g (λ known fit. assigned-fine (type_of x) known.ty)))

  updated-goes : (o : BinaryOperator) (x y : TypedExpr) (w : World) → Goes g (Ready g x) w (updated o x y w) (Fine g)
  unfolding updated
  updated-goes o x y w = finds g broken.Operands (operated w.structs o x y) _ (λ t is. ruled g broken.Unconverted (takes_type x t) _ (λ converts. ruled g broken.NotLvalue (is_assignable x) _ (λ lvalue.
      ends g (λ known fit. known.ty))))

  assigned-goes : (x y : TypedExpr) (o : Option BinaryOperator) (w : World) → Goes g (Ready g x) w (assigned_by x y o w) (Fine g)
  assigned-goes x y None w = plain-goes x y w
  assigned-goes x y (Some o) w = updated-goes o x y w

  pub assignment-goes : (x y : TypedExpr) (a : AssignOperator) (w : World) → Goes g (Ready g x × Ready g y) w (assignment x a y w) (Ready g)
  unfolding assignment
  assignment-goes x y a w = after g _ _ (under g _ (λ known. known.0) (assigned-goes x y (binary_operator a) w)) (λ t v. ends g (λ known fit.
      made (form.Assign x a y) t constant.Other (parts.form-Assign g.good x a y known.0.0.types known.0.1.types) known.1))

  -- `++` and `--`
  pub stepped-goes : (o : BinaryOperator) (f : TypedExpr → TypedForm) (x : TypedExpr) (w : World) → (ExprTypes g.good x → FormTypes g.good (f x)) → Goes g (Ready g x) w (stepped o f x w) (Ready g)
  unfolding stepped
  stepped-goes o f x w forms = after g _ _ (updated-goes o x one w) (λ t v. ends g (λ known fit. made (f x) t constant.Other (forms known.0.types) known.1))
