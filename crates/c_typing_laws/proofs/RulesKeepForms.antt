-- What the rules of each form give is that form of its parts.
use Rattle.std.proofs.Common.{◌≡◌, ◌∙◌, ℕ, ℤ, Bool, true, false, List, map, Option, Some, None, Ok, ap, if◌then◌else◌}
use Rattle.c_tree.specs.declared.expression.Expr.{Expr}
use Rattle.c_tree.specs.declared.expression.Expr.TheVariants as expr
use Rattle.c_tree.specs.declared.expression.TypeWord.{TypeWord}
use Rattle.c_tree.specs.declared.operator.AssignOperator.{AssignOperator}
use Rattle.c_tree.specs.declared.operator.BinaryOperator.{BinaryOperator}
use Rattle.c_tree.specs.declared.operator.UnaryOperator.{UnaryOperator}
use Rattle.c_tree.specs.declared.operator.UnaryOperator.TheVariants as unary
use Rattle.c_types.specs.declared.ty.Ty.{Ty}
use Rattle.c_typed.specs.declared.entity.BuiltIn.{BuiltIn}
use Rattle.c_typed.specs.declared.entity.Constant.{Constant}
use Rattle.c_typed.specs.declared.expression.TypedExpr.{TypedExpr}
use Rattle.c_typed.specs.declared.expression.TypedForm.{TypedForm}
use Rattle.c_typed.specs.declared.expression.TypedForm.TheVariants as made_form
use Rattle.c_typed.specs.declared.expression.TypedTypeWord.{TypedTypeWord}
use Rattle.c_typed.specs.Erased.{erased_expr}
use Rattle.c_scope.specs.declared.rule.Rule.TheVariants as broken
use Rattle.c_scope.specs.declared.scopes.Meaning.{Meaning}
use Rattle.c_scope.specs.declared.scopes.Meaning.TheVariants as means
use Rattle.c_scope.specs.declared.world.KnownFunction.{KnownFunction}
use Rattle.c_scope.specs.declared.world.World.{World}
use Rattle.c_scope.specs.BuiltIns.{built_in_named}
use Rattle.c_scope.specs.Scopes.{known_function, meaning_of}
use Rattle.c_scope.specs.Walk.{Outcome, rule}
use Rattle.c_rules.specs.declared.place.Place.{Place}
use Rattle.c_rules.specs.declared.place.Place.TheVariants.{Callee, Value}
use Rattle.c_operators.specs.Operators.{typed}
use Rattle.c_rules.specs.Rules.{address, arithmetic, arrow, assignment, binary, call, cast, conditional, dereference, has_address, identifier, identifier_by, index, mark_addressed, means_function, member, mentioned, mentioned_by, named, negation, number, size_of_type, size_of_value, stepped, text, unary_of, variable}
use Rattle.c_typing_laws.specs.inner.ErasedForms as erased
use Rattle.c_typing_laws.specs.inner.ErasedTrees.{form_tree, type_word_tree}
use Rattle.c_typing_laws.specs.inner.Yields.{Yields, at_once, never, whatever}

-- what is found, without its types, is this expression
abbrev pub Keeps : Outcome (TypedExpr × World) → Expr → Type 0
Keeps o e = Yields o (λ x. erased_expr x ≡ e)

made : (f : TypedForm) (t : Ty) (c : Constant) (e : Expr) {w : World} → form_tree f ≡ e → Keeps (Ok (typed f t c, w)) e
made f t c e is = at_once (erased.typed-made f t c ∙ is)

-- ---- names and literals

function-keeps : (x : List ℕ) (o : Option KnownFunction) (w : World) → Keeps (mentioned_by x o w) (expr.Identifier x)
unfolding named
function-keeps x None w = never
function-keeps x (Some k) w = whatever _ _ (λ _ v. made _ _ _ _ (erased.form-Identifier x _))

variable-keeps : (x : List ℕ) (o : Option Meaning) (w : World) → Keeps (variable x o w) (expr.Identifier x)
unfolding named
variable-keeps x (Some (means.Variable e t)) w = made _ _ _ _ (erased.form-Identifier x e)
variable-keeps x _ w = never

meant-keeps : (x : List ℕ) (is_function : Bool) (w : World)
    → Keeps ((if is_function then mentioned x else variable x (meaning_of w.scopes x)) w) (expr.Identifier x)
meant-keeps x true w = function-keeps x (known_function w.functions x) w
meant-keeps x false w = variable-keeps x (meaning_of w.scopes x) w

by_built_in : (x : List ℕ) (place : Place) (o : Option BuiltIn) (w : World) → Keeps (identifier_by x place o w) (expr.Identifier x)
unfolding named
by_built_in x place None w = meant-keeps x (means_function w x) w
by_built_in x Value (Some b) w = never
by_built_in x Callee (Some b) w = made _ _ _ _ (erased.form-Identifier x _)

pub identifier-keeps : (x : List ℕ) (place : Place) (w : World) → Keeps (identifier x place w) (expr.Identifier x)
unfolding identifier
identifier-keeps x place w = by_built_in x place (built_in_named x) w

pub number-keeps : (n : ℤ) (w : World) → Keeps (number n w) (expr.Number n)
unfolding number
number-keeps n w = made _ _ _ _ (erased.form-Number n)

pub text-keeps : (bytes : List ℕ) (w : World) → Keeps (text bytes w) (expr.Text bytes)
unfolding text
text-keeps bytes w = made _ _ _ _ (erased.form-Text bytes _)

-- ---- operators

module _ (x : TypedExpr) (a : Expr) (same : erased_expr x ≡ a) (w : World) where
  pub member-keeps : (n : List ℕ) → Keeps (member x n w) (expr.Member a n)
  unfolding member
  member-keeps n = whatever _ _ (λ m v. made _ _ _ _ (erased.form-Member x n m.0 ∙ ap (λ e. expr.Member e n) same))

  pub arrow-keeps : (n : List ℕ) → Keeps (arrow x n w) (expr.Arrow a n)
  unfolding arrow
  arrow-keeps n = whatever _ _ (λ m v. made _ _ _ _ (erased.form-Arrow x n m.0 ∙ ap (λ e. expr.Arrow e n) same))

  pub stepped-keeps : (o : BinaryOperator) (form : TypedExpr → TypedForm) (e : Expr) → form_tree (form x) ≡ e → Keeps (stepped o form x w) e
  unfolding stepped
  stepped-keeps o form e is = whatever _ _ (λ t v. made _ _ _ _ is)

  pub size_of_value-keeps : Keeps (size_of_value x w) (expr.SizeofExpr a)
  unfolding size_of_value
  size_of_value-keeps = whatever _ _ (λ _ v. made _ _ _ _ (erased.form-SizeofExpr x ∙ ap expr.SizeofExpr same))

  unary-form : (o : UnaryOperator) → form_tree (made_form.Unary o x) ≡ expr.Unary o a
  unary-form o = erased.form-Unary o x ∙ ap (λ e. expr.Unary o e) same

  address-keeps : Keeps (address x w) (expr.Unary unary.Address a)
  unfolding address
  address-keeps = whatever (rule broken.NotLvalue (has_address x) w) _ (λ _ v. whatever (mark_addressed x v) _ (λ _ u. made _ _ _ _ (unary-form unary.Address)))

  dereference-keeps : Keeps (dereference x w) (expr.Unary unary.Dereference a)
  unfolding dereference
  dereference-keeps = whatever _ _ (λ _ v. made _ _ _ _ (unary-form unary.Dereference))

  negation-keeps : Keeps (negation x w) (expr.Unary unary.Not a)
  unfolding negation
  negation-keeps = whatever _ _ (λ _ v. made _ _ _ _ (unary-form unary.Not))

  arithmetic-keeps : (o : UnaryOperator) → Keeps (arithmetic o x w) (expr.Unary o a)
  unfolding arithmetic
  arithmetic-keeps o = whatever _ _ (λ _ v. made _ _ _ _ (unary-form o))

  pub unary-keeps : (o : UnaryOperator) → Keeps (unary_of o x w) (expr.Unary o a)
  unfolding unary_of
  unary-keeps unary.Address = address-keeps
  unary-keeps unary.Dereference = dereference-keeps
  unary-keeps unary.Not = negation-keeps
  unary-keeps unary.Negate = arithmetic-keeps unary.Negate
  unary-keeps unary.Complement = arithmetic-keeps unary.Complement

  pub cast-keeps : (t : TypedTypeWord) (word : TypeWord) → type_word_tree t ≡ word → Keeps (cast t x w) (expr.Cast word a)
  unfolding cast
  cast-keeps t word is = whatever _ _ (λ _ v. made _ _ _ _ (erased.form-Cast t x ∙ (λ i. expr.Cast (is i) (same i))))

  pub call-keeps : (ys : List TypedExpr) (es : List Expr) → map erased_expr ys ≡ es → Keeps (call x ys w) (expr.Call a es)
  unfolding call
  call-keeps ys es is = whatever _ _ (λ _ v. made _ _ _ _ (erased.form-Call x ys ∙ (λ i. expr.Call (same i) (is i))))

  module _ (y : TypedExpr) (b : Expr) (also : erased_expr y ≡ b) where
    pub index-keeps : Keeps (index x y w) (expr.Index a b)
    unfolding index
    index-keeps = whatever _ _ (λ _ v. made _ _ _ _ (erased.form-Index x y ∙ (λ i. expr.Index (same i) (also i))))

    pub binary-keeps : (o : BinaryOperator) → Keeps (binary x o y w) (expr.Binary a o b)
    unfolding binary
    binary-keeps o = whatever _ _ (λ _ v. made _ _ _ _ (erased.form-Binary x o y ∙ (λ i. expr.Binary (same i) o (also i))))

    pub assignment-keeps : (o : AssignOperator) → Keeps (assignment x o y w) (expr.Assign a o b)
    unfolding assignment
    assignment-keeps o = whatever _ _ (λ _ v. made _ _ _ _ (erased.form-Assign x o y ∙ (λ i. expr.Assign (same i) o (also i))))

    pub conditional-keeps : (z : TypedExpr) (c : Expr) → erased_expr z ≡ c → Keeps (conditional x y z w) (expr.Conditional a b c)
    unfolding conditional
    conditional-keeps z c third = whatever _ _ (λ _ v. made _ _ _ _ (erased.form-Conditional x y z ∙ (λ i. expr.Conditional (same i) (also i) (third i))))

pub size_of_type-keeps : (t : TypedTypeWord) (word : TypeWord) → type_word_tree t ≡ word → (w : World) → Keeps (size_of_type t w) (expr.SizeofType word)
unfolding size_of_type
size_of_type-keeps t word is w = whatever _ _ (λ _ v. made _ _ _ _ (erased.form-SizeofType t ∙ ap expr.SizeofType is))
