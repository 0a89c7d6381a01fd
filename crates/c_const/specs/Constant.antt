-- The value of an integer constant expression: parts in source order, then their operator. Each part is told whether it
-- is evaluated; a part that isn't must have the form of a constant, but may divide by 0.
use Rattle.std.specs.Prelude.{◌≡◌, ℕ, zero, suc, Bool, true, false, not, ◌&&◌, if◌then◌else◌, List, [], ◌∷◌, ◌++◌, Option, Some, None, Result, Ok, Err, ℤ, pos, int_le, unsigned_abs}
use Rattle.std.specs.Option.{option_map}
use Rattle.tables.specs.Places.{first_named}
use Rattle.c_layers.specs.declared.layer.Layer.{Layer}
use Rattle.c_layers.specs.declared.layer.Layer.TheVariants as layer
use Rattle.c_layers.specs.declared.layer.Parameter.{Parameter}
use Rattle.c_types.specs.declared.error.LayoutRefusal.{LayoutRefusal}
use Rattle.c_types.specs.declared.structs.StructDef.{StructDef}
use Rattle.c_types.specs.declared.ty.Ty.{Ty, out-Ty}
use Rattle.c_types.specs.declared.ty.Ty.TheOpen.{Ty-F}
use Rattle.c_types.specs.declared.ty.Ty.TheVariants as ty
use Rattle.c_types.specs.Kinds.{Outer}
use Rattle.c_layers.specs.Shapes.{adjusted, shaped, stars_of, whole_of}
use Rattle.c_types.specs.Structs.{struct_named}
use Rattle.c_types.specs.Units.{units_of}
use Rattle.c_tree.specs.declared.expression.Direct.TheOpen.{Direct-F, Expr-F, Param-F, Params-F, Spec-F, Suffix-F, TypeWord-F}
use Rattle.c_tree.specs.declared.expression.Expr.{Expr}
use Rattle.c_tree.specs.declared.operator.BinaryOperator.{BinaryOperator}
use Rattle.c_tree.specs.declared.operator.BinaryOperator.TheVariants as op
use Rattle.c_tree.specs.declared.operator.UnaryOperator.{UnaryOperator}
use Rattle.c_tree.specs.declared.operator.UnaryOperator.TheVariants as sign
use Rattle.c_tree.specs.Fold.{Node, Results, Steps, fold}
use Rattle.c_const.specs.declared.error.ConstRefusal.{ConstRefusal}
use Rattle.c_const.specs.declared.error.ConstRefusal.TheVariants.{Divide, Memory, NotConstant}
use Rattle.c_const.specs.Values.{as_char, complemented, computed, is_zero, negated, truth}

abbrev pub Answer : Type 0 → Type 0
Answer A = Result A ConstRefusal

infixl 10 ◌>>=◌
abbrev pub ◌>>=◌ : {A B : Type 0} → Answer A → (A → Answer B) → Answer B
(Ok a) >>= f = f a
(Err e) >>= f = Err e

-- what a function answers is this, unless no memory is left
abbrev pub Gives : {A : Type 0} → Answer A → Result A ConstRefusal → Type 0
Gives answer (Ok a) = answer ≡ Ok a
Gives answer (Err NotConstant) = answer ≡ Err NotConstant
Gives answer (Err Divide) = answer ≡ Err Divide
Gives answer (Err Memory) = Unit {0}

-- what is found, or no constant
abbrev pub or_other : {A : Type 0} → Option A → Answer A
or_other None = Err NotConstant
or_other (Some a) = Ok a

-- each in order
abbrev pub each : {A : Type 0} → List (Answer A) → Answer (List A)
each [] = Ok []
each (p ∷ ps) = p >>= (λ x. each ps >>= (λ xs. Ok (x ∷ xs)))

-- the declarator inside, where there is one, then the suffixes, then the stars
abbrev pub inside : Option (Answer (List Layer)) → Answer (List Layer)
inside None = Ok []
inside (Some ls) = ls

abbrev pub layers_of : ℕ → Answer (List Layer) → List (Answer Layer) → Answer (List Layer)
layers_of stars within suffixes = do
  first ← within
  behind ← each suffixes
  Ok (first ++ behind ++ stars_of stars)

-- what is computed of each part; an expression is told whether it is evaluated
abbrev pub Values : Results
Values = record {
  direct = Answer (List Layer);
  expr = Bool → Answer ℤ;
  param = Answer Parameter;
  params = Answer (List Parameter);
  spec = Answer Ty;
  suffix = Answer Layer;
  abstract = Answer (List Layer);
  declarator = Answer (List Layer);
  member = Unit {0};
  type_word = Answer Ty;
}

-- ---- operators

-- a form that no constant has: its operands in order, then itself
abbrev pub other_form : List (Bool → Answer ℤ) → Bool → Answer ℤ
other_form [] live = Err NotConstant
other_form (e ∷ es) live = e live >>= (λ x. other_form es live)

-- an operator in front of an operand
abbrev pub unary_value : UnaryOperator → ℤ → Answer ℤ
unary_value sign.Negate x = Ok (negated x)
unary_value sign.Complement x = Ok (complemented x)
unary_value sign.Not x = Ok (truth (is_zero x))
unary_value sign.Address x = Err NotConstant
unary_value sign.Dereference x = Err NotConstant

abbrev pub unary : UnaryOperator → (Bool → Answer ℤ) → Bool → Answer ℤ
unary o a live = a live >>= unary_value o

-- a zero divisor is refused where it is evaluated
abbrev pub divided : Bool → Option ℤ → Answer ℤ
divided live (Some v) = Ok v
divided live None = if live then Err Divide else Ok (pos 0)

-- the second operand is evaluated only where the first doesn't decide
abbrev pub evaluates_second : BinaryOperator → ℤ → Bool
evaluates_second op.LogicalAnd x = not (is_zero x)
evaluates_second op.LogicalOr x = is_zero x
evaluates_second o x = true

abbrev pub binary : BinaryOperator → (Bool → Answer ℤ) → (Bool → Answer ℤ) → Bool → Answer ℤ
binary o a b live = do
  x ← a live
  y ← b (live && evaluates_second o x)
  divided live (computed o x y)

-- one arm is evaluated
abbrev pub conditional : (Bool → Answer ℤ) → (Bool → Answer ℤ) → (Bool → Answer ℤ) → Bool → Answer ℤ
conditional c a b live = do
  x ← c live
  y ← a (live && not (is_zero x))
  z ← b (live && is_zero x)
  Ok (if is_zero x then z else y)

-- a value converted to `int` or `char`
abbrev pub converted : Outer → ℤ → Answer ℤ
converted Ty-F.Int x = Ok x
converted Ty-F.Char x = Ok (as_char x)
converted _ x = Err NotConstant

abbrev pub cast : Answer Ty → (Bool → Answer ℤ) → Bool → Answer ℤ
cast t a live = do
  to ← t
  x ← a live
  converted (out-Ty to) x

-- units, where they aren't refused
abbrev pub size_of : Result ℕ LayoutRefusal → Answer ℤ
size_of (Ok n) = Ok (pos n)
size_of (Err refusal) = Err NotConstant

-- an array's bound
abbrev pub bound : ℤ → Answer ℕ
bound v = if int_le (pos 1) v && int_le v (pos 65536) then Ok (unsigned_abs v) else Err NotConstant

-- an array, whose bound is always evaluated
abbrev pub bounded : (Bool → Answer ℤ) → Answer Layer
bounded e = do
  v ← e true
  n ← bound v
  Ok (layer.Array (Some n))

-- the type of this name
abbrev pub type_named : List (List ℕ × Ty) → List ℕ → Option Ty
type_named names x = option_map (λ n. n.1) (first_named (λ n. n.0) names x)

-- the struct of this tag
abbrev pub struct_type : List StructDef → List ℕ → Answer Ty
struct_type structs x = or_other (option_map (λ n. ty.Struct n) (struct_named structs x))

-- a parameter without its name
abbrev pub parameter_of : List StructDef → Ty → List Layer → Answer Parameter
parameter_of structs base layers =
    or_other (whole_of (adjusted (shaped structs base layers))) >>= (λ t. Ok (record { name = None; ty = t }))

module _ (structs : List StructDef) (names : List (List ℕ × Ty)) where
  abbrev pub expr_step : Node Values Expr-F → Bool → Answer ℤ
  expr_step (Expr-F.Number n) live = Ok n
  expr_step (Expr-F.SizeofType t) live = t >>= (λ of. size_of (units_of structs of))
  expr_step (Expr-F.Cast t a) live = cast t a live
  expr_step (Expr-F.Unary o a) live = unary o a live
  expr_step (Expr-F.Binary a o b) live = binary o a b live
  expr_step (Expr-F.Conditional c a b) live = conditional c a b live
  expr_step (Expr-F.Assign a o b) live = other_form (a ∷ b ∷ []) live
  expr_step (Expr-F.Index a i) live = other_form (a ∷ i ∷ []) live
  expr_step (Expr-F.Call f es) live = other_form (f ∷ es) live
  expr_step (Expr-F.PreIncrement a) live = other_form (a ∷ []) live
  expr_step (Expr-F.PreDecrement a) live = other_form (a ∷ []) live
  expr_step (Expr-F.PostIncrement a) live = other_form (a ∷ []) live
  expr_step (Expr-F.PostDecrement a) live = other_form (a ∷ []) live
  expr_step (Expr-F.SizeofExpr a) live = other_form (a ∷ []) false
  expr_step (Expr-F.Member a x) live = other_form (a ∷ []) live
  expr_step (Expr-F.Arrow a x) live = other_form (a ∷ []) live
  expr_step (Expr-F.Identifier x) live = other_form [] live
  expr_step (Expr-F.Text bytes) live = other_form [] live

  -- ---- type words

  abbrev pub suffix_step : Node Values Suffix-F → Answer Layer
  suffix_step (Suffix-F.Array None) = Ok (layer.Array None)
  suffix_step (Suffix-F.Array (Some e)) = bounded e
  suffix_step (Suffix-F.Function p) = p >>= (λ ps. Ok (layer.Function ps))

  abbrev pub parameter : Answer Ty → Answer (List Layer) → Answer Parameter
  parameter s d = do
    base ← s
    layers ← d
    parameter_of structs base layers

  abbrev pub param_step : Node Values Param-F → Answer Parameter
  param_step (Param-F.Named s d) = parameter s d
  param_step (Param-F.Unnamed s a) = parameter s a

  abbrev pub params_step : Node Values Params-F → Answer (List Parameter)
  params_step Params-F.Nothing = Ok []
  params_step Params-F.VoidAlone = Ok []
  params_step (Params-F.List all) = each all

  abbrev pub direct_step : Node Values Direct-F → Answer (List Layer)
  direct_step (Direct-F.Name x) = Ok []
  direct_step (Direct-F.Bracketed d) = d

  abbrev pub spec_step : Node Values Spec-F → Answer Ty
  spec_step Spec-F.Int = Ok ty.Int
  spec_step Spec-F.Char = Ok ty.Char
  spec_step Spec-F.Void = Ok ty.Void
  spec_step (Spec-F.TypeName x) = or_other (type_named names x)
  spec_step (Spec-F.Struct x None) = struct_type structs x
  spec_step (Spec-F.Struct x (Some ms)) = Err NotConstant

  abbrev pub type_word_step : Node Values TypeWord-F → Answer Ty
  type_word_step t = do
    base ← t.spec
    layers ← t.declarator
    or_other (whole_of (shaped structs base layers))

  abbrev pub value_steps : Steps Values
  value_steps = record {
    direct = direct_step;
    expr = expr_step;
    param = param_step;
    params = params_step;
    spec = spec_step;
    suffix = suffix_step;
    abstract = λ a. layers_of a.stars (inside a.bracketed) a.suffixes;
    declarator = λ d. layers_of d.stars d.direct d.suffixes;
    member = λ m. tt;
    type_word = type_word_step;
  }

  -- the value, or why there is none
  unfoldable pub constant_value : Expr → Answer ℤ
  constant_value e = (fold value_steps).expr e true
