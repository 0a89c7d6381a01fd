-- The row of types that each form of expression meets: its parts' types and constants beside its own. No row knows scopes.
use Rattle.std.specs.Prelude.{◌≡◌, ℕ, ◌+◌, Bool, true, false, ◌||◌, nat_eq, IsTrue, List, [], ◌∷◌, length, Option}
use Rattle.std.specs.Prelude.{Some, None, slice_get, Ok, pos}
use Rattle.std.specs.List.{list_all}
use Rattle.c_tree.specs.declared.operator.BinaryOperator.{BinaryOperator}
use Rattle.c_tree.specs.declared.operator.BinaryOperator.TheVariants as op
use Rattle.c_tree.specs.declared.operator.UnaryOperator.{UnaryOperator}
use Rattle.c_tree.specs.declared.operator.UnaryOperator.TheVariants as unary
use Rattle.c_tree.specs.Operators.{binary_operator}
use Rattle.c_types.specs.declared.ty.FnTy.{FnTy, out-FnTy}
use Rattle.c_types.specs.declared.ty.Ty.{Ty, out-Ty}
use Rattle.c_types.specs.declared.ty.Ty.TheVariants as ty
use Rattle.c_types.specs.Kinds.{is_function, target_of}
use Rattle.c_types.specs.Units.{has_units, units_of}
use Rattle.c_typed.specs.declared.entity.Constant.{Constant}
use Rattle.c_typed.specs.declared.entity.Constant.TheVariants as constant
use Rattle.c_typed.specs.declared.entity.Entity.{Entity}
use Rattle.c_typed.specs.declared.entity.Entity.TheVariants as entity
use Rattle.c_typed.specs.declared.expression.Declared.{Declared, every-Declared}
use Rattle.c_typed.specs.declared.expression.TypedAbstractDeclarator.{TypedAbstractDeclarator}
use Rattle.c_typed.specs.declared.expression.TypedDeclarator.{TypedDeclarator}
use Rattle.c_typed.specs.declared.expression.TypedDirect.{TypedDirect}
use Rattle.c_typed.specs.declared.expression.TypedMemberDecl.{TypedMemberDecl}
use Rattle.c_typed.specs.declared.expression.TypedParam.{TypedParam}
use Rattle.c_typed.specs.declared.expression.TypedParams.{TypedParams}
use Rattle.c_typed.specs.declared.expression.TypedSuffix.{TypedSuffix}
use Rattle.c_typed.specs.declared.expression.TypedDirect.TheOpen.{TypedExpr-F, TypedForm-F}
use Rattle.c_typed.specs.declared.expression.TypedExpr.{TypedExpr, every-TypedExpr}
use Rattle.c_typed.specs.declared.expression.TypedForm.{TypedForm, out-TypedForm}
use Rattle.c_typed.specs.declared.expression.TypedSpec.{TypedSpec, every-TypedSpec}
use Rattle.c_typed.specs.declared.expression.TypedTypeWord.{TypedTypeWord, out-TypedTypeWord}
use Rattle.c_scope.specs.BuiltIns.{built_in_type}
use Rattle.c_operators.specs.Constants.{of_binary, of_cast, of_conditional, of_unary}
use Rattle.c_operators.specs.Operators.{FormLayer, chosen, constant_of, form_of, is_assignable, is_integer_value}
use Rattle.c_operators.specs.Operators.{is_lvalue, is_scalar_value, operated, type_of, value_type}
use Rattle.c_rules.specs.Rules.{all_convert, assigned_type, called_type, has_address, may_be_cast, member_behind}
use Rattle.c_rules.specs.Rules.{member_of, one, takes, takes_type}
use Rattle.c_typed_rows.specs.Contexts.{Context, Name, defined_as, global_type, local_addressed, local_type}

-- ---- names

-- The name of a variable has its type, that of a function the type of its definition. No parameter of a declarator is named.
abbrev pub NameRow : Context → Name → Entity → Ty → Type 0
NameRow k x (entity.Global n) t = global_type k n ≡ Some t
NameRow k x (entity.Local n) t = local_type k n ≡ Some t
NameRow k x entity.Parameter t = ⊥
NameRow k x entity.Function t = (f : FnTy) × (defined_as k.functions x ≡ Some f) × (t ≡ ty.Function f)
NameRow k x (entity.BuiltIn b) t = t ≡ ty.Function (built_in_type b)

-- ---- assignments

-- `x = y`
pub record PlainRow (x y : TypedExpr) (t : Ty) : Type 0 where
  pub converts : IsTrue (takes x y)
  pub lvalue : IsTrue (is_assignable x)
  pub ty : t ≡ assigned_type (type_of x)

-- `x op= y`, and `++` and `--` with the number 1
pub record UpdateRow (k : Context) (o : BinaryOperator) (x y : TypedExpr) (t : Ty) : Type 0 where
  pub value : Ty
  pub operated : operated k.structs o x y ≡ Some value
  pub converts : IsTrue (takes_type x value)
  pub lvalue : IsTrue (is_assignable x)
  pub ty : t ≡ type_of x

abbrev pub AssignmentRow : Context → Option BinaryOperator → TypedExpr → TypedExpr → Ty → Type 0
AssignmentRow k None x y t = PlainRow x y t
AssignmentRow k (Some o) x y t = UpdateRow k o x y t

-- ---- unary operators

-- a local whose own name stands here is one whose address is taken
abbrev pub NamedAddressed : Context → FormLayer → Type 0
NamedAddressed k (TypedForm-F.Identifier x (entity.Local n)) = local_addressed k n ≡ Some true
NamedAddressed k _ = Unit {0}

pub record AddressRow (k : Context) (x : TypedExpr) (t : Ty) : Type 0 where
  pub lvalue : IsTrue (has_address x)
  pub addressed : NamedAddressed k (out-TypedForm (form_of x))
  pub ty : t ≡ ty.Pointer (type_of x)

pub record DereferenceRow (k : Context) (x : TypedExpr) (t : Ty) : Type 0 where
  pub target : target_of (value_type x) ≡ Some t
  pub units : IsTrue (is_function t || has_units k.structs t)

-- `-` and `~`
pub record ArithmeticRow (x : TypedExpr) (t : Ty) : Type 0 where
  pub integer : IsTrue (is_integer_value x)
  pub ty : t ≡ ty.Int

pub record NegationRow (x : TypedExpr) (t : Ty) : Type 0 where
  pub scalar : IsTrue (is_scalar_value x)
  pub ty : t ≡ ty.Int

abbrev pub UnaryRow : Context → UnaryOperator → TypedExpr → Ty → Type 0
UnaryRow k unary.Address x t = AddressRow k x t
UnaryRow k unary.Dereference x t = DereferenceRow k x t
UnaryRow k unary.Not x t = NegationRow x t
UnaryRow k o x t = ArithmeticRow x t

-- ---- other forms

pub record ConditionalRow (c x y : TypedExpr) (t : Ty) : Type 0 where
  pub scalar : IsTrue (is_scalar_value c)
  pub chosen : chosen x y ≡ Some t

pub record CastRow (w : TypedTypeWord) (x : TypedExpr) (t : Ty) : Type 0 where
  pub castable : IsTrue (may_be_cast x t)
  pub ty : t ≡ (out-TypedTypeWord w).ty

pub record SizeofRow (k : Context) (x : TypedExpr) (t : Ty) : Type 0 where
  pub units : IsTrue (has_units k.structs (type_of x))
  pub ty : t ≡ ty.Int

-- the constant is the number of units
pub record SizeofTypeRow (k : Context) (w : TypedTypeWord) (t : Ty) (c : Constant) : Type 0 where
  pub units : ℕ
  pub are : units_of k.structs (out-TypedTypeWord w).ty ≡ Ok units
  pub ty : t ≡ ty.Int
  pub value : c ≡ constant.Value (pos units)

pub record IndexRow (k : Context) (x i : TypedExpr) (t : Ty) : Type 0 where
  pub integer : IsTrue (is_integer_value i)
  pub target : target_of (value_type x) ≡ Some t
  pub units : IsTrue (has_units k.structs t)

-- as many arguments as parameters, and each converts
pub record CallRow (x : TypedExpr) (arguments : List TypedExpr) (t : Ty) : Type 0 where
  pub callee : FnTy
  pub called : called_type x ≡ Some callee
  pub convert : IsTrue (all_convert arguments (out-FnTy callee).params)
  pub count : IsTrue (nat_eq (length arguments) (length (out-FnTy callee).params))
  pub ty : t ≡ (out-FnTy callee).result

-- the number and the type are those of the struct's member of this name
pub record MemberRow (k : Context) (x : TypedExpr) (name : Name) (n : ℕ) (t : Ty) : Type 0 where
  pub lvalue : IsTrue (is_lvalue x)
  pub member : member_of k.structs name (type_of x) ≡ Some (n, t)

-- its object has its bytes, and its type room for a 0 behind them
pub record TextRow (k : Context) (bytes : List ℕ) (n : ℕ) (t : Ty) : Type 0 where
  pub object : slice_get k.strings n ≡ Some bytes
  pub ty : t ≡ ty.Array ty.Char (length bytes + 1)

-- ---- the row of each form

abbrev pub FormRow : Context → FormLayer → Ty → Constant → Type 0
FormRow k (TypedForm-F.Assign x a y) t c = AssignmentRow k (binary_operator a) x y t × (c ≡ constant.Other)
FormRow k (TypedForm-F.Conditional e x y) t c =
    ConditionalRow e x y t × (c ≡ of_conditional (constant_of e) (constant_of x) (constant_of y))
FormRow k (TypedForm-F.Binary x o y) t c =
    (operated k.structs o x y ≡ Some t) × (c ≡ of_binary o (constant_of x) (constant_of y))
FormRow k (TypedForm-F.Cast w x) t c = CastRow w x t × (c ≡ of_cast (out-Ty t) (constant_of x))
FormRow k (TypedForm-F.PreIncrement x) t c = UpdateRow k op.Add x one t × (c ≡ constant.Other)
FormRow k (TypedForm-F.PreDecrement x) t c = UpdateRow k op.Subtract x one t × (c ≡ constant.Other)
FormRow k (TypedForm-F.Unary o x) t c = UnaryRow k o x t × (c ≡ of_unary o (constant_of x))
FormRow k (TypedForm-F.SizeofExpr x) t c = SizeofRow k x t × (c ≡ constant.Other)
FormRow k (TypedForm-F.SizeofType w) t c = SizeofTypeRow k w t c
FormRow k (TypedForm-F.Index x i) t c = IndexRow k x i t × (c ≡ constant.Other)
FormRow k (TypedForm-F.Call f arguments) t c = CallRow f arguments t × (c ≡ constant.Other)
FormRow k (TypedForm-F.Member x name n) t c = MemberRow k x name n t × (c ≡ constant.Other)
FormRow k (TypedForm-F.Arrow x name n) t c =
    (member_behind k.structs x name ≡ Some (n, t)) × (c ≡ constant.Other)
FormRow k (TypedForm-F.PostIncrement x) t c = UpdateRow k op.Add x one t × (c ≡ constant.Other)
FormRow k (TypedForm-F.PostDecrement x) t c = UpdateRow k op.Subtract x one t × (c ≡ constant.Other)
FormRow k (TypedForm-F.Identifier x e) t c = NameRow k x e t × (c ≡ constant.Other)
FormRow k (TypedForm-F.Number n) t c = (t ≡ ty.Int) × (c ≡ constant.Value n)
FormRow k (TypedForm-F.Text bytes n) t c = TextRow k bytes n t × (c ≡ constant.Other)

-- ---- where built-ins stand

abbrev pub is_value_at : FormLayer → Bool
is_value_at (TypedForm-F.Identifier x (entity.BuiltIn b)) = false
is_value_at _ = true

-- the expression is no built-in's name, which stands only as what is called
unfoldable pub is_value : TypedExpr → Bool
is_value x = is_value_at (out-TypedForm (form_of x))

-- the expressions in a form, without what is called
abbrev pub operands_of : FormLayer → List TypedExpr
operands_of (TypedForm-F.Assign x a y) = x ∷ y ∷ []
operands_of (TypedForm-F.Conditional e x y) = e ∷ x ∷ y ∷ []
operands_of (TypedForm-F.Binary x o y) = x ∷ y ∷ []
operands_of (TypedForm-F.Cast w x) = x ∷ []
operands_of (TypedForm-F.PreIncrement x) = x ∷ []
operands_of (TypedForm-F.PreDecrement x) = x ∷ []
operands_of (TypedForm-F.Unary o x) = x ∷ []
operands_of (TypedForm-F.SizeofExpr x) = x ∷ []
operands_of (TypedForm-F.SizeofType w) = []
operands_of (TypedForm-F.Index x i) = x ∷ i ∷ []
operands_of (TypedForm-F.Call f arguments) = arguments
operands_of (TypedForm-F.Member x name n) = x ∷ []
operands_of (TypedForm-F.Arrow x name n) = x ∷ []
operands_of (TypedForm-F.PostIncrement x) = x ∷ []
operands_of (TypedForm-F.PostDecrement x) = x ∷ []
operands_of _ = []

-- ---- levels

-- one layer of an expression
abbrev pub ExprNode : Type 0
ExprNode = TypedExpr-F TypedDirect TypedForm TypedParam TypedParams TypedSpec TypedSuffix Declared
    TypedAbstractDeclarator TypedDeclarator TypedExpr TypedMemberDecl TypedTypeWord

-- what holds of each expression at any depth
pub record ExprLevel (k : Context) (form : FormLayer) (t : Ty) (c : Constant) : Type 0 where
  pub row : FormRow k form t c
  pub values : IsTrue (list_all is_value (operands_of form))

-- an expression as its tree has it
abbrev pub NodeLevel : Context → ExprNode → Type 0
NodeLevel k e = ExprLevel k (out-TypedForm e.form) e.ty e.constant

-- an expression whose every level meets its row, those in its type words too
unfoldable pub IsTypedExpr : Context → TypedExpr → Type 0
IsTypedExpr k = every-TypedExpr (λ _. Unit {0}) (λ _. Unit {0}) (λ _. Unit {0}) (λ _. Unit {0}) (λ _. Unit {0})
    (λ _. Unit {0}) (λ _. Unit {0}) (λ _. Unit {0}) (λ _. Unit {0}) (NodeLevel k) (λ _. Unit {0}) (λ _. Unit {0})

-- the same of the bounds in a spec, and in a declarator
unfoldable pub IsTypedSpec : Context → TypedSpec → Type 0
IsTypedSpec k = every-TypedSpec (λ _. Unit {0}) (λ _. Unit {0}) (λ _. Unit {0}) (λ _. Unit {0}) (λ _. Unit {0})
    (λ _. Unit {0}) (λ _. Unit {0}) (λ _. Unit {0}) (λ _. Unit {0}) (NodeLevel k) (λ _. Unit {0}) (λ _. Unit {0})

unfoldable pub IsTypedDeclared : Context → Declared → Type 0
IsTypedDeclared k = every-Declared (λ _. Unit {0}) (λ _. Unit {0}) (λ _. Unit {0}) (λ _. Unit {0}) (λ _. Unit {0})
    (λ _. Unit {0}) (λ _. Unit {0}) (λ _. Unit {0}) (λ _. Unit {0}) (NodeLevel k) (λ _. Unit {0}) (λ _. Unit {0})

-- an expression whose value is used
pub record IsTypedValue (k : Context) (x : TypedExpr) : Type 0 where
  pub levels : IsTypedExpr k x
  pub value : IsTrue (is_value x)
