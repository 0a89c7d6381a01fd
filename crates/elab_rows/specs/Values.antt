-- The code of expressions: one pass over the typed trees, which puts the rows together.
use Rattle.std.specs.Prelude.{ℕ, pos, ◌+◌, Bool, true, false, not, if◌then◌else◌, List, [], ◌∷◌, Option, Some, None, unwrap_or}
use Rattle.std.specs.Option.{option_and_then}
use Rattle.c_types.specs.declared.ty.FnTy.{FnTy, out-FnTy, roll-FnTy}
use Rattle.c_types.specs.declared.ty.Ty.{Ty}
use Rattle.c_types.specs.declared.ty.Ty.TheVariants as ty
use Rattle.c_types.specs.Kinds.{decay, function_of, is_function, is_struct, is_void, struct_of, target_of}
use Rattle.c_operators.specs.Operators.{is_zero_constant}
use Rattle.c_tree.specs.declared.operator.BinaryOperator.{BinaryOperator}
use Rattle.c_tree.specs.declared.operator.BinaryOperator.TheVariants as binary
use Rattle.c_tree.specs.declared.operator.UnaryOperator.{UnaryOperator}
use Rattle.c_tree.specs.declared.operator.UnaryOperator.TheVariants as unary
use Rattle.c_tree.specs.Operators.{binary_operator}
use Rattle.c_typed.specs.declared.entity.Constant.{Constant}
use Rattle.c_typed.specs.declared.entity.Constant.TheVariants as constant
use Rattle.c_typed.specs.declared.entity.Entity.{Entity}
use Rattle.c_typed.specs.declared.entity.Entity.TheVariants as entity
use Rattle.c_typed.specs.declared.expression.TypedDirect.TheOpen.{TypedForm-F}
use Rattle.c_typed.specs.declared.expression.TypedExpr.{TypedExpr, fold-TypedExpr}
use Rattle.core_ir.specs.declared.operator.Operator.TheVariants as operator
use Rattle.elab_rows.specs.Addresses.{Lvalue, address_of, assigned, element_address, global_address, loaded, local_address, lvalue_value, member_address, slot_assigned, slot_updated, struct_assigned, updated, with_old_value}
use Rattle.elab_rows.specs.Calls.{built_in_code, call_code, indirect_code}
use Rattle.elab_rows.specs.Choices.{conditional_code}
use Rattle.elab_rows.specs.Made.{Code, converted, nothing}
use Rattle.elab_rows.specs.Rows.{Operand, binary_row, converted_to, function_name, number, operated, operated_type, slot_value, string, unary_code}
use Rattle.elab_rows.specs.declared.named.Named.{Named}
use Rattle.elab_rows.specs.declared.named.Named.TheVariants as named
use Rattle.elab_rows.specs.declared.scope.Scope.{Scope}
use Rattle.elab_rows.specs.declared.scope.Standing.{Standing}
use Rattle.elab_rows.specs.declared.scope.Standing.TheVariants as stands
use Rattle.elab_rows.specs.Scope.{function_number, standing_of}
use Rattle.elab_rows.specs.Units.{offset, scalars, units}

-- What is made of an expression. Its type is its own, not that of the pointer that it may become.
pub record Part : Type 0 where
  pub ty : Ty
  pub constant : Constant
  -- V
  pub value : Code
  -- A, where it is an lvalue that stands in memory
  pub lvalue : Lvalue
  -- what it stands for, where it is a name alone
  pub name : Named

-- ---- lvalues

abbrev pub no_lvalue : Ty → Lvalue
no_lvalue t = record { ty = t; root = t; address = nothing; is_member = false }

-- one that is no member: its root is its own type
abbrev pub whole : Code → Ty → Lvalue
whole a t = record { ty = t; root = t; address = a; is_member = false }

abbrev pub member_lvalue : Ty → Code → Ty → Lvalue
member_lvalue root a t = record { ty = t; root = root; address = a; is_member = true }

-- ---- parts as operands

abbrev pub value_type : Part → Ty
value_type x = decay x.ty

abbrev pub operand : Part → Operand
operand x = record { ty = value_type x; is_null = is_zero_constant x.constant; code = x.value }

-- V, converted
abbrev pub converted_part : Part → Ty → Code
converted_part x t = converted_to t (operand x)

-- the number 1, as `++` and `--` add it
abbrev pub one : Part
one = record {
  ty = ty.Int;
  constant = constant.Value (pos 1);
  value = number (pos 1);
  lvalue = no_lvalue ty.Int;
  name = named.Other;
}

-- ---- names

abbrev pub local_name : Option Standing → Named
local_name (Some (stands.Slot s)) = named.Slot s
local_name (Some (stands.Frame v)) = named.Frame v
local_name None = named.Other

abbrev pub entity_name : Scope → List ℕ → Entity → Named
entity_name scope x (entity.Global g) = named.Global g
entity_name scope x (entity.Local n) = local_name (standing_of scope n)
entity_name scope x entity.Function = named.Function (function_number scope.functions x)
entity_name scope x (entity.BuiltIn b) = named.BuiltIn b
entity_name scope x entity.Parameter = named.Other

-- A of a variable
abbrev pub name_address : Named → Code
name_address (named.Global g) = global_address g
name_address (named.Frame v) = local_address v
name_address _ = nothing

abbrev pub name_value : Named → Ty → Code
name_value (named.Slot s) t = slot_value s
name_value (named.Function f) t = function_name f
name_value (named.BuiltIn b) t = nothing
name_value named.Other t = nothing
name_value x t = lvalue_value (whole (name_address x) t)

-- ---- members

-- the offset of a member of this struct
abbrev pub member_offset : Scope → Ty → ℕ → ℕ
member_offset scope t n = offset scope.structs (unwrap_or (struct_of t) 0) n

-- what a pointer points to
unfoldable pub target : Ty → Ty
target t = unwrap_or (target_of t) ty.Void

abbrev pub dot_lvalue : Scope → Part → ℕ → Ty → Lvalue
dot_lvalue scope a n t = member_lvalue a.lvalue.root (member_address (member_offset scope a.ty n) a.lvalue.address) t

abbrev pub arrow_lvalue : Scope → Part → ℕ → Ty → Lvalue
arrow_lvalue scope a n t =
    let s = target (value_type a) in member_lvalue s (member_address (member_offset scope s n) a.value) t

-- ---- `*` and `&`

-- `*e` that is a function, with or without further `&` or `*` | V(e)
abbrev pub pointed_value : Part → Ty → Code
pointed_value a t = if is_function t then a.value else lvalue_value (whole a.value t)

abbrev pub address_value : Part → Code
address_value a = if is_function a.ty then a.value else address_of a.lvalue

abbrev pub unary_value : UnaryOperator → Part → Ty → Code
unary_value unary.Address a t = address_value a
unary_value unary.Dereference a t = pointed_value a t
unary_value unary.Negate a t = unary_code operator.Subtract a.value
unary_value unary.Complement a t = unary_code operator.Complement a.value
unary_value unary.Not a t = unary_code operator.Not a.value

-- A of `*e` | V(e)
abbrev pub unary_lvalue : UnaryOperator → Part → Ty → Lvalue
unary_lvalue unary.Dereference a t = whole a.value t
unary_lvalue o a t = no_lvalue t

-- ---- assignments

abbrev pub assigned_by : Named → Lvalue → Code → Code
assigned_by (named.Slot s) x v = slot_assigned s v
assigned_by _ x v = assigned x v

abbrev pub plain_assigned : Scope → Part → Part → Code
plain_assigned scope a b =
    if is_struct a.ty then struct_assigned (scalars scope.structs a.ty) a.lvalue b.lvalue
    else assigned_by a.name a.lvalue (converted_part b a.ty)

-- the old value's code in place of V
abbrev pub old_operand : Part → Code → Operand
old_operand a old = record (operand a) { code = old }

-- the operator's code, and the conversion back
abbrev pub new_value : Scope → BinaryOperator → Part → Operand → Code → Code
new_value scope o a y old =
    converted (operated_type scope.structs o (operand a) y) a.ty (operated scope.structs o (old_operand a old) y)

abbrev pub updated_by : Named → Lvalue → (Code → Code) → Code
updated_by (named.Slot s) x new = slot_updated s new
updated_by _ x new = updated x new

-- `op=`, and `++ --` in front
abbrev pub updated_part : Scope → BinaryOperator → Part → Operand → Code
updated_part scope o a y = updated_by a.name a.lvalue (new_value scope o a y)

-- the value before an assignment
abbrev pub old_value : Named → Lvalue → Code
old_value (named.Slot s) x = slot_value s
old_value _ x = loaded x

-- `++ --` behind
abbrev pub postfix_part : Scope → BinaryOperator → Part → Code
postfix_part scope o a = with_old_value (old_value a.name a.lvalue) (updated_part scope o a (operand one))

abbrev pub assignment_by : Scope → Option BinaryOperator → Part → Part → Code
assignment_by scope None a b = plain_assigned scope a b
assignment_by scope (Some o) a b = updated_part scope o a (operand b)

-- ---- calls

-- arguments, each converted to its parameter
abbrev pub converted_parts : List Part → List Ty → List Code
converted_parts [] ts = []
converted_parts xs [] = []
converted_parts (x ∷ xs) (t ∷ ts) = converted_part x t ∷ converted_parts xs ts

-- the type of a function, or of what a pointer points to
unfoldable pub called_type : Ty → FnTy
called_type t =
    unwrap_or (option_and_then function_of (target_of (decay t))) (roll-FnTy (record { result = ty.Void; params = [] }))

abbrev pub returns : FnTy → Bool
returns f = not (is_void (out-FnTy f).result)

abbrev pub call_by : Named → Part → FnTy → List Code → Code
call_by (named.Function n) f t parts = call_code n (returns t) parts
call_by (named.BuiltIn b) f t parts = built_in_code b parts
call_by _ f t parts = indirect_code t (returns t) f.value parts

abbrev pub call_part : Part → List Part → Code
call_part f arguments =
    let t = called_type f.ty in call_by f.name f t (converted_parts arguments (out-FnTy t).params)

-- ---- casts

-- cast | V; conversion; a cast to `void` is V alone
abbrev pub cast_part : Part → Ty → Code
cast_part a t = if is_void t then a.value else converted_part a t

-- ---- the pass

-- a form, with what is made of the expressions in it; of a type word its type stands
abbrev pub PartForm : Type 0
PartForm = TypedForm-F (Unit {0}) (Ty → Constant → Part) (Unit {0}) (Unit {0}) (Unit {0}) (Unit {0}) (Unit {0})
    (Unit {0}) (Unit {0}) Part (Unit {0}) Ty

-- V of a form of this type
abbrev pub form_value : Scope → PartForm → Ty → Code
form_value scope (TypedForm-F.Assign a o b) t = assignment_by scope (binary_operator o) a b
form_value scope (TypedForm-F.Conditional e a b) t =
    conditional_code e.value (converted_part a t) (converted_part b t)
form_value scope (TypedForm-F.Binary a o b) t = binary_row scope.structs o (operand a) (operand b)
form_value scope (TypedForm-F.Cast w a) t = cast_part a t
form_value scope (TypedForm-F.PreIncrement a) t = updated_part scope binary.Add a (operand one)
form_value scope (TypedForm-F.PreDecrement a) t = updated_part scope binary.Subtract a (operand one)
form_value scope (TypedForm-F.Unary o a) t = unary_value o a t
form_value scope (TypedForm-F.SizeofExpr a) t = number (pos (units scope.structs a.ty))
form_value scope (TypedForm-F.SizeofType w) t = number (pos (units scope.structs w))
form_value scope (TypedForm-F.Index a i) t =
    lvalue_value (whole (element_address (units scope.structs t) a.value (converted_part i ty.Int)) t)
form_value scope (TypedForm-F.Call f arguments) t = call_part f arguments
form_value scope (TypedForm-F.Member a x n) t = lvalue_value (dot_lvalue scope a n t)
form_value scope (TypedForm-F.Arrow a x n) t = lvalue_value (arrow_lvalue scope a n t)
form_value scope (TypedForm-F.PostIncrement a) t = postfix_part scope binary.Add a
form_value scope (TypedForm-F.PostDecrement a) t = postfix_part scope binary.Subtract a
form_value scope (TypedForm-F.Identifier x e) t = name_value (entity_name scope x e) t
form_value scope (TypedForm-F.Number n) t = number n
form_value scope (TypedForm-F.Text bytes n) t = string (scope.first_string + n)

-- A of a form of this type
abbrev pub form_lvalue : Scope → PartForm → Ty → Lvalue
form_lvalue scope (TypedForm-F.Unary o a) t = unary_lvalue o a t
form_lvalue scope (TypedForm-F.Index a i) t =
    whole (element_address (units scope.structs t) a.value (converted_part i ty.Int)) t
form_lvalue scope (TypedForm-F.Member a x n) t = dot_lvalue scope a n t
form_lvalue scope (TypedForm-F.Arrow a x n) t = arrow_lvalue scope a n t
form_lvalue scope (TypedForm-F.Identifier x e) t = whole (name_address (entity_name scope x e)) t
form_lvalue scope f t = no_lvalue t

-- what a form stands for
abbrev pub form_name : Scope → PartForm → Named
form_name scope (TypedForm-F.Identifier x e) = entity_name scope x e
form_name scope f = named.Other

-- an integer constant expression is one `Const` where constants are folded
abbrev pub folded : Bool → Constant → Code → Code
folded true (constant.Value v) a = number v
folded folds c a = a

abbrev pub made_of : Scope → PartForm → Ty → Constant → Part
made_of scope f t c = record {
  ty = t;
  constant = c;
  value = folded scope.folds c (form_value scope f t);
  lvalue = form_lvalue scope f t;
  name = form_name scope f;
}

unfoldable pub part : Scope → TypedExpr → Part
part scope = fold-TypedExpr _ _ _ _ _ _ _ _ _ _ _ _ (λ _. tt) (made_of scope) (λ _. tt) (λ _. tt) (λ _. tt) (λ _. tt)
    (λ _. tt) (λ _. tt) (λ _. tt) (λ e. e.form e.ty e.constant) (λ _. tt) (λ w. w.ty)

-- ---- whole expressions

-- V(e)
unfoldable pub value_code : Scope → TypedExpr → Code
value_code scope e = (part scope e).value

-- A(e)
unfoldable pub address_code : Scope → TypedExpr → Code
address_code scope e = (part scope e).lvalue.address

-- V(e), converted
unfoldable pub converted_code : Scope → TypedExpr → Ty → Code
converted_code scope e t = converted_part (part scope e) t
