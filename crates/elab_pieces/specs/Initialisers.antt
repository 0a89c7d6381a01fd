-- The rows of initialisers: their leaves in order, each an assignment.
use Rattle.std.specs.Prelude.{ℕ, pos, ◌+◌, Bool, true, false, if◌then◌else◌, List, [], ◌∷◌, ◌++◌, map}
use Rattle.c_types.specs.declared.structs.StructDef.{StructDef}
use Rattle.c_types.specs.declared.ty.Ty.{Ty, out-Ty}
use Rattle.c_types.specs.declared.ty.Ty.TheOpen.{Ty-F}
use Rattle.c_types.specs.declared.ty.Ty.TheVariants as ty
use Rattle.c_types.specs.Kinds.{Outer, is_struct}
use Rattle.c_types.specs.Structs.{members_of}
use Rattle.c_typed.specs.declared.expression.TypedExpr.{TypedExpr}
use Rattle.c_typed.specs.declared.statement.TypedInit.{TypedInit, fold-TypedInit, out-TypedInit}
use Rattle.c_typed.specs.declared.statement.TypedInit.TheOpen.{TypedInit-F}
use Rattle.elab_rows.specs.Addresses.{Lvalue, assigned, member_address, struct_assigned}
use Rattle.elab_rows.specs.Made.{Code, converted}
use Rattle.elab_rows.specs.Rows.{number}
use Rattle.elab_rows.specs.declared.scope.Scope.{Scope}
use Rattle.elab_rows.specs.Units.{repeated, scalars, units}
use Rattle.elab_rows.specs.Values.{converted_code, part}

-- ---- leaves

-- what gives a part of a variable
pub data Given : Type 0 where
  ByExpr : (e : TypedExpr) → Given
  ByByte : (n : ℕ) → Given
  Missing : Given

-- a part of a variable: its offset, its type, and what gives it
pub record Leaf : Type 0 where
  pub offset : ℕ
  pub ty : Ty
  pub given : Given

-- the leaves of an initialiser of a part of this type at this offset
abbrev pub Leaves : Type 0
Leaves = Ty → ℕ → List Leaf

abbrev pub leaf : ℕ → Ty → Given → Leaf
leaf k t g = record { offset = k; ty = t; given = g }

-- scalars from an offset on that nothing gives
abbrev pub missing : List Ty → ℕ → List Leaf
missing [] k = []
missing (t ∷ ts) k = leaf k t Missing ∷ missing ts (k + 1)

-- bytes for scalars from an offset on; the rest is missing
abbrev pub text_leaves : List ℕ → List Ty → ℕ → List Leaf
text_leaves [] ts k = missing ts k
text_leaves bs [] k = []
text_leaves (b ∷ bs) (t ∷ ts) k = leaf k t (ByByte b) ∷ text_leaves bs ts (k + 1)

-- the scalars of types that follow one another
abbrev pub all_scalars : List StructDef → List Ty → List Ty
all_scalars defs [] = []
all_scalars defs (t ∷ ts) = scalars defs t ++ all_scalars defs ts

abbrev pub part_types_at : List StructDef → Outer → List Ty
part_types_at defs (Ty-F.Array element n) = repeated n (element ∷ [])
part_types_at defs (Ty-F.Struct s) = map (λ m. m.ty) (members_of defs s)
part_types_at defs _ = []

-- the types of a type's parts: the elements of an array, the members of a struct
abbrev pub part_types : List StructDef → Ty → List Ty
part_types defs t = part_types_at defs (out-Ty t)

-- parts for these types from an offset on; the rest is missing
abbrev pub brace_leaves : List StructDef → List Leaves → List Ty → ℕ → List Leaf
brace_leaves defs [] ts k = missing (all_scalars defs ts) k
brace_leaves defs ps [] k = []
brace_leaves defs (p ∷ ps) (t ∷ ts) k = p t k ++ brace_leaves defs ps ts (k + units defs t)

-- A string's final 0 is a byte of it.
abbrev pub leaves_step : List StructDef → TypedInit-F Leaves → Leaves
leaves_step defs (TypedInit-F.Expr e) t k = leaf k t (ByExpr e) ∷ []
leaves_step defs (TypedInit-F.Text bytes) t k = text_leaves (bytes ++ 0 ∷ []) (scalars defs t) k
leaves_step defs (TypedInit-F.Braces parts) t k = brace_leaves defs parts (part_types defs t) k

-- the leaves in order of offset, those that nothing gives among them
unfoldable pub leaves : List StructDef → TypedInit → Leaves
leaves defs = fold-TypedInit Leaves (leaves_step defs)

abbrev pub is_given : Given → Bool
is_given Missing = false
is_given _ = true

-- those that something gives
abbrev pub given_leaves : List Leaf → List Leaf
given_leaves [] = []
given_leaves (l ∷ ls) = if is_given l.given then l ∷ given_leaves ls else given_leaves ls

-- ---- the code of a leaf

-- V, converted; a byte is a `char`; what nothing gives is the number 0
abbrev pub leaf_value : Scope → Ty → Given → Code
leaf_value scope t (ByExpr e) = converted_code scope e t
leaf_value scope t (ByByte n) = number (pos n)
leaf_value scope t Missing = converted ty.Int t (number (pos 0))

-- a struct that an expression gives
abbrev pub struct_leaf : Scope → Lvalue → Given → Code
struct_leaf scope x (ByExpr e) = struct_assigned (scalars scope.structs x.ty) x (part scope e).lvalue
struct_leaf scope x g = assigned x (leaf_value scope x.ty g)

-- as an assignment to this lvalue
abbrev pub leaf_assigned : Scope → Lvalue → Given → Code
leaf_assigned scope x g = if is_struct x.ty then struct_leaf scope x g else assigned x (leaf_value scope x.ty g)

-- a part of a variable of this type and address
abbrev pub part_lvalue : Ty → Code → Ty → Lvalue
part_lvalue root a t = record { ty = t; root = root; address = a; is_member = false }

-- A part that braces or a string give: the variable's address; PtrConst with the part's offset, also where it is 0.
abbrev pub leaf_code : Scope → Ty → Code → Leaf → Code
leaf_code scope root a l =
    leaf_assigned scope (part_lvalue root (member_address l.offset a) l.ty) l.given

abbrev pub leaf_codes : Scope → Ty → Code → List Leaf → List Code
leaf_codes scope root a ls = map (leaf_code scope root a) ls

-- ---- the code of an initialiser

-- a whole variable that an expression gives has no PtrConst
abbrev pub initialised_at : Scope → Ty → Code → List Leaf → TypedInit-F TypedInit → List Code
initialised_at scope t a ls (TypedInit-F.Expr e) = leaf_assigned scope (part_lvalue t a t) (ByExpr e) ∷ []
initialised_at scope t a ls _ = leaf_codes scope t a ls

-- The full expressions of an initialiser of a variable of this type and address, one per leaf.
-- local initialiser | per leaf in order, as an assignment; with braces or a string every scalar part, 0 where none is
-- given
abbrev pub initialised : Scope → Ty → Code → TypedInit → List Code
initialised scope t a i = initialised_at scope t a (leaves scope.structs i t 0) (out-TypedInit i)

-- entry function | per given leaf
abbrev pub given_initialised : Scope → Ty → Code → TypedInit → List Code
given_initialised scope t a i =
    initialised_at scope t a (given_leaves (leaves scope.structs i t 0)) (out-TypedInit i)
