-- What holds of a typed source.
use Rattle.std.specs.Prelude.{◌≡◌, ℕ, suc, Bool, true, not, ◌&&◌, ◌||◌, codes, IsTrue, List, [], ◌∷◌, ◌++◌}
use Rattle.std.specs.Prelude.{length, map, Some, is_none, take}
use Rattle.std.specs.List.{AllByRecursion, list_all}
use Rattle.std.specs.Option.{unwrap_or}
use Rattle.c_types.specs.declared.ty.FnTy.{FnTy, out-FnTy, roll-FnTy}
use Rattle.c_types.specs.declared.ty.Ty.{Ty}
use Rattle.c_types.specs.declared.ty.Ty.TheVariants as ty
use Rattle.c_types.specs.Kinds.{function_of, is_scalar, is_void}
use Rattle.c_types.specs.Units.{has_units}
use Rattle.c_typed.specs.declared.entity.Entity.{Entity}
use Rattle.c_typed.specs.declared.entity.Entity.TheVariants as entity
use Rattle.c_typed.specs.declared.expression.Declared.{Declared, fold-Declared, out-Declared}
use Rattle.c_typed.specs.declared.expression.TypedDirect.TheOpen.{TypedDirect-F}
use Rattle.c_typed.specs.declared.statement.TypedInitDeclarator.{TypedInitDeclarator}
use Rattle.c_typed.specs.declared.unit.Typed.{Typed}
use Rattle.c_typed.specs.declared.unit.TypedFn.{TypedFn}
use Rattle.c_typed.specs.declared.unit.TypedItem.{TypedItem}
use Rattle.c_typed.specs.declared.unit.TypedItem.TheVariants as item
use Rattle.c_scope.specs.Definitions.{is_main_type}
use Rattle.c_typed_rows.specs.Contexts.{Context, Name, Signature, defined_as}
use Rattle.c_typed_rows.specs.Expressions.{IsTypedDeclared, IsTypedSpec}
use Rattle.c_typed_rows.specs.Statements.{IsTypedBlock, IsTypedDecl, jumps_out}

-- ---- what a source defines

-- a direct declarator, with the names of the declarators in it
abbrev pub DirectNames : Type 0
DirectNames = TypedDirect-F Name (Unit {0}) (Unit {0}) (Unit {0}) (Unit {0}) (Unit {0}) Name (Unit {0}) Name
    (Unit {0}) (Unit {0}) (Unit {0})

abbrev pub direct_name : DirectNames → Name
direct_name (TypedDirect-F.Name x) = x
direct_name (TypedDirect-F.Bracketed inside) = inside

-- the name that a declarator declares
unfoldable pub name_of : Declared → Name
name_of = fold-Declared _ _ _ _ _ _ _ _ _ _ _ _ direct_name (λ _. tt) (λ _. tt) (λ _. tt) (λ _. tt) (λ _. tt)
    (λ d. d.declarator) (λ _. tt) (λ d. d.direct) (λ _. tt) (λ _. tt) (λ _. tt)

abbrev pub no_type : FnTy
no_type = roll-FnTy (record { result = ty.Void; params = [] })

-- the type of a definition
abbrev pub type_of : TypedFn → FnTy
type_of f = unwrap_or (function_of (out-Declared f.declared).ty) no_type

abbrev pub signature : TypedFn → Signature
signature f = record { name = name_of f.declared; ty = type_of f }

-- the functions, in order of their definitions
abbrev pub definitions : List TypedItem → List TypedFn
definitions [] = []
definitions (item.Function f ∷ is) = f ∷ definitions is
definitions (i ∷ is) = definitions is

-- a global variable by its number, with its type
pub record Global : Type 0 where
  pub number : ℕ
  pub ty : Ty

abbrev pub global_by : Entity → Ty → List Global
global_by (entity.Global n) t = record { number = n; ty = t } ∷ []
global_by _ t = []

abbrev pub declared_globals : List TypedInitDeclarator → List Global
declared_globals [] = []
declared_globals (d ∷ ds) = global_by d.entity (out-Declared d.declared).ty ++ declared_globals ds

-- the global variables, in order of declaration
abbrev pub globals : List TypedItem → List Global
globals [] = []
globals (item.Decl d ∷ is) = declared_globals d.declarators ++ globals is
globals (i ∷ is) = globals is

-- ---- contexts

-- what all levels of a source are compared with
unfoldable pub file_context : Typed → Context
file_context t = record {
  structs = t.structs;
  functions = map signature (definitions t.items);
  globals = map (λ g. g.ty) (globals t.items);
  strings = t.strings;
  locals = [];
  result = ty.Void;
}

-- the same in a function
abbrev pub function_context : Context → TypedFn → Context
function_context k f = record k { locals = f.locals; result = (out-FnTy (type_of f)).result }

-- ---- functions and items

-- parameters are scalars, and the result is a scalar or nothing
pub record IsFunctionType (f : FnTy) : Type 0 where
  pub params : IsTrue (list_all is_scalar (out-FnTy f).params)
  pub result : IsTrue (is_scalar (out-FnTy f).result || is_void (out-FnTy f).result)

-- Its locals begin with its parameters, and each has units; each `break` and `continue` stands in a loop.
pub record IsTypedFn (k : Context) (f : TypedFn) : Type 0 where
  pub spec : IsTypedSpec k f.spec
  pub bounds : IsTypedDeclared k f.declared
  pub ty : (out-Declared f.declared).ty ≡ ty.Function (type_of f)
  pub allowed : IsFunctionType (type_of f)
  pub params : take (length (out-FnTy (type_of f)).params) (map (λ l. l.ty) f.locals) ≡ (out-FnTy (type_of f)).params
  pub units : IsTrue (list_all (λ l. has_units k.structs l.ty) f.locals)
  pub block : IsTypedBlock (function_context k f) f.block
  pub jumps : IsTrue (not (jumps_out f.block))

abbrev pub IsTypedItem : Context → TypedItem → Type 0
IsTypedItem k (item.Decl d) = IsTypedDecl k d
IsTypedItem k (item.Typedef s ds) = IsTypedSpec k s × AllByRecursion (IsTypedDeclared k) ds
IsTypedItem k (item.Function f) = IsTypedFn k f

-- ---- sources

-- no two functions have one name
abbrev pub are_distinct : List Signature → Bool
are_distinct [] = true
are_distinct (s ∷ ss) = is_none (defined_as ss s.name) && are_distinct ss

-- numbers in order, from this one on
abbrev pub are_numbered : ℕ → List Global → Type 0
are_numbered n [] = Unit {0}
are_numbered n (g ∷ gs) = (g.number ≡ n) × are_numbered (suc n) gs

-- `main` is defined, as `int main(void)`
pub record HasMain (k : Context) : Type 0 where
  pub ty : FnTy
  pub defined : defined_as k.functions (codes "main") ≡ Some ty
  pub main : IsTrue (is_main_type ty)

-- each level meets its row, functions have distinct names, global variables are numbered in order, and there is `main`
pub record IsTyped (t : Typed) : Type 0 where
  pub items : AllByRecursion (IsTypedItem (file_context t)) t.items
  pub distinct : IsTrue (are_distinct (file_context t).functions)
  pub numbered : are_numbered 0 (globals t.items)
  pub main : HasMain (file_context t)
