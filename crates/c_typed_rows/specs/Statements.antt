-- What each form of a statement and of a declaration meets.
use Rattle.std.specs.Prelude.{◌≡◌, Bool, true, false, not, ◌||◌, IsTrue, Option, Some, None}
use Rattle.std.specs.List.{AllByRecursion, list_any}
use Rattle.c_types.specs.declared.ty.FnTy.{FnTy}
use Rattle.c_types.specs.declared.ty.Ty.{Ty}
use Rattle.c_types.specs.declared.ty.Ty.TheVariants as ty
use Rattle.c_types.specs.Kinds.{is_void}
use Rattle.c_types.specs.Units.{has_units}
use Rattle.c_typed.specs.declared.entity.Entity.{Entity}
use Rattle.c_typed.specs.declared.entity.Entity.TheVariants as entity
use Rattle.c_typed.specs.declared.expression.Declared.{out-Declared}
use Rattle.c_typed.specs.declared.statement.TypedBlock.{TypedBlock, every-TypedBlock, fold-TypedBlock}
use Rattle.c_typed.specs.declared.statement.TypedBlockItem.{TypedBlockItem}
use Rattle.c_typed.specs.declared.statement.TypedBlockItem.TheOpen.{TypedBlock-F, TypedBlockItem-F, TypedStmt-F, TypedForLoop-F}
use Rattle.c_typed.specs.declared.statement.TypedDecl.{TypedDecl}
use Rattle.c_typed.specs.declared.statement.TypedForInit.{TypedForInit}
use Rattle.c_typed.specs.declared.statement.TypedForInit.TheVariants as for_init
use Rattle.c_typed.specs.declared.statement.TypedForLoop.{TypedForLoop}
use Rattle.c_typed.specs.declared.statement.TypedFullExpr.{TypedFullExpr}
use Rattle.c_typed.specs.declared.statement.TypedInit.{TypedInit}
use Rattle.c_typed.specs.declared.statement.TypedInitDeclarator.{TypedInitDeclarator}
use Rattle.c_typed.specs.declared.statement.TypedStmt.{TypedStmt}
use Rattle.c_operators.specs.Operators.{converts, is_scalar_value}
use Rattle.c_typed_rows.specs.Contexts.{Context, global_type, local_type}
use Rattle.c_typed_rows.specs.Expressions.{IsTypedDeclared, IsTypedSpec, IsTypedValue}
use Rattle.c_typed_rows.specs.Initialisers.{IsTypedInit}

-- ---- declarations

abbrev pub IfInit : (TypedInit → Type 0) → Option TypedInit → Type 0
IfInit Q None = Unit {0}
IfInit Q (Some i) = Q i

-- a variable has units, and takes its initialiser
pub record VariableRow (k : Context) (t : Ty) (i : Option TypedInit) : Type 0 where
  pub units : IsTrue (has_units k.structs t)
  pub init : IfInit (IsTypedInit k t) i

-- a variable is the one of its number; a function, and a built-in that is declared again, has the type of one
abbrev pub DeclaredRow : Context → Entity → Ty → Option TypedInit → Type 0
DeclaredRow k (entity.Global n) t i = (global_type k n ≡ Some t) × VariableRow k t i
DeclaredRow k (entity.Local n) t i = (local_type k n ≡ Some t) × VariableRow k t i
DeclaredRow k entity.Parameter t i = ⊥
DeclaredRow k entity.Function t i = (f : FnTy) × (t ≡ ty.Function f)
DeclaredRow k (entity.BuiltIn b) t i = (f : FnTy) × (t ≡ ty.Function f)

pub record IsTypedInitDeclarator (k : Context) (d : TypedInitDeclarator) : Type 0 where
  pub bounds : IsTypedDeclared k d.declared
  pub row : DeclaredRow k d.entity (out-Declared d.declared).ty d.init

pub record IsTypedDecl (k : Context) (d : TypedDecl) : Type 0 where
  pub spec : IsTypedSpec k d.spec
  pub declarators : AllByRecursion (IsTypedInitDeclarator k) d.declarators

-- ---- expressions of statements

abbrev pub IfFull : (TypedFullExpr → Type 0) → Option TypedFullExpr → Type 0
IfFull Q None = Unit {0}
IfFull Q (Some x) = Q x

abbrev pub IsTypedFull : Context → TypedFullExpr → Type 0
IsTypedFull k x = IsTypedValue k x.expr

-- a condition is a scalar
pub record IsTypedCondition (k : Context) (x : TypedFullExpr) : Type 0 where
  pub typed : IsTypedFull k x
  pub scalar : IsTrue (is_scalar_value x.expr)

-- a value, exactly where the function has a result, which converts to it
pub record IsTypedReturn (k : Context) (x : TypedFullExpr) : Type 0 where
  pub typed : IsTypedFull k x
  pub result : IsTrue (not (is_void k.result))
  pub converts : IsTrue (converts x.expr k.result)

abbrev pub ReturnRow : Context → Option TypedFullExpr → Type 0
ReturnRow k None = IsTrue (is_void k.result)
ReturnRow k (Some x) = IsTypedReturn k x

-- ---- statements

abbrev pub StmtLevel : Context → TypedStmt-F TypedBlockItem TypedStmt TypedBlock TypedForLoop → Type 0
StmtLevel k (TypedStmt-F.If c s o) = IsTypedCondition k c
StmtLevel k (TypedStmt-F.While c s) = IsTypedCondition k c
StmtLevel k (TypedStmt-F.Do s c) = IsTypedCondition k c
StmtLevel k (TypedStmt-F.Return x) = ReturnRow k x
StmtLevel k (TypedStmt-F.Expr x) = IfFull (IsTypedFull k) x
StmtLevel k _ = Unit {0}

abbrev pub IsTypedForInit : Context → TypedForInit → Type 0
IsTypedForInit k (for_init.Decl d) = IsTypedDecl k d
IsTypedForInit k (for_init.Expr x) = IfFull (IsTypedFull k) x

pub record ForLevel (k : Context) (f : TypedForLoop-F TypedBlockItem TypedStmt TypedBlock TypedForLoop) : Type 0 where
  pub init : IsTypedForInit k f.init
  pub condition : IfFull (IsTypedCondition k) f.condition
  pub step : IfFull (IsTypedFull k) f.step

abbrev pub BlockItemLevel : Context → TypedBlockItem-F TypedBlockItem TypedStmt TypedBlock TypedForLoop → Type 0
BlockItemLevel k (TypedBlockItem-F.Decl d) = IsTypedDecl k d
BlockItemLevel k (TypedBlockItem-F.Stmt s) = Unit {0}

-- ---- jumps

-- whether a `break` or `continue` of a statement stands outside each loop of it
abbrev pub stmt_jumps : TypedStmt-F Bool Bool Bool Bool → Bool
stmt_jumps (TypedStmt-F.Block b) = b
stmt_jumps (TypedStmt-F.If c s None) = s
stmt_jumps (TypedStmt-F.If c s (Some o)) = s || o
stmt_jumps TypedStmt-F.Break = true
stmt_jumps TypedStmt-F.Continue = true
stmt_jumps _ = false

abbrev pub block_item_jumps : TypedBlockItem-F Bool Bool Bool Bool → Bool
block_item_jumps (TypedBlockItem-F.Decl d) = false
block_item_jumps (TypedBlockItem-F.Stmt s) = s

abbrev pub block_jumps : TypedBlock-F Bool Bool Bool Bool → Bool
block_jumps b = list_any (λ jumps. jumps) b.items

-- the same of a block
unfoldable pub jumps_out : TypedBlock → Bool
jumps_out = fold-TypedBlock Bool Bool Bool Bool block_item_jumps stmt_jumps block_jumps (λ f. false)

-- ---- blocks

-- a block whose every statement and declaration meets its row
unfoldable pub IsTypedBlock : Context → TypedBlock → Type 0
IsTypedBlock k = every-TypedBlock (BlockItemLevel k) (StmtLevel k) (λ _. Unit {0}) (ForLevel k)
