-- Sources each of whose types passes a test.
use Rattle.std.specs.Prelude.{Bool, IsTrue, Option, Some, None}
use Rattle.std.specs.List.{AllByRecursion}
use Rattle.c_types.specs.declared.ty.Ty.{Ty}
use Rattle.c_typed.specs.declared.expression.Declared.{Declared, every-Declared}
use Rattle.c_typed.specs.declared.expression.TypedAbstractDeclarator.{TypedAbstractDeclarator}
use Rattle.c_typed.specs.declared.expression.TypedDeclarator.{TypedDeclarator}
use Rattle.c_typed.specs.declared.expression.TypedDirect.{TypedDirect}
use Rattle.c_typed.specs.declared.expression.TypedDirect.TheOpen.{Declared-F, TypedExpr-F, TypedParam-F, TypedTypeWord-F}
use Rattle.c_typed.specs.declared.expression.TypedExpr.{TypedExpr, every-TypedExpr}
use Rattle.c_typed.specs.declared.expression.TypedForm.{TypedForm}
use Rattle.c_typed.specs.declared.expression.TypedMemberDecl.{TypedMemberDecl}
use Rattle.c_typed.specs.declared.expression.TypedParam.{TypedParam}
use Rattle.c_typed.specs.declared.expression.TypedParams.{TypedParams}
use Rattle.c_typed.specs.declared.expression.TypedSpec.{TypedSpec, every-TypedSpec}
use Rattle.c_typed.specs.declared.expression.TypedSuffix.{TypedSuffix}
use Rattle.c_typed.specs.declared.expression.TypedTypeWord.{TypedTypeWord}
use Rattle.c_typed.specs.declared.statement.TypedBlock.{TypedBlock, every-TypedBlock}
use Rattle.c_typed.specs.declared.statement.TypedBlockItem.{TypedBlockItem}
use Rattle.c_typed.specs.declared.statement.TypedBlockItem.TheOpen.{TypedBlockItem-F, TypedForLoop-F, TypedStmt-F}
use Rattle.c_typed.specs.declared.statement.TypedDecl.{TypedDecl}
use Rattle.c_typed.specs.declared.statement.TypedForInit.{TypedForInit}
use Rattle.c_typed.specs.declared.statement.TypedForInit.TheVariants as for_init
use Rattle.c_typed.specs.declared.statement.TypedForLoop.{TypedForLoop}
use Rattle.c_typed.specs.declared.statement.TypedFullExpr.{TypedFullExpr}
use Rattle.c_typed.specs.declared.statement.TypedInit.{TypedInit, every-TypedInit}
use Rattle.c_typed.specs.declared.statement.TypedInit.TheOpen.{TypedInit-F}
use Rattle.c_typed.specs.declared.statement.TypedInitDeclarator.{TypedInitDeclarator}
use Rattle.c_typed.specs.declared.statement.TypedStmt.{TypedStmt}
use Rattle.c_typed.specs.declared.unit.Typed.{Typed}
use Rattle.c_typed.specs.declared.unit.TypedFn.{TypedFn}
use Rattle.c_typed.specs.declared.unit.TypedItem.{TypedItem}
use Rattle.c_typed.specs.declared.unit.TypedItem.TheVariants as item

module _ (fits : Ty → Bool) where
  -- a layer of a tree, with trees in place of its parts
  abbrev pub Layer : ((A B C D E F G H I J K L : Type 0) → Type 0) → Type 0
  Layer F = F TypedDirect TypedForm TypedParam TypedParams TypedSpec TypedSuffix Declared TypedAbstractDeclarator TypedDeclarator TypedExpr
      TypedMemberDecl TypedTypeWord

  -- a named parameter's type is that of its declared name
  abbrev pub ParamLevel : Layer TypedParam-F → Type 0
  ParamLevel (TypedParam-F.Named s d) = Unit {0}
  ParamLevel (TypedParam-F.Unnamed s a t) = IsTrue (fits t)

  abbrev pub DeclaredLevel : Layer Declared-F → Type 0
  DeclaredLevel d = IsTrue (fits d.ty)

  abbrev pub ExprLevel : Layer TypedExpr-F → Type 0
  ExprLevel e = IsTrue (fits e.ty)

  abbrev pub TypeWordLevel : Layer TypedTypeWord-F → Type 0
  TypeWordLevel w = IsTrue (fits w.ty)

  -- the type of each expression in it, of each type word, and of each name that these declare
  unfoldable pub ExprTypes : TypedExpr → Type 0
  ExprTypes = every-TypedExpr (λ _. Unit {0}) (λ _. Unit {0}) ParamLevel (λ _. Unit {0}) (λ _. Unit {0}) (λ _. Unit {0})
      DeclaredLevel (λ _. Unit {0}) (λ _. Unit {0}) ExprLevel (λ _. Unit {0}) TypeWordLevel

  -- the types of members, and in bounds
  unfoldable pub SpecTypes : TypedSpec → Type 0
  SpecTypes = every-TypedSpec (λ _. Unit {0}) (λ _. Unit {0}) ParamLevel (λ _. Unit {0}) (λ _. Unit {0}) (λ _. Unit {0})
      DeclaredLevel (λ _. Unit {0}) (λ _. Unit {0}) ExprLevel (λ _. Unit {0}) TypeWordLevel

  -- the type of the name, and those of parameters and in bounds
  unfoldable pub DeclaredTypes : Declared → Type 0
  DeclaredTypes = every-Declared (λ _. Unit {0}) (λ _. Unit {0}) ParamLevel (λ _. Unit {0}) (λ _. Unit {0}) (λ _. Unit {0})
      DeclaredLevel (λ _. Unit {0}) (λ _. Unit {0}) ExprLevel (λ _. Unit {0}) TypeWordLevel

  -- ---- declarations

  abbrev pub InitLevel : TypedInit-F TypedInit → Type 0
  InitLevel (TypedInit-F.Expr x) = ExprTypes x
  InitLevel _ = Unit {0}

  abbrev pub OptionalInitTypes : Option TypedInit → Type 0
  OptionalInitTypes None = Unit {0}
  OptionalInitTypes (Some i) = every-TypedInit InitLevel i

  pub record InitDeclaratorTypes (d : TypedInitDeclarator) : Type 0 where
    pub declared : DeclaredTypes d.declared
    pub init : OptionalInitTypes d.init

  pub record DeclTypes (d : TypedDecl) : Type 0 where
    pub spec : SpecTypes d.spec
    pub declarators : AllByRecursion InitDeclaratorTypes d.declarators

  -- ---- statements

  abbrev pub FullTypes : TypedFullExpr → Type 0
  FullTypes x = ExprTypes x.expr

  abbrev pub OptionalTypes : Option TypedFullExpr → Type 0
  OptionalTypes None = Unit {0}
  OptionalTypes (Some x) = FullTypes x

  abbrev pub StmtLevel : TypedStmt-F TypedBlockItem TypedStmt TypedBlock TypedForLoop → Type 0
  StmtLevel (TypedStmt-F.If c s o) = FullTypes c
  StmtLevel (TypedStmt-F.While c s) = FullTypes c
  StmtLevel (TypedStmt-F.Do s c) = FullTypes c
  StmtLevel (TypedStmt-F.Return x) = OptionalTypes x
  StmtLevel (TypedStmt-F.Expr x) = OptionalTypes x
  StmtLevel _ = Unit {0}

  abbrev pub ForInitTypes : TypedForInit → Type 0
  ForInitTypes (for_init.Decl d) = DeclTypes d
  ForInitTypes (for_init.Expr x) = OptionalTypes x

  pub record ForLevel (f : TypedForLoop-F TypedBlockItem TypedStmt TypedBlock TypedForLoop) : Type 0 where
    pub init : ForInitTypes f.init
    pub condition : OptionalTypes f.condition
    pub step : OptionalTypes f.step

  abbrev pub BlockItemLevel : TypedBlockItem-F TypedBlockItem TypedStmt TypedBlock TypedForLoop → Type 0
  BlockItemLevel (TypedBlockItem-F.Decl d) = DeclTypes d
  BlockItemLevel (TypedBlockItem-F.Stmt s) = Unit {0}

  unfoldable pub BlockTypes : TypedBlock → Type 0
  BlockTypes = every-TypedBlock BlockItemLevel StmtLevel (λ _. Unit {0}) ForLevel

  -- ---- sources

  pub record FunctionTypes (f : TypedFn) : Type 0 where
    pub spec : SpecTypes f.spec
    pub declared : DeclaredTypes f.declared
    pub locals : AllByRecursion (λ l. IsTrue (fits l.ty)) f.locals
    pub block : BlockTypes f.block

  abbrev pub ItemTypes : TypedItem → Type 0
  ItemTypes (item.Decl d) = DeclTypes d
  ItemTypes (item.Typedef s ds) = SpecTypes s × AllByRecursion DeclaredTypes ds
  ItemTypes (item.Function f) = FunctionTypes f

  -- each type that stands in a source
  abbrev pub SourceTypes : Typed → Type 0
  SourceTypes t = AllByRecursion ItemTypes t.items
