-- What holds of the typed forms of sources, and of what each walk finds.
use Rattle.std.specs.Prelude.{◌≡◌, ℕ, Bool, true, false, ◌&&◌, IsTrue, List, [], ◌∷◌, ◌++◌, length, map, Some, Ok}
use Rattle.c_tree.specs.declared.expression.Declarator.{Declarator}
use Rattle.c_tree.specs.declared.expression.Expr.{Expr}
use Rattle.c_tree.specs.declared.expression.MemberDecl.{MemberDecl}
use Rattle.c_tree.specs.declared.statement.Block.{Block}
use Rattle.c_tree.specs.declared.statement.Decl.{Decl}
use Rattle.c_tree.specs.declared.statement.Init.{Init}
use Rattle.c_tree.specs.declared.statement.Unit.{Unit as Source}
use Rattle.c_types.specs.declared.structs.Member.{Member}
use Rattle.c_types.specs.declared.ty.Ty.{Ty}
use Rattle.c_types.specs.Sound.{are_members}
use Rattle.c_typed.specs.declared.expression.TypedExpr.{TypedExpr}
use Rattle.c_typed.specs.declared.expression.TypedMemberDecl.{TypedMemberDecl}
use Rattle.c_typed.specs.declared.expression.TypedSpec.{TypedSpec}
use Rattle.c_typed.specs.declared.statement.TypedBlock.{TypedBlock}
use Rattle.c_typed.specs.declared.statement.TypedDecl.{TypedDecl}
use Rattle.c_typed.specs.declared.statement.TypedInit.{TypedInit}
use Rattle.c_typed.specs.declared.unit.Typed.{Typed}
use Rattle.c_typed.specs.declared.unit.TypedFn.{TypedFn}
use Rattle.c_typed.specs.Erased.{erased}
use Rattle.c_scope.specs.declared.world.World.{World}
use Rattle.c_scope.specs.Declarations.{is_undefined}
use Rattle.c_rules.specs.declared.place.Place.TheVariants.{Value}
use Rattle.c_declarator_rules.specs.Rules.{body_tag}
use Rattle.c_expr_typing.specs.Trees.{members, typed_expr, walked}
use Rattle.c_declaration_typing.specs.Declarations.{typed_decl}
use Rattle.c_typing.specs.Functions.{typed_function}
use Rattle.c_declaration_typing.specs.Initialisers.{typed_init}
use Rattle.c_typing.specs.Statements.{typed_block}
use Rattle.c_typing.specs.Theorems.{HasForm}
use Rattle.c_typed_rows.specs.Contexts.{Context, Name, Signature}
use Rattle.c_typed_rows.specs.Expressions.{IsTypedSpec, IsTypedValue}
use Rattle.c_typed_rows.specs.Initialisers.{IsTypedInit}
use Rattle.c_typed_rows.specs.Sources.{IsTyped, IsTypedFn, are_numbered, declared_globals, signature}
use Rattle.c_typed_rows.specs.Statements.{IsTypedBlock, IsTypedDecl}
use Rattle.c_typing_laws.specs.Worlds.{AreFirst, Below, HaveNoParameter, IsFile, ScopesFit, local_types}

-- ---- erasing

-- the typed form of a source, without its types, is that source
abbrev pub TypedSourcesKeepTheirTrees : Type 0
TypedSourcesKeepTheirTrees = (s : Source) (t : Typed) → HasForm s t → erased t ≡ s

-- ---- rows

-- where a walk begins and ends: global variables of these types are the context's first, names in scope stand for variables
-- that are there, none for a parameter of a declarator, and the context has all that is known behind the walk
pub record Between (k : Context) (before : List Ty) (w new : World) : Type 0 where
  pub first : AreFirst k before
  pub scopes : ScopesFit before (local_types w) w.scopes
  pub no_parameter : HaveNoParameter w.scopes
  pub known : Below k new

-- what a declaration that is an item leaves, behind global variables of these types and these definitions of functions
pub record DeclaresGlobals (before : List Ty) (fs : List Signature) (x : TypedDecl) (new : World) : Type 0 where
  pub file : IsFile (before ++ map (λ g. g.ty) (declared_globals x.declarators)) fs new
  pub numbered : are_numbered (length before) (declared_globals x.declarators)
  pub rows :
      (k : Context)
      → AreFirst k (before ++ map (λ g. g.ty) (declared_globals x.declarators))
      → Below k new
      → IsTypedDecl k x

-- what a definition leaves, behind global variables of these types and these definitions of functions
pub record LeavesFile (before : List Ty) (fs : List Signature) (f : TypedFn) (new : World) : Type 0 where
  pub file : IsFile before (fs ++ signature f ∷ []) new
  pub rows : (k : Context) → AreFirst k before → Below k new → IsTypedSpec k f.spec → IsTypedFn k f

-- the typed form of a source meets all rows, among its own functions, global variables, structs and strings
abbrev pub TypedSourcesAreTyped : Type 0
TypedSourcesAreTyped = (s : Source) (t : Typed) → HasForm s t → IsTyped t

-- ---- bodies of structs

-- where a body may stand and the members break no rule, the test before the struct gets the body holds, so no source breaks a
-- rule by it
abbrev pub StructsGetTheirBodies : Type 0
StructsGetTheirBodies =
    (before : List Ty) (fs : List Signature) (x : Name) (ms : List MemberDecl) (w v new : World) (n : ℕ)
    (body : List TypedMemberDecl × List Member)
    → IsFile before fs w
    → body_tag x true w ≡ Ok (n, v)
    → members (map walked.member ms) [] v ≡ Ok (body, new)
    → IsTrue (is_undefined new.structs n && are_members new.structs body.1)

-- ---- walks

-- what the walk of a tree finds meets the rows of each of its levels, in each context that has what is known
pub record WalksMeetRows : Type 0 where
  pub expression :
      (k : Context) (before : List Ty) (e : Expr) (w new : World) (x : TypedExpr)
      → typed_expr e Value w ≡ Ok (x, new)
      → Between k before w new
      → IsTypedValue k x
  pub initialiser :
      (k : Context) (before : List Ty) (is_global : Bool) (i : Init) (t : Ty) (w new : World) (x : TypedInit)
      → typed_init is_global i (Some t) w ≡ Ok (x, new)
      → Between k before w new
      → IsTypedInit k t x
  -- in a function
  pub declaration :
      (k : Context) (before : List Ty) (d : Decl) (w new : World) (x : TypedDecl)
      → typed_decl false d w ≡ Ok (x, new)
      → Between k before w new
      → IsTypedDecl k x
  pub block :
      (k : Context) (before : List Ty) (b : Block) (in_loop : Bool) (w new : World) (x : TypedBlock)
      → typed_block k.result b in_loop w ≡ Ok (x, new)
      → Between k before w new
      → IsTypedBlock k x
  -- outside functions
  pub global_declaration :
      (before : List Ty) (fs : List Signature) (d : Decl) (w new : World) (x : TypedDecl)
      → typed_decl true d w ≡ Ok (x, new)
      → IsFile before fs w
      → DeclaresGlobals before fs x new
  pub definition :
      (before : List Ty) (fs : List Signature) (s : TypedSpec) (base : Ty) (d : Declarator) (b : Block) (w new : World)
      (f : TypedFn)
      → typed_function s base d b w ≡ Ok (f, new)
      → IsFile before fs w
      → LeavesFile before fs f new
