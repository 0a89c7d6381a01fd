-- A source without its types: what typing was given.
use Rattle.std.specs.Prelude.{List, map, Option, Some, None}
use Rattle.std.specs.Option.{option_map}
use Rattle.c_tree.specs.declared.expression.AbstractDeclarator.{AbstractDeclarator, roll-AbstractDeclarator}
use Rattle.c_tree.specs.declared.expression.Declarator.{Declarator, roll-Declarator}
use Rattle.c_tree.specs.declared.expression.Direct.{Direct}
use Rattle.c_tree.specs.declared.expression.Direct.TheVariants as direct
use Rattle.c_tree.specs.declared.expression.Expr.{Expr}
use Rattle.c_tree.specs.declared.expression.Expr.TheVariants as expr
use Rattle.c_tree.specs.declared.expression.MemberDecl.{MemberDecl, roll-MemberDecl}
use Rattle.c_tree.specs.declared.expression.Param.{Param}
use Rattle.c_tree.specs.declared.expression.Param.TheVariants as param
use Rattle.c_tree.specs.declared.expression.Params.{Params}
use Rattle.c_tree.specs.declared.expression.Params.TheVariants as params
use Rattle.c_tree.specs.declared.expression.Spec.{Spec}
use Rattle.c_tree.specs.declared.expression.Spec.TheVariants as spec
use Rattle.c_tree.specs.declared.expression.Suffix.{Suffix}
use Rattle.c_tree.specs.declared.expression.Suffix.TheVariants as suffix
use Rattle.c_tree.specs.declared.expression.TypeWord.{TypeWord, roll-TypeWord}
use Rattle.c_tree.specs.declared.statement.Block.{Block, roll-Block}
use Rattle.c_tree.specs.declared.statement.BlockItem.{BlockItem}
use Rattle.c_tree.specs.declared.statement.BlockItem.TheVariants as block_item
use Rattle.c_tree.specs.declared.statement.Decl.{Decl}
use Rattle.c_tree.specs.declared.statement.ForInit.{ForInit}
use Rattle.c_tree.specs.declared.statement.ForInit.TheVariants as for_init
use Rattle.c_tree.specs.declared.statement.ForLoop.{ForLoop, roll-ForLoop}
use Rattle.c_tree.specs.declared.statement.FullExpr.{FullExpr}
use Rattle.c_tree.specs.declared.statement.Init.{Init}
use Rattle.c_tree.specs.declared.statement.Init.TheVariants as init
use Rattle.c_tree.specs.declared.statement.InitDeclarator.{InitDeclarator}
use Rattle.c_tree.specs.declared.statement.Item.{Item}
use Rattle.c_tree.specs.declared.statement.Item.TheVariants as item
use Rattle.c_tree.specs.declared.statement.Stmt.{Stmt}
use Rattle.c_tree.specs.declared.statement.Stmt.TheVariants as stmt
use Rattle.c_tree.specs.declared.statement.Unit.{Unit as Source}
use Rattle.c_typed.specs.declared.expression.Declared.{Declared, fold-Declared}
use Rattle.c_typed.specs.declared.expression.TypedDirect.TheOpen.{Declared-F, TypedAbstractDeclarator-F, TypedDeclarator-F, TypedDirect-F, TypedExpr-F, TypedForm-F, TypedMemberDecl-F, TypedParam-F, TypedParams-F, TypedSpec-F, TypedSuffix-F, TypedTypeWord-F}
use Rattle.c_typed.specs.declared.expression.TypedExpr.{TypedExpr, fold-TypedExpr}
use Rattle.c_typed.specs.declared.expression.TypedSpec.{TypedSpec, fold-TypedSpec}
use Rattle.c_typed.specs.declared.statement.TypedBlock.{TypedBlock, fold-TypedBlock}
use Rattle.c_typed.specs.declared.statement.TypedBlockItem.TheOpen.{TypedBlockItem-F, TypedStmt-F, TypedBlock-F, TypedForLoop-F}
use Rattle.c_typed.specs.declared.statement.TypedDecl.{TypedDecl}
use Rattle.c_typed.specs.declared.statement.TypedForInit.{TypedForInit}
use Rattle.c_typed.specs.declared.statement.TypedForInit.TheVariants as typed_init
use Rattle.c_typed.specs.declared.statement.TypedFullExpr.{TypedFullExpr}
use Rattle.c_typed.specs.declared.statement.TypedInit.{TypedInit, fold-TypedInit}
use Rattle.c_typed.specs.declared.statement.TypedInit.TheOpen.{TypedInit-F}
use Rattle.c_typed.specs.declared.statement.TypedInitDeclarator.{TypedInitDeclarator}
use Rattle.c_typed.specs.declared.unit.Typed.{Typed}
use Rattle.c_typed.specs.declared.unit.TypedFn.{TypedFn}
use Rattle.c_typed.specs.declared.unit.TypedItem.{TypedItem}
use Rattle.c_typed.specs.declared.unit.TypedItem.TheVariants as typed_item

-- ---- expressions, specs and declarators

-- a node, where what is erased stands in place of its parts; a declared name is its declarator
abbrev pub ErasedNode : ((A B C D E F G H I J K L : Type 0) → Type 0) → Type 0
ErasedNode F = F Direct Expr Param Params Spec Suffix Declarator AbstractDeclarator Declarator Expr MemberDecl TypeWord

abbrev pub erased_form : ErasedNode TypedForm-F → Expr
erased_form (TypedForm-F.Assign a o b) = expr.Assign a o b
erased_form (TypedForm-F.Conditional c a b) = expr.Conditional c a b
erased_form (TypedForm-F.Binary a o b) = expr.Binary a o b
erased_form (TypedForm-F.Cast t a) = expr.Cast t a
erased_form (TypedForm-F.PreIncrement a) = expr.PreIncrement a
erased_form (TypedForm-F.PreDecrement a) = expr.PreDecrement a
erased_form (TypedForm-F.Unary o a) = expr.Unary o a
erased_form (TypedForm-F.SizeofExpr a) = expr.SizeofExpr a
erased_form (TypedForm-F.SizeofType t) = expr.SizeofType t
erased_form (TypedForm-F.Index a i) = expr.Index a i
erased_form (TypedForm-F.Call f arguments) = expr.Call f arguments
erased_form (TypedForm-F.Member a x n) = expr.Member a x
erased_form (TypedForm-F.Arrow a x n) = expr.Arrow a x
erased_form (TypedForm-F.PostIncrement a) = expr.PostIncrement a
erased_form (TypedForm-F.PostDecrement a) = expr.PostDecrement a
erased_form (TypedForm-F.Identifier x e) = expr.Identifier x
erased_form (TypedForm-F.Number n) = expr.Number n
erased_form (TypedForm-F.Text bytes n) = expr.Text bytes

abbrev pub erased_direct : ErasedNode TypedDirect-F → Direct
erased_direct (TypedDirect-F.Name x) = direct.Name x
erased_direct (TypedDirect-F.Bracketed d) = direct.Bracketed d

abbrev pub erased_param : ErasedNode TypedParam-F → Param
erased_param (TypedParam-F.Named s d) = param.Named s d
erased_param (TypedParam-F.Unnamed s a t) = param.Unnamed s a

abbrev pub erased_params : ErasedNode TypedParams-F → Params
erased_params TypedParams-F.Nothing = params.Nothing
erased_params TypedParams-F.VoidAlone = params.VoidAlone
erased_params (TypedParams-F.List ps) = params.List ps

abbrev pub erased_spec_node : ErasedNode TypedSpec-F → Spec
erased_spec_node TypedSpec-F.Int = spec.Int
erased_spec_node TypedSpec-F.Char = spec.Char
erased_spec_node TypedSpec-F.Void = spec.Void
erased_spec_node (TypedSpec-F.TypeName x) = spec.TypeName x
erased_spec_node (TypedSpec-F.Struct x members) = spec.Struct x members

abbrev pub erased_suffix : ErasedNode TypedSuffix-F → Suffix
erased_suffix (TypedSuffix-F.Array bound) = suffix.Array bound
erased_suffix (TypedSuffix-F.Function p) = suffix.Function p

abbrev pub erased_abstract : ErasedNode TypedAbstractDeclarator-F → AbstractDeclarator
erased_abstract a = roll-AbstractDeclarator (record { stars = a.stars; bracketed = a.bracketed; suffixes = a.suffixes })

abbrev pub erased_declarator : ErasedNode TypedDeclarator-F → Declarator
erased_declarator d = roll-Declarator (record { stars = d.stars; direct = d.direct; suffixes = d.suffixes })

abbrev pub erased_member : ErasedNode TypedMemberDecl-F → MemberDecl
erased_member m = roll-MemberDecl (record { spec = m.spec; declarators = m.declarators })

abbrev pub erased_type_word : ErasedNode TypedTypeWord-F → TypeWord
erased_type_word t = roll-TypeWord (record { spec = t.spec; declarator = t.declarator })

abbrev pub erased_declared_node : ErasedNode Declared-F → Declarator
erased_declared_node d = d.declarator

abbrev pub erased_expr_node : ErasedNode TypedExpr-F → Expr
erased_expr_node e = e.form

unfoldable pub erased_expr : TypedExpr → Expr
erased_expr = fold-TypedExpr _ _ _ _ _ _ _ _ _ _ _ _
    erased_direct erased_form erased_param erased_params erased_spec_node erased_suffix
    erased_declared_node erased_abstract erased_declarator erased_expr_node erased_member erased_type_word

unfoldable pub erased_spec : TypedSpec → Spec
erased_spec = fold-TypedSpec _ _ _ _ _ _ _ _ _ _ _ _
    erased_direct erased_form erased_param erased_params erased_spec_node erased_suffix
    erased_declared_node erased_abstract erased_declarator erased_expr_node erased_member erased_type_word

unfoldable pub erased_declared : Declared → Declarator
erased_declared = fold-Declared _ _ _ _ _ _ _ _ _ _ _ _
    erased_direct erased_form erased_param erased_params erased_spec_node erased_suffix
    erased_declared_node erased_abstract erased_declarator erased_expr_node erased_member erased_type_word

-- ---- declarations and statements

abbrev pub erased_init_node : TypedInit-F Init → Init
erased_init_node (TypedInit-F.Expr e) = init.Expr (erased_expr e)
erased_init_node (TypedInit-F.Text bytes) = init.Expr (expr.Text bytes)
erased_init_node (TypedInit-F.Braces parts) = init.Braces parts

unfoldable pub erased_init : TypedInit → Init
erased_init = fold-TypedInit Init erased_init_node

unfoldable pub erased_init_declarator : TypedInitDeclarator → InitDeclarator
erased_init_declarator d = record { declarator = erased_declared d.declared; init = option_map erased_init d.init }

unfoldable pub erased_decl : TypedDecl → Decl
erased_decl d = record { spec = erased_spec d.spec; declarators = map erased_init_declarator d.declarators }

unfoldable pub erased_full : TypedFullExpr → FullExpr
erased_full e = record { expr = erased_expr e.expr }

unfoldable pub erased_for_init : TypedForInit → ForInit
erased_for_init (typed_init.Decl d) = for_init.Decl (erased_decl d)
erased_for_init (typed_init.Expr e) = for_init.Expr (option_map erased_full e)

abbrev pub ErasedStmt : ((A B C D : Type 0) → Type 0) → Type 0
ErasedStmt F = F BlockItem Stmt Block ForLoop

abbrev pub erased_block_item : ErasedStmt TypedBlockItem-F → BlockItem
erased_block_item (TypedBlockItem-F.Decl d) = block_item.Decl (erased_decl d)
erased_block_item (TypedBlockItem-F.Stmt s) = block_item.Stmt s

abbrev pub erased_stmt : ErasedStmt TypedStmt-F → Stmt
erased_stmt (TypedStmt-F.Block b) = stmt.Block b
erased_stmt (TypedStmt-F.If c s o) = stmt.If (erased_full c) s o
erased_stmt (TypedStmt-F.While c s) = stmt.While (erased_full c) s
erased_stmt (TypedStmt-F.Do s c) = stmt.Do s (erased_full c)
erased_stmt (TypedStmt-F.For f) = stmt.For f
erased_stmt TypedStmt-F.Break = stmt.Break
erased_stmt TypedStmt-F.Continue = stmt.Continue
erased_stmt (TypedStmt-F.Return e) = stmt.Return (option_map erased_full e)
erased_stmt (TypedStmt-F.Expr e) = stmt.Expr (option_map erased_full e)

abbrev pub erased_block_node : ErasedStmt TypedBlock-F → Block
erased_block_node b = roll-Block (record { items = b.items })

abbrev pub erased_for_loop : ErasedStmt TypedForLoop-F → ForLoop
erased_for_loop f = roll-ForLoop (record { init = erased_for_init f.init; condition = option_map erased_full f.condition; step = option_map erased_full f.step; body = f.body })

unfoldable pub erased_block : TypedBlock → Block
erased_block = fold-TypedBlock _ _ _ _ erased_block_item erased_stmt erased_block_node erased_for_loop

-- ---- items and sources

unfoldable pub erased_item : TypedItem → Item
erased_item (typed_item.Decl d) = item.Decl (erased_decl d)
erased_item (typed_item.Typedef s ds) = item.Typedef (erased_spec s) (map erased_declared ds)
erased_item (typed_item.Function f) = item.Function (erased_spec f.spec) (erased_declared f.declared) (erased_block f.block)

unfoldable pub erased : Typed → Source
erased t = record { items = map erased_item t.items }
