-- What the printer writes of statements, items and whole sources, as kinds of tokens.
use Rattle.std.specs.Prelude.{[], ◌∷◌, ◌++◌, map, Option, Some, None}
use Rattle.c_tokens.specs.declared.token.Keyword.TheVariants as word
use Rattle.c_tokens.specs.declared.token.Kind.TheVariants.{Word, Mark}
use Rattle.c_tokens.specs.declared.token.Mark.TheVariants as mark
use Rattle.c_tree.specs.declared.statement.Init.{Init, fold-Init}
use Rattle.c_tree.specs.declared.statement.Init.TheOpen.{Init-F}
use Rattle.c_tree.specs.declared.statement.InitDeclarator.{InitDeclarator}
use Rattle.c_tree.specs.declared.statement.Decl.{Decl}
use Rattle.c_tree.specs.declared.statement.FullExpr.{FullExpr}
use Rattle.c_tree.specs.declared.statement.ForInit.{ForInit}
use Rattle.c_tree.specs.declared.statement.ForInit.TheVariants as for_init
use Rattle.c_tree.specs.declared.statement.ForLoop.{ForLoop}
use Rattle.c_tree.specs.declared.statement.Block.{Block}
use Rattle.c_tree.specs.declared.statement.BlockItem.{BlockItem}
use Rattle.c_tree.specs.declared.statement.BlockItem.TheOpen.{BlockItem-F, Stmt-F, Block-F, ForLoop-F}
use Rattle.c_tree.specs.declared.statement.Stmt.{Stmt}
use Rattle.c_tree.specs.declared.statement.Item.{Item}
use Rattle.c_tree.specs.declared.statement.Item.TheVariants as item
use Rattle.c_tree.specs.declared.statement.Unit.{Unit as Source}
use Rattle.c_tree.specs.Marks.{Kinds, wrapped}
use Rattle.c_tree.specs.FoldStatements.{StatementResults, StatementNode, StatementSteps, fold_statements}
use Rattle.c_tree.specs.Printed.{joined, with_commas, printed_expr, printed_spec, printed_declarator}

-- an initialiser, where what is printed stands in place of each part
abbrev pub init_step : Init-F Kinds → Kinds
init_step (Init-F.Expr e) = printed_expr e
init_step (Init-F.Braces parts) = Mark mark.LeftBrace ∷ with_commas parts ++ Mark mark.RightBrace ∷ []

unfoldable pub printed_init : Init → Kinds
printed_init = fold-Init Kinds init_step

abbrev pub value_kinds : Option Init → Kinds
value_kinds None = []
value_kinds (Some i) = Mark mark.Assign ∷ printed_init i

unfoldable pub printed_init_declarator : InitDeclarator → Kinds
printed_init_declarator d = printed_declarator d.declarator ++ value_kinds d.init

unfoldable pub printed_decl : Decl → Kinds
printed_decl d =
    printed_spec d.spec ++ with_commas (map printed_init_declarator d.declarators) ++ Mark mark.Semicolon ∷ []

-- an expression or nothing
abbrev pub printed_option : Option FullExpr → Kinds
printed_option None = []
printed_option (Some e) = printed_expr e.expr

abbrev pub printed_for_init : ForInit → Kinds
printed_for_init (for_init.Decl d) = printed_decl d
printed_for_init (for_init.Expr o) = printed_option o ++ Mark mark.Semicolon ∷ []

-- One node of a statement or block, where what is printed stands in place of each part.

abbrev pub PrintedStatement : StatementResults
PrintedStatement = record {
  block_item = Kinds;
  stmt = Kinds;
  block = Kinds;
  for_loop = Kinds;
}

abbrev pub condition_kinds : FullExpr → Kinds
condition_kinds c = wrapped 1 (printed_expr c.expr)

abbrev pub else_kinds : Option Kinds → Kinds
else_kinds None = []
else_kinds (Some otherwise) = Word word.Else ∷ otherwise

abbrev pub stmt_step : StatementNode PrintedStatement Stmt-F → Kinds
stmt_step (Stmt-F.Block b) = b
stmt_step (Stmt-F.If c then otherwise) = Word word.If ∷ condition_kinds c ++ then ++ else_kinds otherwise
stmt_step (Stmt-F.While c body) = Word word.While ∷ condition_kinds c ++ body
stmt_step (Stmt-F.Do body c) = Word word.Do ∷ body ++ Word word.While ∷ condition_kinds c ++ Mark mark.Semicolon ∷ []
stmt_step (Stmt-F.For f) = f
stmt_step Stmt-F.Break = Word word.Break ∷ Mark mark.Semicolon ∷ []
stmt_step Stmt-F.Continue = Word word.Continue ∷ Mark mark.Semicolon ∷ []
stmt_step (Stmt-F.Return o) = Word word.Return ∷ printed_option o ++ Mark mark.Semicolon ∷ []
stmt_step (Stmt-F.Expr o) = printed_option o ++ Mark mark.Semicolon ∷ []

-- what stands in front of the statement of a `for`
abbrev pub for_kinds : ForInit → Option FullExpr → Option FullExpr → Kinds
for_kinds init condition step = Word word.For
    ∷ wrapped 1 (printed_for_init init ++ printed_option condition ++ Mark mark.Semicolon ∷ printed_option step)

abbrev pub for_loop_step : StatementNode PrintedStatement ForLoop-F → Kinds
for_loop_step f = for_kinds f.init f.condition f.step ++ f.body

abbrev pub block_item_step : StatementNode PrintedStatement BlockItem-F → Kinds
block_item_step (BlockItem-F.Decl d) = printed_decl d
block_item_step (BlockItem-F.Stmt s) = s

abbrev pub block_step : StatementNode PrintedStatement Block-F → Kinds
block_step b = Mark mark.LeftBrace ∷ joined b.items ++ Mark mark.RightBrace ∷ []

-- ---- whole trees

unfoldable pub printing_statements : StatementSteps PrintedStatement
printing_statements = record {
  block_item = block_item_step;
  stmt = stmt_step;
  block = block_step;
  for_loop = for_loop_step;
}

unfoldable pub printed_stmt : Stmt → Kinds
printed_stmt = (fold_statements printing_statements).stmt

unfoldable pub printed_block_item : BlockItem → Kinds
printed_block_item = (fold_statements printing_statements).block_item

unfoldable pub printed_block : Block → Kinds
printed_block = (fold_statements printing_statements).block

unfoldable pub printed_for_loop : ForLoop → Kinds
printed_for_loop = (fold_statements printing_statements).for_loop

abbrev pub printed_item : Item → Kinds
printed_item (item.Decl d) = printed_decl d
printed_item (item.Typedef s declarators) =
    Word word.Typedef ∷ printed_spec s ++ with_commas (map printed_declarator declarators) ++ Mark mark.Semicolon ∷ []
printed_item (item.Function s d b) = printed_spec s ++ printed_declarator d ++ printed_block b

unfoldable pub printed_source : Source → Kinds
printed_source source = joined (map printed_item source.items)
