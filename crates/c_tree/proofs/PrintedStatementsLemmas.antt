-- What is printed of each form of an initialiser, statement and block.
use Rattle.std.proofs.Common.{◌≡◌, ◌∙◌, List, [], ◌∷◌, ◌++◌, map, ap, sym, Option}
use Rattle.std.specs.Option.{option_map}
use Rattle.c_tokens.specs.declared.token.Keyword.TheVariants as word
use Rattle.c_tokens.specs.declared.token.Kind.TheVariants.{Word, Mark}
use Rattle.c_tokens.specs.declared.token.Mark.TheVariants as mark
use Rattle.c_tree.specs.declared.expression.Expr.{Expr}
use Rattle.c_tree.specs.declared.statement.Init.{Init, fold-roll-Init}
use Rattle.c_tree.specs.declared.statement.Init.TheOpen.{Init-F}
use Rattle.c_tree.specs.declared.statement.Init.TheVariants as init
use Rattle.c_tree.specs.declared.statement.Decl.{Decl}
use Rattle.c_tree.specs.declared.statement.ForInit.{ForInit}
use Rattle.c_tree.specs.declared.statement.ForLoop.{ForLoop, out-ForLoop}
use Rattle.c_tree.specs.declared.statement.FullExpr.{FullExpr}
use Rattle.c_tree.specs.declared.statement.Block.{Block, out-Block}
use Rattle.c_tree.specs.declared.statement.BlockItem.{BlockItem}
use Rattle.c_tree.specs.declared.statement.BlockItem.TheVariants as block_item
use Rattle.c_tree.specs.declared.statement.Stmt.{Stmt}
use Rattle.c_tree.specs.declared.statement.Stmt.TheVariants as stmt
use Rattle.c_tree.specs.Trees.{block, for_loop}
use Rattle.c_tree.specs.inner.FoldStatementsEquations as Fold
use Rattle.c_tree.specs.Printed.{joined, with_commas, printed_expr}
use Rattle.c_tree.specs.PrintedStatements.{init_step, printed_init, printed_decl, printed_option, condition_kinds}
use Rattle.c_tree.specs.PrintedStatements.{else_kinds, for_kinds, printing_statements, printed_stmt, printed_block_item}
use Rattle.c_tree.specs.PrintedStatements.{printed_block, printed_for_loop}

pub init-Expr : (e : Expr) → printed_init (init.Expr e) ≡ printed_expr e
unfolding printed_init
init-Expr e = ap printed_init (sym (init.rolls-Expr e)) ∙ fold-roll-Init _ init_step (Init-F.Expr e)

pub init-Braces : (parts : List Init) → printed_init (init.Braces parts)
    ≡ Mark mark.LeftBrace ∷ with_commas (map printed_init parts) ++ Mark mark.RightBrace ∷ []
unfolding printed_init
init-Braces parts = ap printed_init (sym (init.rolls-Braces parts)) ∙ fold-roll-Init _ init_step (Init-F.Braces parts)

pub stmt-Block : (b : Block) → printed_stmt (stmt.Block b) ≡ printed_block b
unfolding printing_statements printed_stmt printed_block
stmt-Block b = Fold.stmt-Block printing_statements b

pub stmt-If : (c : FullExpr) (then : Stmt) (otherwise : Option Stmt) → printed_stmt (stmt.If c then otherwise)
    ≡ Word word.If ∷ condition_kinds c ++ printed_stmt then ++ else_kinds (option_map printed_stmt otherwise)
unfolding printing_statements printed_stmt
stmt-If c then otherwise = Fold.stmt-If printing_statements c then otherwise

pub stmt-While : (c : FullExpr) (body : Stmt) → printed_stmt (stmt.While c body)
    ≡ Word word.While ∷ condition_kinds c ++ printed_stmt body
unfolding printing_statements printed_stmt
stmt-While c body = Fold.stmt-While printing_statements c body

pub stmt-Do : (body : Stmt) (c : FullExpr) → printed_stmt (stmt.Do body c)
    ≡ Word word.Do ∷ printed_stmt body ++ Word word.While ∷ condition_kinds c ++ Mark mark.Semicolon ∷ []
unfolding printing_statements printed_stmt
stmt-Do body c = Fold.stmt-Do printing_statements body c

pub stmt-For : (f : ForLoop) → printed_stmt (stmt.For f) ≡ printed_for_loop f
unfolding printing_statements printed_stmt printed_for_loop
stmt-For f = Fold.stmt-For printing_statements f

pub stmt-Break : printed_stmt stmt.Break ≡ Word word.Break ∷ Mark mark.Semicolon ∷ []
unfolding printing_statements printed_stmt
stmt-Break = Fold.stmt-Break printing_statements

pub stmt-Continue : printed_stmt stmt.Continue ≡ Word word.Continue ∷ Mark mark.Semicolon ∷ []
unfolding printing_statements printed_stmt
stmt-Continue = Fold.stmt-Continue printing_statements

pub stmt-Return : (o : Option FullExpr) → printed_stmt (stmt.Return o)
    ≡ Word word.Return ∷ printed_option o ++ Mark mark.Semicolon ∷ []
unfolding printing_statements printed_stmt
stmt-Return o = Fold.stmt-Return printing_statements o

pub stmt-Expr : (o : Option FullExpr) → printed_stmt (stmt.Expr o) ≡ printed_option o ++ Mark mark.Semicolon ∷ []
unfolding printing_statements printed_stmt
stmt-Expr o = Fold.stmt-Expr printing_statements o

pub for_loop-of : (f : ForLoop) → printed_for_loop f
    ≡ for_kinds (out-ForLoop f).init (out-ForLoop f).condition (out-ForLoop f).step ++ printed_stmt (out-ForLoop f).body
unfolding printing_statements printed_stmt printed_for_loop
for_loop-of f = Fold.for_loop-of printing_statements f

pub for_loop-made : (init : ForInit) (condition step : Option FullExpr) (body : Stmt)
    → printed_stmt (for_loop init condition step body) ≡ for_kinds init condition step ++ printed_stmt body
unfolding printing_statements printed_stmt
for_loop-made init condition step body =
    Fold.stmt-For printing_statements _ ∙ Fold.for_loop-made printing_statements init condition step body

pub block_item-Decl : (d : Decl) → printed_block_item (block_item.Decl d) ≡ printed_decl d
unfolding printing_statements printed_block_item
block_item-Decl d = Fold.block_item-Decl printing_statements d

pub block_item-Stmt : (s : Stmt) → printed_block_item (block_item.Stmt s) ≡ printed_stmt s
unfolding printing_statements printed_block_item printed_stmt
block_item-Stmt s = Fold.block_item-Stmt printing_statements s

pub block-made : (items : List BlockItem) → printed_block (block items)
    ≡ Mark mark.LeftBrace ∷ joined (map printed_block_item items) ++ Mark mark.RightBrace ∷ []
unfolding printing_statements printed_block printed_block_item
block-made items = Fold.block-made printing_statements items

pub block-of : (b : Block) → printed_block b
    ≡ Mark mark.LeftBrace ∷ joined (map printed_block_item (out-Block b).items) ++ Mark mark.RightBrace ∷ []
unfolding printing_statements printed_block printed_block_item
block-of b = Fold.block-of printing_statements b
