-- Trees by their parts.
use Rattle.std.specs.Prelude.{ℕ, List, Option, Some}
use Rattle.c_tree.specs.declared.expression.AbstractDeclarator.{AbstractDeclarator, roll-AbstractDeclarator}
use Rattle.c_tree.specs.declared.expression.Declarator.{Declarator, roll-Declarator}
use Rattle.c_tree.specs.declared.expression.Direct.{Direct}
use Rattle.c_tree.specs.declared.expression.Expr.{Expr}
use Rattle.c_tree.specs.declared.expression.MemberDecl.{MemberDecl, roll-MemberDecl}
use Rattle.c_tree.specs.declared.expression.Spec.{Spec}
use Rattle.c_tree.specs.declared.expression.Spec.TheVariants as spec
use Rattle.c_tree.specs.declared.expression.Suffix.{Suffix}
use Rattle.c_tree.specs.declared.expression.TypeWord.{TypeWord, roll-TypeWord}
use Rattle.c_tree.specs.declared.statement.Block.{Block, roll-Block}
use Rattle.c_tree.specs.declared.statement.BlockItem.{BlockItem}
use Rattle.c_tree.specs.declared.statement.ForInit.{ForInit}
use Rattle.c_tree.specs.declared.statement.ForLoop.{roll-ForLoop}
use Rattle.c_tree.specs.declared.statement.FullExpr.{FullExpr}
use Rattle.c_tree.specs.declared.statement.Stmt.{Stmt}
use Rattle.c_tree.specs.declared.statement.Stmt.TheVariants as stmt

-- a spec with a struct's body
abbrev pub struct_with : List ℕ → List MemberDecl → Spec
struct_with tag members = spec.Struct tag (Some members)

abbrev pub member_decl : Spec → List Declarator → MemberDecl
member_decl s ds = roll-MemberDecl (record { spec = s; declarators = ds })

abbrev pub declarator : ℕ → Direct → List Suffix → Declarator
declarator stars direct suffixes = roll-Declarator (record { stars = stars; direct = direct; suffixes = suffixes })

abbrev pub abstract : ℕ → Option AbstractDeclarator → List Suffix → AbstractDeclarator
abstract stars bracketed suffixes =
    roll-AbstractDeclarator (record { stars = stars; bracketed = bracketed; suffixes = suffixes })

abbrev pub type_word : Spec → AbstractDeclarator → TypeWord
type_word s a = roll-TypeWord (record { spec = s; declarator = a })

abbrev pub full : Expr → FullExpr
full e = record { expr = e }

abbrev pub block : List BlockItem → Block
block items = roll-Block (record { items = items })

abbrev pub for_loop : ForInit → Option FullExpr → Option FullExpr → Stmt → Stmt
for_loop init condition step body =
    stmt.For (roll-ForLoop (record { init = init; condition = condition; step = step; body = body }))
