-- Sources without empty braces: no initialiser is `{}`, and each body of a struct declares a member. The grammar has no others.
use Rattle.std.specs.Prelude.{Bool, true, false, ◌&&◌, ◌||◌, List, [], ◌∷◌, Option, Some, None}
use Rattle.std.specs.List.{list_all}
use Rattle.c_tree.specs.declared.expression.Direct.TheOpen.{Spec-F}
use Rattle.c_tree.specs.declared.expression.MemberDecl.{MemberDecl, out-MemberDecl}
use Rattle.c_tree.specs.declared.expression.Spec.{Spec, out-Spec}
use Rattle.c_tree.specs.declared.statement.Block.{Block, fold-Block}
use Rattle.c_tree.specs.declared.statement.BlockItem.TheOpen.{Block-F, BlockItem-F, ForLoop-F, Stmt-F}
use Rattle.c_tree.specs.declared.statement.Decl.{Decl}
use Rattle.c_tree.specs.declared.statement.ForInit.{ForInit}
use Rattle.c_tree.specs.declared.statement.ForInit.TheVariants as for_init
use Rattle.c_tree.specs.declared.statement.Init.{Init, out-Init}
use Rattle.c_tree.specs.declared.statement.Init.TheOpen.{Init-F}
use Rattle.c_tree.specs.declared.statement.Item.{Item}
use Rattle.c_tree.specs.declared.statement.Item.TheVariants as item
use Rattle.c_tree.specs.declared.statement.Unit.{Unit as Source}
use Rattle.c_tree.specs.Fold.{Node, Plain}

-- there is one
abbrev pub are_some : {A : Type 0} → List A → Bool
are_some [] = false
are_some (x ∷ xs) = true

-- ---- bodies of structs

-- the line declares a member
unfoldable pub declares : MemberDecl → Bool
declares m = are_some (out-MemberDecl m).declarators

abbrev pub any_declares : List MemberDecl → Bool
any_declares [] = false
any_declares (m ∷ ms) = declares m || any_declares ms

abbrev pub spec_fills_at : Node Plain Spec-F → Bool
spec_fills_at (Spec-F.Struct x (Some ms)) = any_declares ms
spec_fills_at _ = true

-- its body, if it has one, declares a member
unfoldable pub spec_fills : Spec → Bool
spec_fills s = spec_fills_at (out-Spec s)

-- ---- initialisers and declarations

abbrev pub init_fills_at : Init-F Init → Bool
init_fills_at (Init-F.Braces parts) = are_some parts
init_fills_at (Init-F.Expr e) = true

-- it isn't `{}`
unfoldable pub init_fills : Init → Bool
init_fills i = init_fills_at (out-Init i)

abbrev pub optional_fills : Option Init → Bool
optional_fills None = true
optional_fills (Some i) = init_fills i

abbrev pub decl_fills : Decl → Bool
decl_fills d = spec_fills d.spec && list_all (λ d. optional_fills d.init) d.declarators

abbrev pub for_init_fills : ForInit → Bool
for_init_fills (for_init.Decl d) = decl_fills d
for_init_fills (for_init.Expr o) = true

-- ---- statements, by the declarations in them

abbrev pub block_item_step : BlockItem-F Bool Bool Bool Bool → Bool
block_item_step (BlockItem-F.Decl d) = decl_fills d
block_item_step (BlockItem-F.Stmt s) = s

abbrev pub stmt_step : Stmt-F Bool Bool Bool Bool → Bool
stmt_step (Stmt-F.Block b) = b
stmt_step (Stmt-F.If c s None) = s
stmt_step (Stmt-F.If c s (Some o)) = s && o
stmt_step (Stmt-F.While c s) = s
stmt_step (Stmt-F.Do s c) = s
stmt_step (Stmt-F.For f) = f
stmt_step _ = true

abbrev pub block_step : Block-F Bool Bool Bool Bool → Bool
block_step b = list_all (λ fills. fills) b.items

abbrev pub for_step : ForLoop-F Bool Bool Bool Bool → Bool
for_step f = for_init_fills f.init && f.body

unfoldable pub block_fills : Block → Bool
block_fills = fold-Block Bool Bool Bool Bool block_item_step stmt_step block_step for_step

-- ---- sources

abbrev pub item_fills : Item → Bool
item_fills (item.Decl d) = decl_fills d
item_fills (item.Typedef s ds) = spec_fills s
item_fills (item.Function s d b) = spec_fills s && block_fills b

-- no braces are empty
abbrev pub is_filled : Source → Bool
is_filled s = list_all item_fills s.items
