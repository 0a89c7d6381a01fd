-- The walk of statements and blocks: each part in source order, then the rules of the whole.
use Rattle.std.specs.Prelude.{Bool, true, false, not, List, map, Option, Some, None}
use Rattle.std.specs.Option.{option_map}
use Rattle.c_types.specs.declared.ty.Ty.{Ty}
use Rattle.c_types.specs.Kinds.{is_void}
use Rattle.c_tree.specs.declared.statement.Block.{Block}
use Rattle.c_tree.specs.declared.statement.BlockItem.TheOpen.{BlockItem-F, Stmt-F, Block-F, ForLoop-F}
use Rattle.c_tree.specs.declared.statement.ForInit.{ForInit}
use Rattle.c_tree.specs.declared.statement.ForInit.TheVariants as raw_init
use Rattle.c_tree.specs.declared.statement.FullExpr.{FullExpr}
use Rattle.c_tree.specs.FoldStatements.{StatementNode, StatementPass, StatementResults, StatementSteps, fold_statements}
use Rattle.c_typed.specs.declared.statement.TypedBlock.{TypedBlock, roll-TypedBlock}
use Rattle.c_typed.specs.declared.statement.TypedBlockItem.{TypedBlockItem}
use Rattle.c_typed.specs.declared.statement.TypedBlockItem.TheVariants as block_item
use Rattle.c_typed.specs.declared.statement.TypedForInit.{TypedForInit}
use Rattle.c_typed.specs.declared.statement.TypedForInit.TheVariants as for_init
use Rattle.c_typed.specs.declared.statement.TypedForLoop.{TypedForLoop, roll-TypedForLoop}
use Rattle.c_typed.specs.declared.statement.TypedFullExpr.{TypedFullExpr}
use Rattle.c_typed.specs.declared.statement.TypedStmt.{TypedStmt}
use Rattle.c_typed.specs.declared.statement.TypedStmt.TheVariants as stmt
use Rattle.c_scope.specs.declared.rule.Rule.TheVariants as broken
use Rattle.c_scope.specs.Scopes.{within}
use Rattle.c_scope.specs.Walk.{Walk, ◌>>=◌, ◌>>◌, each, maybe, pure, rule}
use Rattle.c_rules.specs.declared.place.Place.TheVariants.{Value}
use Rattle.c_operators.specs.Operators.{converts, is_scalar_value}
use Rattle.c_expr_typing.specs.Trees.{typed_expr}
use Rattle.c_declaration_typing.specs.Declarations.{typed_decl}

-- ---- expressions of statements

-- the typed form of an expression that is no part of another
unfoldable pub full : FullExpr → Walk TypedFullExpr
full e = typed_expr e.expr Value >>= (λ x. pure (record { expr = x }))

-- the same, if there is one
abbrev pub optional : Option FullExpr → Walk (Option TypedFullExpr)
optional o = maybe (option_map full o)

-- a condition is a scalar
unfoldable pub condition : FullExpr → Walk TypedFullExpr
condition e = do
  x ← full e
  rule broken.NotScalar (is_scalar_value x.expr)
  pure x

-- the same, if there is one
abbrev pub optional_condition : Option FullExpr → Walk (Option TypedFullExpr)
optional_condition o = maybe (option_map condition o)

-- ---- statements by their parts

-- the walk of a statement, with whether a loop stands around it
abbrev pub OfStmt : Type 0
OfStmt = Bool → Walk TypedStmt

-- the same of a block
abbrev pub OfBlock : Type 0
OfBlock = Bool → Walk TypedBlock

-- the same of a `for`
abbrev pub OfFor : Type 0
OfFor = Bool → Walk TypedForLoop

-- the same of a declaration or statement of a block
abbrev pub OfBlockItem : Type 0
OfBlockItem = Bool → Walk TypedBlockItem

-- a block that is a statement is a scope
abbrev pub block_walked : OfBlock → OfStmt
block_walked b in_loop = within (b in_loop) >>= (λ x. pure (stmt.Block x))

-- `if` without `else`
abbrev pub if_alone : FullExpr → OfStmt → OfStmt
if_alone c s in_loop = do
  x ← condition c
  y ← s in_loop
  pure (stmt.If x y None)

-- the two statements of an `if`
abbrev pub branches : OfStmt → OfStmt → Bool → Walk (TypedStmt × TypedStmt)
branches s o in_loop = do
  y ← s in_loop
  z ← o in_loop
  pure (y, z)

-- `if` with `else`
abbrev pub if_else : FullExpr → OfStmt → OfStmt → OfStmt
if_else c s o in_loop = do
  x ← condition c
  b ← branches s o in_loop
  pure (stmt.If x b.0 (Some b.1))

-- `if`, with or without `else`
abbrev pub if_walked : FullExpr → OfStmt → Option OfStmt → OfStmt
if_walked c s None = if_alone c s
if_walked c s (Some o) = if_else c s o

-- `while`, whose statement stands in a loop
abbrev pub while_walked : FullExpr → OfStmt → Walk TypedStmt
while_walked c body = do
  x ← condition c
  y ← body true
  pure (stmt.While x y)

-- `do`, whose statement comes before its condition
abbrev pub do_walked : OfStmt → FullExpr → Walk TypedStmt
do_walked body c = do
  y ← body true
  x ← condition c
  pure (stmt.Do y x)

-- a `for` is a scope, round its statement too
abbrev pub for_walked : OfFor → OfStmt
for_walked f in_loop = within (f in_loop) >>= (λ x. pure (stmt.For x))

-- `break` and `continue` stand in a loop
abbrev pub jump : TypedStmt → OfStmt
jump s in_loop = rule broken.OutsideLoop in_loop >> pure s

-- a value exactly where the function has a result; then it converts to that
abbrev pub returned_rules : Ty → Option TypedFullExpr → Walk (Unit {0})
returned_rules returns None = rule broken.Return (is_void returns)
returned_rules returns (Some x) = do
  rule broken.Return (not (is_void returns))
  rule broken.Unconverted (converts x.expr returns)

-- `return`, in a function that returns this
abbrev pub return_walked : Ty → Option FullExpr → Walk TypedStmt
return_walked returns o = do
  x ← optional o
  returned_rules returns x
  pure (stmt.Return x)

-- an expression, or `;` alone
abbrev pub expr_walked : Option FullExpr → Walk TypedStmt
expr_walked o = optional o >>= (λ x. pure (stmt.Expr x))

-- ---- `for` loops and blocks by their parts

-- what a `for` begins with
unfoldable pub typed_for_init : ForInit → Walk TypedForInit
typed_for_init (raw_init.Decl d) = typed_decl false d >>= (λ x. pure (for_init.Decl x))
typed_for_init (raw_init.Expr o) = optional o >>= (λ x. pure (for_init.Expr x))

-- what stands in front of the statement of a `for`
abbrev pub for_head : ForInit → Option FullExpr → Option FullExpr
    → Walk (TypedForInit × Option TypedFullExpr × Option TypedFullExpr)
for_head i c s = do
  x ← typed_for_init i
  y ← optional_condition c
  z ← optional s
  pure (x, y, z)

-- the declarations and statements of a block, in order
abbrev pub block_items : List OfBlockItem → Bool → Walk (List TypedBlockItem)
block_items is in_loop = each (map (λ i. i in_loop) is)

-- ---- whole statements, in a function that returns this

-- what is walked of a block's item, a statement, a block and a `for`
abbrev pub FoundStatements : StatementResults
FoundStatements = record { block_item = OfBlockItem; stmt = OfStmt; block = OfBlock; for_loop = OfFor }

-- each form of a statement
abbrev pub stmt_step : Ty → StatementNode FoundStatements Stmt-F → OfStmt
stmt_step returns (Stmt-F.Block b) in_loop = block_walked b in_loop
stmt_step returns (Stmt-F.If c s o) in_loop = if_walked c s o in_loop
stmt_step returns (Stmt-F.While c body) in_loop = while_walked c body
stmt_step returns (Stmt-F.Do body c) in_loop = do_walked body c
stmt_step returns (Stmt-F.For f) in_loop = for_walked f in_loop
stmt_step returns Stmt-F.Break in_loop = jump stmt.Break in_loop
stmt_step returns Stmt-F.Continue in_loop = jump stmt.Continue in_loop
stmt_step returns (Stmt-F.Return o) in_loop = return_walked returns o
stmt_step returns (Stmt-F.Expr o) in_loop = expr_walked o

-- what stands in front, then the statement
abbrev pub for_step : StatementNode FoundStatements ForLoop-F → OfFor
for_step f in_loop = do
  h ← for_head f.init f.condition f.step
  b ← f.body true
  pure (roll-TypedForLoop (record { init = h.0; condition = h.1; step = h.2; body = b }))

-- a declaration, or a statement
abbrev pub block_item_step : StatementNode FoundStatements BlockItem-F → OfBlockItem
block_item_step (BlockItem-F.Decl d) in_loop = typed_decl false d >>= (λ x. pure (block_item.Decl x))
block_item_step (BlockItem-F.Stmt s) in_loop = s in_loop >>= (λ x. pure (block_item.Stmt x))

-- the items of a block, in the scope that is there
abbrev pub block_step : StatementNode FoundStatements Block-F → OfBlock
block_step b in_loop = block_items b.items in_loop >>= (λ is. pure (roll-TypedBlock (record { items = is })))

-- the steps of the walk
abbrev pub statement_steps : Ty → StatementSteps FoundStatements
statement_steps returns = record {
  block_item = block_item_step;
  stmt = stmt_step returns;
  block = block_step;
  for_loop = for_step;
}

-- the walk of whole statements
unfoldable pub walked_statements : Ty → StatementPass FoundStatements
walked_statements returns = fold_statements (statement_steps returns)

-- the typed form of a block, in the scope that is there
abbrev pub typed_block : Ty → Block → Bool → Walk TypedBlock
typed_block returns = (walked_statements returns).block
