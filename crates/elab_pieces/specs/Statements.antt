-- The rows of statements, over the code of their expressions and statements, and the pass that puts them together.
use Rattle.std.specs.Prelude.{ℕ, ◌+◌, max, Bool, true, false, List, [], ◌∷◌, ◌++◌, length, map, Option, Some, None}
use Rattle.std.specs.Option.{option_map}
use Rattle.c_types.specs.declared.ty.Ty.{Ty}
use Rattle.c_typed.specs.declared.entity.Entity.{Entity}
use Rattle.c_typed.specs.declared.entity.Entity.TheVariants as entity
use Rattle.c_typed.specs.declared.expression.Declared.{out-Declared}
use Rattle.c_typed.specs.declared.statement.TypedBlock.{TypedBlock, fold-TypedBlock}
use Rattle.c_typed.specs.declared.statement.TypedBlockItem.{TypedBlockItem, fold-TypedBlockItem}
use Rattle.c_typed.specs.declared.statement.TypedBlockItem.TheOpen.{TypedBlockItem-F, TypedStmt-F, TypedBlock-F, TypedForLoop-F}
use Rattle.c_typed.specs.declared.statement.TypedDecl.{TypedDecl}
use Rattle.c_typed.specs.declared.statement.TypedForInit.{TypedForInit}
use Rattle.c_typed.specs.declared.statement.TypedForInit.TheVariants as for_init
use Rattle.c_typed.specs.declared.statement.TypedForLoop.{TypedForLoop, fold-TypedForLoop}
use Rattle.c_typed.specs.declared.statement.TypedFullExpr.{TypedFullExpr}
use Rattle.c_typed.specs.declared.statement.TypedInit.{TypedInit, out-TypedInit}
use Rattle.c_typed.specs.declared.statement.TypedInit.TheOpen.{TypedInit-F}
use Rattle.c_typed.specs.declared.statement.TypedInitDeclarator.{TypedInitDeclarator}
use Rattle.c_typed.specs.declared.statement.TypedStmt.{TypedStmt, fold-TypedStmt}
use Rattle.core_ir.specs.declared.instr.Instr.{Instr}
use Rattle.core_ir.specs.declared.instr.Instr.TheVariants.{Jump, Return, Leave}
use Rattle.elab_rows.specs.Addresses.{local_address, slot_assigned}
use Rattle.elab_rows.specs.Choices.{tested}
use Rattle.elab_rows.specs.Made.{Code, Made, nothing}
use Rattle.elab_rows.specs.declared.scope.Scope.{Scope}
use Rattle.elab_rows.specs.declared.scope.Standing.{Standing}
use Rattle.elab_rows.specs.declared.scope.Standing.TheVariants as stands
use Rattle.elab_rows.specs.Scope.{standing_of}
use Rattle.elab_rows.specs.Values.{converted_code, value_code}
use Rattle.elab_pieces.specs.Initialisers.{initialised}
use Rattle.elab_pieces.specs.Lines.{Line, Breaks, Continues, Does, Piece, PieceCode, all_full, all_joined, full, joined, led, no_lines, one_line, plain_lines}

-- ---- choices

abbrev pub does : List Instr → List Line
does code = map Does code

-- `if` | V(c); Branch to the end; statement
abbrev pub if_made : ℕ → Made → Piece → Piece
if_made place c x = record {
  lines = does (tested c (place + length c.code + 1 + length x.lines)) ++ x.lines;
  registers = max c.register x.registers;
  slot = x.slot;
}

-- the statement behind a condition and its `Branch`
abbrev pub guarded : ℕ → Made → PieceCode → Piece
guarded place c a = a (place + length c.code + 1) c.slot

abbrev pub if_code : Code → PieceCode → PieceCode
if_code c a place slot = let t = c place 0 slot in if_made place t (guarded place t a)

-- statement; Jump end; statement
abbrev pub branch_lines : Piece → Piece → ℕ → List Line
branch_lines x y end = (x.lines ++ Does (Jump end) ∷ []) ++ y.lines

-- `if` with `else` | V(c); Branch to the else part; statement; Jump end; statement
abbrev pub if_else_made : ℕ → Made → Piece → Piece → Piece
if_else_made place c x y =
    let f = place + length c.code + 1 + length x.lines + 1 in
    record {
      lines = does (tested c f) ++ branch_lines x y (f + length y.lines);
      registers = max c.register (max x.registers y.registers);
      slot = y.slot;
    }

-- the else part behind the statement and its `Jump`
abbrev pub otherwise : ℕ → Made → Piece → PieceCode → Piece
otherwise place c x b = b (place + length c.code + 1 + length x.lines + 1) x.slot

abbrev pub if_else_code : Code → PieceCode → PieceCode → PieceCode
if_else_code c a b place slot =
    let t = c place 0 slot in
    let x = guarded place t a in
    if_else_made place t x (otherwise place t x b)

abbrev pub if_by : Code → PieceCode → Option PieceCode → PieceCode
if_by c a None = if_code c a
if_by c a (Some b) = if_else_code c a b

-- ---- loops

-- `while` | L: V(c); Branch end; statement; Jump L
abbrev pub while_made : ℕ → Made → Piece → Piece
while_made place c x =
    let end = place + length c.code + 1 + length x.lines + 1 in
    record {
      lines = does (tested c end ++ led end place x.lines ++ Jump place ∷ []);
      registers = max c.register x.registers;
      slot = x.slot;
    }

abbrev pub while_code : Code → PieceCode → PieceCode
while_code c a place slot = let t = c place 0 slot in while_made place t (guarded place t a)

-- `do` | L: statement; V(c); Branch end; Jump L
abbrev pub do_made : ℕ → Piece → Made → Piece
do_made place x c =
    let condition = place + length x.lines in
    let end = condition + length c.code + 2 in
    record {
      lines = does (led end condition x.lines ++ tested c end ++ Jump place ∷ []);
      registers = max x.registers c.register;
      slot = c.slot;
    }

abbrev pub do_code : PieceCode → Code → PieceCode
do_code a c place slot = let x = a place slot in do_made place x (c (place + length x.lines) 0 x.slot)

-- a condition, if there is one, and its `Branch`
abbrev pub test_length : Option Made → ℕ
test_length None = 0
test_length (Some c) = length c.code + 1

abbrev pub test_lines : Option Made → ℕ → List Instr
test_lines None end = []
test_lines (Some c) end = tested c end

abbrev pub test_registers : Option Made → ℕ
test_registers None = 0
test_registers (Some c) = c.register

abbrev pub test_slot : Option Made → ℕ → ℕ
test_slot None slot = slot
test_slot (Some c) slot = c.slot

-- L: [V(c); Branch end]; statement; step; Jump L. `continue` leads to the step's place, also where there is no step.
abbrev pub loop_made : ℕ → Option Made → Piece → Made → Piece
loop_made place c x s =
    let step = place + test_length c + length x.lines in
    let end = step + length s.code + 1 in
    record {
      lines = does (test_lines c end ++ led end step x.lines ++ s.code ++ Jump place ∷ []);
      registers = max (test_registers c) (max x.registers s.register);
      slot = s.slot;
    }

abbrev pub stepped : ℕ → Option Made → Piece → Code → Piece
stepped place c x s = loop_made place c x (s (place + test_length c + length x.lines) 0 x.slot)

abbrev pub tested_loop : ℕ → ℕ → Option Made → PieceCode → Code → Piece
tested_loop place slot c a s = stepped place c (a (place + test_length c) (test_slot c slot)) s

abbrev pub loop_code : Option Code → PieceCode → Code → PieceCode
loop_code c a s place slot = tested_loop place slot (option_map (λ t. t place 0 slot) c) a s

-- `for` | first part; L: [V(c); Branch end]; statement; step; Jump L
abbrev pub for_code : PieceCode → Option Code → PieceCode → Code → PieceCode
for_code i c a s = joined i (loop_code c a s)

-- ---- returns

-- Leave if there is a frame; Return
abbrev pub leaving : Bool → Option ℕ → List Instr
leaving true a = Leave ∷ Return a ∷ []
leaving false a = Return a ∷ []

abbrev pub returned_made : Bool → Made → Piece
returned_made has_frame x =
    record { lines = does (x.code ++ leaving has_frame (Some x.result)); registers = x.register; slot = x.slot }

-- `return e` | V(e), converted; Leave if there is a frame; Return
abbrev pub returned : Bool → Code → PieceCode
returned has_frame a place slot = returned_made has_frame (a place 0 slot)

-- `return` | Leave if there is a frame; Return
abbrev pub returned_nothing : Bool → PieceCode
returned_nothing has_frame = plain_lines (leaving has_frame None)

abbrev pub return_code : Scope → Option TypedFullExpr → PieceCode
return_code scope None = returned_nothing scope.has_frame
return_code scope (Some e) = returned scope.has_frame (converted_code scope e.expr scope.result)

-- ---- declarations

-- a slot local that an expression gives
abbrev pub slot_initialised : Scope → ℕ → Ty → TypedInit-F TypedInit → List Code
slot_initialised scope s t (TypedInit-F.Expr e) = slot_assigned s (converted_code scope e t) ∷ []
slot_initialised scope s t _ = []

abbrev pub local_initialised : Scope → Option Standing → Ty → TypedInit → List Code
local_initialised scope (Some (stands.Slot s)) t i = slot_initialised scope s t (out-TypedInit i)
local_initialised scope (Some (stands.Frame v)) t i = initialised scope t (local_address v) i
local_initialised scope None t i = []

abbrev pub entity_initialised : Scope → Entity → Ty → TypedInit → List Code
entity_initialised scope (entity.Local n) t i = local_initialised scope (standing_of scope n) t i
entity_initialised scope _ t i = []

abbrev pub optional_initialised : Scope → Entity → Ty → Option TypedInit → PieceCode
optional_initialised scope e t None = no_lines
optional_initialised scope e t (Some i) = all_full (entity_initialised scope e t i)

abbrev pub declarator_code : Scope → TypedInitDeclarator → PieceCode
declarator_code scope d = optional_initialised scope d.entity (out-Declared d.declared).ty d.init

abbrev pub decl_code : Scope → TypedDecl → PieceCode
decl_code scope d = all_joined (map (declarator_code scope) d.declarators)

-- ---- the pass

abbrev pub value_of : Scope → TypedFullExpr → Code
value_of scope e = value_code scope e.expr

-- an expression statement, if there is an expression
abbrev pub expr_code : Scope → Option TypedFullExpr → PieceCode
expr_code scope None = no_lines
expr_code scope (Some e) = full (value_of scope e)

-- the step of a `for`, if there is one
abbrev pub step_code : Scope → Option TypedFullExpr → Code
step_code scope None = nothing
step_code scope (Some e) = value_of scope e

abbrev pub first_code : Scope → TypedForInit → PieceCode
first_code scope (for_init.Decl d) = decl_code scope d
first_code scope (for_init.Expr e) = expr_code scope e

-- a node, where code stands in place of the statements in it
abbrev pub PieceNode : ((A B C D : Type 0) → Type 0) → Type 0
PieceNode F = F PieceCode PieceCode PieceCode PieceCode

abbrev pub stmt_step : Scope → PieceNode TypedStmt-F → PieceCode
stmt_step scope (TypedStmt-F.Block b) = b
stmt_step scope (TypedStmt-F.If c a b) = if_by (value_of scope c) a b
stmt_step scope (TypedStmt-F.While c a) = while_code (value_of scope c) a
stmt_step scope (TypedStmt-F.Do a c) = do_code a (value_of scope c)
stmt_step scope (TypedStmt-F.For f) = f
stmt_step scope TypedStmt-F.Break = one_line Breaks
stmt_step scope TypedStmt-F.Continue = one_line Continues
stmt_step scope (TypedStmt-F.Return e) = return_code scope e
stmt_step scope (TypedStmt-F.Expr e) = expr_code scope e

abbrev pub for_step : Scope → PieceNode TypedForLoop-F → PieceCode
for_step scope f =
    for_code (first_code scope f.init) (option_map (value_of scope) f.condition) f.body (step_code scope f.step)

abbrev pub block_item_step : Scope → PieceNode TypedBlockItem-F → PieceCode
block_item_step scope (TypedBlockItem-F.Decl d) = decl_code scope d
block_item_step scope (TypedBlockItem-F.Stmt a) = a

abbrev pub block_step : PieceNode TypedBlock-F → PieceCode
block_step b = all_joined b.items

unfoldable pub stmt_code : Scope → TypedStmt → PieceCode
stmt_code scope = fold-TypedStmt _ _ _ _ (block_item_step scope) (stmt_step scope) block_step (for_step scope)

unfoldable pub for_loop_code : Scope → TypedForLoop → PieceCode
for_loop_code scope = fold-TypedForLoop _ _ _ _ (block_item_step scope) (stmt_step scope) block_step (for_step scope)

unfoldable pub block_item_code : Scope → TypedBlockItem → PieceCode
block_item_code scope = fold-TypedBlockItem _ _ _ _ (block_item_step scope) (stmt_step scope) block_step (for_step scope)

unfoldable pub block_code : Scope → TypedBlock → PieceCode
block_code scope = fold-TypedBlock _ _ _ _ (block_item_step scope) (stmt_step scope) block_step (for_step scope)
