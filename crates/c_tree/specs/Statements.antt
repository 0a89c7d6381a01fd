-- The grammar of statements, items and whole sources, over that of expressions and declarators. Above each case stands
-- its row of the grammar, in which expr is the loosest level of expressions, assign.
use Rattle.std.specs.Prelude.{◌≡◌, ◌≢◌, ℕ, ◌+◌, ◌≤◌, Bool, true, false, max, Option, Some, None}
use Rattle.std.specs.Prelude.{List, [], ◌∷◌, ◌++◌, length}
use Rattle.c_tokens.specs.declared.token.Keyword.TheVariants as word
use Rattle.c_tokens.specs.declared.token.Kind.TheVariants.{Word, Mark}
use Rattle.c_tokens.specs.declared.token.Mark.TheVariants as mark
use Rattle.c_tree.specs.declared.expression.Spec.{Spec}
use Rattle.c_tree.specs.declared.expression.Declarator.{Declarator}
use Rattle.c_tree.specs.declared.expression.Expr.{Expr}
use Rattle.c_tree.specs.declared.statement.Init.{Init}
use Rattle.c_tree.specs.declared.statement.Init.TheVariants as init
use Rattle.c_tree.specs.declared.statement.InitDeclarator.{InitDeclarator}
use Rattle.c_tree.specs.declared.statement.Decl.{Decl}
use Rattle.c_tree.specs.declared.statement.FullExpr.{FullExpr}
use Rattle.c_tree.specs.declared.statement.ForInit.{ForInit}
use Rattle.c_tree.specs.declared.statement.ForInit.TheVariants as for_init
use Rattle.c_tree.specs.declared.statement.Block.{Block}
use Rattle.c_tree.specs.declared.statement.BlockItem.{BlockItem}
use Rattle.c_tree.specs.declared.statement.BlockItem.TheVariants as block_item
use Rattle.c_tree.specs.declared.statement.Stmt.{Stmt}
use Rattle.c_tree.specs.declared.statement.Stmt.TheVariants as stmt
use Rattle.c_tree.specs.declared.statement.Item.{Item}
use Rattle.c_tree.specs.declared.statement.Item.TheVariants as item
use Rattle.c_tree.specs.declared.statement.Unit.{Unit as Source}
use Rattle.c_tree.specs.Marks.{Kinds, wrapped, greatest_depth, assign_level}
use Rattle.c_tree.specs.Trees.{full, block as block_of, for_loop as for_loop_of}
use Rattle.c_tree.specs.Grammar.{SpecReads, DeclaratorsRead, DeclaratorReads, ExprReads}

mutual
  -- an initialiser
  pub data InitReads (names : List (List ℕ)) : ℕ → Kinds → Init → Type 0 where
    -- init ::= assign
    by_expression : (h : ℕ) (ts : Kinds) (i : Init) (e : Expr) (he : ℕ)
        → h ≡ 1 + he
        → i ≡ init.Expr e
        → ExprReads names assign_level he ts e
        → InitReads names h ts i
    -- init ::= '{' inits '}'
    by_braces : (h : ℕ) (ts : Kinds) (i : Init) (parts : List Init) (hp : ℕ) (ps : Kinds)
        → h ≡ 1 + hp
        → ts ≡ Mark mark.LeftBrace ∷ ps ++ Mark mark.RightBrace ∷ []
        → i ≡ init.Braces parts
        → InitsRead names hp ps parts
        → InitReads names h ts i

  -- initialisers with commas between, at least one, and perhaps a comma behind the last
  pub data InitsRead (names : List (List ℕ)) : ℕ → Kinds → List Init → Type 0 where
    -- inits ::= init
    last_init : (h : ℕ) (ts : Kinds) (is : List Init) (i : Init)
        → is ≡ i ∷ []
        → InitReads names h ts i
        → InitsRead names h ts is
    -- inits ::= init ','
    last_with_comma : (h : ℕ) (ts : Kinds) (is : List Init) (i : Init) (its : Kinds)
        → ts ≡ its ++ Mark mark.Comma ∷ []
        → is ≡ i ∷ []
        → InitReads names h its i
        → InitsRead names h ts is
    -- inits ::= init ',' inits
    more_inits : (h : ℕ) (ts : Kinds) (is : List Init) (i : Init) (others : List Init) (hi ho : ℕ) (its os : Kinds)
        → h ≡ max hi ho
        → ts ≡ its ++ Mark mark.Comma ∷ os
        → is ≡ i ∷ others
        → InitReads names hi its i
        → InitsRead names ho os others
        → InitsRead names h ts is

-- a declarator with its initialiser, if it has one
pub data InitDeclaratorReads (names : List (List ℕ)) : ℕ → Kinds → InitDeclarator → Type 0 where
  -- init_declarator ::= declarator
  without : (h : ℕ) (ts : Kinds) (d : InitDeclarator) (declarator : Declarator) (x : List ℕ)
      → d ≡ record { declarator = declarator; init = None }
      → DeclaratorReads names h x ts declarator
      → InitDeclaratorReads names h ts d
  -- init_declarator ::= declarator '=' init
  with_init : (h : ℕ) (ts : Kinds) (d : InitDeclarator) (declarator : Declarator) (x : List ℕ) (i : Init) (hd hi : ℕ)
      (ds its : Kinds)
      → h ≡ max hd hi
      → ts ≡ ds ++ Mark mark.Assign ∷ its
      → d ≡ record { declarator = declarator; init = Some i }
      → DeclaratorReads names hd x ds declarator
      → InitReads names hi its i
      → InitDeclaratorReads names h ts d

-- such declarators with commas between, at least one
pub data InitDeclaratorListReads (names : List (List ℕ)) : ℕ → Kinds → List InitDeclarator → Type 0 where
  -- init_declarator_list ::= init_declarator
  one : (h : ℕ) (ts : Kinds) (ds : List InitDeclarator) (d : InitDeclarator)
      → ds ≡ d ∷ []
      → InitDeclaratorReads names h ts d
      → InitDeclaratorListReads names h ts ds
  -- init_declarator_list ::= init_declarator ',' init_declarator_list
  more : (h : ℕ) (ts : Kinds) (ds : List InitDeclarator) (d : InitDeclarator) (others : List InitDeclarator)
      (hd ho : ℕ) (dts os : Kinds)
      → h ≡ max hd ho
      → ts ≡ dts ++ Mark mark.Comma ∷ os
      → ds ≡ d ∷ others
      → InitDeclaratorReads names hd dts d
      → InitDeclaratorListReads names ho os others
      → InitDeclaratorListReads names h ts ds

-- what a declaration declares, which may be nothing
pub data InitDeclaratorsRead (names : List (List ℕ)) : ℕ → Kinds → List InitDeclarator → Type 0 where
  -- init_declarators ::= nothing
  none : (h : ℕ) (ts : Kinds) (ds : List InitDeclarator)
      → h ≡ 0
      → ts ≡ []
      → ds ≡ []
      → InitDeclaratorsRead names h ts ds
  -- init_declarators ::= init_declarator_list
  some : (h : ℕ) (ts : Kinds) (ds : List InitDeclarator)
      → InitDeclaratorListReads names h ts ds
      → InitDeclaratorsRead names h ts ds

pub data DeclReads (names : List (List ℕ)) : ℕ → Kinds → Decl → Type 0 where
  -- decl ::= spec init_declarators ';'
  decl : (h : ℕ) (ts : Kinds) (d : Decl) (s : Spec) (declarators : List InitDeclarator) (hs hd : ℕ) (ss ds : Kinds)
      → h ≡ max hs hd
      → ts ≡ ss ++ ds ++ Mark mark.Semicolon ∷ []
      → d ≡ record { spec = s; declarators = declarators }
      → SpecReads names true hs ss s
      → InitDeclaratorsRead names hd ds declarators
      → DeclReads names h ts d

-- an expression or nothing
pub data OptionReads (names : List (List ℕ)) : ℕ → Kinds → Option FullExpr → Type 0 where
  -- optional_expr ::= nothing
  nothing : (h : ℕ) (ts : Kinds) (o : Option FullExpr)
      → h ≡ 0
      → ts ≡ []
      → o ≡ None
      → OptionReads names h ts o
  -- optional_expr ::= expr
  some : (h : ℕ) (ts : Kinds) (o : Option FullExpr) (e : Expr)
      → o ≡ Some (full e)
      → ExprReads names assign_level h ts e
      → OptionReads names h ts o

-- what a `for` begins with, with its `;`
pub data ForInitReads (names : List (List ℕ)) : ℕ → Kinds → ForInit → Type 0 where
  -- for_init ::= decl
  declared : (h : ℕ) (ts : Kinds) (f : ForInit) (d : Decl)
      → f ≡ for_init.Decl d
      → DeclReads names h ts d
      → ForInitReads names h ts f
  -- for_init ::= optional_expr ';'
  computed : (h : ℕ) (ts : Kinds) (f : ForInit) (o : Option FullExpr) (os : Kinds)
      → ts ≡ os ++ Mark mark.Semicolon ∷ []
      → f ≡ for_init.Expr o
      → OptionReads names h os o
      → ForInitReads names h ts f

mutual
  -- a statement; `closed` says that it doesn't end in an `if` without an `else`, to which an `else` behind it would
  -- belong
  pub data StmtReads (names : List (List ℕ)) : Bool → ℕ → Kinds → Stmt → Type 0 where
    -- stmt ::= block
    block : (closed : Bool) (h : ℕ) (ts : Kinds) (s : Stmt) (b : Block) (hb : ℕ)
        → closed ≡ true
        → h ≡ 1 + hb
        → s ≡ stmt.Block b
        → BlockReads names hb ts b
        → StmtReads names closed h ts s
    -- stmt ::= 'if' '(' expr ')' stmt
    if_alone : (closed : Bool) (h : ℕ) (ts : Kinds) (s : Stmt) (c : Expr) (then : Stmt) (then_closed : Bool)
        (hc ht : ℕ) (cs tts : Kinds)
        → closed ≡ false
        → h ≡ 1 + max hc ht
        → ts ≡ Word word.If ∷ wrapped 1 cs ++ tts
        → s ≡ stmt.If (full c) then None
        → ExprReads names assign_level hc cs c
        → StmtReads names then_closed ht tts then
        → StmtReads names closed h ts s
    -- stmt ::= 'if' '(' expr ')' stmt 'else' stmt, the first of them closed
    if_else : (closed : Bool) (h : ℕ) (ts : Kinds) (s : Stmt) (c : Expr) (then otherwise : Stmt) (hc ht ho : ℕ)
        (cs tts os : Kinds)
        → h ≡ 1 + max hc (max ht ho)
        → ts ≡ Word word.If ∷ wrapped 1 cs ++ tts ++ Word word.Else ∷ os
        → s ≡ stmt.If (full c) then (Some otherwise)
        → ExprReads names assign_level hc cs c
        → StmtReads names true ht tts then
        → StmtReads names closed ho os otherwise
        → StmtReads names closed h ts s
    -- stmt ::= 'while' '(' expr ')' stmt
    while : (closed : Bool) (h : ℕ) (ts : Kinds) (s : Stmt) (c : Expr) (body : Stmt) (hc hb : ℕ) (cs bs : Kinds)
        → h ≡ 1 + max hc hb
        → ts ≡ Word word.While ∷ wrapped 1 cs ++ bs
        → s ≡ stmt.While (full c) body
        → ExprReads names assign_level hc cs c
        → StmtReads names closed hb bs body
        → StmtReads names closed h ts s
    -- stmt ::= 'do' stmt 'while' '(' expr ')' ';'
    do_while : (closed : Bool) (h : ℕ) (ts : Kinds) (s : Stmt) (body : Stmt) (c : Expr) (body_closed : Bool)
        (hb hc : ℕ) (bs cs : Kinds)
        → closed ≡ true
        → h ≡ 1 + max hb hc
        → ts ≡ Word word.Do ∷ bs ++ Word word.While ∷ wrapped 1 cs ++ Mark mark.Semicolon ∷ []
        → s ≡ stmt.Do body (full c)
        → StmtReads names body_closed hb bs body
        → ExprReads names assign_level hc cs c
        → StmtReads names closed h ts s
    -- stmt ::= 'for' '(' for_init optional_expr ';' optional_expr ')' stmt
    for_loop : (closed : Bool) (h : ℕ) (ts : Kinds) (s : Stmt) (f : ForInit) (c step : Option FullExpr) (body : Stmt)
        (hf hc hs hb : ℕ) (fs cs ss bs : Kinds)
        → h ≡ 1 + max hf (max hc (max hs hb))
        → ts ≡ Word word.For ∷ wrapped 1 (fs ++ cs ++ Mark mark.Semicolon ∷ ss) ++ bs
        → s ≡ for_loop_of f c step body
        → ForInitReads names hf fs f
        → OptionReads names hc cs c
        → OptionReads names hs ss step
        → StmtReads names closed hb bs body
        → StmtReads names closed h ts s
    -- stmt ::= 'break' ';'
    break : (closed : Bool) (h : ℕ) (ts : Kinds) (s : Stmt)
        → closed ≡ true
        → h ≡ 1
        → ts ≡ Word word.Break ∷ Mark mark.Semicolon ∷ []
        → s ≡ stmt.Break
        → StmtReads names closed h ts s
    -- stmt ::= 'continue' ';'
    continue : (closed : Bool) (h : ℕ) (ts : Kinds) (s : Stmt)
        → closed ≡ true
        → h ≡ 1
        → ts ≡ Word word.Continue ∷ Mark mark.Semicolon ∷ []
        → s ≡ stmt.Continue
        → StmtReads names closed h ts s
    -- stmt ::= 'return' optional_expr ';'
    return : (closed : Bool) (h : ℕ) (ts : Kinds) (s : Stmt) (o : Option FullExpr) (ho : ℕ) (os : Kinds)
        → closed ≡ true
        → h ≡ 1 + ho
        → ts ≡ Word word.Return ∷ os ++ Mark mark.Semicolon ∷ []
        → s ≡ stmt.Return o
        → OptionReads names ho os o
        → StmtReads names closed h ts s
    -- stmt ::= optional_expr ';'
    computes : (closed : Bool) (h : ℕ) (ts : Kinds) (s : Stmt) (o : Option FullExpr) (ho : ℕ) (os : Kinds)
        → closed ≡ true
        → h ≡ 1 + ho
        → ts ≡ os ++ Mark mark.Semicolon ∷ []
        → s ≡ stmt.Expr o
        → OptionReads names ho os o
        → StmtReads names closed h ts s

  pub data BlockReads (names : List (List ℕ)) : ℕ → Kinds → Block → Type 0 where
    -- block ::= '{' block_items '}'
    braces : (h : ℕ) (ts : Kinds) (b : Block) (items : List BlockItem) (is : Kinds)
        → ts ≡ Mark mark.LeftBrace ∷ is ++ Mark mark.RightBrace ∷ []
        → b ≡ block_of items
        → BlockItemsRead names h is items
        → BlockReads names h ts b

  pub data BlockItemsRead (names : List (List ℕ)) : ℕ → Kinds → List BlockItem → Type 0 where
    -- block_items ::= nothing
    no_block_item : (h : ℕ) (ts : Kinds) (is : List BlockItem)
        → h ≡ 0
        → ts ≡ []
        → is ≡ []
        → BlockItemsRead names h ts is
    -- block_items ::= block_item block_items
    more_block_items : (h : ℕ) (ts : Kinds) (is : List BlockItem) (i : BlockItem) (others : List BlockItem)
        (hi ho : ℕ) (its os : Kinds)
        → h ≡ max hi ho
        → ts ≡ its ++ os
        → is ≡ i ∷ others
        → BlockItemReads names hi its i
        → BlockItemsRead names ho os others
        → BlockItemsRead names h ts is

  pub data BlockItemReads (names : List (List ℕ)) : ℕ → Kinds → BlockItem → Type 0 where
    -- block_item ::= decl
    declaration : (h : ℕ) (ts : Kinds) (i : BlockItem) (d : Decl)
        → i ≡ block_item.Decl d
        → DeclReads names h ts d
        → BlockItemReads names h ts i
    -- block_item ::= stmt
    statement : (h : ℕ) (ts : Kinds) (i : BlockItem) (s : Stmt) (closed : Bool)
        → i ≡ block_item.Stmt s
        → StmtReads names closed h ts s
        → BlockItemReads names h ts i

-- an item, and the type names that it declares
pub data ItemReads (names : List (List ℕ)) : ℕ → List (List ℕ) → Kinds → Item → Type 0 where
  -- item ::= decl
  declaration : (h : ℕ) (new : List (List ℕ)) (ts : Kinds) (i : Item) (d : Decl)
      → new ≡ []
      → i ≡ item.Decl d
      → DeclReads names h ts d
      → ItemReads names h new ts i
  -- item ::= 'typedef' spec declarators ';'
  type_definition : (h : ℕ) (new : List (List ℕ)) (ts : Kinds) (i : Item) (s : Spec) (declarators : List Declarator)
      (hs hd : ℕ) (ss ds : Kinds)
      → h ≡ max hs hd
      → ts ≡ Word word.Typedef ∷ ss ++ ds ++ Mark mark.Semicolon ∷ []
      → i ≡ item.Typedef s declarators
      → SpecReads names true hs ss s
      → DeclaratorsRead names hd new ds declarators
      → ItemReads names h new ts i
  -- item ::= spec declarator block
  definition : (h : ℕ) (new : List (List ℕ)) (ts : Kinds) (i : Item) (s : Spec) (d : Declarator) (b : Block)
      (x : List ℕ) (hs hd hb : ℕ) (ss ds bs : Kinds)
      → new ≡ []
      → h ≡ max hs (max hd hb)
      → ts ≡ ss ++ ds ++ bs
      → i ≡ item.Function s d b
      → SpecReads names true hs ss s
      → DeclaratorReads names hd x ds d
      → BlockReads names hb bs b
      → ItemReads names h new ts i

-- items one after another from these type names on, each at most so deep, and the type names behind them
pub data ItemsRead : List (List ℕ) → Kinds → List Item → List (List ℕ) → Type 0 where
  -- items ::= nothing
  none : (names : List (List ℕ)) (ts : Kinds) (items : List Item) (after : List (List ℕ))
      → ts ≡ []
      → items ≡ []
      → after ≡ names
      → ItemsRead names ts items after
  -- items ::= item items
  more : (names : List (List ℕ)) (ts : Kinds) (items : List Item) (after : List (List ℕ)) (i : Item)
      (others : List Item) (h : ℕ) (new : List (List ℕ)) (its os : Kinds)
      → h ≤ greatest_depth
      → ts ≡ its ++ os
      → items ≡ i ∷ others
      → ItemReads names h new its i
      → ItemsRead (names ++ new) os others after
      → ItemsRead names ts items after

-- the source has these tokens
abbrev pub SourceReads : Kinds → Source → Type 0
SourceReads ts source = (after : List (List ℕ)) × ItemsRead [] ts source.items after

-- behind this many items tokens are left, and no item of the greatest depth begins them
pub record IsSyntaxRefusal (ts : Kinds) (count : ℕ) : Type 0 where
  pub items : List Item
  pub names : List (List ℕ)
  pub before : Kinds
  pub rest : Kinds
  pub split : ts ≡ before ++ rest
  pub read : ItemsRead [] before items names
  pub count_is : count ≡ length items
  pub some : rest ≢ []
  pub none : (h : ℕ) (new : List (List ℕ)) (its os : Kinds) (i : Item)
      → h ≤ greatest_depth
      → rest ≡ its ++ os
      → ItemReads names h new its i
      → ⊥
