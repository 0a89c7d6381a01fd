-- A source that the grammar derives has no empty braces.
use Rattle.std.proofs.Common.{◌≡◌, ◌≢◌, ◌∙◌, ◌||◌, ℕ, Bool, true, List, [], map, Option, Some, None, refl, ap, sym}
use Rattle.std.specs.List.{list_all}
use Rattle.c_tree.specs.declared.expression.Declarator.{Declarator}
use Rattle.c_tree.specs.declared.expression.MemberDecl.{MemberDecl, out-roll-MemberDecl}
use Rattle.c_tree.specs.declared.expression.Spec.{Spec}
use Rattle.c_tree.specs.declared.expression.Spec.TheVariants as spec
use Rattle.c_tree.specs.declared.statement.Block.{Block}
use Rattle.c_tree.specs.declared.statement.BlockItem.{BlockItem, map-BlockItem, roll-BlockItem}
use Rattle.c_tree.specs.declared.statement.BlockItem.TheOpen.{BlockItem-F, Stmt-F}
use Rattle.c_tree.specs.declared.statement.BlockItem.TheVariants as block_item
use Rattle.c_tree.specs.declared.statement.Decl.{Decl}
use Rattle.c_tree.specs.declared.statement.ForInit.{ForInit}
use Rattle.c_tree.specs.declared.statement.ForLoop.{ForLoop, roll-ForLoop}
use Rattle.c_tree.specs.declared.statement.FullExpr.{FullExpr}
use Rattle.c_tree.specs.declared.statement.Init.{Init}
use Rattle.c_tree.specs.declared.statement.Init.TheVariants as init
use Rattle.c_tree.specs.declared.statement.InitDeclarator.{InitDeclarator}
use Rattle.c_tree.specs.declared.statement.Item.{Item}
use Rattle.c_tree.specs.declared.statement.Stmt.{Stmt, map-Stmt, roll-Stmt}
use Rattle.c_tree.specs.declared.statement.Stmt.TheVariants as stmt
use Rattle.c_tree.specs.FoldStatements.{PlainStatements, StatementNode}
use Rattle.c_tree.specs.Grammar.{DeclaratorsRead, MembersRead, SpecReads}
use Rattle.c_tree.specs.Marks.{Kinds}
use Rattle.c_tree.specs.Statements.{BlockItemReads, BlockItemsRead, BlockReads, DeclReads, ForInitReads, InitDeclaratorListReads, InitDeclaratorReads, InitDeclaratorsRead, InitReads, InitsRead, ItemReads, ItemsRead, StmtReads}
use Rattle.c_tree.specs.Trees.{for_loop, full, member_decl}
use Rattle.c_typing_types.specs.Filled as filled
use Rattle.c_typing_types.specs.Filled.{any_declares, are_some, block_fills, decl_fills, declares, for_init_fills, init_fills, init_fills_at, optional_fills, spec_fills, spec_fills_at}
use Rattle.c_typing_types.specs.Theorems.{DerivedSourcesAreFilled}
use Rattle.c_typing_types.proofs.Good.{both_true}
use Rattle.c_typing_types.proofs.Statements as statements
use Rattle.c_typing_types.proofs.Statements.{block-filled, for-filled, item-filled, stmt-filled, stmt_fills}

module _ (names : List (List ℕ)) where
  -- ---- initialisers

  inits-some : {h : ℕ} {ts : Kinds} {is : List Init} → InitsRead names h ts is → are_some is ≡ true
  inits-some (InitsRead.last_init h ts is i same read) = ap are_some same
  inits-some (InitsRead.last_with_comma h ts is i its split same read) = ap are_some same
  inits-some (InitsRead.more_inits h ts is i others hi ho its os high split same read more) = ap are_some same

  init-filled : {h : ℕ} {ts : Kinds} {i : Init} → InitReads names h ts i → init_fills i ≡ true
  unfolding init_fills
  init-filled (InitReads.by_expression h ts i e he high same read) = ap init_fills same ∙ ap init_fills_at (init.outs-Expr e)
  init-filled (InitReads.by_braces h ts i parts hp ps high split same read) = ap init_fills same ∙ ap init_fills_at (init.outs-Braces parts) ∙ inits-some read

  init_declarator-filled : {h : ℕ} {ts : Kinds} {d : InitDeclarator} → InitDeclaratorReads names h ts d → optional_fills d.init ≡ true
  init_declarator-filled (InitDeclaratorReads.without h ts d declarator x same read) = ap (λ d. optional_fills d.init) same
  init_declarator-filled (InitDeclaratorReads.with_init h ts d declarator x i hd hi ds its high split same read inside) = ap (λ d. optional_fills d.init) same ∙ init-filled inside

  abbrev all_fill : List InitDeclarator → Bool
  all_fill ds = list_all (λ d. optional_fills d.init) ds

  list-filled : {h : ℕ} {ts : Kinds} {ds : List InitDeclarator} → InitDeclaratorListReads names h ts ds → all_fill ds ≡ true
  list-filled (InitDeclaratorListReads.one h ts ds d same read) = ap all_fill same ∙ both_true (optional_fills d.init) true (init_declarator-filled read) refl
  list-filled (InitDeclaratorListReads.more h ts ds d others hd ho dts os high split same read rest) =
      ap all_fill same ∙ both_true (optional_fills d.init) (all_fill others) (init_declarator-filled read) (list-filled rest)

  declarators-filled : {h : ℕ} {ts : Kinds} {ds : List InitDeclarator} → InitDeclaratorsRead names h ts ds → all_fill ds ≡ true
  declarators-filled (InitDeclaratorsRead.none h ts ds high split same) = ap all_fill same
  declarators-filled (InitDeclaratorsRead.some h ts ds read) = list-filled read

  -- ---- specs

  names-some : {h : ℕ} {xs : List (List ℕ)} {ts : Kinds} {ds : List Declarator} → DeclaratorsRead names h xs ts ds → are_some ds ≡ true
  names-some (DeclaratorsRead.one_declarator h xs ts ds d x one same read) = ap are_some same
  names-some (DeclaratorsRead.more_declarators h xs ts ds d x others ys hd ho dts os high one split same read rest) = ap are_some same

  line-declares : (s : Spec) (ds : List Declarator) → are_some ds ≡ true → declares (member_decl s ds) ≡ true
  unfolding declares
  line-declares s ds some = ap (λ m. are_some m.declarators) (out-roll-MemberDecl (record { spec = s; declarators = ds })) ∙ some

  members-declare : {h : ℕ} {ts : Kinds} {ms : List MemberDecl} → MembersRead names h ts ms → ms ≢ [] → any_declares ms ≡ true
  members-declare (MembersRead.no_member h ts ms high split same) some = absurd (some same)
  members-declare (MembersRead.more_members h ts ms s xs ds others hs hd ho ss dts os high split same read declared rest) some =
      ap any_declares same ∙ ap (λ b. b || any_declares others) (line-declares s ds (names-some declared))

  spec-filled : {bodies : Bool} {h : ℕ} {ts : Kinds} {s : Spec} → SpecReads names bodies h ts s → spec_fills s ≡ true
  unfolding spec_fills
  spec-filled (SpecReads.int bodies h ts s high split same) = ap spec_fills same ∙ ap spec_fills_at spec.outs-Int
  spec-filled (SpecReads.char bodies h ts s high split same) = ap spec_fills same ∙ ap spec_fills_at spec.outs-Char
  spec-filled (SpecReads.void bodies h ts s high split same) = ap spec_fills same ∙ ap spec_fills_at spec.outs-Void
  spec-filled (SpecReads.type_name bodies h ts s x high known split same) = ap spec_fills same ∙ ap spec_fills_at (spec.outs-TypeName x)
  spec-filled (SpecReads.tag bodies h ts s x high free split same) = ap spec_fills same ∙ ap spec_fills_at (spec.outs-Struct x None)
  spec-filled (SpecReads.body bodies h ts s x hm ms members may high free split same some read) =
      ap spec_fills same ∙ ap spec_fills_at (spec.outs-Struct x (Some members)) ∙ members-declare read some

  -- ---- declarations

  decl-filled : {h : ℕ} {ts : Kinds} {d : Decl} → DeclReads names h ts d → decl_fills d ≡ true
  decl-filled (DeclReads.decl h ts d s declarators hs hd ss ds high split same read declared) =
      ap decl_fills same ∙ both_true (spec_fills s) (all_fill declarators) (spec-filled read) (declarators-filled declared)

  for_init-filled : {h : ℕ} {ts : Kinds} {f : ForInit} → ForInitReads names h ts f → for_init_fills f ≡ true
  for_init-filled (ForInitReads.declared h ts f d same read) = ap for_init_fills same ∙ decl-filled read
  for_init-filled (ForInitReads.computed h ts f o os split same read) = ap for_init_fills same

  -- ---- statements

  stmt-by : (node : StatementNode PlainStatements Stmt-F) (s t : Stmt) → roll-Stmt node ≡ t → s ≡ t
      → filled.stmt_step (map-Stmt _ _ _ _ _ _ _ _ statements.item_fills stmt_fills block_fills statements.for_fills node) ≡ true → stmt_fills s ≡ true
  stmt-by node s t rolls same fills = ap stmt_fills (same ∙ sym rolls) ∙ stmt-filled node ∙ fills

  block_item-by : (node : StatementNode PlainStatements BlockItem-F) (i j : BlockItem) → roll-BlockItem node ≡ j → i ≡ j
      → filled.block_item_step (map-BlockItem _ _ _ _ _ _ _ _ statements.item_fills stmt_fills block_fills statements.for_fills node) ≡ true → statements.item_fills i ≡ true
  block_item-by node i j rolls same fills = ap statements.item_fills (same ∙ sym rolls) ∙ item-filled node ∙ fills

  for-by : (f : ForInit) (c step : Option FullExpr) (body s : Stmt) → s ≡ for_loop f c step body → for_init_fills f ≡ true → stmt_fills body ≡ true → stmt_fills s ≡ true
  for-by f c step body s same first inside =
      let loop : ForLoop = roll-ForLoop (record { init = f; condition = c; step = step; body = body }) in
      stmt-by (Stmt-F.For loop) s (stmt.For loop) (stmt.rolls-For loop) same
      (for-filled (record { init = f; condition = c; step = step; body = body }) ∙ both_true (for_init_fills f) (stmt_fills body) first inside)

  abbrev items_fill : List BlockItem → Bool
  items_fill is = list_all (λ fills. fills) (map statements.item_fills is)

  mutual
    stmt-derived : {closed : Bool} {h : ℕ} {ts : Kinds} {s : Stmt} → StmtReads names closed h ts s → stmt_fills s ≡ true
    stmt-derived (StmtReads.block closed h ts s b hb is high same read) = stmt-by (Stmt-F.Block b) s (stmt.Block b) (stmt.rolls-Block b) same (block-derived read)
    stmt-derived (StmtReads.if_alone closed h ts s c then then_closed hc ht cs tts is high split same test read) =
        stmt-by (Stmt-F.If (full c) then None) s (stmt.If (full c) then None) (stmt.rolls-If (full c) then None) same (stmt-derived read)
    stmt-derived (StmtReads.if_else closed h ts s c then otherwise hc ht ho cs tts os high split same test read other) =
        stmt-by (Stmt-F.If (full c) then (Some otherwise)) s (stmt.If (full c) then (Some otherwise)) (stmt.rolls-If (full c) then (Some otherwise)) same
        (both_true (stmt_fills then) (stmt_fills otherwise) (stmt-derived read) (stmt-derived other))
    stmt-derived (StmtReads.while closed h ts s c body hc hb cs bs high split same test read) =
        stmt-by (Stmt-F.While (full c) body) s (stmt.While (full c) body) (stmt.rolls-While (full c) body) same (stmt-derived read)
    stmt-derived (StmtReads.do_while closed h ts s body c body_closed hb hc bs cs is high split same read test) =
        stmt-by (Stmt-F.Do body (full c)) s (stmt.Do body (full c)) (stmt.rolls-Do body (full c)) same (stmt-derived read)
    stmt-derived (StmtReads.for_loop closed h ts s f c step body hf hc hs hb fs cs ss bs high split same first test last read) =
        for-by f c step body s same (for_init-filled first) (stmt-derived read)
    stmt-derived (StmtReads.break closed h ts s is high split same) = stmt-by Stmt-F.Break s stmt.Break stmt.rolls-Break same refl
    stmt-derived (StmtReads.continue closed h ts s is high split same) = stmt-by Stmt-F.Continue s stmt.Continue stmt.rolls-Continue same refl
    stmt-derived (StmtReads.return closed h ts s o ho os is high split same read) = stmt-by (Stmt-F.Return o) s (stmt.Return o) (stmt.rolls-Return o) same refl
    stmt-derived (StmtReads.computes closed h ts s o ho os is high split same read) = stmt-by (Stmt-F.Expr o) s (stmt.Expr o) (stmt.rolls-Expr o) same refl

    block-derived : {h : ℕ} {ts : Kinds} {b : Block} → BlockReads names h ts b → block_fills b ≡ true
    block-derived (BlockReads.braces h ts b items is split same read) = ap block_fills same ∙ block-filled (record { items = items }) ∙ items-derived read

    items-derived : {h : ℕ} {ts : Kinds} {is : List BlockItem} → BlockItemsRead names h ts is → items_fill is ≡ true
    items-derived (BlockItemsRead.no_block_item h ts is high split same) = ap items_fill same
    items-derived (BlockItemsRead.more_block_items h ts is i others hi ho its os high split same read more) =
        ap items_fill same ∙ both_true (statements.item_fills i) (items_fill others) (item-derived read) (items-derived more)

    item-derived : {h : ℕ} {ts : Kinds} {i : BlockItem} → BlockItemReads names h ts i → statements.item_fills i ≡ true
    item-derived (BlockItemReads.declaration h ts i d same read) = block_item-by (BlockItem-F.Decl d) i (block_item.Decl d) (block_item.rolls-Decl d) same (decl-filled read)
    item-derived (BlockItemReads.statement h ts i s closed same read) = block_item-by (BlockItem-F.Stmt s) i (block_item.Stmt s) (block_item.rolls-Stmt s) same (stmt-derived read)

  -- ---- items

  whole_item-derived : {h : ℕ} {new : List (List ℕ)} {ts : Kinds} {i : Item} → ItemReads names h new ts i → filled.item_fills i ≡ true
  whole_item-derived (ItemReads.declaration h new ts i d none same read) = ap filled.item_fills same ∙ decl-filled read
  whole_item-derived (ItemReads.type_definition h new ts i s declarators hs hd ss ds high split same read declared) = ap filled.item_fills same ∙ spec-filled read
  whole_item-derived (ItemReads.definition h new ts i s d b x hs hd hb ss ds bs none high split same read declared inside) =
      ap filled.item_fills same ∙ both_true (spec_fills s) (block_fills b) (spec-filled read) (block-derived inside)

all-derived : {names : List (List ℕ)} {ts : Kinds} {items : List Item} {after : List (List ℕ)} → ItemsRead names ts items after → list_all filled.item_fills items ≡ true
all-derived (ItemsRead.none names ts items after split same end) = ap (list_all filled.item_fills) same
all-derived (ItemsRead.more names ts items after i others h new its os deep split same read behind) =
    ap (list_all filled.item_fills) same ∙ both_true (filled.item_fills i) (list_all filled.item_fills others) (whole_item-derived names read) (all-derived behind)

pub derived-filled : DerivedSourcesAreFilled
derived-filled ts s read = all-derived read.1
