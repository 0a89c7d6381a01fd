-- What is printed of a statement, item or source is read as the same tree, as deep as before, and can be spelled
-- where the tokens that the tree was read from can.
use Rattle.std.proofs.Common.{◌∙◌, ℕ, Bool, List, ◌∷◌, ◌++◌, map, refl, ap, sym, subst, arith, Option, Some, None}
use Rattle.std.proofs.lemmas.List.{append-nil}
use Rattle.c_tokens.specs.declared.token.Keyword.TheVariants as word
use Rattle.c_tokens.specs.declared.token.Kind.TheVariants.{Word}
use Rattle.c_tokens.specs.declared.token.Mark.TheVariants as mark
use Rattle.c_tree.specs.declared.statement.FullExpr.{FullExpr}
use Rattle.c_tree.specs.declared.statement.Init.{Init}
use Rattle.c_tree.specs.declared.statement.InitDeclarator.{InitDeclarator}
use Rattle.c_tree.specs.declared.statement.Decl.{Decl}
use Rattle.c_tree.specs.declared.statement.ForInit.{ForInit}
use Rattle.c_tree.specs.declared.statement.Block.{Block}
use Rattle.c_tree.specs.declared.statement.BlockItem.{BlockItem}
use Rattle.c_tree.specs.declared.statement.Stmt.{Stmt}
use Rattle.c_tree.specs.declared.statement.Item.{Item}
use Rattle.c_tree.specs.declared.statement.Unit.{Unit as Source}
use Rattle.c_tree.specs.Marks.{Kinds, wrapped, assign_level}
use Rattle.c_tree.specs.Trees.{full}
use Rattle.c_tree.specs.Statements.{InitReads, InitsRead, InitDeclaratorReads, InitDeclaratorListReads, InitDeclaratorsRead, DeclReads, OptionReads, ForInitReads, StmtReads, BlockReads, BlockItemsRead, BlockItemReads, ItemReads, ItemsRead, SourceReads}
use Rattle.c_tree.specs.Printed.{joined, with_commas, printed_expr, printed_declarator}
use Rattle.c_tree.specs.PrintedStatements.{printed_init, printed_init_declarator, printed_decl, printed_option, printed_for_init, printed_stmt, printed_block_item, printed_block, printed_item, printed_source}
use Rattle.c_tree.proofs.PrintedStatementsLemmas as Printed
use Rattle.c_tree.proofs.round_trip.SpellingIsKept.{kept-none, kept-mark, kept-word, kept-append, kept-from, kept-to, kept-wrapped}
use Rattle.c_tree.proofs.round_trip.Expressions.{Reprinted, Listed, listed-one, listed-more, spec-again, declarators-again, declarator-again, expr-again}

mutual
  pub init-again : {names : List (List ℕ)} {h : ℕ} {ts : Kinds} {i : Init} → InitReads names h ts i → Reprinted (λ us. InitReads names h us i) ts (printed_init i)
  init-again {names} (InitReads.by_expression h ts i e he his iis r) =
      let a = expr-again r assign_level (omega arith) in
      let is = ap printed_init iis ∙ Printed.init-Expr e in
      record { read = subst (λ us. InitReads names h us i) (sym is) (InitReads.by_expression h _ i e he his iis a.read); kept = kept-to is a.kept }
  init-again (InitReads.by_braces h ts i parts hp ps his tis iis r) =
      let a = inits-again r in
      let is = ap printed_init iis ∙ Printed.init-Braces parts in
      record { read = InitReads.by_braces h _ i parts hp _ his is iis a.read; kept = kept-to is (kept-from tis (kept-append (kept-mark mark.LeftBrace a.kept) (kept-mark mark.RightBrace kept-none))) }

  pub inits-again : {names : List (List ℕ)} {h : ℕ} {ts : Kinds} {is : List Init} → InitsRead names h ts is → Listed (λ us. InitsRead names h us is) ts (map printed_init is)
  inits-again (InitsRead.last_init h ts is i iis r) =
      let a = init-again r in listed-one printed_init iis (record { read = InitsRead.last_init h _ is i iis a.read; kept = a.kept })
  inits-again (InitsRead.last_with_comma h ts is i its tis iis r) =
      let a = init-again r in
      listed-one printed_init iis (record { read = InitsRead.last_init h _ is i iis a.read; kept = kept-to (sym (append-nil (printed_init i))) (kept-from tis (kept-append a.kept kept-none)) })
  inits-again (InitsRead.more_inits h ts is i others hi ho its os his tis iis ri ro) =
      let a = init-again ri in
      let b = inits-again ro in
      listed-more printed_init iis tis a.kept b (InitsRead.more_inits h _ is i others hi ho _ _ his refl iis a.read b.read)

pub init_declarator-again : {names : List (List ℕ)} {h : ℕ} {ts : Kinds} {d : InitDeclarator} → InitDeclaratorReads names h ts d → Reprinted (λ us. InitDeclaratorReads names h us d) ts (printed_init_declarator d)
unfolding printed_init_declarator
init_declarator-again {names} (InitDeclaratorReads.without h ts d declarator x dis r) =
    let a = declarator-again r in
    let is = ap printed_init_declarator dis ∙ append-nil (printed_declarator declarator) in
    record { read = subst (λ us. InitDeclaratorReads names h us d) (sym is) (InitDeclaratorReads.without h _ d declarator x dis a.read); kept = kept-to is a.kept }
init_declarator-again (InitDeclaratorReads.with_init h ts d declarator x i hd hi ds its his tis dis rd ri) =
    let a = declarator-again rd in
    let b = init-again ri in
    let is = ap printed_init_declarator dis in
    record { read = InitDeclaratorReads.with_init h _ d declarator x i hd hi _ _ his is dis a.read b.read; kept = kept-to is (kept-from tis (kept-append a.kept (kept-mark mark.Assign b.kept))) }

init_declarator_list-again : {names : List (List ℕ)} {h : ℕ} {ts : Kinds} {ds : List InitDeclarator} → InitDeclaratorListReads names h ts ds → Listed (λ us. InitDeclaratorListReads names h us ds) ts (map printed_init_declarator ds)
init_declarator_list-again (InitDeclaratorListReads.one h ts ds d dis r) =
    let a = init_declarator-again r in listed-one printed_init_declarator dis (record { read = InitDeclaratorListReads.one h _ ds d dis a.read; kept = a.kept })
init_declarator_list-again (InitDeclaratorListReads.more h ts ds d others hd ho dts os his tis dis rd ro) =
    let a = init_declarator-again rd in
    let b = init_declarator_list-again ro in
    listed-more printed_init_declarator dis tis a.kept b (InitDeclaratorListReads.more h _ ds d others hd ho _ _ his refl dis a.read b.read)

init_declarators-again : {names : List (List ℕ)} {h : ℕ} {ts : Kinds} {ds : List InitDeclarator} → InitDeclaratorsRead names h ts ds → Reprinted (λ us. InitDeclaratorsRead names h us ds) ts (with_commas (map printed_init_declarator ds))
init_declarators-again (InitDeclaratorsRead.none h ts ds his tis dis) =
    let is = ap (λ l. with_commas (map printed_init_declarator l)) dis in record { read = InitDeclaratorsRead.none h _ ds his is dis; kept = kept-to is kept-none }
init_declarators-again (InitDeclaratorsRead.some h ts ds r) =
    let a = init_declarator_list-again r in record { read = InitDeclaratorsRead.some h _ ds a.read; kept = a.kept }

pub decl-again : {names : List (List ℕ)} {h : ℕ} {ts : Kinds} {d : Decl} → DeclReads names h ts d → Reprinted (λ us. DeclReads names h us d) ts (printed_decl d)
unfolding printed_decl
decl-again (DeclReads.decl h ts d s declarators hs hd ss ds his tis dis rs rd) =
    let a = spec-again rs in
    let b = init_declarators-again rd in
    let is = ap printed_decl dis in
    record { read = DeclReads.decl h _ d s declarators hs hd _ _ his is dis a.read b.read; kept = kept-to is (kept-from tis (kept-append (kept-append a.kept b.kept) (kept-mark mark.Semicolon kept-none))) }

pub option-again : {names : List (List ℕ)} {h : ℕ} {ts : Kinds} {o : Option FullExpr} → OptionReads names h ts o → Reprinted (λ us. OptionReads names h us o) ts (printed_option o)
option-again (OptionReads.nothing h ts o his tis ois) =
    let is = ap printed_option ois in record { read = OptionReads.nothing h _ o his is ois; kept = kept-to is kept-none }
option-again {names} (OptionReads.some h ts o e ois r) =
    let a = expr-again r assign_level (omega arith) in
    let is = ap printed_option ois in
    record { read = subst (λ us. OptionReads names h us o) (sym is) (OptionReads.some h _ o e ois a.read); kept = kept-to is a.kept }

pub for_init-again : {names : List (List ℕ)} {h : ℕ} {ts : Kinds} {f : ForInit} → ForInitReads names h ts f → Reprinted (λ us. ForInitReads names h us f) ts (printed_for_init f)
for_init-again {names} (ForInitReads.declared h ts f d fis r) =
    let a = decl-again r in
    let is = ap printed_for_init fis in
    record { read = subst (λ us. ForInitReads names h us f) (sym is) (ForInitReads.declared h _ f d fis a.read); kept = kept-to is a.kept }
for_init-again (ForInitReads.computed h ts f o os tis fis r) =
    let a = option-again r in
    let is = ap printed_for_init fis in
    record { read = ForInitReads.computed h _ f o _ is fis a.read; kept = kept-to is (kept-from tis (kept-append a.kept (kept-mark mark.Semicolon kept-none))) }

mutual
  pub stmt-again : {names : List (List ℕ)} {closed : Bool} {h : ℕ} {ts : Kinds} {s : Stmt} → StmtReads names closed h ts s → Reprinted (λ us. StmtReads names closed h us s) ts (printed_stmt s)
  stmt-again {names} (StmtReads.block closed h ts s b hb cis his sis r) =
      let a = block-again r in
      let is = ap printed_stmt sis ∙ Printed.stmt-Block b in
      record { read = subst (λ us. StmtReads names closed h us s) (sym is) (StmtReads.block closed h _ s b hb cis his sis a.read); kept = kept-to is a.kept }
  stmt-again (StmtReads.if_alone closed h ts s c then then_closed hc ht cs tts cis his tis sis rc rt) =
      let a = expr-again rc assign_level (omega arith) in
      let b = stmt-again rt in
      let is = ap printed_stmt sis ∙ Printed.stmt-If (full c) then None ∙ append-nil (Word word.If ∷ wrapped 1 (printed_expr c) ++ printed_stmt then) in
      record { read = StmtReads.if_alone closed h _ s c then then_closed hc ht _ _ cis his is sis a.read b.read; kept = kept-to is (kept-from tis (kept-append (kept-word word.If (kept-wrapped 1 1 a.kept)) b.kept)) }
  stmt-again (StmtReads.if_else closed h ts s c then otherwise hc ht ho cs tts os his tis sis rc rt ro) =
      let a = expr-again rc assign_level (omega arith) in
      let b = stmt-again rt in
      let d = stmt-again ro in
      let is = ap printed_stmt sis ∙ Printed.stmt-If (full c) then (Some otherwise) in
      record {
        read = StmtReads.if_else closed h _ s c then otherwise hc ht ho _ _ _ his is sis a.read b.read d.read;
        kept = kept-to is (kept-from tis (kept-append (kept-append (kept-word word.If (kept-wrapped 1 1 a.kept)) b.kept) (kept-word word.Else d.kept)));
      }
  stmt-again (StmtReads.while closed h ts s c body hc hb cs bs his tis sis rc rb) =
      let a = expr-again rc assign_level (omega arith) in
      let b = stmt-again rb in
      let is = ap printed_stmt sis ∙ Printed.stmt-While (full c) body in
      record { read = StmtReads.while closed h _ s c body hc hb _ _ his is sis a.read b.read; kept = kept-to is (kept-from tis (kept-append (kept-word word.While (kept-wrapped 1 1 a.kept)) b.kept)) }
  stmt-again (StmtReads.do_while closed h ts s body c body_closed hb hc bs cs cis his tis sis rb rc) =
      let a = stmt-again rb in
      let b = expr-again rc assign_level (omega arith) in
      let is = ap printed_stmt sis ∙ Printed.stmt-Do body (full c) in
      record {
        read = StmtReads.do_while closed h _ s body c body_closed hb hc _ _ cis his is sis a.read b.read;
        kept = kept-to is (kept-from tis (kept-append (kept-append (kept-word word.Do a.kept) (kept-word word.While (kept-wrapped 1 1 b.kept))) (kept-mark mark.Semicolon kept-none)));
      }
  stmt-again (StmtReads.for_loop closed h ts s f c step body hf hc hs hb fs cs ss bs his tis sis rf rc rs rb) =
      let a = for_init-again rf in
      let b = option-again rc in
      let d = option-again rs in
      let e = stmt-again rb in
      let is = ap printed_stmt sis ∙ Printed.for_loop-made f c step body in
      record {
        read = StmtReads.for_loop closed h _ s f c step body hf hc hs hb _ _ _ _ his is sis a.read b.read d.read e.read;
        kept = kept-to is (kept-from tis (kept-append (kept-word word.For (kept-wrapped 1 1 (kept-append (kept-append a.kept b.kept) (kept-mark mark.Semicolon d.kept)))) e.kept));
      }
  stmt-again (StmtReads.break closed h ts s cis his tis sis) =
      let is = ap printed_stmt sis ∙ Printed.stmt-Break in record { read = StmtReads.break closed h _ s cis his is sis; kept = kept-to is (kept-from tis (kept-word word.Break (kept-mark mark.Semicolon kept-none))) }
  stmt-again (StmtReads.continue closed h ts s cis his tis sis) =
      let is = ap printed_stmt sis ∙ Printed.stmt-Continue in record { read = StmtReads.continue closed h _ s cis his is sis; kept = kept-to is (kept-from tis (kept-word word.Continue (kept-mark mark.Semicolon kept-none))) }
  stmt-again (StmtReads.return closed h ts s o ho os cis his tis sis r) =
      let a = option-again r in
      let is = ap printed_stmt sis ∙ Printed.stmt-Return o in
      record { read = StmtReads.return closed h _ s o ho _ cis his is sis a.read; kept = kept-to is (kept-from tis (kept-append (kept-word word.Return a.kept) (kept-mark mark.Semicolon kept-none))) }
  stmt-again (StmtReads.computes closed h ts s o ho os cis his tis sis r) =
      let a = option-again r in
      let is = ap printed_stmt sis ∙ Printed.stmt-Expr o in
      record { read = StmtReads.computes closed h _ s o ho _ cis his is sis a.read; kept = kept-to is (kept-from tis (kept-append a.kept (kept-mark mark.Semicolon kept-none))) }

  pub block-again : {names : List (List ℕ)} {h : ℕ} {ts : Kinds} {b : Block} → BlockReads names h ts b → Reprinted (λ us. BlockReads names h us b) ts (printed_block b)
  block-again (BlockReads.braces h ts b items its tis bis r) =
      let a = block_items-again r in
      let is = ap printed_block bis ∙ Printed.block-made items in
      record { read = BlockReads.braces h _ b items _ is bis a.read; kept = kept-to is (kept-from tis (kept-append (kept-mark mark.LeftBrace a.kept) (kept-mark mark.RightBrace kept-none))) }

  pub block_items-again : {names : List (List ℕ)} {h : ℕ} {ts : Kinds} {all : List BlockItem} → BlockItemsRead names h ts all → Reprinted (λ us. BlockItemsRead names h us all) ts (joined (map printed_block_item all))
  block_items-again (BlockItemsRead.no_block_item h ts all his tis ais) =
      let is = ap (λ l. joined (map printed_block_item l)) ais in record { read = BlockItemsRead.no_block_item h _ all his is ais; kept = kept-to is kept-none }
  block_items-again (BlockItemsRead.more_block_items h ts all i others hi ho its os his tis ais ri ro) =
      let a = block_item-again ri in
      let b = block_items-again ro in
      let is = ap (λ l. joined (map printed_block_item l)) ais in
      record { read = BlockItemsRead.more_block_items h _ all i others hi ho _ _ his is ais a.read b.read; kept = kept-to is (kept-from tis (kept-append a.kept b.kept)) }

  pub block_item-again : {names : List (List ℕ)} {h : ℕ} {ts : Kinds} {i : BlockItem} → BlockItemReads names h ts i → Reprinted (λ us. BlockItemReads names h us i) ts (printed_block_item i)
  block_item-again {names} (BlockItemReads.declaration h ts i d iis r) =
      let a = decl-again r in
      let is = ap printed_block_item iis ∙ Printed.block_item-Decl d in
      record { read = subst (λ us. BlockItemReads names h us i) (sym is) (BlockItemReads.declaration h _ i d iis a.read); kept = kept-to is a.kept }
  block_item-again {names} (BlockItemReads.statement h ts i s closed iis r) =
      let a = stmt-again r in
      let is = ap printed_block_item iis ∙ Printed.block_item-Stmt s in
      record { read = subst (λ us. BlockItemReads names h us i) (sym is) (BlockItemReads.statement h _ i s closed iis a.read); kept = kept-to is a.kept }

pub item-again : {names : List (List ℕ)} {h : ℕ} {new : List (List ℕ)} {ts : Kinds} {i : Item} → ItemReads names h new ts i → Reprinted (λ us. ItemReads names h new us i) ts (printed_item i)
item-again {names} (ItemReads.declaration h new ts i d nis iis r) =
    let a = decl-again r in
    let is = ap printed_item iis in
    record { read = subst (λ us. ItemReads names h new us i) (sym is) (ItemReads.declaration h new _ i d nis iis a.read); kept = kept-to is a.kept }
item-again (ItemReads.type_definition h new ts i s declarators hs hd ss ds his tis iis rs rd) =
    let a = spec-again rs in
    let b = declarators-again rd in
    let is = ap printed_item iis in
    record {
      read = ItemReads.type_definition h new _ i s declarators hs hd _ _ his is iis a.read b.read;
      kept = kept-to is (kept-from tis (kept-append (kept-append (kept-word word.Typedef a.kept) b.kept) (kept-mark mark.Semicolon kept-none)));
    }
item-again (ItemReads.definition h new ts i s d b x hs hd hb ss ds bs nis his tis iis rs rd rb) =
    let a = spec-again rs in
    let c = declarator-again rd in
    let e = block-again rb in
    let is = ap printed_item iis in
    record { read = ItemReads.definition h new _ i s d b x hs hd hb _ _ _ nis his is iis a.read c.read e.read; kept = kept-to is (kept-from tis (kept-append (kept-append a.kept c.kept) e.kept)) }

pub items-again : {names : List (List ℕ)} {ts : Kinds} {items : List Item} {after : List (List ℕ)} → ItemsRead names ts items after → Reprinted (λ us. ItemsRead names us items after) ts (joined (map printed_item items))
items-again (ItemsRead.none names ts items after tis iis ais) =
    let is = ap (λ l. joined (map printed_item l)) iis in record { read = ItemsRead.none names _ items after is iis ais; kept = kept-to is kept-none }
items-again (ItemsRead.more names ts items after i others h new its os deep tis iis ri ro) =
    let a = item-again ri in
    let b = items-again ro in
    let is = ap (λ l. joined (map printed_item l)) iis in
    record { read = ItemsRead.more names _ items after i others h new _ _ deep is iis a.read b.read; kept = kept-to is (kept-from tis (kept-append a.kept b.kept)) }

-- what is printed of a tree is tokens of that tree
pub source-again : {ts : Kinds} (source : Source) → SourceReads ts source → Reprinted (λ us. SourceReads us source) ts (printed_source source)
unfolding printed_source
source-again source (after, r) = let a = items-again r in record { read = (after, a.read); kept = a.kept }
