-- Items of the grammar are what their readers answer, whatever follows, at every depth.
use Rattle.std.proofs.Common.{◌≡◌, ℕ, zero, suc, ◌<◌, ◌≤◌, Bool, true, false, List, [], ◌∷◌, ◌++◌, Some, refl, ap, ◌∙◌, arith, length, map, length-append, append_assoc}
use Rattle.c_tokens.specs.declared.token.Keyword.TheVariants as word
use Rattle.c_tokens.specs.declared.token.Kind.TheVariants.{Mark}
use Rattle.c_tokens.specs.declared.token.Mark.TheVariants as mark
use Rattle.c_tree.specs.declared.expression.Declarator.{Declarator}
use Rattle.c_tree.specs.declared.expression.Spec.{Spec}
use Rattle.c_tree.specs.declared.statement.Block.{Block}
use Rattle.c_tree.specs.declared.statement.Decl.{Decl}
use Rattle.c_tree.specs.declared.statement.Init.{Init}
use Rattle.c_tree.specs.declared.statement.Item.{Item}
use Rattle.c_tree.specs.declared.statement.Item.TheVariants as item_as
use Rattle.c_tree.specs.declared.statement.Stmt.{Stmt}
use Rattle.c_tree.specs.Marks.{Kinds, assign_level}
use Rattle.c_tree.specs.DeclaredName.{declared_name}
use Rattle.c_tree.specs.Theorems.{DeclaratorsDeclareTheirNames}
use Rattle.c_tree.specs.Grammar.{SpecReads, DeclaratorsRead, DeclaratorReads}
use Rattle.c_tree.specs.Statements.{InitReads, StmtReads, BlockReads, ItemReads}
use Rattle.c_readers.specs.inner.Parser.{Parser, Outcome, WithHeight, same_mark, sees}
use Rattle.c_readers.specs.inner.Readers.{Readers, readers}
use Rattle.c_expr.specs.Theorems.{AreComplete, Takes, Stops, Lacks, LacksSuffix, ExpressionLaws, FirstTokens}
use Rattle.c_expr.specs.FirstTokens.{Begins, CanBeginSpec}
use Rattle.c_expr.specs.inner.FirstTokensLemmas.{Begins-append}
use Rattle.c_statements.specs.inner.Readers.{sees_word, decl_of, init, stmt}
use Rattle.c_parser.specs.inner.Readers.{types_from, types, type_definition, item_of, untyped, item_over, item}
use Rattle.c_statements.proofs.ChainLemmas.{then_takes, if_yes, if_no, eats, leaves, expects, eats_word, leaves_word}
use Rattle.c_statements.proofs.completeness.StatementsBegin.{GoesOn, begins_some, spec_no_word, goes_on_lacks, no_suffix, brace_no_suffix, semicolon_ends, comma_ends, ends_goes_on, semicolon_no_comma, semicolon_no_brace, declarator_no_brace, declarator_no_semicolon}
use Rattle.c_statements.proofs.completeness.Declarations.{at_tokens, DeclParts, decl_parts, decl_begins, init_over_takes}
use Rattle.c_statements.proofs.completeness.Statements.{StmtsTake, block_takes, stmt_over_takes}

block_opens : {names : List (List ℕ)} {h : ℕ} {bs : Kinds} {b : Block} (rest : Kinds) → BlockReads names h bs b → sees mark.LeftBrace (bs ++ rest) ≡ true
unfolding same_mark
block_opens rest (BlockReads.braces h ts b items ps is bi read) = rw is refl

block_no_suffix : {names : List (List ℕ)} {h : ℕ} {bs : Kinds} {b : Block} (rest : Kinds) → BlockReads names h bs b → LacksSuffix (bs ++ rest)
block_no_suffix rest (BlockReads.braces h ts b items ps is bi read) = rw is (brace_no_suffix ((ps ++ Mark mark.RightBrace ∷ []) ++ rest))

module _ (named : DeclaratorsDeclareTheirNames) (names : List (List ℕ)) (first : FirstTokens names) (depth : ℕ) (r : Readers) (complete : AreComplete names depth r) where
  module _ (init : Parser (WithHeight Init)) (init_takes : (h : ℕ) (ts : Kinds) (i : Init) → h ≤ depth → InitReads names h ts i → Takes init (Stops assign_level) h ts i) where
    module _ (inner : Parser (WithHeight Stmt)) (inner_takes : StmtsTake names depth inner) where
      -- ---- type definitions

      declarator_takes : {h : ℕ} {x : List ℕ} {ds : Kinds} {d : Declarator} → h ≤ depth → DeclaratorReads names h x ds d → (rest : Kinds) → GoesOn rest → r.declarator (ds ++ rest) ≡ Some ((d, h), rest)
      declarator_takes {h} {x} {ds} {d} deep read rest on = complete.declarator h x ds d deep read rest (no_suffix rest on)

      declarators_some : {h : ℕ} {xs : List (List ℕ)} {ts : Kinds} {ds : List Declarator} → DeclaratorsRead names h xs ts ds → 0 < length ts
      declarators_some (DeclaratorsRead.one_declarator h xs ts ds d x xi di read) = begins_some _ ts (first.declarator read)
      declarators_some (DeclaratorsRead.more_declarators h xs ts ds d x others ys hd ho dts os hh xi is di read more) =
          let long = ap (λ ks. length ks) is in let both = length-append dts (Mark mark.Comma ∷ os) in omega arith

      types_take : {h : ℕ} {xs : List (List ℕ)} {ts : Kinds} {ds : List Declarator} → h ≤ depth → DeclaratorsRead names h xs ts ds → (rest : Kinds) (n : ℕ) → length ts ≤ n → (found : List Declarator)
          → types_from names r init inner n found (ts ++ Mark mark.Semicolon ∷ rest) ≡ Some (found ++ ds, Mark mark.Semicolon ∷ rest)
      unfolding types_from
      types_take {ts = ts} deep read rest zero enough found = let some : 0 < length ts = declarators_some read in absurd (omega arith)
      types_take deep (DeclaratorsRead.one_declarator h xs ts ds d x xi di read) rest (suc n) enough found =
          let last = Mark mark.Semicolon ∷ rest in
          rw di (then_takes _ _ (d, h) last _ (declarator_takes deep read last (ends_goes_on last (semicolon_ends rest))) (leaves mark.Comma last _ _ _ (semicolon_no_comma rest) refl))
      types_take deep (DeclaratorsRead.more_declarators h xs ts ds d x others ys hd ho dts os hh xi is di read more) rest (suc n) enough found =
          let tail = os ++ Mark mark.Semicolon ∷ rest in
          let long = ap (λ ks. length ks) is in
          let both = length-append dts (Mark mark.Comma ∷ os) in
          rw (di, is, append_assoc dts (Mark mark.Comma ∷ os) (Mark mark.Semicolon ∷ rest))
          (then_takes _ _ (d, hd) (Mark mark.Comma ∷ tail) _ (declarator_takes (omega arith) read (Mark mark.Comma ∷ tail) (ends_goes_on (Mark mark.Comma ∷ tail) (comma_ends tail)))
          (eats mark.Comma tail _ _ _ (types_take (omega arith) more rest n (omega arith) (found ++ d ∷ []) ∙ rw (append_assoc found (d ∷ []) others) refl)))

      names_declared : {h : ℕ} {xs : List (List ℕ)} {ts : Kinds} {ds : List Declarator} → DeclaratorsRead names h xs ts ds → map declared_name ds ≡ xs
      names_declared (DeclaratorsRead.one_declarator h xs ts ds d x xi di read) = rw (di, xi) (ap (λ y. y ∷ []) (named names h x ts d read))
      names_declared (DeclaratorsRead.more_declarators h xs ts ds d x others ys hd ho dts os hh xi is di read more) = rw (di, xi) (λ i. named names hd x dts d read i ∷ names_declared more i)

      spec_takes : {h : ℕ} {ss : Kinds} {s : Spec} → h ≤ depth → SpecReads names true h ss s → (rest : Kinds) → Lacks mark.LeftBrace rest → r.spec true (ss ++ rest) ≡ Some ((s, h), rest)
      spec_takes {h} {ss} {s} deep read rest lacks = complete.spec true h ss s deep read rest lacks

      declarators_no_brace : {h : ℕ} {xs : List (List ℕ)} {ts : Kinds} {ds : List Declarator} → DeclaratorsRead names h xs ts ds → (rest : Kinds) → Lacks mark.LeftBrace (ts ++ rest)
      declarators_no_brace (DeclaratorsRead.one_declarator h xs ts ds d x xi di read) rest = declarator_no_brace first rest read
      declarators_no_brace (DeclaratorsRead.more_declarators h xs ts ds d x others ys hd ho dts os hh xi is di read more) rest =
          rw (is, append_assoc dts (Mark mark.Comma ∷ os) rest) (declarator_no_brace first (Mark mark.Comma ∷ (os ++ rest)) read)

      typedef_takes : {hs hd : ℕ} {ss dts : Kinds} {s : Spec} {new : List (List ℕ)} {ds : List Declarator} → hs ≤ depth → hd ≤ depth → SpecReads names true hs ss s → DeclaratorsRead names hd new dts ds → (rest : Kinds)
          → type_definition names r init inner ((ss ++ dts ++ Mark mark.Semicolon ∷ []) ++ rest) ≡ Some ((item_as.Typedef s ds, new), rest)
      unfolding type_definition types
      typedef_takes {hs} {hd} {ss} {dts} {s} {new} {ds} deep low sread dread rest =
          let last = Mark mark.Semicolon ∷ rest in
          let long = length-append dts last in
          at_tokens (type_definition names r init inner) {us = ss ++ (dts ++ last)} (simp append_assoc)
          (then_takes _ _ (s, hs) (dts ++ last) _ (spec_takes deep sread (dts ++ last) (declarators_no_brace dread last))
          (then_takes _ _ ds last _ (types_take low dread rest (length (dts ++ last)) (omega arith) []) (expects mark.Semicolon rest _ _ (ap (λ xs. Some ((item_as.Typedef s ds, xs), rest)) (names_declared dread)))))

      -- ---- what begins with a spec

      -- a block behind the declarator
      definition_takes : {hb : ℕ} {bs : Kinds} {b : Block} (s : WithHeight Spec) (d : WithHeight Declarator) → hb ≤ depth → BlockReads names hb bs b → (rest : Kinds) → item_of names r init inner s d (bs ++ rest) ≡ Some ((item_as.Function s.0 d.0 b, []), rest)
      unfolding item_of
      definition_takes {hb} {bs} {b} s d deep read rest = if_yes (sees mark.LeftBrace (bs ++ rest)) _ _ _ (block_opens rest read)
          (then_takes _ _ (b, hb) rest _ (block_takes names first depth r complete init init_takes inner inner_takes deep read rest) refl)

      declaration_takes : {ha : ℕ} {ts : Kinds} {a : Decl} (s : WithHeight Spec) (d : WithHeight Declarator) (rest : Kinds) → GoesOn ts → decl_of names r init s d ts ≡ Some ((a, ha), rest) → item_of names r init inner s d ts ≡ Some ((item_as.Decl a, []), rest)
      unfolding item_of
      declaration_takes {ha} {ts = ts} {a} s d rest on is = if_no (sees mark.LeftBrace ts) _ _ _ (goes_on_lacks mark.LeftBrace ts refl on) (then_takes _ _ (a, ha) rest _ is refl)

      -- a spec and a declarator, and what an item makes of these
      declared_takes : {hs hd : ℕ} {x : List ℕ} {ss ds : Kinds} {s : Spec} {d : Declarator} (z : Outcome (Item × List (List ℕ))) → hs ≤ depth → hd ≤ depth → SpecReads names true hs ss s → DeclaratorReads names hd x ds d → (ts : Kinds) → LacksSuffix ts
          → item_of names r init inner (s, hs) (d, hd) ts ≡ z → untyped names r init inner (ss ++ (ds ++ ts)) ≡ z
      unfolding untyped
      declared_takes {hs} {hd} {x} {ss} {ds} {s} {d} z deep low sread dread ts none is =
          then_takes _ _ (s, hs) (ds ++ ts) _ (spec_takes deep sread (ds ++ ts) (declarator_no_brace first ts dread))
          (leaves mark.Semicolon (ds ++ ts) _ _ _ (declarator_no_semicolon first ts dread)
          (then_takes _ _ (d, hd) ts _ (complete.declarator hd x ds d low dread ts none) is))

      bare_takes : {h : ℕ} {ss : Kinds} {s : Spec} → h ≤ depth → SpecReads names true h ss s → (rest : Kinds) → untyped names r init inner (ss ++ Mark mark.Semicolon ∷ rest) ≡ Some ((item_as.Decl (record { spec = s; declarators = [] }), []), rest)
      unfolding untyped
      bare_takes {h} {s = s} deep read rest = then_takes _ _ (s, h) (Mark mark.Semicolon ∷ rest) _ (spec_takes deep read (Mark mark.Semicolon ∷ rest) (semicolon_no_brace rest)) (eats mark.Semicolon rest _ _ _ refl)

      decl_item : {h : ℕ} {ts : Kinds} {a : Decl} → h ≤ depth → DeclParts names first depth r complete init init_takes h ts a → (rest : Kinds) → untyped names r init inner (ts ++ rest) ≡ Some ((item_as.Decl a, []), rest)
      decl_item deep (DeclParts.bare s ss read is ai) rest = rw (is, ai, append_assoc ss (Mark mark.Semicolon ∷ []) rest) (bare_takes deep read rest)
      decl_item deep (DeclParts.full s hs ss d hd x ds its ls ld is sread dread on behind) rest = rw (is, append_assoc (ss ++ ds) its rest, append_assoc ss ds (its ++ rest))
          (declared_takes _ (omega arith) (omega arith) sread dread (its ++ rest) (no_suffix _ (on rest)) (declaration_takes (s, hs) (d, hd) rest (on rest) (behind rest)))

      definition_item : {hs hd hb : ℕ} {x : List ℕ} {ss ds bs : Kinds} {s : Spec} {d : Declarator} {b : Block} → hs ≤ depth → hd ≤ depth → hb ≤ depth → SpecReads names true hs ss s → DeclaratorReads names hd x ds d → BlockReads names hb bs b
          → (rest : Kinds) → untyped names r init inner ((ss ++ ds ++ bs) ++ rest) ≡ Some ((item_as.Function s d b, []), rest)
      definition_item {hs} {hd} {bs = bs} {s = s} {d} deep low most sread dread bread rest = at_tokens (untyped names r init inner) (simp append_assoc)
          (declared_takes _ deep low sread dread (bs ++ rest) (block_no_suffix rest bread) (definition_takes (s, hs) (d, hd) most bread rest))

      -- ---- items

      begins_no_typedef : (ts rest : Kinds) → Begins (CanBeginSpec names) ts → sees_word word.Typedef (ts ++ rest) ≡ false
      begins_no_typedef ts rest b = spec_no_word names word.Typedef (ts ++ rest) refl (Begins-append _ ts rest b)

      pub item_over_takes : {h : ℕ} {new : List (List ℕ)} {ts : Kinds} {i : Item} → h ≤ depth → ItemReads names h new ts i → (rest : Kinds) → item_over names r init inner (ts ++ rest) ≡ Some ((i, new), rest)
      unfolding item_over
      item_over_takes deep (ItemReads.declaration h new ts i d ni ii read) rest = rw (ni, ii) (leaves_word word.Typedef (ts ++ rest) _ _ _ (begins_no_typedef ts rest (decl_begins names first depth r complete init init_takes read))
          (decl_item deep (decl_parts names first depth r complete init init_takes deep read) rest))
      item_over_takes deep (ItemReads.type_definition h new ts i s ds hs hd ss dts hh is ii sread dread) rest = rw (is, ii) (eats_word word.Typedef ((ss ++ dts ++ Mark mark.Semicolon ∷ []) ++ rest) _ _ _ (typedef_takes (omega arith) (omega arith) sread dread rest))
      item_over_takes deep (ItemReads.definition h new ts i s d b x hs hd hb ss ds bs ni hh is ii sread dread bread) rest = rw (ni, is, ii)
          (leaves_word word.Typedef ((ss ++ ds ++ bs) ++ rest) _ _ _ (begins_no_typedef (ss ++ ds ++ bs) rest (Begins-append _ (ss ++ ds) bs (Begins-append _ ss ds (first.spec sread))))
          (definition_item (omega arith) (omega arith) (omega arith) sread dread bread rest))

-- ---- at every depth

module _ (laws : ExpressionLaws) (named : DeclaratorsDeclareTheirNames) (names : List (List ℕ)) where
  init_needs_depth : {h : ℕ} {ts : Kinds} {i : Init} → InitReads names h ts i → 1 ≤ h
  init_needs_depth (InitReads.by_expression h ts i e he hi ii read) = omega arith
  init_needs_depth (InitReads.by_braces h ts i parts hp ps hi is ii read) = omega arith

  pub init_takes : (depth : ℕ) (h : ℕ) (ts : Kinds) (i : Init) → h ≤ depth → InitReads names h ts i → Takes (init names depth) (Stops assign_level) h ts i
  unfolding init
  init_takes zero h ts i deep read rest may = let some = init_needs_depth read in absurd (omega arith)
  init_takes (suc depth) h ts i deep read rest may = init_over_takes names (laws.first_tokens names) depth (readers names depth) (laws.complete names depth) (init names depth) (init_takes depth) h ts i deep read rest may

  stmt_needs_depth : {closed : Bool} {h : ℕ} {ts : Kinds} {s : Stmt} → StmtReads names closed h ts s → 1 ≤ h
  stmt_needs_depth (StmtReads.block closed h ts s b hb ci hi si read) = omega arith
  stmt_needs_depth (StmtReads.if_alone closed h ts s c t then_closed hc ht cs tts ci hi is si test then_part) = omega arith
  stmt_needs_depth (StmtReads.if_else closed h ts s c t o hc ht ho cs tts os hi is si test then_part other) = omega arith
  stmt_needs_depth (StmtReads.while closed h ts s c b hc hb cs bs hi is si test body) = omega arith
  stmt_needs_depth (StmtReads.do_while closed h ts s b c body_closed hb hc bs cs ci hi is si body test) = omega arith
  stmt_needs_depth (StmtReads.for_loop closed h ts s f c p b hf hc hs hb fs cs ss bs hi is si first test step body) = omega arith
  stmt_needs_depth (StmtReads.break closed h ts s ci hi is si) = omega arith
  stmt_needs_depth (StmtReads.continue closed h ts s ci hi is si) = omega arith
  stmt_needs_depth (StmtReads.return closed h ts s o ho os ci hi is si read) = omega arith
  stmt_needs_depth (StmtReads.computes closed h ts s o ho os ci hi is si read) = omega arith

  pub stmt_takes : (depth : ℕ) → StmtsTake names depth (stmt names depth)
  unfolding stmt
  stmt_takes zero closed h ts s deep read rest none = let some = stmt_needs_depth read in absurd (omega arith)
  stmt_takes (suc depth) closed h ts s deep read rest none = stmt_over_takes names (laws.first_tokens names) depth (readers names depth) (laws.complete names depth) (init names depth) (init_takes depth) (stmt names depth) (stmt_takes depth) closed h ts s deep read rest none

  pub item_takes : (depth : ℕ) {h : ℕ} {new : List (List ℕ)} {ts : Kinds} {i : Item} → h ≤ depth → ItemReads names h new ts i → (rest : Kinds) → item names depth (ts ++ rest) ≡ Some ((i, new), rest)
  unfolding item
  item_takes depth deep read rest = item_over_takes named names (laws.first_tokens names) depth (readers names depth) (laws.complete names depth) (init names depth) (init_takes depth) (stmt names depth) (stmt_takes depth) deep read rest
