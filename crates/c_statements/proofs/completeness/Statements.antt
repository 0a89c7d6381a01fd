-- Statements of the grammar are what their readers answer, whatever follows that they can't take.
use Rattle.std.proofs.Common.{◌≡◌, ℕ, zero, suc, ◌+◌, ◌<◌, ◌≤◌, ◌⊎◌, inl, inr, max, Bool, true, false, List, [], ◌∷◌, ◌++◌, Option, Some, None, refl, sym, ap, ◌∙◌, arith, length, length-append, append_assoc, append-nil}
use Rattle.c_tokens.specs.declared.token.Keyword.TheVariants as word
use Rattle.c_tokens.specs.declared.token.Kind.{Kind}
use Rattle.c_tokens.specs.declared.token.Kind.TheVariants.{Word, Name, Number, Text, Mark}
use Rattle.c_tokens.specs.declared.token.Mark.TheVariants as mark
use Rattle.c_tree.specs.declared.expression.Expr.{Expr}
use Rattle.c_tree.specs.declared.statement.Block.{Block}
use Rattle.c_tree.specs.declared.statement.BlockItem.{BlockItem}
use Rattle.c_tree.specs.declared.statement.ForInit.{ForInit}
use Rattle.c_tree.specs.declared.statement.FullExpr.{FullExpr}
use Rattle.c_tree.specs.declared.statement.Init.{Init}
use Rattle.c_tree.specs.declared.statement.Stmt.{Stmt}
use Rattle.c_tree.specs.declared.statement.Stmt.TheVariants as stmt_as
use Rattle.c_tree.specs.Marks.{Kinds, wrapped, assign_level}
use Rattle.c_tree.specs.Trees.{full, for_loop}
use Rattle.c_tree.specs.Grammar.{ExprReads}
use Rattle.c_tree.specs.Statements.{InitReads, OptionReads, ForInitReads, StmtReads, BlockReads, BlockItemsRead, BlockItemReads}
use Rattle.c_readers.specs.inner.Parser.{Parser, WithHeight}
use Rattle.c_readers.specs.inner.Readers.{Readers, begins_spec}
use Rattle.c_expr.specs.Theorems.{AreComplete, Takes, Stops, FirstTokens}
use Rattle.c_expr.specs.FirstTokens.{Begins, CanBeginSpec, CanBeginExpression}
use Rattle.c_expr.specs.inner.FirstTokensLemmas.{Begins-append, Begins-same}
use Rattle.c_statements.specs.inner.Readers.{sees_word, form_of, ended, block_item, block_items_from, block_items, block, if_behind, while_behind, do_behind, for_behind, return_behind, computes, stmt_by, stmt_over}
use Rattle.c_statements.proofs.ChainLemmas.{then_takes, if_yes, if_no, eats, leaves, expects, eats_word, leaves_word, expects_word}
use Rattle.c_statements.proofs.completeness.StatementsBegin.{begins_some, begins_either, CanBeginStatement, StmtReads-begins, statement_no_spec, CanFollowBlockItem, block_item_no_brace, no_else}
use Rattle.c_statements.proofs.completeness.Declarations.{at_tokens, nothing_before, option_takes, for_tests_take, condition_takes, decl_takes, decl_begins, for_init_takes}
use Rattle.c_readers.specs.inner.ParserLemmas.{found_then}

-- the parser takes statements of at most this depth; before an `else` it takes closed ones alone
abbrev pub StmtsTake : List (List ℕ) → ℕ → Parser (WithHeight Stmt) → Type 0
StmtsTake names depth p = (closed : Bool) (h : ℕ) (ts : Kinds) (s : Stmt) → h ≤ depth → StmtReads names closed h ts s → (rest : Kinds) → (closed ≡ false → sees_word word.Else rest ≡ false) → p (ts ++ rest) ≡ Some ((s, h), rest)

module _ (names : List (List ℕ)) (first : FirstTokens names) (depth : ℕ) (r : Readers) (complete : AreComplete names depth r) where
  module _ (init : Parser (WithHeight Init)) (init_takes : (h : ℕ) (ts : Kinds) (i : Init) → h ≤ depth → InitReads names h ts i → Takes init (Stops assign_level) h ts i) where
    module _ (inner : Parser (WithHeight Stmt)) (inner_takes : StmtsTake names depth inner) where
      -- ---- blocks

      block_item_begins : {h : ℕ} {ts : Kinds} {p : BlockItem} → BlockItemReads names h ts p → Begins (λ k. CanBeginStatement names k ⊎ CanBeginSpec names k) ts
      block_item_begins (BlockItemReads.declaration h ts p d pi read) = begins_either _ (λ k. CanBeginStatement names k ⊎ CanBeginSpec names k) ts (λ k b. inr b) (decl_begins names first depth r complete init init_takes read)
      block_item_begins (BlockItemReads.statement h ts p s closed pi read) = begins_either _ (λ k. CanBeginStatement names k ⊎ CanBeginSpec names k) ts (λ k b. inl b) (StmtReads-begins first read)

      -- items, and the brace behind them
      block_items_begin : {h : ℕ} {ts : Kinds} {ps : List BlockItem} → BlockItemsRead names h ts ps → (rest : Kinds) → Begins (CanFollowBlockItem names) (ts ++ Mark mark.RightBrace ∷ rest)
      block_items_begin (BlockItemsRead.no_block_item h ts ps hi is pi) rest = Begins-same (CanFollowBlockItem names) (ap (λ k. k ++ Mark mark.RightBrace ∷ rest) is) (inr refl)
      block_items_begin (BlockItemsRead.more_block_items h ts ps p others hp ho pts os hh is pi read more) rest =
          Begins-append (CanFollowBlockItem names) ts _ (Begins-same _ is (Begins-append (CanFollowBlockItem names) pts os (begins_either _ (CanFollowBlockItem names) pts (λ k b. inl b) (block_item_begins read))))

      block_item_takes : {h : ℕ} {ts : Kinds} {p : BlockItem} → h ≤ depth → BlockItemReads names h ts p → (rest : Kinds) → sees_word word.Else rest ≡ false → block_item names r init inner (ts ++ rest) ≡ Some ((p, h), rest)
      unfolding block_item
      block_item_takes deep (BlockItemReads.declaration h ts p d pi read) rest none = rw pi (if_yes (begins_spec names (ts ++ rest)) _ _ _ (first.spec_seen _ (Begins-append _ ts rest (decl_begins names first depth r complete init init_takes read)))
          (then_takes _ _ (d, h) rest _ (decl_takes names first depth r complete init init_takes deep read rest) refl))
      block_item_takes deep (BlockItemReads.statement h ts p s closed pi read) rest none = rw pi (if_no (begins_spec names (ts ++ rest)) _ _ _ (statement_no_spec first _ (Begins-append _ ts rest (StmtReads-begins first read)))
          (then_takes _ _ (s, h) rest _ (inner_takes _ _ _ _ deep read rest (λ _. none)) refl))

      block_items_take : {h : ℕ} {ts : Kinds} {ps : List BlockItem} → h ≤ depth → BlockItemsRead names h ts ps → (rest : Kinds) (n : ℕ) → length ts < n → (found : List BlockItem) (height : ℕ)
          → block_items_from names r init inner n found height (ts ++ Mark mark.RightBrace ∷ rest) ≡ Some ((found ++ ps, max height h), rest)
      unfolding block_items_from
      block_items_take deep read rest zero enough found height = absurd (omega arith)
      block_items_take deep (BlockItemsRead.no_block_item h ts ps hi is pi) rest (suc n) enough found height = let high : max height 0 ≡ height = omega arith in rw (is, hi, pi, append-nil found, high) (eats mark.RightBrace rest _ _ _ refl)
      block_items_take deep (BlockItemsRead.more_block_items h ts ps p others hp ho pts os hh is pi read more) rest (suc n) enough found height =
          let long = ap (λ ks. length ks) is in
          let both = length-append pts os in
          let some : 0 < length pts = begins_some _ pts (block_item_begins read) in
          let tail = os ++ Mark mark.RightBrace ∷ rest in
          rw (is, pi, hh, append_assoc pts os (Mark mark.RightBrace ∷ rest))
          (leaves mark.RightBrace (pts ++ tail) _ _ _ (block_item_no_brace names (pts ++ tail) (Begins-append (λ k. CanBeginStatement names k ⊎ CanBeginSpec names k) pts tail (block_item_begins read)))
          (then_takes _ _ (p, hp) tail _ (block_item_takes (omega arith) read tail (no_else names tail (block_items_begin more rest)))
          (block_items_take (omega arith) more rest n (omega arith) (found ++ p ∷ []) (max height hp) ∙ found_then found others p height hp ho rest)))

      pub block_takes : {h : ℕ} {ts : Kinds} {b : Block} → h ≤ depth → BlockReads names h ts b → (rest : Kinds) → block names r init inner (ts ++ rest) ≡ Some ((b, h), rest)
      unfolding block block_items
      block_takes deep (BlockReads.braces h ts b items ps is bi read) rest =
          let long = length-append ps (Mark mark.RightBrace ∷ rest) in
          rw (is, bi) (expects mark.LeftBrace ((ps ++ Mark mark.RightBrace ∷ []) ++ rest) _ _ (rw (append_assoc ps (Mark mark.RightBrace ∷ []) rest)
          (then_takes _ _ (items, h) rest _ (block_items_take deep read rest (length (ps ++ Mark mark.RightBrace ∷ rest)) (omega arith) [] 0 ∙ nothing_before items h rest) refl)))

      -- ---- one form after another

      if_alone_takes : {hc ht : ℕ} {cs tts : Kinds} {c : Expr} {t : Stmt} {closed : Bool} → hc ≤ depth → ht ≤ depth → ExprReads names assign_level hc cs c → StmtReads names closed ht tts t → (rest : Kinds) → sees_word word.Else rest ≡ false
          → if_behind names r init inner ((wrapped 1 cs ++ tts) ++ rest) ≡ Some ((stmt_as.If (full c) t None, 1 + max hc ht), rest)
      unfolding if_behind
      if_alone_takes {hc} {ht} {cs} {tts} {c} {t} dc dt test then_part rest none = at_tokens (if_behind names r init inner) (append_assoc (wrapped 1 cs) tts rest)
          (then_takes _ _ (full c, hc) (tts ++ rest) _ (condition_takes names first depth r complete dc test (tts ++ rest))
          (then_takes _ _ (t, ht) rest _ (inner_takes _ _ _ _ dt then_part rest (λ _. none))
          (leaves_word word.Else rest _ _ _ none refl)))

      if_else_takes : {hc ht ho : ℕ} {cs tts os : Kinds} {c : Expr} {t o : Stmt} {closed : Bool} → hc ≤ depth → ht ≤ depth → ho ≤ depth → ExprReads names assign_level hc cs c → StmtReads names true ht tts t → StmtReads names closed ho os o
          → (rest : Kinds) → (closed ≡ false → sees_word word.Else rest ≡ false) → if_behind names r init inner ((wrapped 1 cs ++ tts ++ Word word.Else ∷ os) ++ rest) ≡ Some ((stmt_as.If (full c) t (Some o), 1 + max hc (max ht ho)), rest)
      unfolding if_behind
      if_else_takes {hc} {ht} {ho} {cs} {tts} {os} {c} {t} {o} dc dt dd test then_part other rest none =
          at_tokens (if_behind names r init inner) (append_assoc (wrapped 1 cs ++ tts) (Word word.Else ∷ os) rest ∙ append_assoc (wrapped 1 cs) tts (Word word.Else ∷ (os ++ rest)))
          (then_takes _ _ (full c, hc) (tts ++ Word word.Else ∷ (os ++ rest)) _ (condition_takes names first depth r complete dc test (tts ++ Word word.Else ∷ (os ++ rest)))
          (then_takes _ _ (t, ht) (Word word.Else ∷ (os ++ rest)) _ (inner_takes _ _ _ _ dt then_part (Word word.Else ∷ (os ++ rest)) (λ is. cc))
          (eats_word word.Else (os ++ rest) _ _ _ (then_takes _ _ (o, ho) rest _ (inner_takes _ _ _ _ dd other rest none) refl))))

      while_takes : {hc hb : ℕ} {cs bs : Kinds} {c : Expr} {b : Stmt} {closed : Bool} → hc ≤ depth → hb ≤ depth → ExprReads names assign_level hc cs c → StmtReads names closed hb bs b → (rest : Kinds) → (closed ≡ false → sees_word word.Else rest ≡ false)
          → while_behind names r init inner ((wrapped 1 cs ++ bs) ++ rest) ≡ Some ((stmt_as.While (full c) b, 1 + max hc hb), rest)
      unfolding while_behind
      while_takes {hc} {hb} {cs} {bs} {c} {b} dc db test body rest none = at_tokens (while_behind names r init inner) (append_assoc (wrapped 1 cs) bs rest)
          (then_takes _ _ (full c, hc) (bs ++ rest) _ (condition_takes names first depth r complete dc test (bs ++ rest)) (then_takes _ _ (b, hb) rest _ (inner_takes _ _ _ _ db body rest none) refl))

      do_takes : {hc hb : ℕ} {cs bs : Kinds} {c : Expr} {b : Stmt} {closed : Bool} → hc ≤ depth → hb ≤ depth → ExprReads names assign_level hc cs c → StmtReads names closed hb bs b → (rest : Kinds)
          → do_behind names r init inner ((bs ++ Word word.While ∷ wrapped 1 cs ++ Mark mark.Semicolon ∷ []) ++ rest) ≡ Some ((stmt_as.Do b (full c), 1 + max hb hc), rest)
      unfolding do_behind
      do_takes {hc} {hb} {cs} {bs} {c} {b} dc db test body rest =
          let last = Mark mark.Semicolon ∷ rest in
          at_tokens (do_behind names r init inner) (append_assoc (bs ++ Word word.While ∷ wrapped 1 cs) (Mark mark.Semicolon ∷ []) rest ∙ append_assoc bs (Word word.While ∷ wrapped 1 cs) last)
          (then_takes _ _ (b, hb) (Word word.While ∷ (wrapped 1 cs ++ last)) _ (inner_takes _ _ _ _ db body (Word word.While ∷ (wrapped 1 cs ++ last)) (λ _. while_no_else (wrapped 1 cs ++ last)))
          (expects_word word.While (wrapped 1 cs ++ last) _ _ (then_takes _ _ (full c, hc) last _ (condition_takes names first depth r complete dc test last) (expects mark.Semicolon rest _ _ refl))))
        where
          while_no_else : (ks : Kinds) → sees_word word.Else (Word word.While ∷ ks) ≡ false
          while_no_else ks = no_else names (Word word.While ∷ ks) (inl (inl refl))

      for_takes : {hf hc hs hb : ℕ} {fs cs ss bs : Kinds} {f : ForInit} {c p : Option FullExpr} {b : Stmt} {closed : Bool} → hf ≤ depth → hc ≤ depth → hs ≤ depth → hb ≤ depth → ForInitReads names hf fs f → OptionReads names hc cs c → OptionReads names hs ss p → StmtReads names closed hb bs b
          → (rest : Kinds) → (closed ≡ false → sees_word word.Else rest ≡ false) → for_behind names r init inner ((wrapped 1 (fs ++ cs ++ Mark mark.Semicolon ∷ ss) ++ bs) ++ rest) ≡ Some ((for_loop f c p b, 1 + max hf (max hc (max hs hb))), rest)
      unfolding for_behind
      for_takes {hf} {hc} {hs} {hb} {fs} {cs} {ss} {bs} {f} {c} {p} {b} df dc ds db start test step body rest none =
          let third = ss ++ Mark mark.RightParenthesis ∷ (bs ++ rest) in
          let second = cs ++ Mark mark.Semicolon ∷ third in
          at_tokens (for_behind names r init inner) {us = Mark mark.LeftParenthesis ∷ (fs ++ second)} (simp append_assoc)
          (expects mark.LeftParenthesis (fs ++ second) _ _
          (then_takes _ _ (f, hf) second _ (for_init_takes names first depth r complete init init_takes df start second)
          (then_takes _ _ ((c, p), max hc hs) (bs ++ rest) _ (for_tests_take names first depth r complete dc ds test step (bs ++ rest))
          (then_takes _ _ (b, hb) rest _ (inner_takes _ _ _ _ db body rest none) (let high : max hf (max (max hc hs) hb) ≡ max hf (max hc (max hs hb)) = omega arith in rw high refl)))))

      return_takes : {ho : ℕ} {os : Kinds} {o : Option FullExpr} → ho ≤ depth → OptionReads names ho os o → (rest : Kinds) → return_behind names r init inner ((os ++ Mark mark.Semicolon ∷ []) ++ rest) ≡ Some ((stmt_as.Return o, 1 + ho), rest)
      unfolding return_behind
      return_takes {ho} {os} {o} deep read rest = at_tokens (return_behind names r init inner) (append_assoc os (Mark mark.Semicolon ∷ []) rest)
          (then_takes _ _ (o, ho) rest _ (option_takes names first depth r complete mark.Semicolon refl refl deep read rest) refl)

      computes_takes : {ho : ℕ} {os : Kinds} {o : Option FullExpr} → ho ≤ depth → OptionReads names ho os o → (rest : Kinds) → computes names r init inner (os ++ Mark mark.Semicolon ∷ rest) ≡ Some ((stmt_as.Expr o, 1 + ho), rest)
      unfolding computes
      computes_takes {ho} {os} {o} deep read rest = then_takes _ _ (o, ho) rest _ (option_takes names first depth r complete mark.Semicolon refl refl deep read rest) refl

      -- ---- by the first token

      block_by : {h : ℕ} {ts : Kinds} {b : Block} → h ≤ depth → BlockReads names h ts b → (rest : Kinds) → stmt_over names r init inner (ts ++ rest) ≡ Some ((stmt_as.Block b, 1 + h), rest)
      unfolding stmt_over
      block_by deep (BlockReads.braces h ts b items ps is bi read) rest = let taken = block_takes deep (BlockReads.braces h ts b items ps is bi read) rest in
          at_tokens (stmt_over names r init inner) (ap (λ k. k ++ rest) is) (then_takes _ _ (b, h) rest _ (ap (λ k. block names r init inner (k ++ rest)) (sym is) ∙ taken) refl)

      computes_by : (k : Kind) (ks : Kinds) → CanBeginExpression names k ⊎ (k ≡ Mark mark.Semicolon) → stmt_by names r init inner (form_of k) (k ∷ ks) ks ≡ computes names r init inner (k ∷ ks)
      computes_by (Mark mark.LeftBrace) ks (inl b) = cc
      computes_by (Mark mark.LeftBrace) ks (inr is) = cc
      computes_by (Mark m) ks b = refl
      computes_by (Word w) ks (inl b) = rw b refl
      computes_by (Word w) ks (inr is) = cc
      computes_by (Name x) ks b = refl
      computes_by (Number n) ks b = refl
      computes_by (Text bytes) ks b = refl

      computes_over : (ts : Kinds) → Begins (λ k. CanBeginExpression names k ⊎ (k ≡ Mark mark.Semicolon)) ts → stmt_over names r init inner ts ≡ computes names r init inner ts
      unfolding stmt_over
      computes_over [] b = absurd b
      computes_over (k ∷ ks) b = computes_by k ks b

      option_first : {h : ℕ} {os : Kinds} {o : Option FullExpr} (rest : Kinds) → OptionReads names h os o → Begins (λ k. CanBeginExpression names k ⊎ (k ≡ Mark mark.Semicolon)) (os ++ Mark mark.Semicolon ∷ rest)
      option_first rest (OptionReads.nothing h os o hi is oi) = Begins-same (λ k. CanBeginExpression names k ⊎ (k ≡ Mark mark.Semicolon)) (ap (λ k. k ++ Mark mark.Semicolon ∷ rest) is) (inr refl)
      option_first rest (OptionReads.some h os o e oi read) = Begins-append (λ k. CanBeginExpression names k ⊎ (k ≡ Mark mark.Semicolon)) os _ (begins_either _ (λ k. CanBeginExpression names k ⊎ (k ≡ Mark mark.Semicolon)) os (λ k b. inl b) (first.expression read))

      pub stmt_over_takes : StmtsTake names (suc depth) (stmt_over names r init inner)
      unfolding stmt_over ended
      stmt_over_takes _ _ _ _ deep (StmtReads.block closed h ts s b hb ci hi si read) rest none = rw (si, hi) (block_by (omega arith) read rest)
      stmt_over_takes _ _ _ _ deep (StmtReads.if_alone closed h ts s c t then_closed hc ht cs tts ci hi is si test then_part) rest none = rw (is, si, hi) (if_alone_takes (omega arith) (omega arith) test then_part rest (none ci))
      stmt_over_takes _ _ _ _ deep (StmtReads.if_else closed h ts s c t o hc ht ho cs tts os hi is si test then_part other) rest none = rw (is, si, hi) (if_else_takes (omega arith) (omega arith) (omega arith) test then_part other rest none)
      stmt_over_takes _ _ _ _ deep (StmtReads.while closed h ts s c b hc hb cs bs hi is si test body) rest none = rw (is, si, hi) (while_takes (omega arith) (omega arith) test body rest none)
      stmt_over_takes _ _ _ _ deep (StmtReads.do_while closed h ts s b c body_closed hb hc bs cs ci hi is si body test) rest none = rw (is, si, hi) (do_takes (omega arith) (omega arith) test body rest)
      stmt_over_takes _ _ _ _ deep (StmtReads.for_loop closed h ts s f c p b hf hc hs hb fs cs ss bs hi is si first test step body) rest none = rw (is, si, hi) (for_takes (omega arith) (omega arith) (omega arith) (omega arith) first test step body rest none)
      stmt_over_takes _ _ _ _ deep (StmtReads.break closed h ts s ci hi is si) rest none = rw (is, si, hi) (expects mark.Semicolon rest _ _ refl)
      stmt_over_takes _ _ _ _ deep (StmtReads.continue closed h ts s ci hi is si) rest none = rw (is, si, hi) (expects mark.Semicolon rest _ _ refl)
      stmt_over_takes _ _ _ _ deep (StmtReads.return closed h ts s o ho os ci hi is si read) rest none = rw (is, si, hi) (return_takes (omega arith) read rest)
      stmt_over_takes _ _ _ _ deep (StmtReads.computes closed h ts s o ho os ci hi is si read) rest none = rw (is, si, hi, append_assoc os (Mark mark.Semicolon ∷ []) rest)
          (computes_over (os ++ Mark mark.Semicolon ∷ rest) (option_first rest read) ∙ computes_takes (omega arith) read rest)
