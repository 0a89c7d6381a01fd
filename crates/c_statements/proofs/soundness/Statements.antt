-- What the readers of statements answer is of the grammar.
use Rattle.std.proofs.Common.{◌≡◌, ℕ, zero, suc, ◌≤◌, max, Bool, true, false, List, [], ◌∷◌, ◌++◌, Some, refl, sym, ap, subst, ◌∙◌, arith, length, append_assoc, append-nil}
use Rattle.c_tokens.specs.declared.token.Keyword.{Keyword}
use Rattle.c_tokens.specs.declared.token.Keyword.TheVariants as word
use Rattle.c_tokens.specs.declared.token.Kind.{Kind}
use Rattle.c_tokens.specs.declared.token.Kind.TheVariants.{Word, Mark}
use Rattle.c_tokens.specs.declared.token.Mark.TheVariants as mark
use Rattle.c_tree.specs.declared.statement.BlockItem.{BlockItem}
use Rattle.c_tree.specs.declared.statement.Init.{Init}
use Rattle.c_tree.specs.declared.statement.Stmt.{Stmt}
use Rattle.c_tree.specs.declared.statement.Stmt.TheVariants as stmt_as
use Rattle.c_tree.specs.Marks.{Kinds, wrapped}
use Rattle.c_tree.specs.Statements.{InitReads, StmtReads, BlockReads, BlockItemsRead, BlockItemReads}
use Rattle.c_readers.specs.inner.Parser.{Parser, WithHeight}
use Rattle.c_readers.specs.inner.Readers.{Readers, begins_spec}
use Rattle.c_expr.specs.Theorems.{ReadsOnly, AreSound}
use Rattle.c_statements.specs.declared.form.Form.TheVariants as form_as
use Rattle.c_statements.specs.inner.Readers.{sees_word, form_of, ended, option_to, for_tests, condition, decl, for_init, block_item, block_items_from, block_items, block, if_behind, while_behind, do_behind, for_behind, return_behind, computes, stmt_by, stmt_over}
use Rattle.c_statements.proofs.ChainLemmas.{tree_answered, word_eaten, word_expected}
use Rattle.c_readers.specs.inner.ParserLemmas.{plain_holds, tested, eaten, mark_answer, same_word_is, ReadsPrefix, Found, join, found_more, found_all}
use Rattle.c_statements.proofs.soundness.Declarations.{option_sound, for_tests_sound, condition_sound, decl_sound, for_init_sound}

-- a statement stands before this rest, and where it may take an `else` none is left
pub record StmtRead (names : List (List ℕ)) (depth : ℕ) (ts : Kinds) (s : WithHeight Stmt) (rest : Kinds) : Type 0 where
  pub prefix : Kinds
  pub split : ts ≡ prefix ++ rest
  pub deep : s.1 ≤ depth
  pub closed : Bool
  pub read : StmtReads names closed s.1 prefix s.0
  pub else_taken : closed ≡ false → sees_word word.Else rest ≡ false

abbrev pub StmtsAreSound : List (List ℕ) → ℕ → Parser (WithHeight Stmt) → Type 0
StmtsAreSound names depth p = (ts : Kinds) (s : WithHeight Stmt) (rest : Kinds) → p ts ≡ Some (s, rest) → StmtRead names depth ts s rest

-- only a closed statement leaves an `else`
closed_before_else : (closed : Bool) (ts ks : Kinds) → (closed ≡ false → sees_word word.Else ts ≡ false) → ts ≡ Word word.Else ∷ ks → closed ≡ true
closed_before_else true ts ks taken is = refl
closed_before_else false ts ks taken is = let seen : sees_word word.Else ts ≡ true = rw is (same_word_is word.Else) in cc (taken refl)

module _ (names : List (List ℕ)) (depth : ℕ) (r : Readers) (sound : AreSound names depth r) where
  module _ (init : Parser (WithHeight Init)) (init_sound : ReadsOnly init depth (λ h ts i. InitReads names h ts i)) where
    module _ (inner : Parser (WithHeight Stmt)) (inner_sound : StmtsAreSound names depth inner) where
      block_item_sound : ReadsOnly (block_item names r init inner) depth (λ h ts p. BlockItemReads names h ts p)
      unfolding block_item
      block_item_sound ts p h rest is = tested (begins_spec names ts) _ _ _ is
          (λ spec more. tree_answered (decl names r init ts) _ _ more (λ a ha ks read last. let x = decl_sound names depth r sound init init_sound ts a ha ks read in
          plain_holds (λ p ks. ReadsPrefix (λ h ts p. BlockItemReads names h ts p) depth ts p.0 p.1 ks) last (x.0, x.1, x.2, BlockItemReads.declaration _ _ _ a refl x.3)))
          (λ none more. tree_answered (inner ts) _ _ more (λ s hs ks read last. let x = inner_sound ts (s, hs) ks read in
          plain_holds (λ p ks. ReadsPrefix (λ h ts p. BlockItemReads names h ts p) depth ts p.0 p.1 ks) last (x.prefix, x.split, x.deep, BlockItemReads.statement _ _ _ s x.closed refl x.read)))

      block_items_sound : (n : ℕ) (found : List BlockItem) (height : ℕ) (ts : Kinds) (all : WithHeight (List BlockItem)) (rest : Kinds) → block_items_from names r init inner n found height ts ≡ Some (all, rest)
          → Found (λ h ts ps. BlockItemsRead names h ts ps) depth found height ts all.0 all.1 (Mark mark.RightBrace ∷ rest)
      unfolding block_items_from
      block_items_sound zero found height ts all rest is = absurd (cc)
      block_items_sound (suc n) found height ts all rest is = eaten mark.RightBrace ts _ _ _ is
          (λ ks ends last. plain_holds (λ all ks. Found (λ h ts ps. BlockItemsRead names h ts ps) depth found height ts all.0 all.1 (Mark mark.RightBrace ∷ ks)) last
          ([], 0, [], sym (append-nil found), omega arith, ends, omega arith, BlockItemsRead.no_block_item _ _ _ refl refl refl))
          (λ none more. tree_answered (block_item names r init inner ts) _ _ more (λ p h ks read others. let x = block_item_sound ts p h ks read in
          found_more found height p h x.0 ks x.1 x.2
          (λ ho os others read. BlockItemsRead.more_block_items _ _ _ p others h ho x.0 os refl refl refl x.3 read)
          (block_items_sound n (found ++ p ∷ []) (max height h) ks all rest others)))

      pub block_sound : ReadsOnly (block names r init inner) depth (λ h ts b. BlockReads names h ts b)
      unfolding block block_items
      block_sound ts b h rest is = mark_answer mark.LeftBrace ts _ _ is (λ k1 opens next. tree_answered (block_items_from names r init inner (length k1) [] 0 k1) _ _ next (λ ps hp k2 read last.
          let x = found_all (block_items_sound (length k1) [] 0 k1 (ps, hp) k2 read) in
          plain_holds (λ b ks. ReadsPrefix (λ h ts b. BlockReads names h ts b) depth ts b.0 b.1 ks) last
          (Mark mark.LeftBrace ∷ x.0 ++ Mark mark.RightBrace ∷ [], opens ∙ ap (λ k. Mark mark.LeftBrace ∷ k) (x.1 ∙ sym (append_assoc x.0 _ k2)), x.2, BlockReads.braces _ _ _ ps x.0 refl refl x.3)))

      -- ---- one form after another

      if_sound : (ts : Kinds) (s : WithHeight Stmt) (rest : Kinds) → if_behind names r init inner ts ≡ Some (s, rest) → StmtRead names (suc depth) (Word word.If ∷ ts) s rest
      unfolding if_behind
      if_sound ts s rest is = tree_answered (condition names r ts) _ _ is (λ c hc k1 cread next. tree_answered (inner k1) _ _ next (λ t ht k2 tread more.
          let x = condition_sound names depth r sound ts (c, hc) k1 cread in
          let y = inner_sound k1 (t, ht) k2 tread in
          word_eaten word.Else k2 _ _ _ more
          (λ k3 comes others. tree_answered (inner k3) _ _ others (λ o ho k4 oread last. let z = inner_sound k3 (o, ho) k4 oread in
          plain_holds (λ s ks. StmtRead names (suc depth) (Word word.If ∷ ts) s ks) last (record {
            prefix = Word word.If ∷ wrapped 1 x.0 ++ y.prefix ++ Word word.Else ∷ z.prefix;
            split = ap (λ k. Word word.If ∷ k) (join (wrapped 1 x.0 ++ y.prefix) (Word word.Else ∷ z.prefix) _ (join (wrapped 1 x.0) y.prefix _ x.1 y.split) (comes ∙ ap (λ k. Word word.Else ∷ k) z.split));
            deep = omega (arith, x.2, y.deep, z.deep);
            closed = z.closed;
            read = StmtReads.if_else _ _ _ _ c.expr t o hc ht ho x.0 y.prefix z.prefix refl refl refl x.3 (subst (λ b. StmtReads names b ht y.prefix t) (closed_before_else y.closed k2 k3 y.else_taken comes) y.read) z.read;
            else_taken = z.else_taken;
          })))
          (λ none last. plain_holds (λ s ks. StmtRead names (suc depth) (Word word.If ∷ ts) s ks) last (record {
            prefix = Word word.If ∷ wrapped 1 x.0 ++ y.prefix;
            split = ap (λ k. Word word.If ∷ k) (join (wrapped 1 x.0) y.prefix _ x.1 y.split);
            deep = omega (arith, x.2, y.deep);
            closed = false;
            read = StmtReads.if_alone _ _ _ _ c.expr t y.closed hc ht x.0 y.prefix refl refl refl refl x.3 y.read;
            else_taken = λ _. none;
          }))))

      while_sound : (ts : Kinds) (s : WithHeight Stmt) (rest : Kinds) → while_behind names r init inner ts ≡ Some (s, rest) → StmtRead names (suc depth) (Word word.While ∷ ts) s rest
      unfolding while_behind
      while_sound ts s rest is = tree_answered (condition names r ts) _ _ is (λ c hc k1 cread next. tree_answered (inner k1) _ _ next (λ b hb k2 bread last.
          let x = condition_sound names depth r sound ts (c, hc) k1 cread in
          let y = inner_sound k1 (b, hb) k2 bread in
          plain_holds (λ s ks. StmtRead names (suc depth) (Word word.While ∷ ts) s ks) last (record {
            prefix = Word word.While ∷ wrapped 1 x.0 ++ y.prefix;
            split = ap (λ k. Word word.While ∷ k) (join (wrapped 1 x.0) y.prefix _ x.1 y.split);
            deep = omega (arith, x.2, y.deep);
            closed = y.closed;
            read = StmtReads.while _ _ _ _ c.expr b hc hb x.0 y.prefix refl refl refl x.3 y.read;
            else_taken = y.else_taken;
          })))

      do_sound : (ts : Kinds) (s : WithHeight Stmt) (rest : Kinds) → do_behind names r init inner ts ≡ Some (s, rest) → StmtRead names (suc depth) (Word word.Do ∷ ts) s rest
      unfolding do_behind
      do_sound ts s rest is = tree_answered (inner ts) _ _ is (λ b hb k1 bread next. word_expected word.While k1 _ _ next (λ k2 comes more. tree_answered (condition names r k2) _ _ more (λ c hc k3 cread others. mark_answer mark.Semicolon k3 _ _ others (λ k4 ends last.
          let y = inner_sound ts (b, hb) k1 bread in
          let x = condition_sound names depth r sound k2 (c, hc) k3 cread in
          plain_holds (λ s ks. StmtRead names (suc depth) (Word word.Do ∷ ts) s ks) last (record {
            prefix = Word word.Do ∷ y.prefix ++ Word word.While ∷ wrapped 1 x.0 ++ Mark mark.Semicolon ∷ [];
            split = ap (λ k. Word word.Do ∷ k) (join (y.prefix ++ Word word.While ∷ wrapped 1 x.0) (Mark mark.Semicolon ∷ []) _ (join y.prefix (Word word.While ∷ wrapped 1 x.0) _ y.split (comes ∙ ap (λ k. Word word.While ∷ k) x.1)) ends);
            deep = omega (arith, x.2, y.deep);
            closed = true;
            read = StmtReads.do_while _ _ _ _ b c.expr y.closed hb hc y.prefix x.0 refl refl refl refl y.read x.3;
            else_taken = λ is. cc;
          })))))

      for_sound : (ts : Kinds) (s : WithHeight Stmt) (rest : Kinds) → for_behind names r init inner ts ≡ Some (s, rest) → StmtRead names (suc depth) (Word word.For ∷ ts) s rest
      unfolding for_behind
      for_sound ts s rest is = mark_answer mark.LeftParenthesis ts _ _ is (λ k1 opens next. tree_answered (for_init names r init k1) _ _ next (λ f hf k2 fread more. tree_answered (for_tests names r k2) _ _ more (λ c hc k3 cread third. tree_answered (inner k3) _ _ third (λ b hb k4 bread last.
          let w = for_init_sound names depth r sound init init_sound k1 f hf k2 fread in
          let x = for_tests_sound names depth r sound k2 (c, hc) k3 cread in
          let z = inner_sound k3 (b, hb) k4 bread in
          plain_holds (λ s ks. StmtRead names (suc depth) (Word word.For ∷ ts) s ks) last (record {
            prefix = Word word.For ∷ wrapped 1 (w.0 ++ x.0 ++ Mark mark.Semicolon ∷ x.1) ++ z.prefix;
            split = ap (λ k. Word word.For ∷ k) (opens ∙ ap (λ k. Mark mark.LeftParenthesis ∷ k) (for_split w.0 x.0 x.1 z.prefix _ w.1 x.2 z.split));
            deep = omega (arith, w.2, x.4, z.deep);
            closed = z.closed;
            read = StmtReads.for_loop _ _ _ _ f c.0 c.1 b hf x.3.0 x.3.1 hb w.0 x.0 x.1 z.prefix (omega (arith, x.5)) refl refl w.3 x.6 x.7 z.read;
            else_taken = z.else_taken;
          })))))
        where
          for_split : {k1 k2 k3 : Kinds} (a b c d k4 : Kinds) → k1 ≡ a ++ k2 → k2 ≡ b ++ Mark mark.Semicolon ∷ (c ++ Mark mark.RightParenthesis ∷ k3) → k3 ≡ d ++ k4
              → k1 ≡ ((a ++ b ++ Mark mark.Semicolon ∷ c) ++ Mark mark.RightParenthesis ∷ []) ++ d ++ k4
          for_split a b c d k4 p q t = rw (p, q, t) (simp append_assoc)

      return_sound : (ts : Kinds) (s : WithHeight Stmt) (rest : Kinds) → return_behind names r init inner ts ≡ Some (s, rest) → StmtRead names (suc depth) (Word word.Return ∷ ts) s rest
      unfolding return_behind
      return_sound ts s rest is = tree_answered (option_to names r mark.Semicolon ts) _ _ is (λ o h ks read last.
          let x = option_sound names depth r sound mark.Semicolon ts (o, h) ks read in
          plain_holds (λ s ks. StmtRead names (suc depth) (Word word.Return ∷ ts) s ks) last (record {
            prefix = Word word.Return ∷ x.0 ++ Mark mark.Semicolon ∷ [];
            split = ap (λ k. Word word.Return ∷ k) (x.1 ∙ sym (append_assoc x.0 _ ks));
            deep = omega (arith, x.2);
            closed = true;
            read = StmtReads.return _ _ _ _ o h x.0 refl refl refl refl x.3;
            else_taken = λ is. cc;
          }))

      computes_sound : StmtsAreSound names (suc depth) (computes names r init inner)
      unfolding computes
      computes_sound ts s rest is = tree_answered (option_to names r mark.Semicolon ts) _ _ is (λ o h ks read last.
          let x = option_sound names depth r sound mark.Semicolon ts (o, h) ks read in
          plain_holds (λ s ks. StmtRead names (suc depth) ts s ks) last (record {
            prefix = x.0 ++ Mark mark.Semicolon ∷ [];
            split = x.1 ∙ sym (append_assoc x.0 _ ks);
            deep = omega (arith, x.2);
            closed = true;
            read = StmtReads.computes _ _ _ _ o h x.0 refl refl refl refl x.3;
            else_taken = λ is. cc;
          }))

      block_stmt_sound : (ts : Kinds) (s : WithHeight Stmt) (rest : Kinds) → stmt_by names r init inner form_as.Block ts ts ≡ Some (s, rest) → StmtRead names (suc depth) ts s rest
      block_stmt_sound ts s rest is = tree_answered (block names r init inner ts) _ _ is (λ b h ks read last.
          let x = block_sound ts b h ks read in
          plain_holds (λ s ks. StmtRead names (suc depth) ts s ks) last (record {
            prefix = x.0;
            split = x.1;
            deep = omega (arith, x.2);
            closed = true;
            read = StmtReads.block _ _ _ _ b h refl refl refl x.3;
            else_taken = λ is. cc;
          }))

      -- a word and a semicolon
      jump_sound : (w : Keyword) (tree : Stmt) (ts : Kinds) (s : WithHeight Stmt) (rest : Kinds) → StmtReads names true 1 (Word w ∷ Mark mark.Semicolon ∷ []) tree
          → ended tree ts ≡ Some (s, rest) → StmtRead names (suc depth) (Word w ∷ ts) s rest
      unfolding ended
      jump_sound w tree ts s rest read is = mark_answer mark.Semicolon ts _ _ is (λ ks ends last. plain_holds (λ s ks. StmtRead names (suc depth) (Word w ∷ ts) s ks) last (record {
        prefix = Word w ∷ Mark mark.Semicolon ∷ [];
        split = ap (λ k. Word w ∷ k) ends;
        deep = omega arith;
        closed = true;
        read = read;
        else_taken = λ is. cc;
      }))

      by_sound : (k : Kind) (ks : Kinds) (s : WithHeight Stmt) (rest : Kinds) → stmt_by names r init inner (form_of k) (k ∷ ks) ks ≡ Some (s, rest) → StmtRead names (suc depth) (k ∷ ks) s rest
      by_sound (Mark mark.LeftBrace) ks s rest is = block_stmt_sound (Mark mark.LeftBrace ∷ ks) s rest is
      by_sound (Word word.If) ks s rest is = if_sound ks s rest is
      by_sound (Word word.While) ks s rest is = while_sound ks s rest is
      by_sound (Word word.Do) ks s rest is = do_sound ks s rest is
      by_sound (Word word.For) ks s rest is = for_sound ks s rest is
      by_sound (Word word.Break) ks s rest is = jump_sound word.Break stmt_as.Break ks s rest (StmtReads.break _ _ _ _ refl refl refl refl) is
      by_sound (Word word.Continue) ks s rest is = jump_sound word.Continue stmt_as.Continue ks s rest (StmtReads.continue _ _ _ _ refl refl refl refl) is
      by_sound (Word word.Return) ks s rest is = return_sound ks s rest is
      by_sound k ks s rest is = computes_sound (k ∷ ks) s rest is

      pub stmt_over_sound : StmtsAreSound names (suc depth) (stmt_over names r init inner)
      unfolding stmt_over
      stmt_over_sound [] s rest is = absurd (cc)
      stmt_over_sound (k ∷ ks) s rest is = by_sound k ks s rest is
