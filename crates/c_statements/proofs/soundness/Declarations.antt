-- What the readers of initialisers and declarations answer is of the grammar.
use Rattle.std.proofs.Common.{◌≡◌, ℕ, zero, suc, ◌≤◌, max, true, List, [], ◌∷◌, ◌++◌, Option, Some, refl, sym, ap, subst, ◌∙◌, arith, length, append_assoc, append-nil}
use Rattle.c_tokens.specs.declared.token.Kind.TheVariants.{Mark}
use Rattle.c_tokens.specs.declared.token.Mark.{Mark as MarkName}
use Rattle.c_tokens.specs.declared.token.Mark.TheVariants as mark
use Rattle.c_tree.specs.declared.expression.Declarator.{Declarator}
use Rattle.c_tree.specs.declared.expression.Spec.{Spec}
use Rattle.c_tree.specs.declared.statement.Decl.{Decl}
use Rattle.c_tree.specs.declared.statement.FullExpr.{FullExpr}
use Rattle.c_tree.specs.declared.statement.Init.{Init}
use Rattle.c_tree.specs.declared.statement.InitDeclarator.{InitDeclarator}
use Rattle.c_tree.specs.Marks.{Kinds, wrapped, assign_level}
use Rattle.c_tree.specs.Grammar.{SpecReads, DeclaratorReads, ExprReads}
use Rattle.c_tree.specs.Statements.{InitReads, InitsRead, InitDeclaratorReads, InitDeclaratorListReads, InitDeclaratorsRead, DeclReads, OptionReads, ForInitReads}
use Rattle.c_readers.specs.inner.Parser.{Parser, WithHeight}
use Rattle.c_readers.specs.inner.Readers.{Readers, begins_spec}
use Rattle.c_expr.specs.Theorems.{ReadsOnly, AreSound}
use Rattle.c_statements.specs.inner.Readers.{full_expr, option_to, for_tests, condition, inits_from, braces, init_over, with_init, declared_from, declared, decl_of, decl, for_init}
use Rattle.c_statements.proofs.ChainLemmas.{tree_answered}
use Rattle.c_readers.specs.inner.ParserLemmas.{plain_holds, tested, eaten, mark_answer, Found, ReadsPrefix, found_all, found_more, join}

module _ (names : List (List ℕ)) (depth : ℕ) (r : Readers) (sound : AreSound names depth r) where
  -- ---- options and conditions

  full_expr_sound : ReadsOnly (full_expr names r) depth (λ h ks e. ExprReads names assign_level h ks e.expr)
  unfolding full_expr
  full_expr_sound ts e h rest is = tree_answered (r.expr assign_level ts) _ _ is (λ a ha ks read last. let x = sound.expr assign_level ts a ha ks read in
      plain_holds (λ e ks. ReadsPrefix (λ h ks e. ExprReads names assign_level h ks e.expr) depth ts e.0 e.1 ks) last (x.0, x.1, x.2, x.3))

  pub option_sound : (m : MarkName) (ts : Kinds) (o : WithHeight (Option FullExpr)) (rest : Kinds) → option_to names r m ts ≡ Some (o, rest) → ReadsPrefix (λ h ks o. OptionReads names h ks o) depth ts o.0 o.1 (Mark m ∷ rest)
  unfolding option_to
  option_sound m ts o rest is = eaten m ts _ _ _ is
      (λ ks split last. plain_holds (λ o ks. ReadsPrefix (λ h ks o. OptionReads names h ks o) depth ts o.0 o.1 (Mark m ∷ ks)) last ([], split, omega arith, OptionReads.nothing _ _ _ refl refl refl))
      (λ none more. tree_answered (full_expr names r ts) _ _ more (λ e h k read next. mark_answer m k _ _ next (λ ks split last. let x = full_expr_sound ts e h k read in
      plain_holds (λ o ks. ReadsPrefix (λ h ks o. OptionReads names h ks o) depth ts o.0 o.1 (Mark m ∷ ks)) last (x.0, x.1 ∙ ap (λ k. x.0 ++ k) split, x.2, OptionReads.some _ _ _ e.expr refl x.3))))

  -- the tokens and the heights of both
  pub for_tests_sound : (ts : Kinds) (c : WithHeight (Option FullExpr × Option FullExpr)) (rest : Kinds) → for_tests names r ts ≡ Some (c, rest) → (cs ss : Kinds) × (ts ≡ cs ++ Mark mark.Semicolon ∷ (ss ++ Mark mark.RightParenthesis ∷ rest))
      × (hs : ℕ × ℕ) × (c.1 ≤ depth) × (c.1 ≡ max hs.0 hs.1) × OptionReads names hs.0 cs c.0.0 × OptionReads names hs.1 ss c.0.1
  unfolding for_tests
  for_tests_sound ts c rest is = tree_answered (option_to names r mark.Semicolon ts) _ _ is (λ o ho k1 oread next. tree_answered (option_to names r mark.RightParenthesis k1) _ _ next (λ p hp k2 pread last.
      let x = option_sound mark.Semicolon ts (o, ho) k1 oread in
      let y = option_sound mark.RightParenthesis k1 (p, hp) k2 pread in
      plain_holds (λ c ks. (cs ss : Kinds) × (ts ≡ cs ++ Mark mark.Semicolon ∷ (ss ++ Mark mark.RightParenthesis ∷ ks)) × (hs : ℕ × ℕ) × (c.1 ≤ depth) × (c.1 ≡ max hs.0 hs.1) × OptionReads names hs.0 cs c.0.0 × OptionReads names hs.1 ss c.0.1) last
      (x.0, y.0, x.1 ∙ ap (λ k. x.0 ++ Mark mark.Semicolon ∷ k) y.1, (ho, hp), omega (arith, x.2, y.2), refl, x.3, y.3)))

  pub condition_sound : (ts : Kinds) (c : WithHeight FullExpr) (rest : Kinds) → condition names r ts ≡ Some (c, rest) → (cs : Kinds) × (ts ≡ wrapped 1 cs ++ rest) × (c.1 ≤ depth) × ExprReads names assign_level c.1 cs c.0.expr
  unfolding condition
  condition_sound ts c rest is = mark_answer mark.LeftParenthesis ts _ _ is (λ k1 opens next. tree_answered (full_expr names r k1) _ _ next (λ e h k2 read more. mark_answer mark.RightParenthesis k2 _ _ more (λ k3 closes last.
      let x = full_expr_sound k1 e h k2 read in
      plain_holds (λ c ks. (cs : Kinds) × (ts ≡ wrapped 1 cs ++ ks) × (c.1 ≤ depth) × ExprReads names assign_level c.1 cs c.0.expr) last (x.0, opens ∙ ap (λ k. Mark mark.LeftParenthesis ∷ k) (join x.0 (Mark mark.RightParenthesis ∷ []) _ x.1 closes), x.2, x.3))))

  -- ---- initialisers

  module _ (inner : Parser (WithHeight Init)) (inner_sound : ReadsOnly inner depth (λ h ts i. InitReads names h ts i)) where
    inits_sound : (n : ℕ) (found : List Init) (height : ℕ) (ts : Kinds) (all : WithHeight (List Init)) (rest : Kinds) → inits_from names r inner n found height ts ≡ Some (all, rest)
        → Found (λ h ts is. InitsRead names h ts is) depth found height ts all.0 all.1 (Mark mark.RightBrace ∷ rest)
    unfolding inits_from
    inits_sound zero found height ts all rest is = absurd (cc)
    inits_sound (suc n) found height ts all rest is = tree_answered (inner ts) _ _ is (λ i h k1 read next. let x = inner_sound ts i h k1 read in eaten mark.Comma k1 _ _ _ next
        (λ k2 comma more. eaten mark.RightBrace k2 _ _ _ more
        (λ k3 brace last. plain_holds (λ all ks. Found (λ h ts is. InitsRead names h ts is) depth found height ts all.0 all.1 (Mark mark.RightBrace ∷ ks)) last
        (i ∷ [], h, x.0 ++ Mark mark.Comma ∷ [], refl, refl, join x.0 (Mark mark.Comma ∷ []) _ x.1 comma ∙ ap (λ k. (x.0 ++ Mark mark.Comma ∷ []) ++ k) brace, x.2, InitsRead.last_with_comma _ _ _ i x.0 refl refl x.3))
        (λ none others. found_more found height i h (x.0 ++ Mark mark.Comma ∷ []) k2 (join x.0 (Mark mark.Comma ∷ []) _ x.1 comma) x.2
        (λ ho os others read. InitsRead.more_inits _ _ _ i others h ho x.0 os refl (append_assoc x.0 _ os) refl x.3 read)
        (inits_sound n (found ++ i ∷ []) (max height h) k2 all rest others)))
        (λ none more. mark_answer mark.RightBrace k1 _ _ more (λ k2 brace last. plain_holds (λ all ks. Found (λ h ts is. InitsRead names h ts is) depth found height ts all.0 all.1 (Mark mark.RightBrace ∷ ks)) last
        (i ∷ [], h, x.0, refl, refl, x.1 ∙ ap (λ k. x.0 ++ k) brace, x.2, InitsRead.last_init _ _ _ i refl x.3))))

    braces_sound : (ts : Kinds) (i : WithHeight Init) (rest : Kinds) → braces names r inner ts ≡ Some (i, rest) → ReadsPrefix (λ h ts i. InitReads names h ts i) (suc depth) (Mark mark.LeftBrace ∷ ts) i.0 i.1 rest
    unfolding braces
    braces_sound ts i rest is = tree_answered (inits_from names r inner (length ts) [] 0 ts) _ _ is (λ parts h ks read last.
        let x = found_all (inits_sound (length ts) [] 0 ts (parts, h) ks read) in
        plain_holds (λ i ks. ReadsPrefix (λ h ts i. InitReads names h ts i) (suc depth) (Mark mark.LeftBrace ∷ ts) i.0 i.1 ks) last
        (Mark mark.LeftBrace ∷ x.0 ++ Mark mark.RightBrace ∷ [], ap (λ k. Mark mark.LeftBrace ∷ k) (x.1 ∙ sym (append_assoc x.0 _ ks)), omega (arith, x.2), InitReads.by_braces _ _ _ parts h x.0 (omega arith) refl refl x.3))

    pub init_over_sound : ReadsOnly (init_over names r inner) (suc depth) (λ h ts i. InitReads names h ts i)
    unfolding init_over
    init_over_sound ts i h rest is = eaten mark.LeftBrace ts _ _ _ is
        (λ ks opens more. subst (λ ts. ReadsPrefix (λ h ts i. InitReads names h ts i) (suc depth) ts i h rest) (sym opens) (braces_sound ks (i, h) rest more))
        (λ none more. tree_answered (r.expr assign_level ts) _ _ more (λ e he ks read last. let x = sound.expr assign_level ts e he ks read in
        plain_holds (λ i ks. ReadsPrefix (λ h ts i. InitReads names h ts i) (suc depth) ts i.0 i.1 ks) last (x.0, x.1, omega (arith, x.2), InitReads.by_expression _ _ _ e he (omega arith) refl x.3)))

  -- ---- declarations

  module _ (init : Parser (WithHeight Init)) (init_sound : ReadsOnly init depth (λ h ts i. InitReads names h ts i)) where
    -- an initialiser behind a declarator
    with_init_sound : (x : List ℕ) (dts : Kinds) (d : WithHeight Declarator) (ts : Kinds) (i : WithHeight InitDeclarator) (rest : Kinds) → d.1 ≤ depth → DeclaratorReads names d.1 x dts d.0 → with_init names r init d ts ≡ Some (i, rest)
        → ReadsPrefix (λ h ts i. InitDeclaratorReads names h (dts ++ ts) i) depth ts i.0 i.1 rest
    unfolding with_init
    with_init_sound x dts d ts i rest deep dread is = eaten mark.Assign ts _ _ _ is
        (λ ks comes more. tree_answered (init ks) _ _ more (λ j h k2 read last. let y = init_sound ks j h k2 read in
        plain_holds (λ i ks. ReadsPrefix (λ h ts i. InitDeclaratorReads names h (dts ++ ts) i) depth ts i.0 i.1 ks) last
        (Mark mark.Assign ∷ y.0, comes ∙ ap (λ k. Mark mark.Assign ∷ k) y.1, omega (arith, y.2), InitDeclaratorReads.with_init _ _ _ d.0 x j d.1 h dts y.0 refl refl refl dread y.3)))
        (λ none last. plain_holds (λ i ks. ReadsPrefix (λ h ts i. InitDeclaratorReads names h (dts ++ ts) i) depth ts i.0 i.1 ks) last
        ([], refl, deep, InitDeclaratorReads.without _ _ _ d.0 x refl (subst (λ k. DeclaratorReads names d.1 x k d.0) (sym (append-nil dts)) dread)))

    declared_sound : (n : ℕ) (found : List InitDeclarator) (height : ℕ) (x : List ℕ) (dts : Kinds) (d : WithHeight Declarator) (ts : Kinds) (all : WithHeight (List InitDeclarator)) (rest : Kinds) → d.1 ≤ depth → DeclaratorReads names d.1 x dts d.0
        → declared_from names r init n found height d ts ≡ Some (all, rest) → Found (λ h ts ds. InitDeclaratorListReads names h (dts ++ ts) ds) depth found height ts all.0 all.1 rest
    unfolding declared_from
    declared_sound zero found height x dts d ts all rest deep dread is = absurd (cc)
    declared_sound (suc n) found height x dts d ts all rest deep dread is = tree_answered (with_init names r init d ts) _ _ is (λ i h k1 read next.
        let y = with_init_sound x dts d ts (i, h) k1 deep dread read in
        eaten mark.Comma k1 _ _ _ next
        (λ k2 comma more. tree_answered (r.declarator k2) _ _ more (λ e he k3 eread others. let z = sound.declarator k2 e he k3 eread in
        found_more found height i h ((y.0 ++ Mark mark.Comma ∷ []) ++ z.0) k3 (join (y.0 ++ Mark mark.Comma ∷ []) z.0 _ (join y.0 (Mark mark.Comma ∷ []) _ y.1 comma) z.1) y.2
        (λ ho os others read. InitDeclaratorListReads.more _ _ _ i others h ho (dts ++ y.0) (z.0 ++ os) refl (simp append_assoc) refl y.3 read)
        (declared_sound n (found ++ i ∷ []) (max height h) z.3.0 z.0 (e, he) k3 all rest z.2 z.3.1 others)))
        (λ none last. plain_holds (λ all ks. Found (λ h ts ds. InitDeclaratorListReads names h (dts ++ ts) ds) depth found height ts all.0 all.1 ks) last
        (i ∷ [], h, y.0, refl, refl, y.1, y.2, InitDeclaratorListReads.one _ _ _ i refl y.3)))

    -- behind the spec and the first declarator
    pub decl_of_sound : (hs : ℕ) (s : Spec) (ss : Kinds) (x : List ℕ) (dts : Kinds) (d : WithHeight Declarator) (ts : Kinds) (a : WithHeight Decl) (rest : Kinds) → hs ≤ depth → SpecReads names true hs ss s → d.1 ≤ depth → DeclaratorReads names d.1 x dts d.0
        → decl_of names r init (s, hs) d ts ≡ Some (a, rest) → ReadsPrefix (λ h ts a. DeclReads names h (ss ++ dts ++ ts) a) depth ts a.0 a.1 rest
    unfolding decl_of declared
    decl_of_sound hs s ss x dts d ts a rest sdeep sread deep dread is = tree_answered (declared_from names r init (length ts) [] 0 d ts) _ _ is (λ ds h k1 read next.
        let y = found_all (declared_sound (length ts) [] 0 x dts d ts (ds, h) k1 deep dread read) in
        mark_answer mark.Semicolon k1 _ _ next (λ k2 ends last. plain_holds (λ a ks. ReadsPrefix (λ h ts a. DeclReads names h (ss ++ dts ++ ts) a) depth ts a.0 a.1 ks) last (
          y.0 ++ Mark mark.Semicolon ∷ [],
          join y.0 (Mark mark.Semicolon ∷ []) _ y.1 ends,
          omega (arith, y.2),
          DeclReads.decl _ _ _ s ds hs h ss (dts ++ y.0) refl (simp append_assoc) refl sread (InitDeclaratorsRead.some _ _ _ y.3),
        )))

    -- a spec and nothing behind it
    pub bare_decl : (hs : ℕ) (s : Spec) (ss : Kinds) → SpecReads names true hs ss s → DeclReads names hs (ss ++ Mark mark.Semicolon ∷ []) (record { spec = s; declarators = [] })
    bare_decl hs s ss read = DeclReads.decl _ _ _ s [] hs 0 ss [] (omega arith) (rw (append-nil ss)) refl read (InitDeclaratorsRead.none _ _ _ refl refl refl)

    pub decl_sound : ReadsOnly (decl names r init) depth (λ h ts a. DeclReads names h ts a)
    unfolding decl
    decl_sound ts a h rest is = tree_answered (r.spec true ts) _ _ is (λ s hs k1 sread next. let x = sound.spec true ts s hs k1 sread in
        eaten mark.Semicolon k1 _ _ _ next
        (λ k2 ends last. plain_holds (λ a ks. ReadsPrefix (λ h ts a. DeclReads names h ts a) depth ts a.0 a.1 ks) last (x.0 ++ Mark mark.Semicolon ∷ [], join x.0 (Mark mark.Semicolon ∷ []) _ x.1 ends, x.2, bare_decl hs s x.0 x.3))
        (λ none more. tree_answered (r.declarator k1) _ _ more (λ d hd k2 dread last. let y = sound.declarator k1 d hd k2 dread in
        let z = decl_of_sound hs s x.0 y.3.0 y.0 (d, hd) k2 (a, h) rest x.2 x.3 y.2 y.3.1 last in
        (x.0 ++ y.0 ++ z.0, join (x.0 ++ y.0) z.0 _ (join x.0 y.0 _ x.1 y.1) z.1, z.2, z.3))))

    pub for_init_sound : ReadsOnly (for_init names r init) depth (λ h ts f. ForInitReads names h ts f)
    unfolding for_init
    for_init_sound ts f h rest is = tested (begins_spec names ts) _ _ _ is
        (λ spec more. tree_answered (decl names r init ts) _ _ more (λ a ha ks read last. let x = decl_sound ts a ha ks read in
        plain_holds (λ f ks. ReadsPrefix (λ h ts f. ForInitReads names h ts f) depth ts f.0 f.1 ks) last (x.0, x.1, x.2, ForInitReads.declared _ _ _ a refl x.3)))
        (λ none more. tree_answered (option_to names r mark.Semicolon ts) _ _ more (λ o ho ks read last. let x = option_sound mark.Semicolon ts (o, ho) ks read in
        plain_holds (λ f ks. ReadsPrefix (λ h ts f. ForInitReads names h ts f) depth ts f.0 f.1 ks) last (x.0 ++ Mark mark.Semicolon ∷ [], x.1 ∙ sym (append_assoc x.0 _ ks), x.2, ForInitReads.computed _ _ _ o x.0 refl refl x.3)))
