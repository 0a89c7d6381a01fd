-- What the readers of items answer is of the grammar, at every depth.
use Rattle.std.proofs.Common.{◌≡◌, ℕ, zero, suc, ◌≤◌, max, true, List, [], ◌∷◌, ◌++◌, map, Some, refl, sym, ap, subst, ◌∙◌, arith, length, append_assoc}
use Rattle.c_tokens.specs.declared.token.Keyword.TheVariants as word
use Rattle.c_tokens.specs.declared.token.Kind.TheVariants.{Word, Mark}
use Rattle.c_tokens.specs.declared.token.Mark.TheVariants as mark
use Rattle.c_tree.specs.declared.expression.Declarator.{Declarator}
use Rattle.c_tree.specs.declared.expression.Spec.{Spec}
use Rattle.c_tree.specs.declared.statement.Init.{Init}
use Rattle.c_tree.specs.declared.statement.Item.{Item}
use Rattle.c_tree.specs.declared.statement.Stmt.{Stmt}
use Rattle.c_tree.specs.Marks.{Kinds}
use Rattle.c_tree.specs.DeclaredName.{declared_name}
use Rattle.c_tree.specs.Theorems.{DeclaratorsDeclareTheirNames}
use Rattle.c_tree.specs.Grammar.{SpecReads, DeclaratorsRead, DeclaratorReads}
use Rattle.c_tree.specs.Statements.{InitReads, ItemReads}
use Rattle.c_readers.specs.inner.Parser.{Parser, WithHeight, sees}
use Rattle.c_readers.specs.inner.Readers.{Readers, readers}
use Rattle.c_expr.specs.Theorems.{ReadsOnly, AreSound, ExpressionLaws}
use Rattle.c_statements.specs.inner.Readers.{decl_of, block, init, stmt}
use Rattle.c_parser.specs.inner.Readers.{types_from, types, type_definition, item_of, untyped, item_over, item}
use Rattle.c_readers.specs.inner.ParserLemmas.{both_answer, plain_holds, tested, eaten, mark_answer, join}
use Rattle.c_statements.proofs.ChainLemmas.{tree_answered, word_eaten}
use Rattle.c_statements.proofs.soundness.Declarations.{init_over_sound, decl_of_sound, bare_decl}
use Rattle.c_statements.proofs.soundness.Statements.{StmtsAreSound, block_sound, stmt_over_sound}

-- an item stands before this rest, and it declares these type names
abbrev pub ItemRead : List (List ℕ) → ℕ → Kinds → Item × List (List ℕ) → Kinds → Type 0
ItemRead names depth ts i rest = (prefix : Kinds) × (ts ≡ prefix ++ rest) × (h : ℕ) × (h ≤ depth) × ItemReads names h i.1 prefix i.0

-- declarators, of which these were found before, with the names that they declare
abbrev TypesRead : List (List ℕ) → ℕ → List Declarator → Kinds → List Declarator → Kinds → Type 0
TypesRead names depth found ts all rest = (others : List Declarator) × (ho : ℕ) × (prefix : Kinds) × (all ≡ found ++ others)
    × (ts ≡ prefix ++ rest) × (ho ≤ depth) × DeclaratorsRead names ho (map declared_name others) prefix others

module _ (named : DeclaratorsDeclareTheirNames) (names : List (List ℕ)) (depth : ℕ) (r : Readers) (sound : AreSound names depth r) where
  module _ (init : Parser (WithHeight Init)) (init_sound : ReadsOnly init depth (λ h ts i. InitReads names h ts i)) where
    module _ (inner : Parser (WithHeight Stmt)) (inner_sound : StmtsAreSound names depth inner) where
      types_sound : (n : ℕ) (found : List Declarator) (ts : Kinds) (all : List Declarator) (rest : Kinds) → types_from names r init inner n found ts ≡ Some (all, rest) → TypesRead names depth found ts all rest
      unfolding types_from
      types_sound zero found ts all rest is = absurd (cc)
      types_sound (suc n) found ts all rest is = tree_answered (r.declarator ts) _ _ is (λ d h k1 read next.
          let x = sound.declarator ts d h k1 read in
          let name : declared_name d ≡ x.3.0 = named names h x.3.0 x.0 d x.3.1 in
          eaten mark.Comma k1 _ _ _ next
          (λ k2 comma more. let a = types_sound n (found ++ d ∷ []) k2 all rest more in (
            d ∷ a.0,
            max h a.1,
            x.0 ++ Mark mark.Comma ∷ a.2,
            a.3 ∙ append_assoc found (d ∷ []) a.0,
            join x.0 (Mark mark.Comma ∷ a.2) _ x.1 (comma ∙ ap (λ k. Mark mark.Comma ∷ k) a.4),
            omega (arith, x.2, a.5),
            DeclaratorsRead.more_declarators _ _ _ _ d x.3.0 a.0 (map declared_name a.0) h a.1 x.0 a.2 refl (ap (λ y. y ∷ map declared_name a.0) name) refl refl x.3.1 a.6,
          ))
          (λ none last. plain_holds (λ all ks. TypesRead names depth found ts all ks) last
          (d ∷ [], h, x.0, refl, x.1, x.2, DeclaratorsRead.one_declarator _ _ _ _ d x.3.0 (ap (λ y. y ∷ []) name) refl x.3.1)))

      typedef_sound : (ts : Kinds) (i : Item × List (List ℕ)) (rest : Kinds) → type_definition names r init inner ts ≡ Some (i, rest) → ItemRead names depth (Word word.Typedef ∷ ts) i rest
      unfolding type_definition types
      typedef_sound ts i rest is = tree_answered (r.spec true ts) _ _ is (λ s hs k1 sread next. let x = sound.spec true ts s hs k1 sread in
          both_answer (types_from names r init inner (length k1) [] k1) _ _ next (λ ds k2 dread more. let a = types_sound (length k1) [] k1 ds k2 dread in
          mark_answer mark.Semicolon k2 _ _ more (λ k3 ends last. plain_holds (λ i ks. ItemRead names depth (Word word.Typedef ∷ ts) i ks) last (
            Word word.Typedef ∷ x.0 ++ a.2 ++ Mark mark.Semicolon ∷ [],
            ap (λ k. Word word.Typedef ∷ k) (join (x.0 ++ a.2) (Mark mark.Semicolon ∷ []) _ (join x.0 a.2 _ x.1 a.4) ends),
            max hs a.1,
            omega (arith, x.2, a.5),
            ItemReads.type_definition _ _ _ _ s ds hs a.1 x.0 a.2 refl refl refl x.3 (subst (λ es. DeclaratorsRead names a.1 (map declared_name es) a.2 es) (sym a.3) a.6),
          ))))

      -- behind the spec and the first declarator
      item_of_sound : (hs : ℕ) (s : Spec) (ss : Kinds) (x : List ℕ) (dts : Kinds) (hd : ℕ) (d : Declarator) (ts : Kinds) (i : Item × List (List ℕ)) (rest : Kinds) → hs ≤ depth → SpecReads names true hs ss s → hd ≤ depth → DeclaratorReads names hd x dts d
          → item_of names r init inner (s, hs) (d, hd) ts ≡ Some (i, rest) → (prefix : Kinds) × (ts ≡ prefix ++ rest) × (h : ℕ) × (h ≤ depth) × ItemReads names h i.1 (ss ++ dts ++ prefix) i.0
      unfolding item_of
      item_of_sound hs s ss x dts hd d ts i rest sdeep sread deep dread is = tested (sees mark.LeftBrace ts) _ _ _ is
          (λ opens more. tree_answered (block names r init inner ts) _ _ more (λ b hb ks bread last. let y = block_sound names depth r sound init init_sound inner inner_sound ts b hb ks bread in
          plain_holds (λ i ks. (prefix : Kinds) × (ts ≡ prefix ++ ks) × (h : ℕ) × (h ≤ depth) × ItemReads names h i.1 (ss ++ dts ++ prefix) i.0) last
          (y.0, y.1, max hs (max hd hb), omega (arith, y.2), ItemReads.definition _ _ _ _ s d b x hs hd hb ss dts y.0 refl refl refl refl sread dread y.3)))
          (λ none more. tree_answered (decl_of names r init (s, hs) (d, hd) ts) _ _ more (λ a ha ks aread last. let y = decl_of_sound names depth r sound init init_sound hs s ss x dts (d, hd) ts (a, ha) ks sdeep sread deep dread aread in
          plain_holds (λ i ks. (prefix : Kinds) × (ts ≡ prefix ++ ks) × (h : ℕ) × (h ≤ depth) × ItemReads names h i.1 (ss ++ dts ++ prefix) i.0) last
          (y.0, y.1, ha, y.2, ItemReads.declaration _ _ _ _ a refl refl y.3)))

      untyped_sound : (ts : Kinds) (i : Item × List (List ℕ)) (rest : Kinds) → untyped names r init inner ts ≡ Some (i, rest) → ItemRead names depth ts i rest
      unfolding untyped
      untyped_sound ts i rest is = tree_answered (r.spec true ts) _ _ is (λ s hs k1 sread next. let x = sound.spec true ts s hs k1 sread in
          eaten mark.Semicolon k1 _ _ _ next
          (λ k2 ends last. plain_holds (λ i ks. ItemRead names depth ts i ks) last
          (x.0 ++ Mark mark.Semicolon ∷ [], join x.0 (Mark mark.Semicolon ∷ []) _ x.1 ends, hs, x.2, ItemReads.declaration _ _ _ _ _ refl refl (bare_decl names depth r sound init init_sound hs s x.0 x.3)))
          (λ none more. tree_answered (r.declarator k1) _ _ more (λ d hd k2 dread last. let y = sound.declarator k1 d hd k2 dread in
          let z = item_of_sound hs s x.0 y.3.0 y.0 hd d k2 i rest x.2 x.3 y.2 y.3.1 last in
          (x.0 ++ y.0 ++ z.0, join (x.0 ++ y.0) z.0 _ (join x.0 y.0 _ x.1 y.1) z.1, z.2, z.3, z.4))))

      pub item_over_sound : (ts : Kinds) (i : Item × List (List ℕ)) (rest : Kinds) → item_over names r init inner ts ≡ Some (i, rest) → ItemRead names depth ts i rest
      unfolding item_over
      item_over_sound ts i rest is = word_eaten word.Typedef ts _ _ _ is
          (λ ks comes more. subst (λ ts. ItemRead names depth ts i rest) (sym comes) (typedef_sound ks i rest more))
          (λ none more. untyped_sound ts i rest more)

-- ---- at every depth

module _ (laws : ExpressionLaws) (named : DeclaratorsDeclareTheirNames) (names : List (List ℕ)) where
  pub init_sound : (depth : ℕ) → ReadsOnly (init names depth) depth (λ h ts i. InitReads names h ts i)
  unfolding init
  init_sound zero ts i h rest is = absurd (cc)
  init_sound (suc depth) ts i h rest is = init_over_sound names depth (readers names depth) (laws.sound names depth) (init names depth) (init_sound depth) ts i h rest is

  pub stmt_sound : (depth : ℕ) → StmtsAreSound names depth (stmt names depth)
  unfolding stmt
  stmt_sound zero ts s rest is = absurd (cc)
  stmt_sound (suc depth) ts s rest is = stmt_over_sound names depth (readers names depth) (laws.sound names depth) (init names depth) (init_sound depth) (stmt names depth) (stmt_sound depth) ts s rest is

  pub item_sound : (depth : ℕ) (ts : Kinds) (i : Item × List (List ℕ)) (rest : Kinds) → item names depth ts ≡ Some (i, rest) → ItemRead names depth ts i rest
  unfolding item
  item_sound depth ts i rest is = item_over_sound named names depth (readers names depth) (laws.sound names depth) (init names depth) (init_sound depth) (stmt names depth) (stmt_sound depth) ts i rest is
