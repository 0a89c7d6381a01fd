-- Initialisers and declarations of the grammar are what their readers answer.
use Rattle.std.proofs.Common.{◌≡◌, ℕ, zero, suc, ◌<◌, ◌≤◌, max, true, false, List, [], ◌∷◌, ◌++◌, Option, Some, None, refl, sym, ap, subst, ◌∙◌, arith, length, length-append, append_assoc, append-nil}
use Rattle.c_tokens.specs.declared.token.Kind.TheVariants.{Mark}
use Rattle.c_tokens.specs.declared.token.Mark.{Mark as MarkName}
use Rattle.c_tokens.specs.declared.token.Mark.TheVariants as mark
use Rattle.c_tree.specs.declared.expression.Declarator.{Declarator}
use Rattle.c_tree.specs.declared.expression.Expr.{Expr}
use Rattle.c_tree.specs.declared.expression.Spec.{Spec}
use Rattle.c_tree.specs.declared.statement.Decl.{Decl}
use Rattle.c_tree.specs.declared.statement.ForInit.{ForInit}
use Rattle.c_tree.specs.declared.statement.FullExpr.{FullExpr}
use Rattle.c_tree.specs.declared.statement.Init.{Init}
use Rattle.c_tree.specs.declared.statement.InitDeclarator.{InitDeclarator}
use Rattle.c_tree.specs.Marks.{Kinds, wrapped, assign_level}
use Rattle.c_tree.specs.Trees.{full as full_of}
use Rattle.c_tree.specs.Grammar.{SpecReads, DeclaratorReads, ExprReads}
use Rattle.c_tree.specs.Statements.{InitReads, InitsRead, InitDeclaratorReads, InitDeclaratorListReads, InitDeclaratorsRead, DeclReads, OptionReads, ForInitReads}
use Rattle.c_readers.specs.inner.Parser.{Parser, Outcome, WithHeight, same_mark, behind}
use Rattle.c_readers.specs.inner.Readers.{Readers, begins_spec, continuation_of}
use Rattle.c_expr.specs.Theorems.{AreComplete, Takes, Stops, Lacks, FirstTokens}
use Rattle.c_expr.specs.FirstTokens.{Begins, mark_begins_expression, CanBeginSpec}
use Rattle.c_expr.specs.inner.FirstTokensLemmas.{Begins-append, Begins-same, stops_at, expression_lacks}
use Rattle.c_statements.specs.inner.Readers.{full_expr, option_to, for_tests, condition, inits_from, braces, init_over, with_init, declared_from, declared, decl_of, decl, for_init}
use Rattle.c_statements.proofs.ChainLemmas.{then_takes, if_yes, if_no, eats, leaves, expects}
use Rattle.c_statements.proofs.completeness.StatementsBegin.{Ends, comma_ends, semicolon_ends, ends_goes_on, ends_stops, ends_no_assign, semicolon_no_comma, semicolon_no_brace, begins_some, init_no_brace, InitsRead-begins, GoesOn, no_suffix, declarator_no_brace, declarator_no_semicolon}
use Rattle.c_readers.specs.inner.ParserLemmas.{found_then}

-- a parser at the same tokens, put otherwise
pub at_tokens : {A : Type 0} (p : Parser A) {ts us : Kinds} {z : Outcome A} → ts ≡ us → p us ≡ z → p ts ≡ z
at_tokens p is here = ap p is ∙ here

-- nothing found before
pub nothing_before : {A : Type 0} (xs : List A) (h : ℕ) (rest : Kinds) → ◌≡◌ {A = Outcome (WithHeight (List A))} (Some ((xs, max 0 h), rest)) (Some ((xs, h), rest))
nothing_before xs h rest = let high : max 0 h ≡ h = omega arith in rw high

module _ (names : List (List ℕ)) (first : FirstTokens names) (depth : ℕ) (r : Readers) (complete : AreComplete names depth r) where
  -- ---- options and conditions

  expression_takes : (h : ℕ) (ts : Kinds) (e : Expr) (m : MarkName) (rest : Kinds) → h ≤ depth → ExprReads names assign_level h ts e → continuation_of m ≡ None → r.expr assign_level (ts ++ Mark m ∷ rest) ≡ Some ((e, h), Mark m ∷ rest)
  expression_takes h ts e m rest deep read ends = complete.expr assign_level h ts e (omega arith) deep read (Mark m ∷ rest) (stops_at 0 m rest ends)

  full_expr_takes : (h : ℕ) (ts : Kinds) (e : Expr) (m : MarkName) (rest : Kinds) → h ≤ depth → ExprReads names assign_level h ts e → continuation_of m ≡ None → full_expr names r (ts ++ Mark m ∷ rest) ≡ Some ((full_of e, h), Mark m ∷ rest)
  unfolding full_expr
  full_expr_takes h ts e m rest deep read ends = then_takes _ _ (e, h) (Mark m ∷ rest) _ (expression_takes h ts e m rest deep read ends) refl

  pub option_takes : {h : ℕ} {ts : Kinds} {o : Option FullExpr} (m : MarkName) → mark_begins_expression m ≡ false → continuation_of m ≡ None → h ≤ depth → OptionReads names h ts o → (rest : Kinds) → option_to names r m (ts ++ Mark m ∷ rest) ≡ Some ((o, h), rest)
  unfolding option_to
  option_takes m begins ends deep (OptionReads.nothing h ts o hi is oi) rest = rw (is, hi, oi) (eats m rest _ _ _ refl)
  option_takes m begins ends deep (OptionReads.some h ts o e oi read) rest = rw oi (leaves m (ts ++ Mark m ∷ rest) _ _ _ (expression_lacks names m _ begins (Begins-append _ ts _ (first.expression read)))
      (then_takes _ _ (full_of e, h) (Mark m ∷ rest) _ (full_expr_takes h ts e m rest deep read ends) (expects m rest _ _ refl)))

  pub for_tests_take : {hc hs : ℕ} {cs ss : Kinds} {c p : Option FullExpr} → hc ≤ depth → hs ≤ depth → OptionReads names hc cs c → OptionReads names hs ss p → (rest : Kinds)
      → for_tests names r (cs ++ Mark mark.Semicolon ∷ (ss ++ Mark mark.RightParenthesis ∷ rest)) ≡ Some (((c, p), max hc hs), rest)
  unfolding for_tests
  for_tests_take {hc} {hs} {cs} {ss} {c} {p} dc ds test step rest =
      then_takes _ _ (c, hc) (ss ++ Mark mark.RightParenthesis ∷ rest) _ (option_takes mark.Semicolon refl refl dc test (ss ++ Mark mark.RightParenthesis ∷ rest))
      (then_takes _ _ (p, hs) rest _ (option_takes mark.RightParenthesis refl refl ds step rest) refl)

  pub condition_takes : {h : ℕ} {cs : Kinds} {c : Expr} → h ≤ depth → ExprReads names assign_level h cs c → (rest : Kinds) → condition names r (wrapped 1 cs ++ rest) ≡ Some ((full_of c, h), rest)
  unfolding condition
  condition_takes {h} {cs} {c} deep read rest = expects mark.LeftParenthesis ((cs ++ Mark mark.RightParenthesis ∷ []) ++ rest) _ _ (rw (append_assoc cs (Mark mark.RightParenthesis ∷ []) rest)
      (then_takes _ _ (full_of c, h) (Mark mark.RightParenthesis ∷ rest) _ (full_expr_takes h cs c mark.RightParenthesis rest deep read refl) (expects mark.RightParenthesis rest _ _ refl)))

  -- ---- initialisers

  module _ (inner : Parser (WithHeight Init)) (inner_takes : (h : ℕ) (ts : Kinds) (i : Init) → h ≤ depth → InitReads names h ts i → Takes inner (Stops assign_level) h ts i) where
    brace_no_comma : (ks : Kinds) → Lacks mark.Comma (Mark mark.RightBrace ∷ ks)
    unfolding same_mark
    brace_no_comma ks = refl

    inits_take : {h : ℕ} {ts : Kinds} {is : List Init} → h ≤ depth → InitsRead names h ts is → (rest : Kinds) (n : ℕ) → length ts ≤ n → (found : List Init) (height : ℕ)
        → inits_from names r inner n found height (ts ++ Mark mark.RightBrace ∷ rest) ≡ Some ((found ++ is, max height h), rest)
    unfolding inits_from
    inits_take {ts = ts} deep read rest zero enough found height = let some : 0 < length ts = begins_some _ ts (InitsRead-begins first read) in absurd (omega arith)
    inits_take deep (InitsRead.last_init h ts is i ii read) rest (suc n) enough found height = rw ii (
        then_takes _ _ (i, h) (Mark mark.RightBrace ∷ rest) _ (inner_takes h ts i deep read _ (stops_at 0 mark.RightBrace rest refl))
        (leaves mark.Comma (Mark mark.RightBrace ∷ rest) _ _ _ (brace_no_comma rest) (expects mark.RightBrace rest _ _ refl)))
    inits_take deep (InitsRead.last_with_comma h ts is i its si ii read) rest (suc n) enough found height = rw (si, ii, append_assoc its (Mark mark.Comma ∷ []) (Mark mark.RightBrace ∷ rest)) (
        then_takes _ _ (i, h) (Mark mark.Comma ∷ Mark mark.RightBrace ∷ rest) _ (inner_takes h its i deep read _ (stops_at 0 mark.Comma (Mark mark.RightBrace ∷ rest) refl))
        (eats mark.Comma (Mark mark.RightBrace ∷ rest) _ _ _ (eats mark.RightBrace rest _ _ _ refl)))
    inits_take deep (InitsRead.more_inits h ts is i others hi ho its os hh si ii read more) rest (suc n) enough found height =
        let long = ap (λ ks. length ks) si in
        let both = length-append its (Mark mark.Comma ∷ os) in
        rw (si, ii, hh, append_assoc its (Mark mark.Comma ∷ os) (Mark mark.RightBrace ∷ rest)) (
        then_takes _ _ (i, hi) (Mark mark.Comma ∷ (os ++ Mark mark.RightBrace ∷ rest)) _ (inner_takes hi its i (omega arith) read _ (stops_at 0 mark.Comma (os ++ Mark mark.RightBrace ∷ rest) refl))
        (eats mark.Comma (os ++ Mark mark.RightBrace ∷ rest) _ _ _ (leaves mark.RightBrace (os ++ Mark mark.RightBrace ∷ rest) _ _ _ (init_no_brace names _ (Begins-append _ os _ (InitsRead-begins first more)))
        (inits_take (omega arith) more rest n (omega arith) (found ++ i ∷ []) (max height hi) ∙ found_then found others i height hi ho rest))))

    pub init_over_takes : (h : ℕ) (ts : Kinds) (i : Init) → h ≤ suc depth → InitReads names h ts i → Takes (init_over names r inner) (Stops assign_level) h ts i
    unfolding init_over braces
    init_over_takes _ _ _ deep (InitReads.by_expression h ts i e he hi ii read) rest may = rw (ii, hi) (leaves mark.LeftBrace (ts ++ rest) _ _ _ (expression_lacks names mark.LeftBrace _ refl (Begins-append _ ts _ (first.expression read)))
        (then_takes _ _ (e, he) rest _ (complete.expr assign_level he ts e (omega arith) (omega arith) read rest may) refl))
    init_over_takes _ _ _ deep (InitReads.by_braces h ts i parts hp ps hi is ii read) rest may = rw (is, ii, hi) (eats mark.LeftBrace ((ps ++ Mark mark.RightBrace ∷ []) ++ rest) _ _ _ (rw (append_assoc ps (Mark mark.RightBrace ∷ []) rest)
        (then_takes _ _ (parts, hp) rest _ (inits_take (omega arith) read rest (length (ps ++ Mark mark.RightBrace ∷ rest)) (let l = length-append ps (Mark mark.RightBrace ∷ rest) in omega arith) [] 0 ∙ nothing_before parts hp rest) refl)))

  -- ---- declarations

  module _ (init : Parser (WithHeight Init)) (init_takes : (h : ℕ) (ts : Kinds) (i : Init) → h ≤ depth → InitReads names h ts i → Takes init (Stops assign_level) h ts i) where
    -- a declarator, and the initialiser behind it
    record InitDeclaratorParts (h : ℕ) (ts : Kinds) (i : InitDeclarator) : Type 0 where
      declarator : Declarator
      height : ℕ
      name : List ℕ
      prefix : Kinds
      tail : Kinds
      split : ts ≡ prefix ++ tail
      low : height ≤ h
      read : DeclaratorReads names height name prefix declarator
      goes_on : (rest : Kinds) → Ends rest → GoesOn (tail ++ rest)
      behind : (rest : Kinds) → Ends rest → with_init names r init (declarator, height) (tail ++ rest) ≡ Some ((i, h), rest)

    init_declarator_parts : {h : ℕ} {ts : Kinds} {i : InitDeclarator} → h ≤ depth → InitDeclaratorReads names h ts i → InitDeclaratorParts h ts i
    unfolding with_init
    init_declarator_parts deep (InitDeclaratorReads.without h ts d declarator x di read) = record {
      declarator = declarator;
      height = h;
      name = x;
      prefix = ts;
      tail = [];
      split = sym (append-nil ts);
      low = omega arith;
      read = read;
      goes_on = λ rest ends. ends_goes_on rest ends;
      behind = λ rest ends. rw di (leaves mark.Assign rest _ _ _ (ends_no_assign rest ends) refl);
    }
    init_declarator_parts deep (InitDeclaratorReads.with_init h ts d declarator x i hd hi ds its hh is di dread iread) = record {
      declarator = declarator;
      height = hd;
      name = x;
      prefix = ds;
      tail = Mark mark.Assign ∷ its;
      split = is;
      low = omega arith;
      read = dread;
      goes_on = λ rest ends. (mark.Assign, its ++ rest, refl, refl);
      behind = λ rest ends. rw (di, hh) (eats mark.Assign (its ++ rest) _ _ _ (then_takes _ _ (i, hi) rest _ (init_takes hi its i (omega arith) iread rest (ends_stops rest ends)) refl));
    }

    -- the first declarator, and what stands behind it
    record DeclaredParts (h : ℕ) (ts : Kinds) (ds : List InitDeclarator) : Type 0 where
      declarator : Declarator
      height : ℕ
      name : List ℕ
      prefix : Kinds
      tail : Kinds
      split : ts ≡ prefix ++ tail
      low : height ≤ h
      read : DeclaratorReads names height name prefix declarator
      goes_on : (rest : Kinds) → Ends rest → GoesOn (tail ++ rest)
      behind : (rest : Kinds) (n : ℕ) → length tail < n → (found : List InitDeclarator) (before : ℕ)
          → declared_from names r init n found before (declarator, height) (tail ++ Mark mark.Semicolon ∷ rest) ≡ Some ((found ++ ds, max before h), Mark mark.Semicolon ∷ rest)

    declared_one : {h : ℕ} {ts : Kinds} {i : InitDeclarator} (p : InitDeclaratorParts h ts i) (rest : Kinds) (n : ℕ) → length p.tail < n → (found : List InitDeclarator) (before : ℕ)
        → declared_from names r init n found before (p.declarator, p.height) (p.tail ++ Mark mark.Semicolon ∷ rest) ≡ Some ((found ++ i ∷ [], max before h), Mark mark.Semicolon ∷ rest)
    unfolding declared_from
    declared_one p rest zero enough found before = absurd (omega arith)
    declared_one {h} {i = i} p rest (suc n) enough found before = then_takes _ _ (i, h) (Mark mark.Semicolon ∷ rest) _ (p.behind (Mark mark.Semicolon ∷ rest) (semicolon_ends rest))
        (leaves mark.Comma (Mark mark.Semicolon ∷ rest) _ _ _ (semicolon_no_comma rest) refl)

    declared_more : {hi ho : ℕ} {ts os : Kinds} {i : InitDeclarator} {others : List InitDeclarator} (p : InitDeclaratorParts hi ts i) (q : DeclaredParts ho os others) → ho ≤ depth
        → (rest : Kinds) (n : ℕ) → length (p.tail ++ Mark mark.Comma ∷ (q.prefix ++ q.tail)) < n → (found : List InitDeclarator) (before : ℕ)
        → declared_from names r init n found before (p.declarator, p.height) ((p.tail ++ Mark mark.Comma ∷ (q.prefix ++ q.tail)) ++ Mark mark.Semicolon ∷ rest) ≡ Some ((found ++ (i ∷ others), max before (max hi ho)), Mark mark.Semicolon ∷ rest)
    unfolding declared_from
    declared_more p q deep rest zero enough found before = absurd (omega arith)
    declared_more {hi} {ho} {i = i} {others} p q deep rest (suc n) enough found before =
        let last = Mark mark.Semicolon ∷ rest in
        let low = q.low in
        let a = length-append p.tail (Mark mark.Comma ∷ (q.prefix ++ q.tail)) in
        let b = length-append q.prefix q.tail in
        at_tokens (declared_from names r init (suc n) found before (p.declarator, p.height)) (append_assoc p.tail _ last ∙ ap (λ k. p.tail ++ Mark mark.Comma ∷ k) (append_assoc q.prefix q.tail last))
        (then_takes _ _ (i, hi) (Mark mark.Comma ∷ (q.prefix ++ (q.tail ++ last))) _ (p.behind (Mark mark.Comma ∷ (q.prefix ++ (q.tail ++ last))) (comma_ends _))
        (eats mark.Comma (q.prefix ++ (q.tail ++ last)) _ _ _
        (then_takes _ _ (q.declarator, q.height) (q.tail ++ last) _ (complete.declarator q.height q.name q.prefix q.declarator (omega arith) q.read (q.tail ++ last) (no_suffix _ (q.goes_on last (semicolon_ends rest))))
        (q.behind rest n (omega arith) (found ++ i ∷ []) (max before hi) ∙ found_then found others i before hi ho last))))

    declared_joined : {h hi ho : ℕ} {ts dts os : Kinds} {ds : List InitDeclarator} {i : InitDeclarator} {others : List InitDeclarator} → h ≤ depth → h ≡ max hi ho → ts ≡ dts ++ Mark mark.Comma ∷ os → ds ≡ i ∷ others
        → InitDeclaratorParts hi dts i → DeclaredParts ho os others → DeclaredParts h ts ds
    declared_joined {os = os} deep hh is di p q = let low = p.low in record {
      declarator = p.declarator;
      height = p.height;
      name = p.name;
      prefix = p.prefix;
      tail = p.tail ++ Mark mark.Comma ∷ (q.prefix ++ q.tail);
      split = is ∙ ap (λ k. k ++ Mark mark.Comma ∷ os) p.split ∙ ap (λ k. (p.prefix ++ p.tail) ++ Mark mark.Comma ∷ k) q.split ∙ append_assoc p.prefix p.tail _;
      low = omega arith;
      read = p.read;
      goes_on = λ rest ends. subst (λ k. GoesOn k) (sym (append_assoc p.tail _ rest)) (p.goes_on (Mark mark.Comma ∷ ((q.prefix ++ q.tail) ++ rest)) (comma_ends _));
      behind = λ rest n enough found before. rw (di, hh) (declared_more p q (omega arith) rest n enough found before);
    }

    declared_parts : {h : ℕ} {ts : Kinds} {ds : List InitDeclarator} → h ≤ depth → InitDeclaratorListReads names h ts ds → DeclaredParts h ts ds
    declared_parts deep (InitDeclaratorListReads.one h ts ds d di read) = let p = init_declarator_parts deep read in record {
      declarator = p.declarator;
      height = p.height;
      name = p.name;
      prefix = p.prefix;
      tail = p.tail;
      split = p.split;
      low = p.low;
      read = p.read;
      goes_on = p.goes_on;
      behind = λ rest n enough found before. rw di (declared_one p rest n enough found before);
    }
    declared_parts deep (InitDeclaratorListReads.more h ts ds d others hd ho dts os hh is di read behind) =
        declared_joined deep hh is di (init_declarator_parts (omega arith) read) (declared_parts (omega arith) behind)

    -- a spec alone, or a spec, a declarator and what stands behind it
    pub data DeclParts (h : ℕ) (ts : Kinds) (a : Decl) : Type 0 where
      bare : (s : Spec) (ss : Kinds) → SpecReads names true h ss s → ts ≡ ss ++ Mark mark.Semicolon ∷ [] → a ≡ record { spec = s; declarators = [] } → DeclParts h ts a
      full : (s : Spec) (hs : ℕ) (ss : Kinds) (d : Declarator) (hd : ℕ) (x : List ℕ) (ds its : Kinds) → hs ≤ h → hd ≤ h → ts ≡ ss ++ ds ++ its → SpecReads names true hs ss s → DeclaratorReads names hd x ds d
          → ((rest : Kinds) → GoesOn (its ++ rest)) → ((rest : Kinds) → decl_of names r init (s, hs) (d, hd) (its ++ rest) ≡ Some ((a, h), rest)) → DeclParts h ts a

    decl_of_takes : {hd : ℕ} {ds : Kinds} {declarators : List InitDeclarator} (p : DeclaredParts hd ds declarators) (s : Spec) (hs : ℕ) (rest : Kinds)
        → decl_of names r init (s, hs) (p.declarator, p.height) ((p.tail ++ Mark mark.Semicolon ∷ []) ++ rest) ≡ Some ((record { spec = s; declarators = declarators }, max hs hd), rest)
    unfolding decl_of declared
    decl_of_takes {hd} {declarators = declarators} p s hs rest =
        let long = length-append p.tail (Mark mark.Semicolon ∷ rest) in
        rw (append_assoc p.tail (Mark mark.Semicolon ∷ []) rest) (then_takes _ _ (declarators, hd) (Mark mark.Semicolon ∷ rest) _
        (p.behind rest (length (p.tail ++ Mark mark.Semicolon ∷ rest)) (omega arith) [] 0 ∙ nothing_before declarators hd (Mark mark.Semicolon ∷ rest)) (expects mark.Semicolon rest _ _ refl))

    full_parts : {h hs hd : ℕ} {ts ss ds : Kinds} {a : Decl} {s : Spec} {declarators : List InitDeclarator} → h ≡ max hs hd → ts ≡ ss ++ ds ++ Mark mark.Semicolon ∷ [] → a ≡ record { spec = s; declarators = declarators }
        → SpecReads names true hs ss s → DeclaredParts hd ds declarators → DeclParts h ts a
    full_parts {hs = hs} {ss = ss} {s = s} hh is ai sread p = let low = p.low in
        DeclParts.full s hs ss p.declarator p.height p.name p.prefix (p.tail ++ Mark mark.Semicolon ∷ []) (omega arith) (omega arith)
        (is ∙ ap (λ k. (ss ++ k) ++ Mark mark.Semicolon ∷ []) p.split ∙ simp append_assoc) sread p.read
        (λ rest. subst (λ k. GoesOn k) (sym (append_assoc p.tail _ rest)) (p.goes_on (Mark mark.Semicolon ∷ rest) (semicolon_ends rest)))
        (λ rest. rw (ai, hh) (decl_of_takes p s hs rest))

    pub decl_parts : {h : ℕ} {ts : Kinds} {a : Decl} → h ≤ depth → DeclReads names h ts a → DeclParts h ts a
    decl_parts deep (DeclReads.decl h ts a s declarators hs hd ss ds hh is ai sread (InitDeclaratorsRead.none _ _ _ di dsi none)) =
        DeclParts.bare s ss (let same : hs ≡ h = omega arith in subst (λ k. SpecReads names true k ss s) same sread) (is ∙ rw (dsi, append-nil ss) refl) (ai ∙ rw none refl)
    decl_parts deep (DeclReads.decl h ts a s declarators hs hd ss ds hh is ai sread (InitDeclaratorsRead.some _ _ _ read)) = full_parts hh is ai sread (declared_parts (omega arith) read)

    pub spec_takes : (h : ℕ) (ss : Kinds) (s : Spec) → h ≤ depth → SpecReads names true h ss s → (rest : Kinds) → Lacks mark.LeftBrace rest → r.spec true (ss ++ rest) ≡ Some ((s, h), rest)
    spec_takes h ss s deep read rest lacks = complete.spec true h ss s deep read rest lacks

    by_parts : {h : ℕ} {ts : Kinds} {a : Decl} → h ≤ depth → DeclParts h ts a → (rest : Kinds) → decl names r init (ts ++ rest) ≡ Some ((a, h), rest)
    unfolding decl
    by_parts {h} deep (DeclParts.bare s ss read is ai) rest = rw (is, ai, append_assoc ss (Mark mark.Semicolon ∷ []) rest)
        (then_takes _ _ (s, h) (Mark mark.Semicolon ∷ rest) _ (spec_takes h ss s deep read (Mark mark.Semicolon ∷ rest) (semicolon_no_brace rest)) (eats mark.Semicolon rest _ _ _ refl))
    by_parts deep (DeclParts.full s hs ss d hd x ds its ls ld is sread dread on behind) rest = rw (is, append_assoc (ss ++ ds) its rest, append_assoc ss ds (its ++ rest))
        (then_takes _ _ (s, hs) (ds ++ (its ++ rest)) _ (spec_takes hs ss s (omega arith) sread (ds ++ (its ++ rest)) (declarator_no_brace first (its ++ rest) dread))
        (leaves mark.Semicolon (ds ++ (its ++ rest)) _ _ _ (declarator_no_semicolon first (its ++ rest) dread)
        (then_takes _ _ (d, hd) (its ++ rest) _ (complete.declarator hd x ds d (omega arith) dread (its ++ rest) (no_suffix _ (on rest))) (behind rest))))

    pub decl_takes : {h : ℕ} {ts : Kinds} {a : Decl} → h ≤ depth → DeclReads names h ts a → (rest : Kinds) → decl names r init (ts ++ rest) ≡ Some ((a, h), rest)
    decl_takes deep read rest = by_parts deep (decl_parts deep read) rest

    pub decl_begins : {h : ℕ} {ts : Kinds} {a : Decl} → DeclReads names h ts a → Begins (CanBeginSpec names) ts
    decl_begins (DeclReads.decl h ts a s declarators hs hd ss ds hh is ai sread dread) = Begins-same _ is (Begins-append _ (ss ++ ds) _ (Begins-append _ ss ds (first.spec sread)))

    pub for_init_takes : {h : ℕ} {ts : Kinds} {f : ForInit} → h ≤ depth → ForInitReads names h ts f → (rest : Kinds) → for_init names r init (ts ++ rest) ≡ Some ((f, h), rest)
    unfolding for_init
    for_init_takes deep (ForInitReads.declared h ts f a fi read) rest = rw fi (if_yes (begins_spec names (ts ++ rest)) _ _ _ (first.spec_seen _ (Begins-append _ ts rest (decl_begins read)))
        (then_takes _ _ (a, h) rest _ (decl_takes deep read rest) refl))
    for_init_takes deep (ForInitReads.computed h ts f o os is fi read) rest = rw (is, fi, append_assoc os (Mark mark.Semicolon ∷ []) rest) (if_no (begins_spec names (os ++ Mark mark.Semicolon ∷ rest)) _ _ _ (option_no_spec rest read)
        (then_takes _ _ (o, h) rest _ (option_takes mark.Semicolon refl refl deep read rest) refl))
      where
        option_no_spec : {h : ℕ} {os : Kinds} {o : Option FullExpr} (rest : Kinds) → OptionReads names h os o → begins_spec names (os ++ Mark mark.Semicolon ∷ rest) ≡ false
        option_no_spec rest (OptionReads.nothing h os o hi is oi) = rw is refl
        option_no_spec rest (OptionReads.some h os o e oi read) = first.no_spec_seen _ (Begins-append _ os _ (first.expression read))
