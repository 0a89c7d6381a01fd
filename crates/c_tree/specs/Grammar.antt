-- The grammar of expressions, type words and declarators: which lists of tokens a tree has. Each relation says of a
-- list of tokens, a tree and a height that the tokens are the tree's and that its nodes are so many deep. The nodes are
-- statements, expressions, declarators, abstract declarators, type words, struct bodies and initialisers. `names` are
-- the type names that earlier items declared. Above each case stands its row of the grammar: `x*` is any number of x,
-- `x^n` is n of them, and marks and words of the source stand in quotes; expr is the loosest level, assign.
use Rattle.std.specs.Prelude.{◌≡◌, ◌≢◌, ℕ, ℤ, ◌+◌, ◌<◌, ◌≤◌, ◌⊎◌, Bool, true, false, max, Some, None}
use Rattle.std.specs.Prelude.{List, [], ◌∷◌, ◌++◌, replicate, Contains}
use Rattle.c_tokens.specs.declared.token.Keyword.TheVariants as word
use Rattle.c_tokens.specs.declared.token.Kind.TheVariants.{Word, Name, Number, Text, Mark}
use Rattle.c_tokens.specs.declared.token.Mark.TheVariants as mark
use Rattle.c_tree.specs.declared.operator.AssignOperator.{AssignOperator}
use Rattle.c_tree.specs.declared.operator.BinaryOperator.{BinaryOperator}
use Rattle.c_tree.specs.declared.operator.UnaryOperator.{UnaryOperator}
use Rattle.c_tree.specs.declared.expression.Spec.{Spec}
use Rattle.c_tree.specs.declared.expression.Spec.TheVariants as spec
use Rattle.c_tree.specs.declared.expression.MemberDecl.{MemberDecl}
use Rattle.c_tree.specs.declared.expression.Declarator.{Declarator}
use Rattle.c_tree.specs.declared.expression.Direct.{Direct}
use Rattle.c_tree.specs.declared.expression.Direct.TheVariants as direct
use Rattle.c_tree.specs.declared.expression.Suffix.{Suffix}
use Rattle.c_tree.specs.declared.expression.Suffix.TheVariants as suffix
use Rattle.c_tree.specs.declared.expression.Params.{Params}
use Rattle.c_tree.specs.declared.expression.Params.TheVariants as params
use Rattle.c_tree.specs.declared.expression.Param.{Param}
use Rattle.c_tree.specs.declared.expression.Param.TheVariants as param
use Rattle.c_tree.specs.declared.expression.AbstractDeclarator.{AbstractDeclarator}
use Rattle.c_tree.specs.declared.expression.TypeWord.{TypeWord}
use Rattle.c_tree.specs.declared.expression.Expr.{Expr}
use Rattle.c_tree.specs.declared.expression.Expr.TheVariants as expr
use Rattle.c_tree.specs.Marks.{Kinds, wrapped, greatest_pairs, assign_mark, binary_mark, unary_mark}
use Rattle.c_tree.specs.Marks.{assign_level, conditional_level, cast_level, unary_level, postfix_level, primary_level}
use Rattle.c_tree.specs.Marks.{binary_level, loosest_binary}
use Rattle.c_tree.specs.Trees.{struct_with, member_decl, declarator, abstract, type_word as type_word_of}

-- a name that isn't a type name
abbrev pub IsFree : List (List ℕ) → List ℕ → Type 0
IsFree names x = Contains names x → ⊥

-- stars or suffixes of its own
abbrev pub HasParts : ℕ → List Suffix → Type 0
HasParts stars suffixes = (0 < stars) ⊎ (suffixes ≢ [])

abbrev pub star_kinds : ℕ → Kinds
star_kinds stars = replicate stars (Mark mark.Star)

mutual
  -- a spec; `bodies` says whether it may have a body
  pub data SpecReads (names : List (List ℕ)) : Bool → ℕ → Kinds → Spec → Type 0 where
    -- spec ::= 'int'
    int : (bodies : Bool) (h : ℕ) (ts : Kinds) (s : Spec)
        → h ≡ 0
        → ts ≡ Word word.Int ∷ []
        → s ≡ spec.Int
        → SpecReads names bodies h ts s
    -- spec ::= 'char'
    char : (bodies : Bool) (h : ℕ) (ts : Kinds) (s : Spec)
        → h ≡ 0
        → ts ≡ Word word.Char ∷ []
        → s ≡ spec.Char
        → SpecReads names bodies h ts s
    -- spec ::= 'void'
    void : (bodies : Bool) (h : ℕ) (ts : Kinds) (s : Spec)
        → h ≡ 0
        → ts ≡ Word word.Void ∷ []
        → s ≡ spec.Void
        → SpecReads names bodies h ts s
    -- spec ::= type_name
    type_name : (bodies : Bool) (h : ℕ) (ts : Kinds) (s : Spec) (x : List ℕ)
        → h ≡ 0
        → Contains names x
        → ts ≡ Name x ∷ []
        → s ≡ spec.TypeName x
        → SpecReads names bodies h ts s
    -- spec ::= 'struct' name
    tag : (bodies : Bool) (h : ℕ) (ts : Kinds) (s : Spec) (x : List ℕ)
        → h ≡ 0
        → IsFree names x
        → ts ≡ Word word.Struct ∷ Name x ∷ []
        → s ≡ spec.Struct x None
        → SpecReads names bodies h ts s
    -- spec ::= 'struct' name '{' members '}', where bodies may stand, with at least one member
    body : (bodies : Bool) (h : ℕ) (ts : Kinds) (s : Spec) (x : List ℕ) (hm : ℕ) (ms : Kinds)
        (members : List MemberDecl)
        → bodies ≡ true
        → h ≡ 1 + hm
        → IsFree names x
        → ts ≡ Word word.Struct ∷ Name x ∷ Mark mark.LeftBrace ∷ ms ++ Mark mark.RightBrace ∷ []
        → s ≡ struct_with x members
        → members ≢ []
        → MembersRead names hm ms members
        → SpecReads names bodies h ts s

  pub data MembersRead (names : List (List ℕ)) : ℕ → Kinds → List MemberDecl → Type 0 where
    -- members ::= nothing
    no_member : (h : ℕ) (ts : Kinds) (ms : List MemberDecl)
        → h ≡ 0
        → ts ≡ []
        → ms ≡ []
        → MembersRead names h ts ms
    -- members ::= spec declarators ';' members
    more_members : (h : ℕ) (ts : Kinds) (ms : List MemberDecl) (s : Spec) (xs : List (List ℕ)) (ds : List Declarator)
        (others : List MemberDecl) (hs hd ho : ℕ) (ss dts os : Kinds)
        → h ≡ max hs (max hd ho)
        → ts ≡ ss ++ dts ++ Mark mark.Semicolon ∷ os
        → ms ≡ member_decl s ds ∷ others
        → SpecReads names true hs ss s
        → DeclaratorsRead names hd xs dts ds
        → MembersRead names ho os others
        → MembersRead names h ts ms

  -- declarators with commas between, at least one, and the names that they declare
  pub data DeclaratorsRead (names : List (List ℕ)) : ℕ → List (List ℕ) → Kinds → List Declarator → Type 0 where
    -- declarators ::= declarator
    one_declarator : (h : ℕ) (xs : List (List ℕ)) (ts : Kinds) (ds : List Declarator) (d : Declarator) (x : List ℕ)
        → xs ≡ x ∷ []
        → ds ≡ d ∷ []
        → DeclaratorReads names h x ts d
        → DeclaratorsRead names h xs ts ds
    -- declarators ::= declarator ',' declarators
    more_declarators : (h : ℕ) (xs : List (List ℕ)) (ts : Kinds) (ds : List Declarator) (d : Declarator) (x : List ℕ)
        (others : List Declarator) (ys : List (List ℕ)) (hd ho : ℕ) (dts os : Kinds)
        → h ≡ max hd ho
        → xs ≡ x ∷ ys
        → ts ≡ dts ++ Mark mark.Comma ∷ os
        → ds ≡ d ∷ others
        → DeclaratorReads names hd x dts d
        → DeclaratorsRead names ho ys os others
        → DeclaratorsRead names h xs ts ds

  -- a declarator of a name
  pub data DeclaratorReads (names : List (List ℕ)) : ℕ → List ℕ → Kinds → Declarator → Type 0 where
    -- declarator ::= '('^n name ')'^n, n ≤ 8
    plain : (h : ℕ) (x : List ℕ) (ts : Kinds) (d : Declarator) (pairs : ℕ)
        → h ≡ 1
        → pairs ≤ greatest_pairs
        → IsFree names x
        → ts ≡ wrapped pairs (Name x ∷ [])
        → d ≡ declarator 0 (direct.Name x) []
        → DeclaratorReads names h x ts d
    -- declarator ::= '('^n declarator_form ')'^n, n ≤ 8
    formed : (h : ℕ) (x : List ℕ) (ts : Kinds) (d : Declarator) (pairs hf : ℕ) (inner : Kinds)
        → h ≡ 1 + hf
        → pairs ≤ greatest_pairs
        → ts ≡ wrapped pairs inner
        → DeclaratorForm names hf x inner d
        → DeclaratorReads names h x ts d

  -- a declarator with stars or suffixes, without the parentheses round it
  pub data DeclaratorForm (names : List (List ℕ)) : ℕ → List ℕ → Kinds → Declarator → Type 0 where
    -- declarator_form ::= '*'* direct suffixes, with a star or a suffix
    form : (h : ℕ) (x : List ℕ) (ts : Kinds) (d : Declarator) (stars : ℕ) (inside : Direct) (suffixes : List Suffix)
        (hd hs : ℕ) (ds ss : Kinds)
        → h ≡ max hd hs
        → HasParts stars suffixes
        → ts ≡ star_kinds stars ++ ds ++ ss
        → d ≡ declarator stars inside suffixes
        → DirectReads names hd x ds inside
        → SuffixesRead names hs ss suffixes
        → DeclaratorForm names h x ts d

  pub data DirectReads (names : List (List ℕ)) : ℕ → List ℕ → Kinds → Direct → Type 0 where
    -- direct ::= '('^n name ')'^n, n ≤ 8
    name_inside : (h : ℕ) (x : List ℕ) (ts : Kinds) (d : Direct) (pairs : ℕ)
        → h ≡ 0
        → pairs ≤ greatest_pairs
        → IsFree names x
        → ts ≡ wrapped pairs (Name x ∷ [])
        → d ≡ direct.Name x
        → DirectReads names h x ts d
    -- direct ::= '('^n declarator_form ')'^n, 1 ≤ n ≤ 8
    bracketed : (h : ℕ) (x : List ℕ) (ts : Kinds) (d : Direct) (pairs hf : ℕ) (inner : Kinds) (inside : Declarator)
        → h ≡ 1 + hf
        → 1 ≤ pairs
        → pairs ≤ greatest_pairs
        → ts ≡ wrapped pairs inner
        → d ≡ direct.Bracketed inside
        → DeclaratorForm names hf x inner inside
        → DirectReads names h x ts d

  pub data SuffixesRead (names : List (List ℕ)) : ℕ → Kinds → List Suffix → Type 0 where
    -- suffixes ::= nothing
    no_suffix : (h : ℕ) (ts : Kinds) (ss : List Suffix)
        → h ≡ 0
        → ts ≡ []
        → ss ≡ []
        → SuffixesRead names h ts ss
    -- suffixes ::= suffix suffixes
    more_suffixes : (h : ℕ) (ts : Kinds) (ss : List Suffix) (s : Suffix) (others : List Suffix) (hs ho : ℕ)
        (sts os : Kinds)
        → h ≡ max hs ho
        → ts ≡ sts ++ os
        → ss ≡ s ∷ others
        → SuffixReads names hs sts s
        → SuffixesRead names ho os others
        → SuffixesRead names h ts ss

  pub data SuffixReads (names : List (List ℕ)) : ℕ → Kinds → Suffix → Type 0 where
    -- suffix ::= '[' ']'
    unbounded : (h : ℕ) (ts : Kinds) (s : Suffix)
        → h ≡ 0
        → ts ≡ Mark mark.LeftBracket ∷ Mark mark.RightBracket ∷ []
        → s ≡ suffix.Array None
        → SuffixReads names h ts s
    -- suffix ::= '[' conditional ']'
    bounded : (h : ℕ) (ts : Kinds) (s : Suffix) (e : Expr) (es : Kinds)
        → ts ≡ Mark mark.LeftBracket ∷ es ++ Mark mark.RightBracket ∷ []
        → s ≡ suffix.Array (Some e)
        → ExprReads names conditional_level h es e
        → SuffixReads names h ts s
    -- suffix ::= '(' params ')'
    function : (h : ℕ) (ts : Kinds) (s : Suffix) (p : Params) (ps : Kinds)
        → ts ≡ Mark mark.LeftParenthesis ∷ ps ++ Mark mark.RightParenthesis ∷ []
        → s ≡ suffix.Function p
        → ParamsRead names h ps p
        → SuffixReads names h ts s

  pub data ParamsRead (names : List (List ℕ)) : ℕ → Kinds → Params → Type 0 where
    -- params ::= nothing
    nothing : (h : ℕ) (ts : Kinds) (p : Params)
        → h ≡ 0
        → ts ≡ []
        → p ≡ params.Nothing
        → ParamsRead names h ts p
    -- params ::= 'void'
    void_alone : (h : ℕ) (ts : Kinds) (p : Params)
        → h ≡ 0
        → ts ≡ Word word.Void ∷ []
        → p ≡ params.VoidAlone
        → ParamsRead names h ts p
    -- params ::= param_list, other than 'void' alone
    some : (h : ℕ) (ts : Kinds) (p : Params) (ps : List Param)
        → ts ≢ Word word.Void ∷ []
        → p ≡ params.List ps
        → ParamListReads names h ts ps
        → ParamsRead names h ts p

  -- parameters with commas between, at least one
  pub data ParamListReads (names : List (List ℕ)) : ℕ → Kinds → List Param → Type 0 where
    -- param_list ::= param
    one_param : (h : ℕ) (ts : Kinds) (ps : List Param) (p : Param)
        → ps ≡ p ∷ []
        → ParamReads names h ts p
        → ParamListReads names h ts ps
    -- param_list ::= param ',' param_list
    more_params : (h : ℕ) (ts : Kinds) (ps : List Param) (p : Param) (others : List Param) (hp ho : ℕ)
        (pts os : Kinds)
        → h ≡ max hp ho
        → ts ≡ pts ++ Mark mark.Comma ∷ os
        → ps ≡ p ∷ others
        → ParamReads names hp pts p
        → ParamListReads names ho os others
        → ParamListReads names h ts ps

  pub data ParamReads (names : List (List ℕ)) : ℕ → Kinds → Param → Type 0 where
    -- param ::= spec declarator
    named : (h : ℕ) (ts : Kinds) (p : Param) (s : Spec) (d : Declarator) (x : List ℕ) (hs hd : ℕ) (ss ds : Kinds)
        → h ≡ max hs hd
        → ts ≡ ss ++ ds
        → p ≡ param.Named s d
        → SpecReads names true hs ss s
        → DeclaratorReads names hd x ds d
        → ParamReads names h ts p
    -- param ::= spec abstract
    unnamed : (h : ℕ) (ts : Kinds) (p : Param) (s : Spec) (a : AbstractDeclarator) (hs ha : ℕ) (ss ats : Kinds)
        → h ≡ max hs ha
        → ts ≡ ss ++ ats
        → p ≡ param.Unnamed s a
        → SpecReads names true hs ss s
        → AbstractReads names ha ats a
        → ParamReads names h ts p

  -- a declarator without a name, which may be empty
  pub data AbstractReads (names : List (List ℕ)) : ℕ → Kinds → AbstractDeclarator → Type 0 where
    -- abstract ::= abstract_form
    open_form : (h : ℕ) (ts : Kinds) (a : AbstractDeclarator) (stars hf : ℕ)
        → h ≡ 1 + hf
        → AbstractForm names hf stars ts a
        → AbstractReads names h ts a
    -- abstract ::= '(' abstract_form ')', with a star inside
    in_parentheses : (h : ℕ) (ts : Kinds) (a : AbstractDeclarator) (stars hf : ℕ) (inner : Kinds)
        → h ≡ 1 + hf
        → 0 < stars
        → ts ≡ wrapped 1 inner
        → AbstractForm names hf stars inner a
        → AbstractReads names h ts a

  -- stars, perhaps a bracketed one that begins with a star, and suffixes
  pub data AbstractForm (names : List (List ℕ)) : ℕ → ℕ → Kinds → AbstractDeclarator → Type 0 where
    -- abstract_form ::= '*'* suffixes
    simple : (h stars : ℕ) (ts : Kinds) (a : AbstractDeclarator) (suffixes : List Suffix) (ss : Kinds)
        → ts ≡ star_kinds stars ++ ss
        → a ≡ abstract stars None suffixes
        → SuffixesRead names h ss suffixes
        → AbstractForm names h stars ts a
    -- abstract_form ::= '*'* '(' abstract_form ')' suffixes, with a star or a suffix outside and a star inside
    nested : (h stars : ℕ) (ts : Kinds) (a : AbstractDeclarator) (suffixes : List Suffix)
        (inside : AbstractDeclarator) (inner_stars hi hs : ℕ) (inner ss : Kinds)
        → h ≡ max (1 + hi) hs
        → HasParts stars suffixes
        → 0 < inner_stars
        → ts ≡ star_kinds stars ++ wrapped 1 inner ++ ss
        → a ≡ abstract stars (Some inside) suffixes
        → AbstractForm names hi inner_stars inner inside
        → SuffixesRead names hs ss suffixes
        → AbstractForm names h stars ts a

  pub data TypeWordReads (names : List (List ℕ)) : ℕ → Kinds → TypeWord → Type 0 where
    -- type_word ::= spec abstract, the spec without a body
    type_word : (h : ℕ) (ts : Kinds) (t : TypeWord) (s : Spec) (a : AbstractDeclarator) (hs ha : ℕ) (ss ats : Kinds)
        → h ≡ 1 + max hs ha
        → ts ≡ ss ++ ats
        → t ≡ type_word_of s a
        → SpecReads names false hs ss s
        → AbstractReads names ha ats a
        → TypeWordReads names h ts t

  -- an expression where this level or a tighter one may stand; parentheses admit every level
  pub data ExprReads (names : List (List ℕ)) : ℕ → ℕ → Kinds → Expr → Type 0 where
    -- expression(least) ::= '('^n form(level) ')'^n, n ≤ 8, where least ≤ level or 0 < n
    reads : (least h : ℕ) (ts : Kinds) (e : Expr) (pairs level : ℕ) (inner : Kinds)
        → pairs ≤ greatest_pairs
        → (least ≤ level) ⊎ (0 < pairs)
        → ts ≡ wrapped pairs inner
        → ExprForm names level h inner e
        → ExprReads names least h ts e

  -- an expression of a level, without the parentheses round it
  pub data ExprForm (names : List (List ℕ)) : ℕ → ℕ → Kinds → Expr → Type 0 where
    -- assign ::= unary assign_operator assign
    assign : (level h : ℕ) (ts : Kinds) (e : Expr) (a b : Expr) (op : AssignOperator) (ha hb : ℕ) (ats bs : Kinds)
        → level ≡ assign_level
        → h ≡ 1 + max ha hb
        → ts ≡ ats ++ Mark (assign_mark op) ∷ bs
        → e ≡ expr.Assign a op b
        → ExprReads names unary_level ha ats a
        → ExprReads names assign_level hb bs b
        → ExprForm names level h ts e
    -- conditional ::= binary '?' expr ':' conditional
    conditional : (level h : ℕ) (ts : Kinds) (e : Expr) (c a b : Expr) (hc ha hb : ℕ) (cs ats bs : Kinds)
        → level ≡ conditional_level
        → h ≡ 1 + max hc (max ha hb)
        → ts ≡ cs ++ Mark mark.Question ∷ ats ++ Mark mark.Colon ∷ bs
        → e ≡ expr.Conditional c a b
        → ExprReads names loosest_binary hc cs c
        → ExprReads names assign_level ha ats a
        → ExprReads names conditional_level hb bs b
        → ExprForm names level h ts e
    -- binary(level) ::= binary(level) binary_operator(level) binary(level + 1)
    binary : (level h : ℕ) (ts : Kinds) (e : Expr) (a b : Expr) (op : BinaryOperator) (ha hb : ℕ) (ats bs : Kinds)
        → level ≡ binary_level op
        → h ≡ 1 + max ha hb
        → ts ≡ ats ++ Mark (binary_mark op) ∷ bs
        → e ≡ expr.Binary a op b
        → ExprReads names (binary_level op) ha ats a
        → ExprReads names (1 + binary_level op) hb bs b
        → ExprForm names level h ts e
    -- cast ::= '(' type_word ')' cast
    cast : (level h : ℕ) (ts : Kinds) (e : Expr) (t : TypeWord) (a : Expr) (ht ha : ℕ) (tts ats : Kinds)
        → level ≡ cast_level
        → h ≡ 1 + max ht ha
        → ts ≡ wrapped 1 tts ++ ats
        → e ≡ expr.Cast t a
        → TypeWordReads names ht tts t
        → ExprReads names cast_level ha ats a
        → ExprForm names level h ts e
    -- unary ::= '++' unary
    pre_increment : (level h : ℕ) (ts : Kinds) (e a : Expr) (ha : ℕ) (ats : Kinds)
        → level ≡ unary_level
        → h ≡ 1 + ha
        → ts ≡ Mark mark.Increment ∷ ats
        → e ≡ expr.PreIncrement a
        → ExprReads names unary_level ha ats a
        → ExprForm names level h ts e
    -- unary ::= '--' unary
    pre_decrement : (level h : ℕ) (ts : Kinds) (e a : Expr) (ha : ℕ) (ats : Kinds)
        → level ≡ unary_level
        → h ≡ 1 + ha
        → ts ≡ Mark mark.Decrement ∷ ats
        → e ≡ expr.PreDecrement a
        → ExprReads names unary_level ha ats a
        → ExprForm names level h ts e
    -- unary ::= unary_operator cast
    unary : (level h : ℕ) (ts : Kinds) (e a : Expr) (op : UnaryOperator) (ha : ℕ) (ats : Kinds)
        → level ≡ unary_level
        → h ≡ 1 + ha
        → ts ≡ Mark (unary_mark op) ∷ ats
        → e ≡ expr.Unary op a
        → ExprReads names cast_level ha ats a
        → ExprForm names level h ts e
    -- unary ::= 'sizeof' unary
    sizeof_expression : (level h : ℕ) (ts : Kinds) (e a : Expr) (ha : ℕ) (ats : Kinds)
        → level ≡ unary_level
        → h ≡ 1 + ha
        → ts ≡ Word word.Sizeof ∷ ats
        → e ≡ expr.SizeofExpr a
        → ExprReads names unary_level ha ats a
        → ExprForm names level h ts e
    -- unary ::= 'sizeof' '(' type_word ')'
    sizeof_type : (level h : ℕ) (ts : Kinds) (e : Expr) (t : TypeWord) (ht : ℕ) (tts : Kinds)
        → level ≡ unary_level
        → h ≡ 1 + ht
        → ts ≡ Word word.Sizeof ∷ wrapped 1 tts
        → e ≡ expr.SizeofType t
        → TypeWordReads names ht tts t
        → ExprForm names level h ts e
    -- postfix ::= postfix '[' expr ']'
    index : (level h : ℕ) (ts : Kinds) (e a i : Expr) (ha hi : ℕ) (ats its : Kinds)
        → level ≡ postfix_level
        → h ≡ 1 + max ha hi
        → ts ≡ ats ++ Mark mark.LeftBracket ∷ its ++ Mark mark.RightBracket ∷ []
        → e ≡ expr.Index a i
        → ExprReads names postfix_level ha ats a
        → ExprReads names assign_level hi its i
        → ExprForm names level h ts e
    -- postfix ::= postfix '(' arguments ')'
    call : (level h : ℕ) (ts : Kinds) (e f : Expr) (arguments : List Expr) (hf ha : ℕ) (fs ats : Kinds)
        → level ≡ postfix_level
        → h ≡ 1 + max hf ha
        → ts ≡ fs ++ wrapped 1 ats
        → e ≡ expr.Call f arguments
        → ExprReads names postfix_level hf fs f
        → ArgumentsRead names ha ats arguments
        → ExprForm names level h ts e
    -- postfix ::= postfix '.' name
    member : (level h : ℕ) (ts : Kinds) (e a : Expr) (x : List ℕ) (ha : ℕ) (ats : Kinds)
        → level ≡ postfix_level
        → h ≡ 1 + ha
        → IsFree names x
        → ts ≡ ats ++ Mark mark.Dot ∷ Name x ∷ []
        → e ≡ expr.Member a x
        → ExprReads names postfix_level ha ats a
        → ExprForm names level h ts e
    -- postfix ::= postfix '->' name
    arrow : (level h : ℕ) (ts : Kinds) (e a : Expr) (x : List ℕ) (ha : ℕ) (ats : Kinds)
        → level ≡ postfix_level
        → h ≡ 1 + ha
        → IsFree names x
        → ts ≡ ats ++ Mark mark.Arrow ∷ Name x ∷ []
        → e ≡ expr.Arrow a x
        → ExprReads names postfix_level ha ats a
        → ExprForm names level h ts e
    -- postfix ::= postfix '++'
    post_increment : (level h : ℕ) (ts : Kinds) (e a : Expr) (ha : ℕ) (ats : Kinds)
        → level ≡ postfix_level
        → h ≡ 1 + ha
        → ts ≡ ats ++ Mark mark.Increment ∷ []
        → e ≡ expr.PostIncrement a
        → ExprReads names postfix_level ha ats a
        → ExprForm names level h ts e
    -- postfix ::= postfix '--'
    post_decrement : (level h : ℕ) (ts : Kinds) (e a : Expr) (ha : ℕ) (ats : Kinds)
        → level ≡ postfix_level
        → h ≡ 1 + ha
        → ts ≡ ats ++ Mark mark.Decrement ∷ []
        → e ≡ expr.PostDecrement a
        → ExprReads names postfix_level ha ats a
        → ExprForm names level h ts e
    -- primary ::= name
    identifier : (level h : ℕ) (ts : Kinds) (e : Expr) (x : List ℕ)
        → level ≡ primary_level
        → h ≡ 1
        → IsFree names x
        → ts ≡ Name x ∷ []
        → e ≡ expr.Identifier x
        → ExprForm names level h ts e
    -- primary ::= number
    number : (level h : ℕ) (ts : Kinds) (e : Expr) (n : ℤ)
        → level ≡ primary_level
        → h ≡ 1
        → ts ≡ Number n ∷ []
        → e ≡ expr.Number n
        → ExprForm names level h ts e
    -- primary ::= string
    text : (level h : ℕ) (ts : Kinds) (e : Expr) (bytes : List ℕ)
        → level ≡ primary_level
        → h ≡ 1
        → ts ≡ Text bytes ∷ []
        → e ≡ expr.Text bytes
        → ExprForm names level h ts e

  -- the arguments of a call: nothing, or expressions with commas between
  pub data ArgumentsRead (names : List (List ℕ)) : ℕ → Kinds → List Expr → Type 0 where
    -- arguments ::= nothing
    no_argument : (h : ℕ) (ts : Kinds) (es : List Expr)
        → h ≡ 0
        → ts ≡ []
        → es ≡ []
        → ArgumentsRead names h ts es
    -- arguments ::= argument_list
    some_arguments : (h : ℕ) (ts : Kinds) (es : List Expr)
        → ArgumentListReads names h ts es
        → ArgumentsRead names h ts es

  -- expressions with commas between, at least one
  pub data ArgumentListReads (names : List (List ℕ)) : ℕ → Kinds → List Expr → Type 0 where
    -- argument_list ::= assign
    one_argument : (h : ℕ) (ts : Kinds) (es : List Expr) (e : Expr)
        → es ≡ e ∷ []
        → ExprReads names assign_level h ts e
        → ArgumentListReads names h ts es
    -- argument_list ::= assign ',' argument_list
    more_arguments : (h : ℕ) (ts : Kinds) (es : List Expr) (e : Expr) (others : List Expr) (he ho : ℕ)
        (ets os : Kinds)
        → h ≡ max he ho
        → ts ≡ ets ++ Mark mark.Comma ∷ os
        → es ≡ e ∷ others
        → ExprReads names assign_level he ets e
        → ArgumentListReads names ho os others
        → ArgumentListReads names h ts es
