-- The readers of expressions, type words and declarators: which tokens each takes from those that come. `Readers` are those of one
-- depth, made of those of the depth below. A tree goes with the depth of its nodes, which the readers keep at most theirs.
use Rattle.std.specs.Prelude.{ℕ, zero, suc, ◌+◌, max, Bool, true, false, not, ◌&&◌, ◌||◌, if◌then◌else◌, nat_le, nat_lt, nat_eq, List, [], ◌∷◌, ◌++◌, length, Option, Some, None}
use Rattle.std.specs.Str.{bytes_eq}
use Rattle.c_tokens.specs.declared.token.Keyword.TheVariants as word
use Rattle.c_tokens.specs.declared.token.Kind.{Kind}
use Rattle.c_tokens.specs.declared.token.Kind.TheVariants.{Word, Name, Number, Text, Mark}
use Rattle.c_tokens.specs.declared.token.Mark.{Mark as MarkName}
use Rattle.c_tokens.specs.declared.token.Mark.TheVariants as mark
use Rattle.c_tree.specs.declared.operator.AssignOperator.TheVariants as assign
use Rattle.c_tree.specs.declared.operator.BinaryOperator.TheVariants as binary
use Rattle.c_tree.specs.declared.operator.UnaryOperator.{UnaryOperator}
use Rattle.c_tree.specs.declared.operator.UnaryOperator.TheVariants as unary
use Rattle.c_tree.specs.declared.expression.AbstractDeclarator.{AbstractDeclarator}
use Rattle.c_tree.specs.declared.expression.Declarator.{Declarator}
use Rattle.c_tree.specs.declared.expression.Direct.{Direct}
use Rattle.c_tree.specs.declared.expression.Direct.TheVariants as direct_as
use Rattle.c_tree.specs.declared.expression.Expr.{Expr}
use Rattle.c_tree.specs.declared.expression.Expr.TheVariants as e
use Rattle.c_tree.specs.declared.expression.MemberDecl.{MemberDecl, roll-MemberDecl}
use Rattle.c_tree.specs.declared.expression.Param.{Param}
use Rattle.c_tree.specs.declared.expression.Param.TheVariants as param_as
use Rattle.c_tree.specs.declared.expression.Params.{Params}
use Rattle.c_tree.specs.declared.expression.Params.TheVariants as params_as
use Rattle.c_tree.specs.declared.expression.Spec.{Spec}
use Rattle.c_tree.specs.declared.expression.Spec.TheVariants as spec_as
use Rattle.c_tree.specs.declared.expression.Suffix.{Suffix}
use Rattle.c_tree.specs.declared.expression.Suffix.TheVariants as suffix_as
use Rattle.c_tree.specs.declared.expression.TypeWord.{TypeWord, roll-TypeWord}
use Rattle.c_tree.specs.Marks.{Kinds, greatest_pairs, assign_level, conditional_level, cast_level, unary_level, postfix_level, primary_level, binary_level}
use Rattle.c_tree.specs.Trees.{struct_with, declarator as declarator_of, abstract as abstract_of}
use Rattle.c_readers.specs.declared.operand.Continuation.{Continuation}
use Rattle.c_readers.specs.declared.operand.Continuation.TheVariants as goes
use Rattle.c_readers.specs.declared.operand.Operand.{Operand}
use Rattle.c_readers.specs.declared.operand.Part.{Part}
use Rattle.c_readers.specs.declared.operand.Part.TheVariants as part_as
use Rattle.c_readers.specs.declared.brackets.Core.{Core}
use Rattle.c_readers.specs.declared.brackets.Core.TheVariants as core_as
use Rattle.c_readers.specs.declared.brackets.Bracketed.{Bracketed}
use Rattle.c_readers.specs.inner.Parser.{Parser, Outcome, WithHeight, ◌>>=◌, ◌>>◌, pure, mismatch, is_mark, is_word, sees, behind, eat, expect, run, separated}

-- ---- names

abbrev pub is_type_name : List (List ℕ) → List ℕ → Bool
is_type_name [] x = false
is_type_name (name ∷ names) x = bytes_eq name x || is_type_name names x

-- ---- operands

-- what a mark behind an operand begins
abbrev pub continuation_of : MarkName → Option Continuation
continuation_of mark.LeftBracket = Some goes.Index
continuation_of mark.LeftParenthesis = Some goes.Call
continuation_of mark.Dot = Some goes.Member
continuation_of mark.Arrow = Some goes.Arrow
continuation_of mark.Increment = Some goes.Increment
continuation_of mark.Decrement = Some goes.Decrement
continuation_of mark.Question = Some goes.Conditional
continuation_of mark.LogicalOr = Some (goes.Binary binary.LogicalOr)
continuation_of mark.LogicalAnd = Some (goes.Binary binary.LogicalAnd)
continuation_of mark.Bar = Some (goes.Binary binary.BitwiseOr)
continuation_of mark.Caret = Some (goes.Binary binary.BitwiseExclusiveOr)
continuation_of mark.Ampersand = Some (goes.Binary binary.BitwiseAnd)
continuation_of mark.Equal = Some (goes.Binary binary.Equal)
continuation_of mark.NotEqual = Some (goes.Binary binary.NotEqual)
continuation_of mark.Less = Some (goes.Binary binary.Less)
continuation_of mark.Greater = Some (goes.Binary binary.Greater)
continuation_of mark.LessEqual = Some (goes.Binary binary.LessEqual)
continuation_of mark.GreaterEqual = Some (goes.Binary binary.GreaterEqual)
continuation_of mark.ShiftLeft = Some (goes.Binary binary.ShiftLeft)
continuation_of mark.ShiftRight = Some (goes.Binary binary.ShiftRight)
continuation_of mark.Plus = Some (goes.Binary binary.Add)
continuation_of mark.Minus = Some (goes.Binary binary.Subtract)
continuation_of mark.Star = Some (goes.Binary binary.Multiply)
continuation_of mark.Slash = Some (goes.Binary binary.Divide)
continuation_of mark.Percent = Some (goes.Binary binary.Remainder)
continuation_of mark.Assign = Some (goes.Assign assign.Assign)
continuation_of mark.PlusAssign = Some (goes.Assign assign.Add)
continuation_of mark.MinusAssign = Some (goes.Assign assign.Subtract)
continuation_of mark.StarAssign = Some (goes.Assign assign.Multiply)
continuation_of mark.SlashAssign = Some (goes.Assign assign.Divide)
continuation_of mark.PercentAssign = Some (goes.Assign assign.Remainder)
continuation_of mark.AmpersandAssign = Some (goes.Assign assign.BitwiseAnd)
continuation_of mark.BarAssign = Some (goes.Assign assign.BitwiseOr)
continuation_of mark.CaretAssign = Some (goes.Assign assign.BitwiseExclusiveOr)
continuation_of mark.ShiftLeftAssign = Some (goes.Assign assign.ShiftLeft)
continuation_of mark.ShiftRightAssign = Some (goes.Assign assign.ShiftRight)
continuation_of _ = None

abbrev pub continuation : Kinds → Option Continuation
continuation [] = None
continuation (Word w ∷ ks) = None
continuation (Name x ∷ ks) = None
continuation (Number n ∷ ks) = None
continuation (Text bytes ∷ ks) = None
continuation (Mark m ∷ ks) = continuation_of m

-- the level of the whole
abbrev pub whole_level : Continuation → ℕ
whole_level (goes.Binary op) = binary_level op
whole_level goes.Conditional = conditional_level
whole_level (goes.Assign op) = assign_level
whole_level _ = postfix_level

-- the loosest level of what stands to the left
abbrev pub left_level : Continuation → ℕ
left_level (goes.Binary op) = binary_level op
left_level goes.Conditional = 1 + conditional_level
left_level (goes.Assign op) = unary_level
left_level _ = postfix_level

-- the operand may stand to the left of it, at these levels and with nodes at most so deep
abbrev pub takes : ℕ → ℕ → Operand → Continuation → Bool
takes limit least o c = nat_le least (whole_level c) && nat_le (left_level c) o.level && nat_le o.height limit

abbrev pub taken : ℕ → ℕ → Operand → Option Continuation → Option Continuation
taken limit least o None = None
taken limit least o (Some c) = if takes limit least o c then Some c else None

-- what the operand goes on with
unfoldable pub going_on : ℕ → ℕ → Operand → Kinds → Option Continuation
going_on limit least o ts = taken limit least o (continuation ts)

abbrev pub part_level : Part → ℕ
part_level (part_as.Binary op b) = binary_level op
part_level (part_as.Conditional a b) = conditional_level
part_level (part_as.Assign op b) = assign_level
part_level _ = postfix_level

abbrev pub with_part : Expr → Part → Expr
with_part a (part_as.Index i) = e.Index a i
with_part a (part_as.Call arguments) = e.Call a arguments
with_part a (part_as.Member x) = e.Member a x
with_part a (part_as.Arrow x) = e.Arrow a x
with_part a part_as.Increment = e.PostIncrement a
with_part a part_as.Decrement = e.PostDecrement a
with_part a (part_as.Binary op b) = e.Binary a op b
with_part a (part_as.Conditional b c) = e.Conditional a b c
with_part a (part_as.Assign op b) = e.Assign a op b

-- the operand with what goes on behind it
unfoldable pub extended : Operand → WithHeight Part → Operand
extended o p = record { expr = with_part o.expr p.0; level = part_level p.0; pairs = 0; height = 1 + max o.height p.1 }

-- the operand in one more pair of parentheses
unfoldable pub bracketed : Operand → Operand
bracketed o = record o { level = primary_level; pairs = 1 + o.pairs }

abbrev pub operand : ℕ → Expr → ℕ → Operand
operand level expr height = record { expr = expr; level = level; pairs = 0; height = height }

abbrev pub leaf : Expr → Operand
leaf expr = operand primary_level expr 1

-- ---- declarators

abbrev pub direct_of : Core → Direct
direct_of (core_as.Name x) = direct_as.Name x
direct_of (core_as.Form d) = direct_as.Bracketed d

abbrev pub whole_of : Core → ℕ → WithHeight Declarator
whole_of (core_as.Name x) height = (declarator_of 0 (direct_as.Name x) [], 1)
whole_of (core_as.Form d) height = (d, height)

-- a declarator of these stars and suffixes
abbrev pub formed : ℕ → Bracketed → WithHeight (List Suffix) → Bracketed
formed stars b ss = record { core = core_as.Form (declarator_of stars (direct_of b.core) ss.0); pairs = 0; height = 1 + max b.height ss.1 }

abbrev pub in_brackets : Bracketed → Bracketed
in_brackets b = record b { pairs = 1 + b.pairs }

abbrev pub is_none : {A : Type 0} → List A → Bool
is_none [] = true
is_none (x ∷ xs) = false

-- ---- the readers of one depth

pub record Readers : Type 0 where
  pub expr : ℕ → Parser (WithHeight Expr)
  pub type_word : Parser (WithHeight TypeWord)
  pub spec : Bool → Parser (WithHeight Spec)
  pub declarator : Parser (WithHeight Declarator)
  pub direct : Parser Bracketed
  pub abstract : Parser (WithHeight AbstractDeclarator)
  pub params : Parser (WithHeight Params)

-- below the least depth nothing stands
abbrev pub nothing : Readers
nothing = record { expr = λ _. mismatch; type_word = mismatch; spec = λ _. mismatch; declarator = mismatch; direct = mismatch; abstract = mismatch; params = mismatch }

module _ (names : List (List ℕ)) where
  abbrev pub kind_begins_spec : Kind → Bool
  kind_begins_spec (Word word.Int) = true
  kind_begins_spec (Word word.Char) = true
  kind_begins_spec (Word word.Void) = true
  kind_begins_spec (Word word.Struct) = true
  kind_begins_spec (Name x) = is_type_name names x
  kind_begins_spec _ = false

  abbrev pub begins_spec : Kinds → Bool
  begins_spec [] = false
  begins_spec (k ∷ ks) = kind_begins_spec k

  -- a parenthesis and a type behind it
  abbrev pub opens_type : Kinds → Bool
  opens_type ts = sees mark.LeftParenthesis ts && begins_spec (behind ts)

  -- how many parentheses open first with no type behind them, and the tokens behind these
  abbrev pub opened : Kinds → ℕ × Kinds
  opened [] = (0, [])
  opened (k ∷ ks) = let more = opened ks in if is_mark mark.LeftParenthesis k && not (begins_spec ks) then (suc more.0, more.1) else (0, k ∷ ks)

  abbrev pub free_name_by : Kind → Parser (List ℕ)
  free_name_by (Name x) = if is_type_name names x then mismatch else pure x
  free_name_by _ = mismatch

  -- a name that is no type name
  unfoldable pub free_name : Parser (List ℕ)
  free_name [] = None
  free_name (k ∷ ks) = free_name_by k ks

  abbrev pub kind_is_free : Kind → Bool
  kind_is_free (Name x) = not (is_type_name names x)
  kind_is_free _ = false

  -- behind the parentheses and stars that come stands a name that is no type name
  abbrev pub looks_named : Kinds → Bool
  looks_named [] = false
  looks_named (k ∷ ks) = if is_mark mark.LeftParenthesis k || is_mark mark.Star k then looks_named ks else kind_is_free k

  module _ (inner : Readers) where
    -- ---- suffixes

    -- behind `[`
    unfoldable pub bound : Parser (WithHeight Suffix)
    bound = do
      is_open ← eat mark.RightBracket
      if is_open then pure (suffix_as.Array None, 0) else (do
        size ← inner.expr conditional_level
        expect mark.RightBracket
        pure (suffix_as.Array (Some size.0), size.1))

    unfoldable pub suffix : Parser (WithHeight Suffix)
    suffix = do
      is_array ← eat mark.LeftBracket
      if is_array then bound else (do
        expect mark.LeftParenthesis
        given ← inner.params
        expect mark.RightParenthesis
        pure (suffix_as.Function given.0, given.1))

    abbrev pub opens_suffix : Kinds → Bool
    opens_suffix ts = sees mark.LeftBracket ts || sees mark.LeftParenthesis ts

    unfoldable pub suffixes_from : ℕ → List Suffix → ℕ → Parser (WithHeight (List Suffix))
    suffixes_from zero found height = pure (found, height)
    suffixes_from (suc n) found height = λ ts.
        if opens_suffix ts then (suffix >>= (λ s. suffixes_from n (found ++ s.0 ∷ []) (max height s.1))) ts else Some ((found, height), ts)

    unfoldable pub suffixes : Parser (WithHeight (List Suffix))
    suffixes = λ ts. suffixes_from (length ts) [] 0 ts

    -- ---- abstract declarators

    abbrev pub opens_abstract : Kinds → Bool
    opens_abstract ts = sees mark.LeftParenthesis ts && sees mark.Star (behind ts)

    -- behind the stars, in parentheses
    unfoldable pub nested_abstract : ℕ → Parser (WithHeight AbstractDeclarator)
    nested_abstract stars = do
      expect mark.LeftParenthesis
      inside ← inner.abstract
      expect mark.RightParenthesis
      ss ← suffixes
      pure (abstract_of stars (Some inside.0) ss.0, 1 + max inside.1 ss.1)

    -- behind the stars
    unfoldable pub abstract_behind : ℕ → Parser (WithHeight AbstractDeclarator)
    abstract_behind stars = λ ts.
        if opens_abstract ts then nested_abstract stars ts
        else (suffixes >>= (λ ss. pure (abstract_of stars None ss.0, 1 + ss.1))) ts

    unfoldable pub starred : Parser (WithHeight AbstractDeclarator)
    starred = λ ts. let stars = run mark.Star ts in abstract_behind stars.0 stars.1

    -- one in parentheses, with the suffixes behind it
    abbrev pub with_suffixes : ℕ → WithHeight AbstractDeclarator → WithHeight (List Suffix) → Parser (WithHeight AbstractDeclarator)
    with_suffixes limit inside ss =
        if is_none ss.0 then pure inside
        else (if nat_le inside.1 limit then pure (abstract_of 0 (Some inside.0) ss.0, 1 + max inside.1 ss.1) else mismatch)

    unfoldable pub bracketed_abstract : ℕ → Parser (WithHeight AbstractDeclarator)
    bracketed_abstract limit = do
      expect mark.LeftParenthesis
      inside ← starred
      expect mark.RightParenthesis
      ss ← suffixes
      with_suffixes limit inside ss

    unfoldable pub abstract : ℕ → Parser (WithHeight AbstractDeclarator)
    abstract limit = λ ts. if opens_abstract ts then bracketed_abstract limit ts else starred ts

    -- ---- declarators

    unfoldable pub named : Parser Bracketed
    named = do
      x ← free_name
      pure (record { core = core_as.Name x; pairs = 0; height = 0 })

    -- the stars before it and the suffixes behind it
    unfoldable pub finished : ℕ → ℕ → Bracketed → Parser Bracketed
    finished limit stars b = do
      ss ← suffixes
      if nat_eq stars 0 && is_none ss.0 then pure b else (
          if nat_le b.height limit then pure (formed stars b ss) else mismatch)

    -- closes so many parentheses
    unfoldable pub closed : ℕ → ℕ → ℕ → Bracketed → Parser Bracketed
    closed limit zero stars b = pure b
    closed limit (suc n) stars b = do
      whole ← finished limit stars b
      expect mark.RightParenthesis
      if nat_lt whole.pairs greatest_pairs then closed limit n 0 (in_brackets whole) else mismatch

    -- behind so many stars
    abbrev pub direct_behind : Parser Bracketed → ℕ → Parser Bracketed
    direct_behind plain stars = if nat_eq stars 0 then plain else inner.direct

    -- in so many parentheses
    unfoldable pub direct_in : ℕ → ℕ → Parser Bracketed
    direct_in limit zero = named
    direct_in limit (suc n) = λ ts. let stars = run mark.Star ts in (direct_behind named stars.0 >>= closed limit (suc n) stars.0) stars.1

    unfoldable pub direct : ℕ → Parser Bracketed
    direct limit = λ ts. let run = opened ts in direct_in limit run.0 run.1

    unfoldable pub declarator : ℕ → Parser (WithHeight Declarator)
    declarator limit = λ ts. let stars = run mark.Star ts in
        (do b ← direct_behind (direct limit) stars.0; whole ← finished limit stars.0 b; pure (whole_of whole.core whole.height)) stars.1

    -- ---- specs

    unfoldable pub member : Parser (WithHeight MemberDecl)
    member = do
      s ← inner.spec true
      ds ← separated inner.declarator
      expect mark.Semicolon
      pure (roll-MemberDecl (record { spec = s.0; declarators = ds.0 }), max s.1 ds.1)

    unfoldable pub members_from : ℕ → List MemberDecl → ℕ → Parser (WithHeight (List MemberDecl))
    members_from zero found height = mismatch
    members_from (suc n) found height = do
      m ← member
      ends ← eat mark.RightBrace
      if ends then pure (found ++ m.0 ∷ [], max height m.1) else members_from n (found ++ m.0 ∷ []) (max height m.1)

    -- at least one, and the brace behind them
    unfoldable pub members : Parser (WithHeight (List MemberDecl))
    members = λ ts. members_from (length ts) [] 0 ts

    unfoldable pub struct_body : List ℕ → Parser (WithHeight Spec)
    struct_body x = do
      expect mark.LeftBrace
      ms ← members
      pure (struct_with x ms.0, 1 + ms.1)

    -- behind `struct`; the test says whether it may have a body
    unfoldable pub struct : Bool → Parser (WithHeight Spec)
    struct bodies = do
      x ← free_name
      has_body ← (λ ts. Some (bodies && sees mark.LeftBrace ts, ts))
      if has_body then struct_body x else pure (spec_as.Struct x None, 0)

    abbrev pub spec_by : Bool → Kind → Parser (WithHeight Spec)
    spec_by bodies (Word word.Int) = pure (spec_as.Int, 0)
    spec_by bodies (Word word.Char) = pure (spec_as.Char, 0)
    spec_by bodies (Word word.Void) = pure (spec_as.Void, 0)
    spec_by bodies (Word word.Struct) = struct bodies
    spec_by bodies (Name x) = if is_type_name names x then pure (spec_as.TypeName x, 0) else mismatch
    spec_by bodies _ = mismatch

    unfoldable pub spec : Bool → Parser (WithHeight Spec)
    spec bodies [] = None
    spec bodies (k ∷ ks) = spec_by bodies k ks

    unfoldable pub type_word : Parser (WithHeight TypeWord)
    type_word = do
      s ← inner.spec false
      a ← inner.abstract
      pure (roll-TypeWord (record { spec = s.0; declarator = a.0 }), 1 + max s.1 a.1)

    -- ---- expressions

    unfoldable pub arguments : Parser (WithHeight (List Expr))
    arguments = do
      is_empty ← eat mark.RightParenthesis
      if is_empty then pure ([], 0) else (do
        given ← separated (inner.expr assign_level)
        expect mark.RightParenthesis
        pure given)

    unfoldable pub index : Parser (WithHeight Part)
    index = do
      i ← inner.expr assign_level
      expect mark.RightBracket
      pure (part_as.Index i.0, i.1)

    unfoldable pub arms : Parser (WithHeight Part)
    arms = do
      a ← inner.expr assign_level
      expect mark.Colon
      b ← inner.expr conditional_level
      pure (part_as.Conditional a.0 b.0, max a.1 b.1)

    -- behind the mark
    abbrev pub part_by : Continuation → Parser (WithHeight Part)
    part_by goes.Index = index
    part_by goes.Call = arguments >>= (λ given. pure (part_as.Call given.0, given.1))
    part_by goes.Member = free_name >>= (λ x. pure (part_as.Member x, 0))
    part_by goes.Arrow = free_name >>= (λ x. pure (part_as.Arrow x, 0))
    part_by goes.Increment = pure (part_as.Increment, 0)
    part_by goes.Decrement = pure (part_as.Decrement, 0)
    part_by (goes.Binary op) = inner.expr (1 + binary_level op) >>= (λ b. pure (part_as.Binary op b.0, b.1))
    part_by goes.Conditional = arms
    part_by (goes.Assign op) = inner.expr assign_level >>= (λ b. pure (part_as.Assign op b.0, b.1))

    unfoldable pub part : Continuation → Parser (WithHeight Part)
    part c = part_by c

    -- an attempt that gives nothing leaves the operand as it is
    abbrev pub grown_by : Operand → Kinds → (Operand → Parser Operand) → Outcome (WithHeight Part) → Outcome Operand
    grown_by o ts more None = Some (o, ts)
    grown_by o ts more (Some p) = more (extended o p.0) p.1

    abbrev pub grown_with : Operand → Kinds → (Operand → Parser Operand) → Option Continuation → Outcome Operand
    grown_with o ts more None = Some (o, ts)
    grown_with o ts more (Some c) = grown_by o ts more (part c (behind ts))

    unfoldable pub grow_from : ℕ → ℕ → ℕ → Operand → Parser Operand
    grow_from limit least zero o = pure o
    grow_from limit least (suc n) o = λ ts. grown_with o ts (grow_from limit least n) (going_on limit least o ts)

    -- the operand with all that goes on behind it, at these levels
    unfoldable pub grow : ℕ → ℕ → Operand → Parser Operand
    grow limit least o = λ ts. grow_from limit least (length ts) o ts

    -- closes so many parentheses
    unfoldable pub close : ℕ → ℕ → ℕ → Operand → Parser (WithHeight Expr)
    close limit least zero o = do
      whole ← grow limit least o
      if nat_le least whole.level then pure (whole.expr, whole.height) else mismatch
    close limit least (suc n) o = do
      whole ← grow limit assign_level o
      expect mark.RightParenthesis
      if nat_lt whole.pairs greatest_pairs then close limit least n (bracketed whole) else mismatch

    -- behind `sizeof`
    unfoldable pub sizeof : Parser Operand
    sizeof = λ ts.
        if opens_type ts then (do
          expect mark.LeftParenthesis
          t ← inner.type_word
          expect mark.RightParenthesis
          pure (operand unary_level (e.SizeofType t.0) (1 + t.1))) ts
        else (inner.expr unary_level >>= (λ a. pure (operand unary_level (e.SizeofExpr a.0) (1 + a.1)))) ts

    -- behind the parenthesis
    unfoldable pub cast : Parser Operand
    cast = do
      t ← inner.type_word
      expect mark.RightParenthesis
      a ← inner.expr cast_level
      pure (operand cast_level (e.Cast t.0 a.0) (1 + max t.1 a.1))

    unfoldable pub unary_behind : UnaryOperator → Parser Operand
    unary_behind op = do
      a ← inner.expr cast_level
      pure (operand unary_level (e.Unary op a.0) (1 + a.1))

    abbrev pub prefixed_by : MarkName → Parser Operand
    prefixed_by mark.LeftParenthesis = cast
    prefixed_by mark.Increment = inner.expr unary_level >>= (λ a. pure (operand unary_level (e.PreIncrement a.0) (1 + a.1)))
    prefixed_by mark.Decrement = inner.expr unary_level >>= (λ a. pure (operand unary_level (e.PreDecrement a.0) (1 + a.1)))
    prefixed_by mark.Ampersand = unary_behind unary.Address
    prefixed_by mark.Star = unary_behind unary.Dereference
    prefixed_by mark.Minus = unary_behind unary.Negate
    prefixed_by mark.Tilde = unary_behind unary.Complement
    prefixed_by mark.Exclamation = unary_behind unary.Not
    prefixed_by _ = mismatch

    unfoldable pub prefixed : MarkName → Parser Operand
    prefixed m = prefixed_by m

    abbrev pub head_by : Kind → Parser Operand
    head_by (Name x) = if is_type_name names x then mismatch else pure (leaf (e.Identifier x))
    head_by (Number n) = pure (leaf (e.Number n))
    head_by (Text bytes) = pure (leaf (e.Text bytes))
    head_by (Word word.Sizeof) = sizeof
    head_by (Word w) = mismatch
    head_by (Mark m) = prefixed m

    -- what begins an expression: a primary without parentheses, or a prefix operator and its operand
    unfoldable pub head : Parser Operand
    head [] = None
    head (k ∷ ks) = head_by k ks

    -- with so many parentheses open
    unfoldable pub level_in : ℕ → ℕ → ℕ → Parser (WithHeight Expr)
    level_in limit least n = λ ts. let more = opened ts in (head >>= close limit least (n + more.0)) more.1

    unfoldable pub level : ℕ → ℕ → Parser (WithHeight Expr)
    level limit least = level_in limit least 0

  -- ---- parameters, by the readers of their own depth

  module _ (spec : Bool → Parser (WithHeight Spec)) (declarator : Parser (WithHeight Declarator)) (abstract : Parser (WithHeight AbstractDeclarator)) where
    unfoldable pub param : Parser (WithHeight Param)
    param = do
      s ← spec true
      is_named ← (λ ts. Some (looks_named ts, ts))
      if is_named then declarator >>= (λ d. pure (param_as.Named s.0 d.0, max s.1 d.1)) else (
          abstract >>= (λ a. pure (param_as.Unnamed s.0 a.0, max s.1 a.1)))

    abbrev pub is_void_alone : Kinds → Bool
    is_void_alone [] = false
    is_void_alone (k ∷ ks) = is_word word.Void k && sees mark.RightParenthesis ks

    -- to before the closing parenthesis
    unfoldable pub params : Parser (WithHeight Params)
    params = λ ts.
        if sees mark.RightParenthesis ts then Some ((params_as.Nothing, 0), ts)
        else (if is_void_alone ts then Some ((params_as.VoidAlone, 0), behind ts)
        else (separated param >>= (λ given. pure (params_as.List given.0, given.1))) ts)

  -- with nodes at most so deep
  unfoldable pub readers : ℕ → Readers
  readers zero = record {
    expr = λ _. mismatch;
    type_word = mismatch;
    spec = spec nothing;
    declarator = mismatch;
    direct = direct nothing 0;
    abstract = mismatch;
    params = params (spec nothing) mismatch mismatch;
  }
  readers (suc depth) = let inner = readers depth in record {
    expr = level inner depth;
    type_word = type_word inner;
    spec = spec inner;
    declarator = declarator inner depth;
    direct = direct inner depth;
    abstract = abstract inner depth;
    params = params (spec inner) (declarator inner depth) (abstract inner depth);
  }
