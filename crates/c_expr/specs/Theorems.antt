-- The readers and the grammar: what they answer is of the grammar, what is of the grammar they answer, and they read as much as can be.
use Rattle.std.specs.Prelude.{◌≡◌, ℕ, ◌<◌, ◌≤◌, ◌⊎◌, Bool, true, false, List, ◌∷◌, ◌++◌, Some}
use Rattle.c_tokens.specs.declared.token.Kind.TheVariants.{Mark}
use Rattle.c_tokens.specs.declared.token.Mark.{Mark as MarkName}
use Rattle.c_tokens.specs.declared.token.Mark.TheVariants as mark
use Rattle.c_tree.specs.declared.expression.AbstractDeclarator.{AbstractDeclarator}
use Rattle.c_tree.specs.declared.expression.Declarator.{Declarator}
use Rattle.c_tree.specs.declared.expression.Direct.{Direct}
use Rattle.c_tree.specs.declared.expression.Expr.{Expr}
use Rattle.c_tree.specs.declared.expression.Params.{Params}
use Rattle.c_tree.specs.declared.expression.Spec.{Spec}
use Rattle.c_tree.specs.declared.expression.TypeWord.{TypeWord}
use Rattle.c_tree.specs.Marks.{Kinds, primary_level}
use Rattle.c_tree.specs.Grammar.{SpecReads, DeclaratorReads, DirectReads, AbstractReads, ParamsRead, TypeWordReads, ExprReads}
use Rattle.c_readers.specs.declared.brackets.Bracketed.{Bracketed}
use Rattle.c_readers.specs.declared.operand.Continuation.{Continuation}
use Rattle.c_expr.specs.FirstTokens.{Begins, CanBeginExpression, CanBeginSpec, CanBeginDeclarator}
use Rattle.c_readers.specs.inner.Parser.{Parser, WithHeight, sees}
use Rattle.c_readers.specs.inner.Readers.{Readers, readers, continuation, whole_level, begins_spec, direct_of}

-- ---- what the readers answer is of the grammar

-- what the parser answers are tokens that stand in this relation, with nodes at most so deep
abbrev pub ReadsOnly : {A : Type 0} → Parser (WithHeight A) → ℕ → (ℕ → Kinds → A → Type 0) → Type 0
ReadsOnly {A} p depth R =
    (ts : Kinds) (x : A) (h : ℕ) (rest : Kinds)
    → p ts ≡ Some ((x, h), rest)
    → (prefix : Kinds) × (ts ≡ prefix ++ rest) × (h ≤ depth) × R h prefix x

abbrev pub ClosesParenthesis : Kinds → Type 0
ClosesParenthesis ts = (ks : Kinds) × (ts ≡ Mark mark.RightParenthesis ∷ ks)

pub record AreSound (names : List (List ℕ)) (depth : ℕ) (r : Readers) : Type 0 where
  pub expr : (least : ℕ) → ReadsOnly (r.expr least) depth (λ h ts e. ExprReads names least h ts e)
  pub type_word : ReadsOnly r.type_word depth (λ h ts t. TypeWordReads names h ts t)
  pub spec : (bodies : Bool) → ReadsOnly (r.spec bodies) depth (λ h ts s. SpecReads names bodies h ts s)
  pub declarator : ReadsOnly r.declarator depth (λ h ts d. (x : List ℕ) × DeclaratorReads names h x ts d)
  -- it may be deeper by one: what it is a part of asks for its depth again
  pub direct : (ts : Kinds) (b : Bracketed) (rest : Kinds)
      → r.direct ts ≡ Some (b, rest)
      → (prefix : Kinds) × (ts ≡ prefix ++ rest) × ((x : List ℕ) × DirectReads names b.height x prefix (direct_of b.core))
  pub abstract : ReadsOnly r.abstract depth (λ h ts a. AbstractReads names h ts a)
  -- where a closing parenthesis stands behind them
  pub params : (ts : Kinds) (p : Params) (h : ℕ) (rest : Kinds)
      → ClosesParenthesis rest
      → r.params ts ≡ Some ((p, h), rest)
      → (prefix : Kinds) × (ts ≡ prefix ++ rest) × (h ≤ depth) × ParamsRead names h prefix p

abbrev pub ReadersAreSound : Type 0
ReadersAreSound = (names : List (List ℕ)) (depth : ℕ) → AreSound names depth (readers names depth)

-- ---- what is of the grammar the readers answer

-- the parser takes just these tokens, whatever this test lets stand behind them
abbrev pub Takes : {A : Type 0} → Parser (WithHeight A) → (Kinds → Type 0) → ℕ → Kinds → A → Type 0
Takes p May h ts x = (rest : Kinds) → May rest → p (ts ++ rest) ≡ Some ((x, h), rest)

abbrev pub Lacks : MarkName → Kinds → Type 0
Lacks m ts = sees m ts ≡ false

-- a closing parenthesis or a comma comes
abbrev pub Closes : Kinds → Type 0
Closes ts = (ks : Kinds) × ((ts ≡ Mark mark.RightParenthesis ∷ ks) ⊎ (ts ≡ Mark mark.Comma ∷ ks))

-- no suffix comes
abbrev pub LacksSuffix : Kinds → Type 0
LacksSuffix ts = Lacks mark.LeftBracket ts × Lacks mark.LeftParenthesis ts

-- nothing comes that an operand of this level or a tighter one goes on with
abbrev pub Stops : ℕ → Kinds → Type 0
Stops least ts = (c : Continuation) → continuation ts ≡ Some c → whole_level c < least

pub record AreComplete (names : List (List ℕ)) (depth : ℕ) (r : Readers) : Type 0 where
  pub expr : (least h : ℕ) (ts : Kinds) (e : Expr)
      → least ≤ primary_level
      → h ≤ depth
      → ExprReads names least h ts e
      → Takes (r.expr least) (Stops least) h ts e
  pub type_word : (h : ℕ) (ts : Kinds) (t : TypeWord)
      → h ≤ depth
      → TypeWordReads names h ts t
      → Takes r.type_word ClosesParenthesis h ts t
  pub spec : (bodies : Bool) (h : ℕ) (ts : Kinds) (s : Spec)
      → h ≤ depth
      → SpecReads names bodies h ts s
      → Takes (r.spec bodies) (Lacks mark.LeftBrace) h ts s
  pub declarator : (h : ℕ) (x : List ℕ) (ts : Kinds) (d : Declarator)
      → h ≤ depth
      → DeclaratorReads names h x ts d
      → Takes r.declarator LacksSuffix h ts d
  pub direct : (h : ℕ) (x : List ℕ) (ts : Kinds) (d : Direct)
      → h ≤ depth
      → DirectReads names h x ts d
      → (rest : Kinds)
      → (b : Bracketed) × (direct_of b.core ≡ d) × (b.height ≡ h) × (r.direct (ts ++ rest) ≡ Some (b, rest))
  pub abstract : (h : ℕ) (ts : Kinds) (a : AbstractDeclarator)
      → h ≤ depth
      → AbstractReads names h ts a
      → Takes r.abstract Closes h ts a
  pub params : (h : ℕ) (ts : Kinds) (p : Params)
      → h ≤ depth
      → ParamsRead names h ts p
      → Takes r.params ClosesParenthesis h ts p

abbrev pub ReadersAreComplete : Type 0
ReadersAreComplete = (names : List (List ℕ)) (depth : ℕ) → AreComplete names depth (readers names depth)

-- ---- they read as much as can be

-- whatever expression begins the tokens, the reader answers one that is at least as long
abbrev pub ReadersReadLongest : Type 0
ReadersReadLongest =
    (names : List (List ℕ)) (least h depth : ℕ) (ts rest : Kinds) (e : Expr)
    → least ≤ primary_level
    → h ≤ depth
    → ExprReads names least h ts e
    → (f : Expr) × (height : ℕ) × (more behind : Kinds) × (rest ≡ more ++ behind)
    × ((readers names depth).expr least (ts ++ rest) ≡ Some ((f, height), behind))

-- ---- one text has one tree

abbrev pub ExpressionsHaveOneTree : Type 0
ExpressionsHaveOneTree =
    (names : List (List ℕ)) (g h : ℕ) (ts : Kinds) (e f : Expr)
    → ExprReads names 0 g ts e
    → ExprReads names 0 h ts f
    → (e ≡ f) × (g ≡ h)

-- ---- what a form begins with

-- each form begins with a token that can begin it, and the test for specs tells those of specs from those of expressions
pub record FirstTokens (names : List (List ℕ)) : Type 0 where
  pub expression : {least h : ℕ} {ts : Kinds} {e : Expr}
      → ExprReads names least h ts e
      → Begins (CanBeginExpression names) ts
  pub spec : {bodies : Bool} {h : ℕ} {ts : Kinds} {s : Spec}
      → SpecReads names bodies h ts s
      → Begins (CanBeginSpec names) ts
  pub declarator : {h : ℕ} {x : List ℕ} {ts : Kinds} {d : Declarator}
      → DeclaratorReads names h x ts d
      → Begins (CanBeginDeclarator names) ts
  pub spec_seen : (ts : Kinds) → Begins (CanBeginSpec names) ts → begins_spec names ts ≡ true
  pub no_spec_seen : (ts : Kinds) → Begins (CanBeginExpression names) ts → begins_spec names ts ≡ false

-- ---- what a crate above reads by

-- the readers are the grammar, and the first tokens tell its forms apart
pub record ExpressionLaws : Type 0 where
  pub sound : ReadersAreSound
  pub complete : ReadersAreComplete
  pub first_tokens : (names : List (List ℕ)) → FirstTokens names
