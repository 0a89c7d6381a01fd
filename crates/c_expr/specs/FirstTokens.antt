-- The tokens with which expressions, specs and declarators can begin.
use Rattle.std.specs.Prelude.{◌≡◌, ℕ, ◌⊎◌, Bool, true, false, IsTrue, List, [], ◌∷◌}
use Rattle.std.specs.List.{Contains}
use Rattle.c_tokens.specs.declared.token.Keyword.{Keyword}
use Rattle.c_tokens.specs.declared.token.Keyword.TheVariants as word
use Rattle.c_tokens.specs.declared.token.Kind.{Kind}
use Rattle.c_tokens.specs.declared.token.Kind.TheVariants.{Word, Name, Number, Text, Mark}
use Rattle.c_tokens.specs.declared.token.Mark.{Mark as MarkName}
use Rattle.c_tokens.specs.declared.token.Mark.TheVariants as mark
use Rattle.c_tree.specs.Marks.{Kinds}
use Rattle.c_tree.specs.Grammar.{IsFree}

-- the tokens begin with one for which this holds
abbrev pub Begins : (Kind → Type 0) → Kinds → Type 0
Begins P [] = ⊥
Begins P (k ∷ ks) = P k

-- ---- expressions

abbrev pub mark_begins_expression : MarkName → Bool
mark_begins_expression mark.LeftParenthesis = true
mark_begins_expression mark.Increment = true
mark_begins_expression mark.Decrement = true
mark_begins_expression mark.Ampersand = true
mark_begins_expression mark.Star = true
mark_begins_expression mark.Minus = true
mark_begins_expression mark.Tilde = true
mark_begins_expression mark.Exclamation = true
mark_begins_expression _ = false

-- `sizeof`, a name that is no type name, a number, a text, or such a mark
abbrev pub CanBeginExpression : List (List ℕ) → Kind → Type 0
CanBeginExpression names (Word w) = w ≡ word.Sizeof
CanBeginExpression names (Name x) = IsFree names x
CanBeginExpression names (Number n) = Unit {0}
CanBeginExpression names (Text bytes) = Unit {0}
CanBeginExpression names (Mark m) = IsTrue (mark_begins_expression m)

-- ---- specs

abbrev pub word_begins_spec : Keyword → Bool
word_begins_spec word.Int = true
word_begins_spec word.Char = true
word_begins_spec word.Void = true
word_begins_spec word.Struct = true
word_begins_spec _ = false

-- such a word, or a type name
abbrev pub CanBeginSpec : List (List ℕ) → Kind → Type 0
CanBeginSpec names (Word w) = IsTrue (word_begins_spec w)
CanBeginSpec names (Name x) = Contains names x
CanBeginSpec names (Number n) = ⊥
CanBeginSpec names (Text bytes) = ⊥
CanBeginSpec names (Mark m) = ⊥

-- ---- declarators

-- `(`, `*`, or a name that is no type name
abbrev pub CanBeginDeclarator : List (List ℕ) → Kind → Type 0
CanBeginDeclarator names (Word w) = ⊥
CanBeginDeclarator names (Name x) = IsFree names x
CanBeginDeclarator names (Number n) = ⊥
CanBeginDeclarator names (Text bytes) = ⊥
CanBeginDeclarator names (Mark m) = (m ≡ mark.LeftParenthesis) ⊎ (m ≡ mark.Star)
