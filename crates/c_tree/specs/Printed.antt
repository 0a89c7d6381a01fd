-- What the printer writes of a tree, as kinds of tokens. Parentheses stand round every expression and every declarator
-- that is built of several tokens, and round every bracketed abstract declarator.
use Rattle.std.specs.Prelude.{ℕ, zero, suc, List, [], ◌∷◌, ◌++◌, Option, Some, None}
use Rattle.c_tokens.specs.declared.token.Keyword.TheVariants as word
use Rattle.c_tokens.specs.declared.token.Kind.{Kind}
use Rattle.c_tokens.specs.declared.token.Kind.TheVariants.{Word, Name, Number, Text, Mark}
use Rattle.c_tokens.specs.declared.token.Mark.TheVariants as mark
use Rattle.c_tree.specs.declared.expression.AbstractDeclarator.{AbstractDeclarator}
use Rattle.c_tree.specs.declared.expression.Declarator.{Declarator}
use Rattle.c_tree.specs.declared.expression.Direct.{Direct}
use Rattle.c_tree.specs.declared.expression.Direct.TheOpen.{Direct-F, Expr-F, Param-F, Params-F, Spec-F, Suffix-F}
use Rattle.c_tree.specs.declared.expression.Direct.TheOpen.{AbstractDeclarator-F, Declarator-F, MemberDecl-F}
use Rattle.c_tree.specs.declared.expression.Direct.TheOpen.{TypeWord-F}
use Rattle.c_tree.specs.declared.expression.Expr.{Expr}
use Rattle.c_tree.specs.declared.expression.MemberDecl.{MemberDecl}
use Rattle.c_tree.specs.declared.expression.Param.{Param}
use Rattle.c_tree.specs.declared.expression.Params.{Params}
use Rattle.c_tree.specs.declared.expression.Spec.{Spec}
use Rattle.c_tree.specs.declared.expression.Suffix.{Suffix}
use Rattle.c_tree.specs.declared.expression.TypeWord.{TypeWord}
use Rattle.c_tree.specs.Marks.{Kinds, wrapped, assign_mark, binary_mark, unary_mark}
use Rattle.c_tree.specs.Grammar.{star_kinds}
use Rattle.c_tree.specs.Fold.{Results, Node, Steps, fold}

-- lists of tokens one after another
abbrev pub joined : List Kinds → Kinds
joined [] = []
joined (ks ∷ kss) = ks ++ joined kss

-- with a comma in front of each
abbrev pub after_commas : List Kinds → Kinds
after_commas [] = []
after_commas (ks ∷ kss) = Mark mark.Comma ∷ ks ++ after_commas kss

-- with commas between
abbrev pub with_commas : List Kinds → Kinds
with_commas [] = []
with_commas (ks ∷ kss) = ks ++ after_commas kss

-- One node of a tree, where what is printed stands in place of each part.

abbrev pub Printed : Results
Printed = record {
  direct = Kinds;
  expr = Kinds;
  param = Kinds;
  params = Kinds;
  spec = Kinds;
  suffix = Kinds;
  abstract = Kinds;
  declarator = Kinds;
  member = Kinds;
  type_word = Kinds;
}

-- the operand to the left of an expression's sign
abbrev pub left_of_sign : Node Printed Expr-F → Kinds
left_of_sign (Expr-F.Assign a op b) = a
left_of_sign (Expr-F.Conditional c a b) = c
left_of_sign (Expr-F.Binary a op b) = a
left_of_sign (Expr-F.Index a i) = a
left_of_sign (Expr-F.Call f arguments) = f
left_of_sign (Expr-F.Member a x) = a
left_of_sign (Expr-F.Arrow a x) = a
left_of_sign (Expr-F.PostIncrement a) = a
left_of_sign (Expr-F.PostDecrement a) = a
left_of_sign _ = []

-- the token that tells what an expression is
abbrev pub sign : Node Printed Expr-F → Kind
sign (Expr-F.Assign a op b) = Mark (assign_mark op)
sign (Expr-F.Conditional c a b) = Mark mark.Question
sign (Expr-F.Binary a op b) = Mark (binary_mark op)
sign (Expr-F.Cast t a) = Mark mark.LeftParenthesis
sign (Expr-F.PreIncrement a) = Mark mark.Increment
sign (Expr-F.PreDecrement a) = Mark mark.Decrement
sign (Expr-F.Unary op a) = Mark (unary_mark op)
sign (Expr-F.SizeofExpr a) = Word word.Sizeof
sign (Expr-F.SizeofType t) = Word word.Sizeof
sign (Expr-F.Index a i) = Mark mark.LeftBracket
sign (Expr-F.Call f arguments) = Mark mark.LeftParenthesis
sign (Expr-F.Member a x) = Mark mark.Dot
sign (Expr-F.Arrow a x) = Mark mark.Arrow
sign (Expr-F.PostIncrement a) = Mark mark.Increment
sign (Expr-F.PostDecrement a) = Mark mark.Decrement
sign (Expr-F.Identifier x) = Name x
sign (Expr-F.Number n) = Number n
sign (Expr-F.Text bytes) = Text bytes

-- what stands to the right of the sign
abbrev pub right_of_sign : Node Printed Expr-F → Kinds
right_of_sign (Expr-F.Assign a op b) = b
right_of_sign (Expr-F.Conditional c a b) = a ++ Mark mark.Colon ∷ b
right_of_sign (Expr-F.Binary a op b) = b
right_of_sign (Expr-F.Cast t a) = t ++ Mark mark.RightParenthesis ∷ a
right_of_sign (Expr-F.PreIncrement a) = a
right_of_sign (Expr-F.PreDecrement a) = a
right_of_sign (Expr-F.Unary op a) = a
right_of_sign (Expr-F.SizeofExpr a) = a
right_of_sign (Expr-F.SizeofType t) = wrapped 1 t
right_of_sign (Expr-F.Index a i) = i ++ Mark mark.RightBracket ∷ []
right_of_sign (Expr-F.Call f arguments) = with_commas arguments ++ Mark mark.RightParenthesis ∷ []
right_of_sign (Expr-F.Member a x) = Name x ∷ []
right_of_sign (Expr-F.Arrow a x) = Name x ∷ []
right_of_sign _ = []

-- names, numbers and strings are the expressions of one token
abbrev pub expr_step : Node Printed Expr-F → Kinds
expr_step (Expr-F.Identifier x) = Name x ∷ []
expr_step (Expr-F.Number n) = Number n ∷ []
expr_step (Expr-F.Text bytes) = Text bytes ∷ []
expr_step parts = wrapped 1 (left_of_sign parts ++ sign parts ∷ right_of_sign parts)

-- the members of a struct's body
abbrev pub body_kinds : Option (List Kinds) → Kinds
body_kinds None = []
body_kinds (Some members) = Mark mark.LeftBrace ∷ joined members ++ Mark mark.RightBrace ∷ []

abbrev pub spec_step : Node Printed Spec-F → Kinds
spec_step Spec-F.Int = Word word.Int ∷ []
spec_step Spec-F.Char = Word word.Char ∷ []
spec_step Spec-F.Void = Word word.Void ∷ []
spec_step (Spec-F.TypeName x) = Name x ∷ []
spec_step (Spec-F.Struct x members) = Word word.Struct ∷ Name x ∷ body_kinds members

abbrev pub member_step : Node Printed MemberDecl-F → Kinds
member_step m = m.spec ++ with_commas m.declarators ++ Mark mark.Semicolon ∷ []

-- what stands in a declarator without stars and suffixes stands alone
abbrev pub declarator_kinds : ℕ → Kinds → List Kinds → Kinds
declarator_kinds zero inside [] = inside
declarator_kinds zero inside (s ∷ ss) = wrapped 1 (star_kinds zero ++ inside ++ joined (s ∷ ss))
declarator_kinds (suc n) inside suffixes = wrapped 1 (star_kinds (suc n) ++ inside ++ joined suffixes)

abbrev pub declarator_step : Node Printed Declarator-F → Kinds
declarator_step d = declarator_kinds d.stars d.direct d.suffixes

abbrev pub direct_step : Node Printed Direct-F → Kinds
direct_step (Direct-F.Name x) = Name x ∷ []
direct_step (Direct-F.Bracketed inside) = inside

abbrev pub bound_kinds : Option Kinds → Kinds
bound_kinds None = []
bound_kinds (Some bound) = bound

abbrev pub suffix_step : Node Printed Suffix-F → Kinds
suffix_step (Suffix-F.Array bound) = Mark mark.LeftBracket ∷ bound_kinds bound ++ Mark mark.RightBracket ∷ []
suffix_step (Suffix-F.Function inside) = wrapped 1 inside

abbrev pub params_step : Node Printed Params-F → Kinds
params_step Params-F.Nothing = []
params_step Params-F.VoidAlone = Word word.Void ∷ []
params_step (Params-F.List all) = with_commas all

abbrev pub param_step : Node Printed Param-F → Kinds
param_step (Param-F.Named s d) = s ++ d
param_step (Param-F.Unnamed s a) = s ++ a

abbrev pub bracketed_kinds : Option Kinds → Kinds
bracketed_kinds None = []
bracketed_kinds (Some inside) = wrapped 1 inside

abbrev pub abstract_step : Node Printed AbstractDeclarator-F → Kinds
abstract_step a = star_kinds a.stars ++ bracketed_kinds a.bracketed ++ joined a.suffixes

abbrev pub type_word_step : Node Printed TypeWord-F → Kinds
type_word_step t = t.spec ++ t.declarator

-- ---- whole trees

unfoldable pub printing : Steps Printed
printing = record {
  direct = direct_step;
  expr = expr_step;
  param = param_step;
  params = params_step;
  spec = spec_step;
  suffix = suffix_step;
  abstract = abstract_step;
  declarator = declarator_step;
  member = member_step;
  type_word = type_word_step;
}

unfoldable pub printed_direct : Direct → Kinds
printed_direct = (fold printing).direct

unfoldable pub printed_expr : Expr → Kinds
printed_expr = (fold printing).expr

unfoldable pub printed_param : Param → Kinds
printed_param = (fold printing).param

unfoldable pub printed_params : Params → Kinds
printed_params = (fold printing).params

unfoldable pub printed_spec : Spec → Kinds
printed_spec = (fold printing).spec

unfoldable pub printed_suffix : Suffix → Kinds
printed_suffix = (fold printing).suffix

unfoldable pub printed_abstract : AbstractDeclarator → Kinds
printed_abstract = (fold printing).abstract

unfoldable pub printed_declarator : Declarator → Kinds
printed_declarator = (fold printing).declarator

unfoldable pub printed_member : MemberDecl → Kinds
printed_member = (fold printing).member

unfoldable pub printed_type_word : TypeWord → Kinds
printed_type_word = (fold printing).type_word
