-- What is printed of each form of an expression, spec, declarator and type word.
use Rattle.std.proofs.Common.{◌≡◌, ◌∙◌, inl, inr, ℕ, zero, suc, ℤ, arith, List, [], ◌∷◌, ◌++◌, map, refl, ap, sym}
use Rattle.std.proofs.Common.{append_assoc, Option, Some, None}
use Rattle.std.specs.Option.{option_map}
use Rattle.c_tokens.specs.declared.token.Keyword.TheVariants as word
use Rattle.c_tokens.specs.declared.token.Kind.TheVariants.{Word, Name, Number, Text, Mark}
use Rattle.c_tokens.specs.declared.token.Mark.TheVariants as mark
use Rattle.c_tree.specs.declared.operator.AssignOperator.{AssignOperator}
use Rattle.c_tree.specs.declared.operator.BinaryOperator.{BinaryOperator}
use Rattle.c_tree.specs.declared.operator.UnaryOperator.{UnaryOperator}
use Rattle.c_tree.specs.declared.expression.Expr.{Expr, out-Expr, roll-Expr, roll-out-Expr}
use Rattle.c_tree.specs.declared.expression.Expr.TheVariants as expr
use Rattle.c_tree.specs.declared.expression.Spec.{Spec}
use Rattle.c_tree.specs.declared.expression.Spec.TheVariants as spec
use Rattle.c_tree.specs.declared.expression.MemberDecl.{MemberDecl, out-MemberDecl}
use Rattle.c_tree.specs.declared.expression.Declarator.{Declarator, out-Declarator}
use Rattle.c_tree.specs.declared.expression.Direct.{Direct}
use Rattle.c_tree.specs.declared.expression.Direct.TheVariants as direct
use Rattle.c_tree.specs.declared.expression.Suffix.{Suffix}
use Rattle.c_tree.specs.declared.expression.Suffix.TheVariants as suffix
use Rattle.c_tree.specs.declared.expression.Params.{Params}
use Rattle.c_tree.specs.declared.expression.Params.TheVariants as params
use Rattle.c_tree.specs.declared.expression.Param.{Param}
use Rattle.c_tree.specs.declared.expression.Param.TheVariants as param
use Rattle.c_tree.specs.declared.expression.AbstractDeclarator.{AbstractDeclarator, out-AbstractDeclarator}
use Rattle.c_tree.specs.declared.expression.TypeWord.{TypeWord, out-TypeWord}
use Rattle.c_tree.specs.declared.expression.Direct.TheOpen.{Expr-F}
use Rattle.c_tree.specs.Marks.{Kinds, wrapped, assign_mark, binary_mark, unary_mark}
use Rattle.c_tree.specs.Trees.{member_decl, declarator, abstract, type_word}
use Rattle.c_tree.specs.Grammar.{HasParts, star_kinds}
use Rattle.c_tree.specs.Fold.{Node, Trees, with_results}
use Rattle.c_tree.specs.inner.FoldEquations as Fold
use Rattle.c_tree.specs.Printed.{joined, with_commas, sign, left_of_sign, right_of_sign, body_kinds, bound_kinds}
use Rattle.c_tree.specs.Printed.{bracketed_kinds, declarator_kinds, expr_step, printing, printed_direct, printed_expr}
use Rattle.c_tree.specs.Printed.{printed_param, printed_params, printed_spec, printed_suffix, printed_abstract}
use Rattle.c_tree.specs.Printed.{printed_declarator, printed_member, printed_type_word}
use Rattle.c_tree.specs.inner.PrintedParts.{printed, expr_parts}

pub expr-Assign : (a : Expr) (op : AssignOperator) (b : Expr) → printed_expr (expr.Assign a op b)
    ≡ wrapped 1 (printed_expr a ++ Mark (assign_mark op) ∷ printed_expr b)
unfolding printing printed_expr
expr-Assign a op b = Fold.expr-Assign printing a op b

pub expr-Conditional : (c a b : Expr) → printed_expr (expr.Conditional c a b)
    ≡ wrapped 1 (printed_expr c ++ Mark mark.Question ∷ printed_expr a ++ Mark mark.Colon ∷ printed_expr b)
unfolding printing printed_expr
expr-Conditional c a b = Fold.expr-Conditional printing c a b ∙ ap (wrapped 1) (sym (append_assoc (printed_expr c) (Mark mark.Question ∷ printed_expr a) (Mark mark.Colon ∷ printed_expr b)))

pub expr-Binary : (a : Expr) (op : BinaryOperator) (b : Expr) → printed_expr (expr.Binary a op b)
    ≡ wrapped 1 (printed_expr a ++ Mark (binary_mark op) ∷ printed_expr b)
unfolding printing printed_expr
expr-Binary a op b = Fold.expr-Binary printing a op b

pub expr-Cast : (t : TypeWord) (a : Expr) → printed_expr (expr.Cast t a)
    ≡ wrapped 1 (wrapped 1 (printed_type_word t) ++ printed_expr a)
unfolding printing printed_expr printed_type_word
expr-Cast t a = Fold.expr-Cast printing t a ∙ ap (λ ts. wrapped 1 (Mark mark.LeftParenthesis ∷ ts)) (sym (append_assoc (printed_type_word t) (Mark mark.RightParenthesis ∷ []) (printed_expr a)))

pub expr-PreIncrement : (a : Expr) → printed_expr (expr.PreIncrement a)
    ≡ wrapped 1 (Mark mark.Increment ∷ printed_expr a)
unfolding printing printed_expr
expr-PreIncrement a = Fold.expr-PreIncrement printing a

pub expr-PreDecrement : (a : Expr) → printed_expr (expr.PreDecrement a)
    ≡ wrapped 1 (Mark mark.Decrement ∷ printed_expr a)
unfolding printing printed_expr
expr-PreDecrement a = Fold.expr-PreDecrement printing a

pub expr-Unary : (op : UnaryOperator) (a : Expr) → printed_expr (expr.Unary op a)
    ≡ wrapped 1 (Mark (unary_mark op) ∷ printed_expr a)
unfolding printing printed_expr
expr-Unary op a = Fold.expr-Unary printing op a

pub expr-SizeofExpr : (a : Expr) → printed_expr (expr.SizeofExpr a) ≡ wrapped 1 (Word word.Sizeof ∷ printed_expr a)
unfolding printing printed_expr
expr-SizeofExpr a = Fold.expr-SizeofExpr printing a

pub expr-SizeofType : (t : TypeWord) → printed_expr (expr.SizeofType t)
    ≡ wrapped 1 (Word word.Sizeof ∷ wrapped 1 (printed_type_word t))
unfolding printing printed_expr printed_type_word
expr-SizeofType t = Fold.expr-SizeofType printing t

pub expr-Index : (a i : Expr) → printed_expr (expr.Index a i)
    ≡ wrapped 1 (printed_expr a ++ Mark mark.LeftBracket ∷ printed_expr i ++ Mark mark.RightBracket ∷ [])
unfolding printing printed_expr
expr-Index a i = Fold.expr-Index printing a i ∙ ap (wrapped 1) (sym (append_assoc (printed_expr a) (Mark mark.LeftBracket ∷ printed_expr i) (Mark mark.RightBracket ∷ [])))

pub expr-Call : (f : Expr) (es : List Expr) → printed_expr (expr.Call f es)
    ≡ wrapped 1 (printed_expr f ++ wrapped 1 (with_commas (map printed_expr es)))
unfolding printing printed_expr
expr-Call f es = Fold.expr-Call printing f es

pub expr-Member : (a : Expr) (x : List ℕ) → printed_expr (expr.Member a x)
    ≡ wrapped 1 (printed_expr a ++ Mark mark.Dot ∷ Name x ∷ [])
unfolding printing printed_expr
expr-Member a x = Fold.expr-Member printing a x

pub expr-Arrow : (a : Expr) (x : List ℕ) → printed_expr (expr.Arrow a x)
    ≡ wrapped 1 (printed_expr a ++ Mark mark.Arrow ∷ Name x ∷ [])
unfolding printing printed_expr
expr-Arrow a x = Fold.expr-Arrow printing a x

pub expr-PostIncrement : (a : Expr) → printed_expr (expr.PostIncrement a)
    ≡ wrapped 1 (printed_expr a ++ Mark mark.Increment ∷ [])
unfolding printing printed_expr
expr-PostIncrement a = Fold.expr-PostIncrement printing a

pub expr-PostDecrement : (a : Expr) → printed_expr (expr.PostDecrement a)
    ≡ wrapped 1 (printed_expr a ++ Mark mark.Decrement ∷ [])
unfolding printing printed_expr
expr-PostDecrement a = Fold.expr-PostDecrement printing a

pub expr-Identifier : (x : List ℕ) → printed_expr (expr.Identifier x) ≡ Name x ∷ []
unfolding printing printed_expr
expr-Identifier x = Fold.expr-Identifier printing x

pub expr-Number : (n : ℤ) → printed_expr (expr.Number n) ≡ Number n ∷ []
unfolding printing printed_expr
expr-Number n = Fold.expr-Number printing n

pub expr-Text : (bytes : List ℕ) → printed_expr (expr.Text bytes) ≡ Text bytes ∷ []
unfolding printing printed_expr
expr-Text bytes = Fold.expr-Text printing bytes

pub spec-Int : printed_spec spec.Int ≡ Word word.Int ∷ []
unfolding printing printed_spec
spec-Int = Fold.spec-Int printing

pub spec-Char : printed_spec spec.Char ≡ Word word.Char ∷ []
unfolding printing printed_spec
spec-Char = Fold.spec-Char printing

pub spec-Void : printed_spec spec.Void ≡ Word word.Void ∷ []
unfolding printing printed_spec
spec-Void = Fold.spec-Void printing

pub spec-TypeName : (x : List ℕ) → printed_spec (spec.TypeName x) ≡ Name x ∷ []
unfolding printing printed_spec
spec-TypeName x = Fold.spec-TypeName printing x

pub spec-Struct : (x : List ℕ) (ms : Option (List MemberDecl)) → printed_spec (spec.Struct x ms)
    ≡ Word word.Struct ∷ Name x ∷ body_kinds (option_map (map printed_member) ms)
unfolding printing printed_spec printed_member
spec-Struct x None = Fold.spec-Struct printing x None
spec-Struct x (Some members) = Fold.spec-Struct printing x (Some members)

pub direct-Name : (x : List ℕ) → printed_direct (direct.Name x) ≡ Name x ∷ []
unfolding printing printed_direct
direct-Name x = Fold.direct-Name printing x

pub direct-Bracketed : (d : Declarator) → printed_direct (direct.Bracketed d) ≡ printed_declarator d
unfolding printing printed_direct printed_declarator
direct-Bracketed d = Fold.direct-Bracketed printing d

pub suffix-Array : (bound : Option Expr) → printed_suffix (suffix.Array bound)
    ≡ Mark mark.LeftBracket ∷ bound_kinds (option_map printed_expr bound) ++ Mark mark.RightBracket ∷ []
unfolding printing printed_expr printed_suffix
suffix-Array None = Fold.suffix-Array printing None
suffix-Array (Some e) = Fold.suffix-Array printing (Some e)

pub suffix-Function : (p : Params) → printed_suffix (suffix.Function p) ≡ wrapped 1 (printed_params p)
unfolding printing printed_params printed_suffix
suffix-Function p = Fold.suffix-Function printing p

pub params-Nothing : printed_params params.Nothing ≡ []
unfolding printing printed_params
params-Nothing = Fold.params-Nothing printing

pub params-VoidAlone : printed_params params.VoidAlone ≡ Word word.Void ∷ []
unfolding printing printed_params
params-VoidAlone = Fold.params-VoidAlone printing

pub params-List : (all : List Param) → printed_params (params.List all) ≡ with_commas (map printed_param all)
unfolding printing printed_param printed_params
params-List all = Fold.params-List printing all

pub param-Named : (s : Spec) (d : Declarator) → printed_param (param.Named s d)
    ≡ printed_spec s ++ printed_declarator d
unfolding printing printed_param printed_spec printed_declarator
param-Named s d = Fold.param-Named printing s d

pub param-Unnamed : (s : Spec) (a : AbstractDeclarator) → printed_param (param.Unnamed s a)
    ≡ printed_spec s ++ printed_abstract a
unfolding printing printed_param printed_spec printed_abstract
param-Unnamed s a = Fold.param-Unnamed printing s a

pub member-made : (s : Spec) (ds : List Declarator) → printed_member (member_decl s ds)
    ≡ printed_spec s ++ with_commas (map printed_declarator ds) ++ Mark mark.Semicolon ∷ []
unfolding printing printed_spec printed_declarator printed_member
member-made s ds = Fold.member-made printing s ds

pub declarator-made : (n : ℕ) (d : Direct) (ss : List Suffix) → printed_declarator (declarator n d ss)
    ≡ declarator_kinds n (printed_direct d) (map printed_suffix ss)
unfolding printing printed_direct printed_suffix printed_declarator
declarator-made n d ss = Fold.declarator-made printing n d ss

pub abstract-made : (n : ℕ) (o : Option AbstractDeclarator) (ss : List Suffix) → printed_abstract (abstract n o ss)
    ≡ star_kinds n ++ bracketed_kinds (option_map printed_abstract o) ++ joined (map printed_suffix ss)
unfolding printing printed_suffix printed_abstract
abstract-made n None ss = Fold.abstract-made printing n None ss
abstract-made n (Some a) ss = Fold.abstract-made printing n (Some a) ss

pub type_word-made : (s : Spec) (a : AbstractDeclarator) → printed_type_word (type_word s a)
    ≡ printed_spec s ++ printed_abstract a
unfolding printing printed_spec printed_abstract printed_type_word
type_word-made s a = Fold.type_word-made printing s a

pub member-of : (m : MemberDecl) → printed_member m
    ≡ printed_spec (out-MemberDecl m).spec ++ with_commas (map printed_declarator (out-MemberDecl m).declarators) ++ Mark mark.Semicolon ∷ []
unfolding printing printed_spec printed_declarator printed_member
member-of m = Fold.member-of printing m

pub declarator-of : (d : Declarator) → printed_declarator d
    ≡ declarator_kinds (out-Declarator d).stars (printed_direct (out-Declarator d).direct) (map printed_suffix (out-Declarator d).suffixes)
unfolding printing printed_direct printed_suffix printed_declarator
declarator-of d = Fold.declarator-of printing d

pub abstract-of : (a : AbstractDeclarator) → printed_abstract a
    ≡ star_kinds (out-AbstractDeclarator a).stars ++ bracketed_kinds (option_map printed_abstract (out-AbstractDeclarator a).bracketed) ++ joined (map printed_suffix (out-AbstractDeclarator a).suffixes)
unfolding printing printed_suffix printed_abstract
abstract-of a = Fold.abstract-of printing a

pub type_word-of : (t : TypeWord) → printed_type_word t
    ≡ printed_spec (out-TypeWord t).spec ++ printed_abstract (out-TypeWord t).declarator
unfolding printing printed_spec printed_abstract printed_type_word
type_word-of t = Fold.type_word-of printing t

pub expr-of : (e : Expr) → printed_expr e ≡ expr_step (expr_parts e)
unfolding printing expr_parts printed_direct printed_expr printed_param printed_params printed_spec printed_suffix
    printed_abstract printed_declarator printed_member printed_type_word
expr-of e = Fold.expr-of printing e

pub parts-at : (e : Expr) {layer : Node Trees Expr-F} → out-Expr e ≡ layer → expr_parts e ≡ with_results printed layer
unfolding expr_parts
parts-at e is = ap (with_results printed) is

-- an expression that isn't one token is printed in parentheses
enclosed-at : (e : Expr) (layer : Node Trees Expr-F) → e ≡ roll-Expr layer
    → ((x : List ℕ) → e ≡ expr.Identifier x → ⊥) → ((n : ℤ) → e ≡ expr.Number n → ⊥) → ((bytes : List ℕ) → e ≡ expr.Text bytes → ⊥)
    → expr_step (with_results printed layer) ≡ wrapped 1 (left_of_sign (with_results printed layer) ++ sign (with_results printed layer) ∷ right_of_sign (with_results printed layer))
enclosed-at e (Expr-F.Assign a op b) is name number text = refl
enclosed-at e (Expr-F.Conditional c a b) is name number text = refl
enclosed-at e (Expr-F.Binary a op b) is name number text = refl
enclosed-at e (Expr-F.Cast t a) is name number text = refl
enclosed-at e (Expr-F.PreIncrement a) is name number text = refl
enclosed-at e (Expr-F.PreDecrement a) is name number text = refl
enclosed-at e (Expr-F.Unary op a) is name number text = refl
enclosed-at e (Expr-F.SizeofExpr a) is name number text = refl
enclosed-at e (Expr-F.SizeofType t) is name number text = refl
enclosed-at e (Expr-F.Index a i) is name number text = refl
enclosed-at e (Expr-F.Call f es) is name number text = refl
enclosed-at e (Expr-F.Member a x) is name number text = refl
enclosed-at e (Expr-F.Arrow a x) is name number text = refl
enclosed-at e (Expr-F.PostIncrement a) is name number text = refl
enclosed-at e (Expr-F.PostDecrement a) is name number text = refl
enclosed-at e (Expr-F.Identifier x) is name number text = absurd (name x (is ∙ expr.rolls-Identifier x))
enclosed-at e (Expr-F.Number n) is name number text = absurd (number n (is ∙ expr.rolls-Number n))
enclosed-at e (Expr-F.Text bytes) is name number text = absurd (text bytes (is ∙ expr.rolls-Text bytes))

pub enclosed : (e : Expr) → ((x : List ℕ) → e ≡ expr.Identifier x → ⊥) → ((n : ℤ) → e ≡ expr.Number n → ⊥) → ((bytes : List ℕ) → e ≡ expr.Text bytes → ⊥)
    → expr_step (expr_parts e) ≡ wrapped 1 (left_of_sign (expr_parts e) ++ sign (expr_parts e) ∷ right_of_sign (expr_parts e))
unfolding expr_parts
enclosed e = enclosed-at e (out-Expr e) (sym (roll-out-Expr e))

-- stars or suffixes are printed in parentheses
pub declarator-enclosed : (stars : ℕ) (suffixes : List Suffix) (inside : Kinds) → HasParts stars suffixes
    → declarator_kinds stars inside (map printed_suffix suffixes) ≡ wrapped 1 (star_kinds stars ++ inside ++ joined (map printed_suffix suffixes))
declarator-enclosed zero [] inside (inl more) = absurd (omega (arith, more))
declarator-enclosed zero [] inside (inr some) = absurd (some refl)
declarator-enclosed zero (s ∷ ss) inside parts = refl
declarator-enclosed (suc n) ss inside parts = refl
