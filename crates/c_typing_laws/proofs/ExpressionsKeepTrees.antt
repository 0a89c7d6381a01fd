-- The walk of an expression keeps it where the walks of its parts keep them.
use Rattle.std.proofs.Common.{◌≡◌, ◌∙◌, List, [], ◌∷◌, map, refl, ap, sym, subst}
use Rattle.c_tree.specs.declared.expression.Direct.TheOpen.{Expr-F}
use Rattle.c_tree.specs.declared.expression.Expr.{Expr, roll-Expr}
use Rattle.c_tree.specs.declared.expression.Expr.TheVariants as expr
use Rattle.c_tree.specs.declared.expression.TypeWord.{TypeWord}
use Rattle.c_tree.specs.declared.operator.BinaryOperator.TheVariants as op
use Rattle.c_tree.specs.Fold.{Node, Plain, with_results}
use Rattle.c_typed.specs.declared.expression.TypedExpr.{TypedExpr}
use Rattle.c_typed.specs.declared.expression.TypedForm.TheVariants as form
use Rattle.c_typed.specs.declared.expression.TypedTypeWord.{TypedTypeWord}
use Rattle.c_typed.specs.Erased.{erased_expr}
use Rattle.c_scope.specs.declared.world.World.{World}
use Rattle.c_scope.specs.Walk.{Walk, each}
use Rattle.c_rules.specs.declared.place.Place.{Place}
use Rattle.c_rules.specs.declared.place.Place.TheVariants.{Callee, Value}
use Rattle.c_expr_typing.specs.Trees.{OfExpr, arguments, arms, called, cast_parts, expr_step, operands, walked}
use Rattle.c_typing_laws.specs.inner.ErasedForms as erased
use Rattle.c_typing_laws.specs.inner.ErasedTrees.{type_word_tree}
use Rattle.c_typing_laws.specs.inner.Yields.{Yields, after, at_once, each_yields}
use Rattle.c_typing_laws.proofs.KeptNodes.{Kept, KeepsExpr, KeptExpr, bare_expr, walked-expr}
use Rattle.c_typing_laws.proofs.RulesKeepForms as rules
use Rattle.c_typing_laws.proofs.RulesKeepForms.{Keeps}

-- ---- the parts

abbrev Keeping : OfExpr → Expr → Type 0
Keeping p e = (place : Place) (w : World) → Keeps (p place w) e

abbrev BothKept : Expr → Expr → TypedExpr × TypedExpr → Type 0
BothKept a b r = (erased_expr r.0 ≡ a) × (erased_expr r.1 ≡ b)

operands-keep : (p q : OfExpr) (a b : Expr) → Keeping p a → Keeping q b → (w : World) → Yields (operands p q w) (BothKept a b)
operands-keep p q a b first second w =
    after (p Value w) _ (first Value w) (λ x v is.
    after (q Value v) _ (second Value v) (λ y u also.
    at_once (is, also)))

abbrev AllKept : Expr → Expr → Expr → TypedExpr × TypedExpr × TypedExpr → Type 0
AllKept c a b r = (erased_expr r.0 ≡ c) × (erased_expr r.1 ≡ a) × (erased_expr r.2 ≡ b)

arms-keep : (o p q : OfExpr) (c a b : Expr) → Keeping o c → Keeping p a → Keeping q b → (w : World) → Yields (arms o p q w) (AllKept c a b)
arms-keep o p q c a b test first second w =
    after (o Value w) _ (test Value w) (λ t v holds.
    after (p Value v) _ (first Value v) (λ x u is.
    after (q Value u) _ (second Value u) (λ y s also.
    at_once (holds, is, also))))

abbrev WordKept : TypeWord → Expr → TypedTypeWord × TypedExpr → Type 0
WordKept t a r = (type_word_tree r.0 ≡ t) × (erased_expr r.1 ≡ a)

cast_parts-keep : (p : Walk TypedTypeWord) (q : OfExpr) (t : TypeWord) (a : Expr)
    → ((w : World) → Yields (p w) (λ x. type_word_tree x ≡ t)) → Keeping q a
    → (w : World) → Yields (cast_parts p q w) (WordKept t a)
cast_parts-keep p q t a first second w =
    after (p w) _ (first w) (λ x v is.
    after (q Value v) _ (second Value v) (λ y u also.
    at_once (is, also)))

fused : (hs : List KeptExpr) → map (λ (e : OfExpr). e Value) (map walked.expr (map (λ (h : KeptExpr). h.0) hs)) ≡ map (λ (h : KeptExpr). walked.expr h.0 Value) hs
fused [] = refl
fused (h ∷ hs) = ap (λ (ps : List (Walk TypedExpr)). walked.expr h.0 Value ∷ ps) (fused hs)

arguments-keep : (hs : List KeptExpr) (w : World)
    → Yields (arguments (map walked.expr (map (λ (h : KeptExpr). h.0) hs)) w) (λ ys. map erased_expr ys ≡ map (λ (h : KeptExpr). h.0) hs)
arguments-keep hs w =
    subst (λ (ps : List (Walk TypedExpr)). Yields (each ps w) (λ ys. map erased_expr ys ≡ map (λ (h : KeptExpr). h.0) hs)) (sym (fused hs))
    (each_yields erased_expr (λ (h : KeptExpr). h.0) (λ h. walked.expr h.0 Value) (λ h v. h.1 Value v) hs w)

call-keeps : (f : KeptExpr) (hs : List KeptExpr) (w : World)
    → Keeps (called (walked.expr f.0) (map walked.expr (map (λ (h : KeptExpr). h.0) hs)) w) (expr.Call f.0 (map (λ (h : KeptExpr). h.0) hs))
call-keeps f hs w =
    after (walked.expr f.0 Callee w) _ (f.1 Callee w) (λ x v is.
    after (arguments (map walked.expr (map (λ (h : KeptExpr). h.0) hs)) v) _ (arguments-keep hs v) (λ ys u also.
    rules.call-keeps x f.0 is u ys (map (λ (h : KeptExpr). h.0) hs) also))

-- ---- each form

by : (node : Node Plain Expr-F) (e : Expr) → roll-Expr node ≡ e
    → ((place : Place) (w : World) → Keeps (expr_step (with_results walked node) place w) e) → KeepsExpr (roll-Expr node)
by node e is keeps place w =
    subst (λ t. Keeps (walked.expr (roll-Expr node) place w) t) (sym is)
    (subst (λ (p : OfExpr). Keeps (p place w) e) (sym (walked-expr node)) (keeps place w))

pub expr-kept : (y : Kept Expr-F) → KeepsExpr (roll-Expr (bare_expr y))
expr-kept (Expr-F.Assign a o b) = by (Expr-F.Assign a.0 o b.0) _ (expr.rolls-Assign a.0 o b.0) (λ place w.
    after _ _ (operands-keep (walked.expr a.0) (walked.expr b.0) a.0 b.0 a.1 b.1 w) (λ p v is. rules.assignment-keeps p.0 a.0 is.0 v p.1 b.0 is.1 o))
expr-kept (Expr-F.Conditional c a b) = by (Expr-F.Conditional c.0 a.0 b.0) _ (expr.rolls-Conditional c.0 a.0 b.0) (λ place w.
    after _ _ (arms-keep (walked.expr c.0) (walked.expr a.0) (walked.expr b.0) c.0 a.0 b.0 c.1 a.1 b.1 w) (λ p v is.
    rules.conditional-keeps p.0 c.0 is.0 v p.1 a.0 is.1 p.2 b.0 is.2))
expr-kept (Expr-F.Binary a o b) = by (Expr-F.Binary a.0 o b.0) _ (expr.rolls-Binary a.0 o b.0) (λ place w.
    after _ _ (operands-keep (walked.expr a.0) (walked.expr b.0) a.0 b.0 a.1 b.1 w) (λ p v is. rules.binary-keeps p.0 a.0 is.0 v p.1 b.0 is.1 o))
expr-kept (Expr-F.Cast t a) = by (Expr-F.Cast t.0 a.0) _ (expr.rolls-Cast t.0 a.0) (λ place w.
    after _ _ (cast_parts-keep (walked.type_word t.0) (walked.expr a.0) t.0 a.0 t.1 a.1 w) (λ p v is. rules.cast-keeps p.1 a.0 is.1 v p.0 t.0 is.0))
expr-kept (Expr-F.PreIncrement a) = by (Expr-F.PreIncrement a.0) _ (expr.rolls-PreIncrement a.0) (λ place w.
    after _ _ (a.1 Value w) (λ x v is. rules.stepped-keeps x a.0 is v op.Add form.PreIncrement (expr.PreIncrement a.0) (erased.form-PreIncrement x ∙ ap expr.PreIncrement is)))
expr-kept (Expr-F.PreDecrement a) = by (Expr-F.PreDecrement a.0) _ (expr.rolls-PreDecrement a.0) (λ place w.
    after _ _ (a.1 Value w) (λ x v is. rules.stepped-keeps x a.0 is v op.Subtract form.PreDecrement (expr.PreDecrement a.0) (erased.form-PreDecrement x ∙ ap expr.PreDecrement is)))
expr-kept (Expr-F.Unary o a) = by (Expr-F.Unary o a.0) _ (expr.rolls-Unary o a.0) (λ place w.
    after _ _ (a.1 Value w) (λ x v is. rules.unary-keeps x a.0 is v o))
expr-kept (Expr-F.SizeofExpr a) = by (Expr-F.SizeofExpr a.0) _ (expr.rolls-SizeofExpr a.0) (λ place w.
    after _ _ (a.1 Value w) (λ x v is. rules.size_of_value-keeps x a.0 is v))
expr-kept (Expr-F.SizeofType t) = by (Expr-F.SizeofType t.0) _ (expr.rolls-SizeofType t.0) (λ place w.
    after _ _ (t.1 w) (λ x v is. rules.size_of_type-keeps x t.0 is v))
expr-kept (Expr-F.Index a b) = by (Expr-F.Index a.0 b.0) _ (expr.rolls-Index a.0 b.0) (λ place w.
    after _ _ (operands-keep (walked.expr a.0) (walked.expr b.0) a.0 b.0 a.1 b.1 w) (λ p v is. rules.index-keeps p.0 a.0 is.0 v p.1 b.0 is.1))
expr-kept (Expr-F.Call f hs) = by (Expr-F.Call f.0 (map (λ (h : KeptExpr). h.0) hs)) _ (expr.rolls-Call f.0 (map (λ (h : KeptExpr). h.0) hs)) (λ place w. call-keeps f hs w)
expr-kept (Expr-F.Member a n) = by (Expr-F.Member a.0 n) _ (expr.rolls-Member a.0 n) (λ place w.
    after _ _ (a.1 Value w) (λ x v is. rules.member-keeps x a.0 is v n))
expr-kept (Expr-F.Arrow a n) = by (Expr-F.Arrow a.0 n) _ (expr.rolls-Arrow a.0 n) (λ place w.
    after _ _ (a.1 Value w) (λ x v is. rules.arrow-keeps x a.0 is v n))
expr-kept (Expr-F.PostIncrement a) = by (Expr-F.PostIncrement a.0) _ (expr.rolls-PostIncrement a.0) (λ place w.
    after _ _ (a.1 Value w) (λ x v is. rules.stepped-keeps x a.0 is v op.Add form.PostIncrement (expr.PostIncrement a.0) (erased.form-PostIncrement x ∙ ap expr.PostIncrement is)))
expr-kept (Expr-F.PostDecrement a) = by (Expr-F.PostDecrement a.0) _ (expr.rolls-PostDecrement a.0) (λ place w.
    after _ _ (a.1 Value w) (λ x v is. rules.stepped-keeps x a.0 is v op.Subtract form.PostDecrement (expr.PostDecrement a.0) (erased.form-PostDecrement x ∙ ap expr.PostDecrement is)))
expr-kept (Expr-F.Identifier x) = by (Expr-F.Identifier x) _ (expr.rolls-Identifier x) (λ place w. rules.identifier-keeps x place w)
expr-kept (Expr-F.Number n) = by (Expr-F.Number n) _ (expr.rolls-Number n) (λ place w. rules.number-keeps n w)
expr-kept (Expr-F.Text bytes) = by (Expr-F.Text bytes) _ (expr.rolls-Text bytes) (λ place w. rules.text-keeps bytes w)
