-- The walk of an expression finds types that pass, where the walks of its parts do.
use Rattle.std.proofs.Common.{List, [], ◌∷◌, map, sym, subst}
use Rattle.std.specs.List.{AllByRecursion}
use Rattle.c_tree.specs.declared.expression.Direct.TheOpen.{Expr-F}
use Rattle.c_tree.specs.declared.expression.Expr.{Expr, roll-Expr}
use Rattle.c_tree.specs.declared.expression.TypeWord.{TypeWord}
use Rattle.c_tree.specs.declared.operator.BinaryOperator.TheVariants as op
use Rattle.c_tree.specs.Fold.{Node, Plain, with_results}
use Rattle.c_typed.specs.declared.expression.TypedForm.TheVariants as form
use Rattle.c_scope.specs.declared.world.World.{World}
use Rattle.c_rules.specs.declared.place.Place.{Place}
use Rattle.c_rules.specs.declared.place.Place.TheVariants.{Callee, Value}
use Rattle.c_expr_typing.specs.Trees.{OfExpr, arguments, arms, called, cast_parts, expr_step, operands, walked}
use Rattle.c_typing_types.proofs.Claimed.{FindsExpr, FindsTypeWord, claims}
use Rattle.c_typing_types.proofs.Good.{Good}
use Rattle.c_typing_types.proofs.Nodes.{Held, bare_expr, walked-expr}
use Rattle.c_typing_types.proofs.Rules as rules
use Rattle.c_typing_types.proofs.Rules.{Ready, ReadyWord}
use Rattle.c_typing_types.proofs.Steps.{Goes, after, ends, under}
use Rattle.c_typing_types.proofs.TypedParts as parts

module _ (g : Good) where
  abbrev HeldExpr : Type 0
  HeldExpr = (t : Expr) × FindsExpr g t

  operands-go : (a b : HeldExpr) (w : World) → Goes g (Unit {0}) w (operands (walked.expr a.0) (walked.expr b.0) w) (λ r. Ready g r.0 × Ready g r.1)
  operands-go a b w =
      after g _ _ (a.1 Value w) (λ x v.
      after g _ _ (under g _ (λ known. tt) (b.1 Value v)) (λ y u.
      ends g (λ known fit. (known.0.1, known.1))))

  arms-go : (c a b : HeldExpr) (w : World) → Goes g (Unit {0}) w (arms (walked.expr c.0) (walked.expr a.0) (walked.expr b.0) w) (λ r. Ready g r.0 × Ready g r.1 × Ready g r.2)
  arms-go c a b w =
      after g _ _ (c.1 Value w) (λ t v.
      after g _ _ (under g _ (λ known. tt) (a.1 Value v)) (λ x u.
      after g _ _ (under g _ (λ known. tt) (b.1 Value u)) (λ y s.
      ends g (λ known fit. (known.0.0.1, known.0.1, known.1)))))

  cast_parts-go : (t : (t : TypeWord) × FindsTypeWord g t) (a : HeldExpr) (w : World)
      → Goes g (Unit {0}) w (cast_parts (walked.type_word t.0) (walked.expr a.0) w) (λ r. ReadyWord g r.0 × Ready g r.1)
  cast_parts-go t a w =
      after g _ _ (t.1 w) (λ x v.
      after g _ _ (under g _ (λ known. tt) (a.1 Value v)) (λ y u.
      ends g (λ known fit. (known.0.1, known.1))))

  arguments-go : (hs : List HeldExpr) (w : World) → Goes g (Unit {0}) w (arguments (map walked.expr (map (λ (h : HeldExpr). h.0) hs)) w) (λ ys. AllByRecursion (Ready g) ys)
  arguments-go [] w = ends g (λ known fit. tt)
  arguments-go (h ∷ hs) w =
      after g _ _ (h.1 Value w) (λ x v.
      after g _ _ (under g _ (λ known. tt) (arguments-go hs v)) (λ ys u.
      ends g (λ known fit. (known.0.1, known.1))))

  call-go : (f : HeldExpr) (hs : List HeldExpr) (w : World) → Goes g (Unit {0}) w (called (walked.expr f.0) (map walked.expr (map (λ (h : HeldExpr). h.0) hs)) w) (Ready g)
  call-go f hs w =
      after g _ _ (f.1 Callee w) (λ x v.
      after g _ _ (under g _ (λ known. tt) (arguments-go hs v)) (λ ys u.
      under g _ (λ known. (known.0.1, known.1)) (rules.call-goes g x ys u)))

  -- ---- each form

  by : (node : Node Plain Expr-F) → ((place : Place) (w : World) → Goes g (Unit {0}) w (expr_step (with_results walked node) place w) (Ready g)) → FindsExpr g (roll-Expr node)
  by node goes place w = subst (λ (p : OfExpr). Goes g (Unit {0}) w (p place w) (Ready g)) (sym (walked-expr node)) (goes place w)

  pub expr-goes : (y : Held (claims g) Expr-F) → FindsExpr g (roll-Expr (bare_expr (claims g) y))
  expr-goes (Expr-F.Assign a o b) = by (Expr-F.Assign a.0 o b.0) (λ place w.
      after g _ _ (operands-go a b w) (λ p v. under g _ (λ known. known.1) (rules.assignment-goes g p.0 p.1 o v)))
  expr-goes (Expr-F.Conditional c a b) = by (Expr-F.Conditional c.0 a.0 b.0) (λ place w.
      after g _ _ (arms-go c a b w) (λ p v. under g _ (λ known. known.1) (rules.conditional-goes g p.0 p.1 p.2 v)))
  expr-goes (Expr-F.Binary a o b) = by (Expr-F.Binary a.0 o b.0) (λ place w.
      after g _ _ (operands-go a b w) (λ p v. under g _ (λ known. known.1) (rules.binary-goes g p.0 p.1 o v)))
  expr-goes (Expr-F.Cast t a) = by (Expr-F.Cast t.0 a.0) (λ place w.
      after g _ _ (cast_parts-go t a w) (λ p v. under g _ (λ known. known.1) (rules.cast-goes g p.0 p.1 v)))
  expr-goes (Expr-F.PreIncrement a) = by (Expr-F.PreIncrement a.0) (λ place w.
      after g _ _ (a.1 Value w) (λ x v. under g _ (λ known. known.1) (rules.stepped-goes g op.Add form.PreIncrement x v (parts.form-PreIncrement g.good x))))
  expr-goes (Expr-F.PreDecrement a) = by (Expr-F.PreDecrement a.0) (λ place w.
      after g _ _ (a.1 Value w) (λ x v. under g _ (λ known. known.1) (rules.stepped-goes g op.Subtract form.PreDecrement x v (parts.form-PreDecrement g.good x))))
  expr-goes (Expr-F.Unary o a) = by (Expr-F.Unary o a.0) (λ place w.
      after g _ _ (a.1 Value w) (λ x v. under g _ (λ known. known.1) (rules.unary-goes g o x v)))
  expr-goes (Expr-F.SizeofExpr a) = by (Expr-F.SizeofExpr a.0) (λ place w.
      after g _ _ (a.1 Value w) (λ x v. under g _ (λ known. known.1) (rules.size_of_value-goes g x v)))
  expr-goes (Expr-F.SizeofType t) = by (Expr-F.SizeofType t.0) (λ place w.
      after g _ _ (t.1 w) (λ x v. under g _ (λ known. known.1) (rules.size_of_type-goes g x v)))
  expr-goes (Expr-F.Index a b) = by (Expr-F.Index a.0 b.0) (λ place w.
      after g _ _ (operands-go a b w) (λ p v. under g _ (λ known. known.1) (rules.index-goes g p.0 p.1 v)))
  expr-goes (Expr-F.Call f hs) = by (Expr-F.Call f.0 (map (λ (h : HeldExpr). h.0) hs)) (λ place w. call-go f hs w)
  expr-goes (Expr-F.Member a n) = by (Expr-F.Member a.0 n) (λ place w.
      after g _ _ (a.1 Value w) (λ x v. under g _ (λ known. known.1) (rules.member-goes g x n v)))
  expr-goes (Expr-F.Arrow a n) = by (Expr-F.Arrow a.0 n) (λ place w.
      after g _ _ (a.1 Value w) (λ x v. under g _ (λ known. known.1) (rules.arrow-goes g x n v)))
  expr-goes (Expr-F.PostIncrement a) = by (Expr-F.PostIncrement a.0) (λ place w.
      after g _ _ (a.1 Value w) (λ x v. under g _ (λ known. known.1) (rules.stepped-goes g op.Add form.PostIncrement x v (parts.form-PostIncrement g.good x))))
  expr-goes (Expr-F.PostDecrement a) = by (Expr-F.PostDecrement a.0) (λ place w.
      after g _ _ (a.1 Value w) (λ x v. under g _ (λ known. known.1) (rules.stepped-goes g op.Subtract form.PostDecrement x v (parts.form-PostDecrement g.good x))))
  expr-goes (Expr-F.Identifier x) = by (Expr-F.Identifier x) (λ place w. rules.identifier-goes g x place w)
  expr-goes (Expr-F.Number n) = by (Expr-F.Number n) (λ place w. rules.number-goes g n w)
  expr-goes (Expr-F.Text bytes) = by (Expr-F.Text bytes) (λ place w. rules.text-goes g bytes w)
