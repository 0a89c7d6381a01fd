-- The walk of an expression finds what meets its rows, where the walks of its parts do.
use Rattle.std.proofs.Common.{◌≡◌, ℕ, List, [], ◌∷◌, map, Some, slice_get, refl, sym, subst}
use Rattle.std.specs.List.{AllByRecursion}
use Rattle.c_tree.specs.declared.expression.Direct.TheOpen.{Expr-F}
use Rattle.c_tree.specs.declared.expression.Expr.{roll-Expr}
use Rattle.c_tree.specs.declared.operator.BinaryOperator.TheVariants as op
use Rattle.c_tree.specs.Fold.{Node, Plain, with_results}
use Rattle.c_types.specs.declared.ty.Ty.{Ty}
use Rattle.c_types.specs.Theorems.{TablesGrow, UnitsStay}
use Rattle.c_typed.specs.declared.expression.TypedDirect.TheOpen.{TypedForm-F}
use Rattle.c_typed.specs.declared.expression.TypedExpr.{TypedExpr}
use Rattle.c_typed.specs.declared.expression.TypedForm.TheVariants as form
use Rattle.c_scope.specs.declared.scopes.Binding.{Binding}
use Rattle.c_scope.specs.declared.world.World.{World}
use Rattle.c_rules.specs.declared.place.Place.{Place}
use Rattle.c_rules.specs.declared.place.Place.TheVariants.{Callee, Value}
use Rattle.c_expr_typing.specs.Trees.{OfExpr, arguments, arms, called, cast_parts, expr_step, operands, walked}
use Rattle.c_typed_rows.specs.Contexts.{Context, global_type}
use Rattle.c_typed_rows.specs.Expressions.{is_value}
use Rattle.c_typing_laws.specs.inner.Goes.{Goes, after, ends, weaker}
use Rattle.c_typing_laws.specs.inner.TypedTrees.{IsTypedTypeWord}
use Rattle.c_typing_laws.proofs.KeptNodes.{walked-expr}
use Rattle.c_typing_laws.proofs.MetNodes.{MeetsExpr, Met, MetExpr, MetTypeWord, plain_expr}
use Rattle.c_typing_laws.proofs.RulesMeetRows as rules
use Rattle.c_typing_laws.proofs.TypedParts as parts
use Rattle.c_typing_laws.proofs.WorldSteps.{quiet}

module _ (stay : UnitsStay) (grow : TablesGrow) (k : Context) (gs : List Ty) (ahead : (n : ℕ) (t : Ty) → slice_get gs n ≡ Some t → global_type k n ≡ Some t) where
  module _ (ss : List (List Binding)) (ls : List Ty) where
    abbrev Here : World → Type 0
    Here w = rules.Here stay grow k gs ahead ss ls w

    abbrev Ready : TypedExpr → Type 0
    Ready = rules.Ready stay grow k gs ahead ss ls

    operands-go : (a b : MetExpr stay grow k gs ahead) (w : World) → Here w → Goes k gs quiet w (operands (walked.expr a.0) (walked.expr b.0) w) (λ r. Ready r.0 × Ready r.1)
    operands-go a b w here =
        after k gs _ _ (a.1 ss ls Value w here) (λ x v q.
        after k gs _ _ (b.1 ss ls Value v (rules.here-later stay grow k gs ahead ss ls w v q here)) (λ y u r.
        ends k gs (λ below hy hx. (hx, hy))))

    arms-go : (c a b : MetExpr stay grow k gs ahead) (w : World) → Here w → Goes k gs quiet w (arms (walked.expr c.0) (walked.expr a.0) (walked.expr b.0) w) (λ r. Ready r.0 × Ready r.1 × Ready r.2)
    arms-go c a b w here =
        after k gs _ _ (c.1 ss ls Value w here) (λ t v q.
        let there = rules.here-later stay grow k gs ahead ss ls w v q here in
        after k gs _ _ (a.1 ss ls Value v there) (λ x u r.
        after k gs _ _ (b.1 ss ls Value u (rules.here-later stay grow k gs ahead ss ls v u r there)) (λ y s m.
        ends k gs (λ below hy hx ht. (ht, hx, hy)))))

    cast_parts-go : (t : MetTypeWord stay grow k gs ahead) (a : MetExpr stay grow k gs ahead) (w : World) → Here w
        → Goes k gs quiet w (cast_parts (walked.type_word t.0) (walked.expr a.0) w) (λ r. IsTypedTypeWord k r.0 × Ready r.1)
    cast_parts-go t a w here =
        after k gs _ _ (t.1 w) (λ x v q.
        after k gs _ _ (a.1 ss ls Value v (rules.here-later stay grow k gs ahead ss ls w v q here)) (λ y u r.
        ends k gs (λ below hy hx. (hx, hy))))

    arguments-go : (hs : List (MetExpr stay grow k gs ahead)) (w : World) → Here w
        → Goes k gs quiet w (arguments (map walked.expr (map (λ (h : MetExpr stay grow k gs ahead). h.0) hs)) w) (λ ys. AllByRecursion Ready ys)
    arguments-go [] w here = ends k gs (λ below. tt)
    arguments-go (h ∷ hs) w here =
        after k gs _ _ (h.1 ss ls Value w here) (λ x v q.
        after k gs _ _ (arguments-go hs v (rules.here-later stay grow k gs ahead ss ls w v q here)) (λ ys u r.
        ends k gs (λ below hys hx. (hx, hys))))

    call-go : (f : MetExpr stay grow k gs ahead) (hs : List (MetExpr stay grow k gs ahead)) (w : World) → Here w
        → Goes k gs quiet w (called (walked.expr f.0) (map walked.expr (map (λ (h : MetExpr stay grow k gs ahead). h.0) hs)) w) Ready
    call-go f hs w here =
        after k gs _ _ (f.1 ss ls Callee w here) (λ x v q.
        after k gs _ _ (arguments-go hs v (rules.here-later stay grow k gs ahead ss ls w v q here)) (λ ys u r.
        weaker k gs _ (λ z holds hys hx. holds (hx, hys)) (rules.call-goes stay grow k gs ahead ss ls x ys u)))

  -- ---- each form

  by : (node : Node Plain Expr-F)
      → ((ss : List (List Binding)) (ls : List Ty) (place : Place) (w : World) → rules.Here stay grow k gs ahead ss ls w → Goes k gs quiet w (expr_step (with_results walked node) place w) (rules.FoundAt stay grow k gs ahead ss ls place))
      → MeetsExpr stay grow k gs ahead (roll-Expr node)
  by node meets ss ls place w here =
      subst (λ (p : OfExpr). Goes k gs quiet w (p place w) (rules.FoundAt stay grow k gs ahead ss ls place)) (sym (walked-expr node)) (meets ss ls place w here)

  -- of a form that is no name
  as_value : (node : Node Plain Expr-F)
      → ((ss : List (List Binding)) (ls : List Ty) (place : Place) (w : World) → rules.Here stay grow k gs ahead ss ls w → Goes k gs quiet w (expr_step (with_results walked node) place w) (rules.Ready stay grow k gs ahead ss ls))
      → MeetsExpr stay grow k gs ahead (roll-Expr node)
  as_value node meets = by node (λ ss ls place w here. weaker k gs _ (rules.ready-at stay grow k gs ahead ss ls place) (meets ss ls place w here))

  pub expr-met : (y : Met stay grow k gs ahead Expr-F) → MeetsExpr stay grow k gs ahead (roll-Expr (plain_expr stay grow k gs ahead y))
  expr-met (Expr-F.Assign a o b) = as_value (Expr-F.Assign a.0 o b.0) (λ ss ls place w here.
      after k gs _ _ (operands-go ss ls a b w here) (λ p v q. rules.assignment-goes stay grow k gs ahead ss ls p.0 p.1 o v))
  expr-met (Expr-F.Conditional c a b) = as_value (Expr-F.Conditional c.0 a.0 b.0) (λ ss ls place w here.
      after k gs _ _ (arms-go ss ls c a b w here) (λ p v q. rules.conditional-goes stay grow k gs ahead ss ls p.0 p.1 p.2 v))
  expr-met (Expr-F.Binary a o b) = as_value (Expr-F.Binary a.0 o b.0) (λ ss ls place w here.
      after k gs _ _ (operands-go ss ls a b w here) (λ p v q. rules.binary-goes stay grow k gs ahead ss ls p.0 p.1 o v))
  expr-met (Expr-F.Cast t a) = as_value (Expr-F.Cast t.0 a.0) (λ ss ls place w here.
      after k gs _ _ (cast_parts-go ss ls t a w here) (λ p v q. rules.cast-goes stay grow k gs ahead ss ls p.0 p.1 v))
  expr-met (Expr-F.PreIncrement a) = as_value (Expr-F.PreIncrement a.0) (λ ss ls place w here.
      after k gs _ _ (a.1 ss ls Value w here) (λ x v q. rules.stepped-goes stay grow k gs ahead ss ls op.Add form.PreIncrement TypedForm-F.PreIncrement x v (form.outs-PreIncrement x) refl tt (parts.form-PreIncrement k x)
      (λ t row hx. record { row = (row, refl); values = rules.one_true (is_value x) hx.value })))
  expr-met (Expr-F.PreDecrement a) = as_value (Expr-F.PreDecrement a.0) (λ ss ls place w here.
      after k gs _ _ (a.1 ss ls Value w here) (λ x v q. rules.stepped-goes stay grow k gs ahead ss ls op.Subtract form.PreDecrement TypedForm-F.PreDecrement x v (form.outs-PreDecrement x) refl tt (parts.form-PreDecrement k x)
      (λ t row hx. record { row = (row, refl); values = rules.one_true (is_value x) hx.value })))
  expr-met (Expr-F.Unary o a) = as_value (Expr-F.Unary o a.0) (λ ss ls place w here.
      after k gs _ _ (a.1 ss ls Value w here) (λ x v q. rules.unary-goes stay grow k gs ahead ss ls o x v (rules.here-later stay grow k gs ahead ss ls w v q here)))
  expr-met (Expr-F.SizeofExpr a) = as_value (Expr-F.SizeofExpr a.0) (λ ss ls place w here.
      after k gs _ _ (a.1 ss ls Value w here) (λ x v q. rules.size_of_value-goes stay grow k gs ahead ss ls x v))
  expr-met (Expr-F.SizeofType t) = as_value (Expr-F.SizeofType t.0) (λ ss ls place w here.
      after k gs _ _ (t.1 w) (λ x v q. rules.size_of_type-goes stay grow k gs ahead ss ls x v))
  expr-met (Expr-F.Index a b) = as_value (Expr-F.Index a.0 b.0) (λ ss ls place w here.
      after k gs _ _ (operands-go ss ls a b w here) (λ p v q. rules.index-goes stay grow k gs ahead ss ls p.0 p.1 v))
  expr-met (Expr-F.Call f hs) = as_value (Expr-F.Call f.0 (map (λ (h : MetExpr stay grow k gs ahead). h.0) hs)) (λ ss ls place w here. call-go ss ls f hs w here)
  expr-met (Expr-F.Member a n) = as_value (Expr-F.Member a.0 n) (λ ss ls place w here.
      after k gs _ _ (a.1 ss ls Value w here) (λ x v q. rules.member-goes stay grow k gs ahead ss ls x n v))
  expr-met (Expr-F.Arrow a n) = as_value (Expr-F.Arrow a.0 n) (λ ss ls place w here.
      after k gs _ _ (a.1 ss ls Value w here) (λ x v q. rules.arrow-goes stay grow k gs ahead ss ls x n v))
  expr-met (Expr-F.PostIncrement a) = as_value (Expr-F.PostIncrement a.0) (λ ss ls place w here.
      after k gs _ _ (a.1 ss ls Value w here) (λ x v q. rules.stepped-goes stay grow k gs ahead ss ls op.Add form.PostIncrement TypedForm-F.PostIncrement x v (form.outs-PostIncrement x) refl tt (parts.form-PostIncrement k x)
      (λ t row hx. record { row = (row, refl); values = rules.one_true (is_value x) hx.value })))
  expr-met (Expr-F.PostDecrement a) = as_value (Expr-F.PostDecrement a.0) (λ ss ls place w here.
      after k gs _ _ (a.1 ss ls Value w here) (λ x v q. rules.stepped-goes stay grow k gs ahead ss ls op.Subtract form.PostDecrement TypedForm-F.PostDecrement x v (form.outs-PostDecrement x) refl tt (parts.form-PostDecrement k x)
      (λ t row hx. record { row = (row, refl); values = rules.one_true (is_value x) hx.value })))
  expr-met (Expr-F.Identifier x) = by (Expr-F.Identifier x) (λ ss ls place w here. rules.identifier-goes stay grow k gs ahead ss ls x place w here)
  expr-met (Expr-F.Number n) = as_value (Expr-F.Number n) (λ ss ls place w here. rules.number-goes stay grow k gs ahead ss ls n w)
  expr-met (Expr-F.Text bytes) = as_value (Expr-F.Text bytes) (λ ss ls place w here. rules.text-goes stay grow k gs ahead ss ls bytes w)
