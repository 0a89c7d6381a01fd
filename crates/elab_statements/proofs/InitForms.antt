-- The leaves of each form of an initialiser.
use Rattle.std.proofs.Common.{◌≡◌, ◌∙◌, ℕ, List, [], ◌∷◌, ◌++◌, map, ap, sym}
use Rattle.c_types.specs.declared.structs.StructDef.{StructDef}
use Rattle.c_types.specs.declared.ty.Ty.{Ty}
use Rattle.c_typed.specs.declared.expression.TypedExpr.{TypedExpr}
use Rattle.c_typed.specs.declared.statement.TypedInit.{TypedInit, fold-roll-TypedInit}
use Rattle.c_typed.specs.declared.statement.TypedInit.TheOpen.{TypedInit-F}
use Rattle.c_typed.specs.declared.statement.TypedInit.TheVariants as init
use Rattle.elab_rows.specs.Units.{scalars}
use Rattle.elab_pieces.specs.Initialisers.{ByExpr, Leaves, brace_leaves, leaf, leaves, leaves_step, part_types, text_leaves}

module _ (defs : List StructDef) where
  pub leaves-Expr : (e : TypedExpr) (t : Ty) (k : ℕ) → leaves defs (init.Expr e) t k ≡ leaf k t (ByExpr e) ∷ []
  unfolding leaves
  leaves-Expr e t k = ap (λ i. leaves defs i t k) (sym (init.rolls-Expr e)) ∙ ap (λ f. f t k) (fold-roll-TypedInit Leaves (leaves_step defs) (TypedInit-F.Expr e))

  pub leaves-Text : (bytes : List ℕ) (t : Ty) (k : ℕ) → leaves defs (init.Text bytes) t k ≡ text_leaves (bytes ++ 0 ∷ []) (scalars defs t) k
  unfolding leaves
  leaves-Text bytes t k = ap (λ i. leaves defs i t k) (sym (init.rolls-Text bytes)) ∙ ap (λ f. f t k) (fold-roll-TypedInit Leaves (leaves_step defs) (TypedInit-F.Text bytes))

  pub leaves-Braces : (parts : List TypedInit) (t : Ty) (k : ℕ)
      → leaves defs (init.Braces parts) t k ≡ brace_leaves defs (map (leaves defs) parts) (part_types defs t) k
  unfolding leaves
  leaves-Braces parts t k = ap (λ i. leaves defs i t k) (sym (init.rolls-Braces parts)) ∙ ap (λ f. f t k) (fold-roll-TypedInit Leaves (leaves_step defs) (TypedInit-F.Braces parts))

pub ruleset parts = (leaves-Expr, leaves-Text, leaves-Braces)
