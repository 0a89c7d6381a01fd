-- The walk of an initialiser keeps it.
use Rattle.std.proofs.Common.{◌≡◌, ◌∙◌, ℕ, suc, Bool, List, [], ◌∷◌, map, Option, Some, None, refl, ap, sym, subst}
use Rattle.std.specs.Option.{option_and_then}
use Rattle.c_types.specs.declared.ty.Ty.{Ty}
use Rattle.c_tree.specs.declared.expression.Direct.TheOpen.{Expr-F}
use Rattle.c_tree.specs.declared.expression.Expr.{Expr, out-Expr, roll-Expr, roll-out-Expr}
use Rattle.c_tree.specs.declared.expression.Expr.TheVariants as expr
use Rattle.c_tree.specs.declared.statement.Init.{Init, roll-Init, map-Init, fold-roll-Init, ind-Init}
use Rattle.c_tree.specs.declared.statement.Init.TheOpen.{Init-F}
use Rattle.c_tree.specs.declared.statement.Init.TheVariants as raw_init
use Rattle.c_tree.specs.Fold.{Node, Plain}
use Rattle.c_typed.specs.declared.statement.TypedInit.{TypedInit, roll-TypedInit, map-TypedInit, fold-roll-TypedInit}
use Rattle.c_typed.specs.declared.statement.TypedInit.TheOpen.{TypedInit-F}
use Rattle.c_typed.specs.declared.statement.TypedInit.TheVariants as init
use Rattle.c_typed.specs.declared.expression.TypedExpr.{TypedExpr}
use Rattle.c_typed.specs.Erased.{erased_expr, erased_init, erased_init_node}
use Rattle.c_scope.specs.declared.world.World.{World}
use Rattle.c_scope.specs.Walk.{Outcome, each}
use Rattle.c_rules.specs.declared.place.Place.TheVariants.{Value}
use Rattle.c_typing_laws.specs.inner.WalkedTrees.{WalksKeepTrees}
use Rattle.c_expr_typing.specs.Trees.{typed_expr}
use Rattle.c_typing_laws.specs.inner.Yields.{Yields, after, at_once, whatever}
use Rattle.c_declaration_typing.specs.Initialisers.{OfInit, braces, char_bound, given_by, init_step, one_part, part_of, parts_from, text_at, text_of, typed_init}

-- ---- initialisers without their types

init-made : (node : TypedInit-F TypedInit) → erased_init (roll-TypedInit node) ≡ erased_init_node (map-TypedInit TypedInit Init erased_init node)
unfolding erased_init
init-made node = fold-roll-TypedInit Init erased_init_node node

init-Expr : (x : TypedExpr) → erased_init (init.Expr x) ≡ raw_init.Expr (erased_expr x)
init-Expr x = ap erased_init (sym (init.rolls-Expr x)) ∙ init-made (TypedInit-F.Expr x)

init-Text : (bytes : List ℕ) → erased_init (init.Text bytes) ≡ raw_init.Expr (expr.Text bytes)
init-Text bytes = ap erased_init (sym (init.rolls-Text bytes)) ∙ init-made (TypedInit-F.Text bytes)

init-Braces : (parts : List TypedInit) → erased_init (init.Braces parts) ≡ raw_init.Braces (map erased_init parts)
init-Braces parts = ap erased_init (sym (init.rolls-Braces parts)) ∙ init-made (TypedInit-F.Braces parts)

-- ---- an expression

abbrev string_node : List ℕ → Node Plain Expr-F
string_node bytes = Expr-F.Text bytes

-- an expression with these bytes is that string
text-node : (node : Node Plain Expr-F) (bytes : List ℕ) → text_at node ≡ Some bytes → node ≡ string_node bytes
text-node (Expr-F.Text more) bytes is = let same : more ≡ bytes = cc in ap string_node same
text-node _ bytes is = cc

text-is : (e : Expr) (bytes : List ℕ) → text_of e ≡ Some bytes → expr.Text bytes ≡ e
unfolding text_of
text-is e bytes is = sym (expr.rolls-Text bytes) ∙ ap roll-Expr (sym (text-node (out-Expr e) bytes is)) ∙ roll-out-Expr e

abbrev Keeps : Outcome (TypedInit × World) → Init → Type 0
Keeps o i = Yields o (λ x. erased_init x ≡ i)

module _ (laws : WalksKeepTrees) where
  pub expr-yields : (e : Expr) (w : World) → Yields (typed_expr e Value w) (λ x. erased_expr x ≡ e)
  expr-yields e w = record { found = λ r is. laws.expression e Value w r.1 r.0 is }

  given-keeps : (is_global : Bool) (to : Option Ty) (e : Expr) (o : Option (List ℕ)) (n : Option ℕ) → text_of e ≡ o → (w : World)
      → Keeps (given_by is_global to e o n w) (raw_init.Expr e)
  given-keeps is_global to e (Some bytes) (Some n) is w =
      whatever _ _ (λ _ v. at_once (init-Text bytes ∙ ap raw_init.Expr (text-is e bytes is)))
  given-keeps is_global to e (Some bytes) None is w =
      after _ _ (expr-yields e w) (λ x v same. whatever _ _ (λ _ u. at_once (init-Expr x ∙ ap raw_init.Expr same)))
  given-keeps is_global to e None n is w =
      after _ _ (expr-yields e w) (λ x v same. whatever _ _ (λ _ u. at_once (init-Expr x ∙ ap raw_init.Expr same)))

  -- ---- parts, and whole initialisers

  module _ (is_global : Bool) where
    abbrev KeepsInit : Init → Type 0
    KeepsInit i = (to : Option Ty) (w : World) → Keeps (typed_init is_global i to w) i

    abbrev KeptInit : Type 0
    KeptInit = (i : Init) × KeepsInit i

    parts-keep : (i : ℕ) (to : Option Ty) (hs : List KeptInit) (w : World)
        → Yields (each (parts_from i to (map (typed_init is_global) (map (λ (h : KeptInit). h.0) hs))) w) (λ xs. map erased_init xs ≡ map (λ (h : KeptInit). h.0) hs)
    parts-keep i to [] w = at_once refl
    parts-keep i to (h ∷ hs) w =
        after (one_part i to (typed_init is_global h.0) w) _ (h.1 (option_and_then (part_of w.structs i) to) w) (λ x v first.
        after _ _ (parts-keep (suc i) to hs v) (λ xs u rest.
        at_once (ap (λ t. t ∷ map erased_init xs) first ∙ ap (λ ts. h.0 ∷ ts) rest)))

    braces-keep : (to : Option Ty) (hs : List KeptInit) (w : World)
        → Keeps (braces to (map (typed_init is_global) (map (λ (h : KeptInit). h.0) hs)) w) (raw_init.Braces (map (λ (h : KeptInit). h.0) hs))
    braces-keep to hs w =
        after _ _ (parts-keep 0 to hs w) (λ xs v is.
        whatever _ _ (λ _ u. at_once (init-Braces xs ∙ ap raw_init.Braces is)))

    abbrev bare : Init-F KeptInit → Init-F Init
    bare y = map-Init KeptInit Init (λ h. h.0) y

    walked : (node : Init-F Init) → typed_init is_global (roll-Init node) ≡ init_step is_global (map-Init Init OfInit (typed_init is_global) node)
    unfolding typed_init
    walked node = fold-roll-Init OfInit (init_step is_global) node

    by : (node : Init-F Init) (i : Init) → roll-Init node ≡ i
        → ((to : Option Ty) (w : World) → Keeps (init_step is_global (map-Init Init OfInit (typed_init is_global) node) to w) i) → KeepsInit (roll-Init node)
    by node i is keeps to w =
        subst (λ t. Keeps (typed_init is_global (roll-Init node) to w) t) (sym is)
        (subst (λ (p : OfInit). Keeps (p to w) i) (sym (walked node)) (keeps to w))

    kept : (y : Init-F KeptInit) → KeepsInit (roll-Init (bare y))
    kept (Init-F.Expr e) = by (Init-F.Expr e) _ (raw_init.rolls-Expr e) (λ to w. given-keeps is_global to e (text_of e) (option_and_then char_bound to) refl w)
    kept (Init-F.Braces hs) = by (Init-F.Braces (map (λ (h : KeptInit). h.0) hs)) _ (raw_init.rolls-Braces (map (λ (h : KeptInit). h.0) hs)) (λ to w. braces-keep to hs w)

    pub init-keeps : (i : Init) → KeepsInit i
    init-keeps = ind-Init KeepsInit (λ x y is. subst (λ z. KeepsInit (roll-Init z)) is (kept y))
