-- The walk of an initialiser finds types that pass.
use Rattle.std.proofs.Common.{◌≡◌, ◌||◌, ℕ, suc, Bool, not, nat_lt, List, [], ◌∷◌, length, map, Option, Some, None, refl, sym, subst}
use Rattle.std.specs.List.{AllByRecursion}
use Rattle.std.specs.Option.{option_and_then}
use Rattle.c_types.specs.declared.ty.Ty.{Ty}
use Rattle.c_tree.specs.declared.expression.Expr.{Expr}
use Rattle.c_tree.specs.declared.statement.Init.{Init, fold-roll-Init, ind-Init, map-Init, roll-Init}
use Rattle.c_tree.specs.declared.statement.Init.TheOpen.{Init-F}
use Rattle.c_typed.specs.declared.expression.TypedExpr.{TypedExpr}
use Rattle.c_typed.specs.declared.statement.TypedInit.{TypedInit, every-TypedInit, every_made-TypedInit}
use Rattle.c_typed.specs.declared.statement.TypedInit.TheOpen.{TypedInit-F}
use Rattle.c_typed.specs.declared.statement.TypedInit.TheVariants as init
use Rattle.c_scope.specs.declared.rule.Rule.TheVariants as broken
use Rattle.c_scope.specs.declared.world.World.{World}
use Rattle.c_scope.specs.Walk.{each}
use Rattle.c_operators.specs.Operators.{converts, takes_value}
use Rattle.c_rules.specs.declared.place.Place.TheVariants.{Value}
use Rattle.c_declaration_typing.specs.Initialisers.{OfInit, braces, char_bound, given_by, given_text, given_value, has_parts, init_step, leaf_rules, one_part, part_of, parts_from, parts_rule, text_of, typed_init, value_rules}
use Rattle.c_declaration_typing.specs.Leaves.{is_constant_leaf}
use Rattle.c_typed_rows.specs.Types.{ExprTypes, InitLevel}
use Rattle.c_typing_types.proofs.Good.{Good}
use Rattle.c_typing_types.proofs.Steps.{Goes, after, ends, rule-goes, ruled, under}
use Rattle.c_typing_types.proofs.TypedParts.{of_held}
use Rattle.c_typing_types.proofs.Walks.{expr-finds}

module _ (g : Good) where
  abbrev pub InitTypes : TypedInit → Type 0
  InitTypes = every-TypedInit (InitLevel g.good)

  types-Expr : (x : TypedExpr) → ExprTypes g.good x → InitTypes (init.Expr x)
  types-Expr x h = subst InitTypes (init.rolls-Expr x) (every_made-TypedInit (InitLevel g.good) (TypedInit-F.Expr x) (TypedInit-F.Expr x) refl h)

  types-Text : (bytes : List ℕ) → InitTypes (init.Text bytes)
  types-Text bytes = subst InitTypes (init.rolls-Text bytes) (every_made-TypedInit (InitLevel g.good) (TypedInit-F.Text bytes) (TypedInit-F.Text bytes) refl tt)

  types_held : (hs : List ((x : TypedInit) × InitTypes x)) → InitTypes (init.Braces (map (λ h. h.0) hs))
  types_held hs = subst InitTypes (init.rolls-Braces (map (λ h. h.0) hs)) (every_made-TypedInit (InitLevel g.good) (TypedInit-F.Braces (map (λ h. h.0) hs)) (TypedInit-F.Braces hs) refl tt)

  types-Braces : (xs : List TypedInit) → AllByRecursion InitTypes xs → InitTypes (init.Braces xs)
  types-Braces xs hs = of_held InitTypes (λ ys. InitTypes (init.Braces ys)) types_held xs hs

  value_rules-go : (is_global : Bool) (t : Ty) (x : TypedExpr) (w : World) → Goes g (Unit {0}) w (value_rules is_global t x w) (λ u. Unit {0})
  unfolding value_rules
  value_rules-go is_global t x w = ruled g broken.Form (takes_value t) _ (λ takes. ruled g broken.Unconverted (converts x t) _ (λ fits.
      rule-goes g broken.NotConstant (not is_global || is_constant_leaf x) (λ holds known. tt)))

  leaf_rules-go : (is_global : Bool) (to : Option Ty) (x : TypedExpr) (w : World) → Goes g (Unit {0}) w (leaf_rules is_global to x w) (λ u. Unit {0})
  leaf_rules-go is_global None x w = ends g (λ known fit. tt)
  leaf_rules-go is_global (Some t) x w = value_rules-go is_global t x w

  value-goes : (is_global : Bool) (to : Option Ty) (e : Expr) (w : World) → Goes g (Unit {0}) w (given_value is_global to e w) InitTypes
  value-goes is_global to e w =
      after g _ _ (expr-finds g e Value w) (λ x v.
      after g _ _ (under g _ (λ known. tt) (leaf_rules-go is_global to x v)) (λ u s.
      ends g (λ known fit. types-Expr x known.0.1.types)))

  text-goes : (bytes : List ℕ) (n : ℕ) (w : World) → Goes g (Unit {0}) w (given_text bytes n w) InitTypes
  text-goes bytes n w = ruled g broken.Form (nat_lt (length bytes) n) _ (λ short. ends g (λ known fit. types-Text bytes))

  given-goes : (is_global : Bool) (to : Option Ty) (e : Expr) (o : Option (List ℕ)) (n : Option ℕ) (w : World) → Goes g (Unit {0}) w (given_by is_global to e o n w) InitTypes
  given-goes is_global to e (Some bytes) (Some n) w = text-goes bytes n w
  given-goes is_global to e (Some bytes) None w = value-goes is_global to e w
  given-goes is_global to e None n w = value-goes is_global to e w

  parts_rule-goes : (to : Option Ty) (n : ℕ) (w : World) → Goes g (Unit {0}) w (parts_rule to n w) (λ u. Unit {0})
  parts_rule-goes None n w = ends g (λ known fit. tt)
  parts_rule-goes (Some t) n w = rule-goes g broken.Form (has_parts w.structs n t) (λ holds known. tt)

  module _ (is_global : Bool) where
    abbrev pub FindsInit : Init → Type 0
    FindsInit i = (to : Option Ty) (w : World) → Goes g (Unit {0}) w (typed_init is_global i to w) InitTypes

    abbrev HeldInit : Type 0
    HeldInit = (i : Init) × FindsInit i

    parts-go : (i : ℕ) (to : Option Ty) (hs : List HeldInit) (w : World)
        → Goes g (Unit {0}) w (each (parts_from i to (map (typed_init is_global) (map (λ (h : HeldInit). h.0) hs))) w) (AllByRecursion InitTypes)
    parts-go i to [] w = ends g (λ known fit. tt)
    parts-go i to (h ∷ hs) w =
        after g (one_part i to (typed_init is_global h.0) w) _ (h.1 (option_and_then (part_of w.structs i) to) w) (λ x v.
        after g _ _ (under g _ (λ known. tt) (parts-go (suc i) to hs v)) (λ xs u.
        ends g (λ known fit. (known.0.1, known.1))))

    braces-go : (to : Option Ty) (hs : List HeldInit) (w : World) → Goes g (Unit {0}) w (braces to (map (typed_init is_global) (map (λ (h : HeldInit). h.0) hs)) w) InitTypes
    braces-go to hs w =
        after g _ _ (parts-go 0 to hs w) (λ xs v.
        after g _ _ (under g _ (λ known. tt) (parts_rule-goes to (length xs) v)) (λ u s.
        ends g (λ known fit. types-Braces xs known.0.1)))

    step : (node : Init-F Init) → typed_init is_global (roll-Init node) ≡ init_step is_global (map-Init Init OfInit (typed_init is_global) node)
    unfolding typed_init
    step node = fold-roll-Init OfInit (init_step is_global) node

    by : (node : Init-F Init) → ((to : Option Ty) (w : World) → Goes g (Unit {0}) w (init_step is_global (map-Init Init OfInit (typed_init is_global) node) to w) InitTypes) → FindsInit (roll-Init node)
    by node goes to w = subst (λ (p : OfInit). Goes g (Unit {0}) w (p to w) InitTypes) (sym (step node)) (goes to w)

    made : (y : Init-F HeldInit) → FindsInit (roll-Init (map-Init HeldInit Init (λ h. h.0) y))
    made (Init-F.Expr e) = by (Init-F.Expr e) (λ to w. given-goes is_global to e (text_of e) (option_and_then char_bound to) w)
    made (Init-F.Braces hs) = by (Init-F.Braces (map (λ (h : HeldInit). h.0) hs)) (λ to w. braces-go to hs w)

    pub init-finds : (i : Init) → FindsInit i
    init-finds = ind-Init FindsInit (λ x y is. subst (λ z. FindsInit (roll-Init z)) is (made y))
