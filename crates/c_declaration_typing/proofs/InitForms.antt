-- The walk of each form of an initialiser.
use Rattle.std.proofs.Common.{◌≡◌, ◌∙◌, Bool, List, map, Option, ap, sym}
use Rattle.c_types.specs.declared.ty.Ty.{Ty}
use Rattle.c_tree.specs.declared.expression.Expr.{Expr}
use Rattle.c_tree.specs.declared.statement.Init.{Init, fold-roll-Init}
use Rattle.c_tree.specs.declared.statement.Init.TheOpen.{Init-F}
use Rattle.c_tree.specs.declared.statement.Init.TheVariants as raw_init
use Rattle.c_scope.specs.declared.world.World.{World}
use Rattle.c_declaration_typing.specs.Initialisers.{OfInit, braces, given, init_step, typed_init}

pub init-Expr : (is_global : Bool) (e : Expr) (to : Option Ty) (w : World)
    → typed_init is_global (raw_init.Expr e) to w ≡ given is_global to e w
unfolding typed_init
init-Expr is_global e to w = ap (λ i. typed_init is_global i to w) (sym (raw_init.rolls-Expr e))
    ∙ ap (λ f. f to w) (fold-roll-Init OfInit (init_step is_global) (Init-F.Expr e))

pub init-Braces : (is_global : Bool) (parts : List Init) (to : Option Ty) (w : World)
    → typed_init is_global (raw_init.Braces parts) to w ≡ braces to (map (typed_init is_global) parts) w
unfolding typed_init
init-Braces is_global parts to w = ap (λ i. typed_init is_global i to w) (sym (raw_init.rolls-Braces parts))
    ∙ ap (λ f. f to w) (fold-roll-Init OfInit (init_step is_global) (Init-F.Braces parts))

pub ruleset initialisers = (init-Expr, init-Braces)
