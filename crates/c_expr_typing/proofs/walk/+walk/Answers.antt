use Rattle.std.proofs.Common.{◌≡◌, map, subst, sym}
use Rattle.c_tree.specs.Fold.{expr_node}
use Rattle.c_scope.specs.Walks.{Walks}
use Rattle.c_expr_typing.specs.Trees.{called, expr_step, walked}
use Rattle.c_expr_typing.proofs.Forms.{expr-Call}
use Rattle.c_expr_typing.proofs.walk.+walk.Goals as goal

pub expression_node-returns-in-Call : goal.expression_node-returns-in-Call
expression_node-returns-in-Call c = λ c'.
    let made : expr_step (expr_node walked c'.args.expr.now) c'.args.place c'.args.world.now
    ≡ called (walked.expr c'.get-in-Call.result.now) (map walked.expr c'.in-Call.given) c'.args.world.now =
    cc (expr-Call c'.in-Call.callee c'.in-Call.given c'.args.place c'.args.world.now, c'.in-Call.is, c'.get-in-Call.ensures)
    in subst (λ outcome. Walks outcome c'.called.result c'.called.new.world) (sym made) c'.called.ensures
