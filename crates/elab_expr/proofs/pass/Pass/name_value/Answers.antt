use Rattle.std.proofs.Common.{sym, ◌∙◌}
use Rattle.elab_parts.proofs.Nodes.{global_row, frame_row}
use Rattle.elab_expr.proofs.pass.Pass.name_value.Goals as goal

pub returns-in-Global-clause-made : goal.returns-in-Global-clause-made
returns-in-Global-clause-made g c = global_row c.args.self.now.parts.scope.now c.args.expr.now _ c.args.out.now _ _ (sym c.name.ensures ∙ c.in-Global.is) c.lvalue_value.ensures.made

pub returns-in-Frame-clause-made : goal.returns-in-Frame-clause-made
returns-in-Frame-clause-made g c = frame_row c.args.self.now.parts.scope.now c.args.expr.now _ c.args.out.now _ _ (sym c.name.ensures ∙ c.in-Frame.is) c.lvalue_value-in-Frame.ensures.made
