use Rattle.elab_parts.proofs.Nodes.{by_value}
use Rattle.elab_expr.proofs.pass.Pass.node_value.Goals as goal

pub returns-clause-made : goal.returns-clause-made
returns-clause-made g c = by_value c.args.self.now.parts.scope.now c.args.expr.now c.args.out.now _ _ c.folded_value.ensures.made
