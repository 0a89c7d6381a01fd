use Rattle.elab_parts.proofs.Nodes.{by_lvalue}
use Rattle.elab_expr.proofs.pass.Pass.node_address.Goals as goal

pub returns-clause-made : goal.returns-clause-made
returns-clause-made g c = by_lvalue c.args.self.now.parts.scope.now c.args.expr.now c.args.out.now _ _ c.form_address.ensures.made
