use Rattle.std.proofs.Common.{◌∙◌}
use Rattle.elab_rows.specs.Values.{part}
use Rattle.elab_expr.proofs.NamedRows.{counted_row}
use Rattle.elab_expr.proofs.pass.Pass.counted.Goals as goal

pub returns-clause-made : goal.returns-clause-made
returns-clause-made g c =
    counted_row c.args.self.now.parts.scope.now c.args.operator (part c.args.self.now.parts.scope.now c.args.a.now) _ (c.deref.ensures ∙ c.one-one.ensures) c.args.out.now _ _ c.updated.ensures.made
