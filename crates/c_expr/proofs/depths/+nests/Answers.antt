use Rattle.std.proofs.Common.{arith}
use Rattle.c_expr.proofs.ReadersLemmas.{zero_expr, expr_some}
use Rattle.c_expr.proofs.depths.+nests.Goals as goal

pub boxed_expr-returns-then-depth-eq0-clause-reads : goal.boxed_expr-returns-then-depth-eq0-clause-reads
boxed_expr-returns-then-depth-eq0-clause-reads t c = zero_expr c.args.names.now c.args.depth c.args.least c.args.tokens.now c.if-depth-eq0.true

pub boxed_expr-returns-clause-reads : goal.boxed_expr-returns-clause-reads
boxed_expr-returns-clause-reads t c = rw (expr_some c.args.names.now c.args.depth c.args.least c.args.tokens.now (omega arith)) c.level.ensures.reads
