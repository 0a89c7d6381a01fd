use Rattle.std.proofs.Common.{arith}
use Rattle.c_statements.proofs.ReadersLemmas.{stmt_zero, stmt_more}
use Rattle.c_statements.proofs.depths.+stmt.Goals as goal

pub returns-then-depth-eq0-clause-reads : goal.returns-then-depth-eq0-clause-reads
returns-then-depth-eq0-clause-reads t c = stmt_zero c.args.names.now c.args.depth c.args.tokens.now c.if-depth-eq0.true

pub returns-clause-reads : goal.returns-clause-reads
returns-clause-reads t c = rw (stmt_more c.args.names.now c.args.depth (omega arith)) c.statement.ensures.reads
