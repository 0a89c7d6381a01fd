use Rattle.job.proofs.LinesLemmas.{lines_of-lf, lines_of-end}
use Rattle.std.proofs.Common.{arith}
use Rattle.job.proofs.lines.line_len.Goals as goal

pub returns-then-before-text-clause-first : goal.returns-then-before-text-clause-first
returns-then-before-text-clause-first c = lines_of-lf c.args.text.now _ c.len_before-before.ensures c.if-before-text.true

pub returns-else-before-text-clause-first : goal.returns-else-before-text-clause-first
returns-else-before-text-clause-first c = lines_of-end c.args.text.now c.requires (omega (arith, c.len_before-before.ensures, c.if-before-text.false))
