use Rattle.std.proofs.Common.{◌≤◌, ◌/◌, ◌∙◌, sym, arith}
use Rattle.meaning.proofs.BlockLemmas.{block_behind, block_found, nothing_behind}
use Rattle.meaning.proofs.events.Block.find.Goals as goal

pub returns-then-long-eq0-clause-behind : goal.returns-then-long-eq0-clause-behind
returns-then-long-eq0-clause-behind c =
    nothing_behind c.args.self.now.events c.args.self.now.times c.args.i (sym c.len-long.ensures ∙ c.if-long-eq0.true)

pub returns-then-i-long-clause-found : goal.returns-then-i-long-clause-found
returns-then-i-long-clause-found c =
    rw (c.as_slice.ensures, c.len-long.ensures) (block_found c.args.self.now.events c.args.self.now.times c.args.i
    (omega (arith, c.len-long.ensures, c.if-long-eq0.false)) (rw c.len-long.ensures at c.if-i-long.true))

pub returns-else-i-long-clause-behind : goal.returns-else-i-long-clause-behind
returns-else-i-long-clause-behind c =
    let behind : c.args.self.now.times ≤ c.args.i / c.len-long.result = omega (arith, c.if-i-long.false) in
    rw c.len-long.ensures (block_behind c.args.self.now.events c.args.self.now.times c.args.i
    (omega (arith, c.len-long.ensures, c.if-long-eq0.false)) (rw c.len-long.ensures at behind))
