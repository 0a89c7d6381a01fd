use Rattle.std.proofs.Common.{◌≡◌, ◌≤◌, ◌-◌}
use Rattle.c_readers.specs.inner.Readers.{readers}
use Rattle.c_statements.specs.inner.Readers.{init, stmt, of_depth, block_items, block_items_from}
use Rattle.c_statements.proofs.statements.Rules.block_items.Given as goal

abbrev pub invariant-loop-turn : goal.invariant-loop-turn
invariant-loop-turn g l =
    let names = l.self.names.now in
    let depth = l.self.depth in
    (of_depth block_items names depth l.fn.tokens ≡ block_items_from names (readers names depth) (init names depth) (stmt names depth) (l._turn-end - l._turn) l.found l.height l.tokens) × (l.height ≤ depth)
