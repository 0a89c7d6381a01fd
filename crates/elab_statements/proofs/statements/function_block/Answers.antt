use Rattle.elab_pieces.specs.Statements.{block_code}
use Rattle.elab_statements.specs.Bodies.{piece_at}
use Rattle.elab_statements.proofs.Settled.{jumps_aside}
use Rattle.elab_statements.proofs.statements.function_block.Goals as goal

pub returns-clause-made : goal.returns-clause-made
returns-clause-made c =
    let start = c.args.body.now in
    jumps_aside start c.new-jumps.result (piece_at start (block_code c.args.scope.now c.args.inside.now)) c.block.result c.block.new.body c.block.new.jumps
    c.block.ensures.made
