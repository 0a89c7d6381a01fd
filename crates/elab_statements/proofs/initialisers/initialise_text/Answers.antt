use Rattle.std.proofs.Common.{sym, subst}
use Rattle.elab_statements.specs.Bodies.{PieceOutcome, piece_at}
use Rattle.elab_statements.proofs.InitRows.{whole_text}
use Rattle.elab_statements.proofs.initialisers.initialise_text.Goals as goal

pub returns-clause-made : goal.returns-clause-made
returns-clause-made c =
    let start = c.args.body.now in
    subst (λ d. PieceOutcome start (piece_at start d) c.text.result c.text.new.body) (sym (whole_text c.args.scope.now c.args.target.now c.args.bytes.now))
    c.text.ensures.made
