use Rattle.std.proofs.Common.{Some, subst}
use Rattle.c_types.specs.declared.ty.Ty.{Ty}
use Rattle.c_typed.specs.declared.statement.TypedInit.TheVariants as init
use Rattle.elab_pieces.specs.Entry.{optional_given}
use Rattle.elab_statements.specs.Bodies.{PieceOutcome, piece_at}
use Rattle.elab.proofs.entry.string_object.Goals as goal

pub returns-clause-made : goal.returns-clause-made
returns-clause-made c =
    let b = c.args.body.now in
    subst (λ (t : Ty). PieceOutcome b (piece_at b (optional_given c.args.scope.now c.args.g t (Some (init.Text c.args.bytes.now)))) c.initialise_text.result c.initialise_text.new.body)
    c.in_ok-string_type.ensures c.initialise_text.ensures.made
