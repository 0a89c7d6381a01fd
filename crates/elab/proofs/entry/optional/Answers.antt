use Rattle.std.proofs.Common.{◌≡◌, Option, Some, ap, sym, subst}
use Rattle.std.specs.Option.{option_copied}
use Rattle.c_types.specs.declared.ty.Ty.{Ty}
use Rattle.c_typed.specs.declared.statement.TypedInit.{TypedInit}
use Rattle.elab_pieces.specs.Entry.{optional_given}
use Rattle.elab_statements.specs.Bodies.{PieceOutcome, piece_at}
use Rattle.elab.proofs.entry.optional.Goals as goal

pub returns-clause-made : goal.returns-clause-made
returns-clause-made c =
    let b = c.args.body.now in
    let scope = c.args.scope.now in
    let i = c.in-Some.init.now in
    let r = c.initialise.result in
    let new = c.initialise.new.body in
    let given : option_copied c.args.init ≡ Some i = ap option_copied c.in-Some.is in
    subst (λ (o : Option TypedInit). PieceOutcome b (piece_at b (optional_given scope c.args.g c.args.ty.now o)) r new) (sym given)
    (subst (λ (t : Ty). PieceOutcome b (piece_at b (optional_given scope c.args.g t (Some i))) r new) c.in_ok-copy_type.ensures c.initialise.ensures.made)
