use Rattle.std.proofs.Common.{◌≡◌, sym, subst, Some}
use Rattle.elab_rows.specs.Addresses.{local_address}
use Rattle.elab_rows.specs.Scope.{standing_of}
use Rattle.elab_rows.specs.declared.scope.Standing.TheVariants as stands
use Rattle.elab_pieces.specs.Initialisers.{initialised}
use Rattle.elab_pieces.specs.Lines.{all_full}
use Rattle.elab_pieces.specs.Statements.{local_initialised}
use Rattle.elab_statements.specs.Bodies.{PieceOutcome, piece_at}
use Rattle.elab_statements.proofs.declarations.local.Goals as goal

pub returns-in_ok-copy_type-in-Some-Frame-clause-made : goal.returns-in_ok-copy_type-in-Some-Frame-clause-made
unfolding standing_of
returns-in_ok-copy_type-in-Some-Frame-clause-made c =
    let old = c.args.body.now in
    let scope = c.args.scope.now in
    let v = c.in-Some-Frame.v in
    let r = c.initialise.result in
    let new = c.initialise.new.body in
    let e : standing_of scope c.args.n ≡ Some (stands.Frame v) =
    cc (c.in-Some-Frame.ensures.value, c.in-Some-Frame.field-0-is, c.in-Some-Frame.v-is) in
    subst (λ o. PieceOutcome old (piece_at old (all_full (local_initialised scope o c.args.ty.now c.args.init.now))) r new) (sym e)
    (subst (λ t. PieceOutcome old (piece_at old (all_full (initialised scope t (local_address v) c.args.init.now))) r new)
    c.in_ok-copy_type-in-Some-Frame.ensures c.initialise.ensures.made)
