use Rattle.std.proofs.Common.{◌≡◌, ◌<◌, ◌≤◌, length, subst, arith, Option, Ok, Err, MatchOption}
use denote.Ref.{Bor}
use Rattle.std.specs.List.{HoldsAt}
use Rattle.elab_rows.specs.declared.scope.Standing.{Standing}
use Rattle.std.proofs.lemmas.Result.{err_from_is_err_and}
use Rattle.elab_pieces.specs.Functions.{copy_by, parameter_copies}
use Rattle.elab_statements.specs.Bodies.{PieceOutcome, piece_at}
use Rattle.elab.proofs.ParameterRows.{copies_further, copies_stop, copies_without}
use Rattle.elab.proofs.functions.parameter_copies.Goals as goal

pub returns-in_default-clause-made : goal.returns-in_default-clause-made
returns-in_default-clause-made c =
    let ts = c.args.params.now in
    let ls = c.args.locals.now in
    let start = c.args.body.now in
    let now = c.loop-i.body in
    let i = c.loop-i.i in
    let all = piece_at start (parameter_copies 0 ts ls) in
    let none : length ls ≤ i = subst (λ (o : Option (Bor Standing)). MatchOption o (length ls ≤ i) (λ x. (i < length ls) × HoldsAt (λ y. x.now ≡ y) ls i)) c.in_default.is c.get.ensures.lookup.3 in
    copies_without ts ls start all now i c.loop-i.invariant none

pub returns-in_err-copy_by-clause-made : goal.returns-in_err-copy_by-clause-made
returns-in_err-copy_by-clause-made c =
    let ts = c.args.params.now in
    let ls = c.args.locals.now in
    let start = c.args.body.now in
    let now = c.loop-i.body in
    let i = c.loop-i.i in
    let all = piece_at start (parameter_copies 0 ts ls) in
    let t = c.index-params-i.result in
    let l = c.in-Some.local.now in
    let new = c.copy_by.new.body in
    let e = c.in_err-copy_by.field-0.0 in
    let p = err_from_is_err_and c.from_residual.result c.from_residual.ensures.1 in
    rw (p.1, p.2)
    (copies_stop ts ls start all now i c.loop-i.invariant t (omega arith) l c.in-Some.ensures.lookup.3.0 c.in-Some.ensures.lookup.1 new e
    (subst (λ u. PieceOutcome now (piece_at now (copy_by i u l)) (Err e) new) c.index-params-i.is c.in_err-copy_by.ensures.made))

pub loop-i-preserved : goal.loop-i-preserved
loop-i-preserved c =
    let ts = c.args.params.now in
    let ls = c.args.locals.now in
    let start = c.args.body.now in
    let now = c.loop-i.body in
    let i = c.loop-i.i in
    let all = piece_at start (parameter_copies 0 ts ls) in
    let t = c.index-params-i.result in
    let l = c.in-Some.local.now in
    let new = c.copy_by.new.body in
    copies_further ts ls start all now i c.loop-i.invariant t (omega arith) l c.in-Some.ensures.lookup.3.0 c.in-Some.ensures.lookup.1 new
    (subst (λ u. PieceOutcome now (piece_at now (copy_by i u l)) (Ok tt) new) c.index-params-i.is c.in_ok-copy_by.ensures.made) c.in_ok-copy_by.ensures.sound
