use Rattle.std.proofs.lemmas.Result.{err_from_is_err_and}
use Rattle.std.proofs.Common.{List, subst, Ok, Err, None}
use Rattle.c_types.specs.declared.ty.Ty.{Ty}
use Rattle.elab_rows.specs.declared.scope.Standing.{Standing}
use Rattle.c_types.specs.declared.ty.FnTy.{out-FnTy}
use Rattle.elab_pieces.specs.Functions.{entering, parameter_copies}
use Rattle.elab_pieces.specs.Lines.{plain_lines}
use Rattle.elab_pieces.specs.Statements.{block_code, leaving}
use Rattle.elab_statements.specs.Bodies.{PieceOutcome, piece_at}
use Rattle.elab.proofs.BodyRows.{four_first, four_last, four_second, four_third}
use Rattle.elab_statements.specs.inner.Pieces.{put_piece}
use Rattle.elab.proofs.functions.whole_body.Goals as goal

pub returns-in_err-enter-clause-made : goal.returns-in_err-enter-clause-made
returns-in_err-enter-clause-made c =
    let scope = c.args.scope.now in
    let b = c.args.body.now in
    let e = c.in_err-enter.field-0.0 in
    let p = err_from_is_err_and c.from_residual.result c.from_residual.ensures.1 in
    rw (p.1, p.2)
    (four_first b c.requires (plain_lines (entering scope.has_frame)) (parameter_copies 0 (out-FnTy c.args.ty.now).params scope.locals)
    (block_code scope c.args.function.now.block) (plain_lines (leaving scope.has_frame None)) c.enter.new.body e
    (put_piece b c.enter.new.body (entering scope.has_frame) (Err e) c.in_err-enter.ensures.made))

pub returns-in_err-parameter_copies-clause-made : goal.returns-in_err-parameter_copies-clause-made
returns-in_err-parameter_copies-clause-made c =
    let scope = c.args.scope.now in
    let b = c.args.body.now in
    let m1 = c.enter.new.body in
    let m2 = c.parameter_copies.new.body in
    let e = c.in_err-parameter_copies.field-0.0 in
    let h1 = put_piece b m1 (entering scope.has_frame) (Ok tt) c.in_ok-enter.ensures.made in
    let h2 = subst (λ (x : List Ty × List Standing). PieceOutcome m1 (piece_at m1 (parameter_copies 0 x.0 x.1)) (Err e) m2) (λ i. (c.as_slice.ensures i, c.as_slice-2.ensures i))
    c.in_err-parameter_copies.ensures.made in
    let p = err_from_is_err_and c.from_residual-in_err-parameter_copies.result c.from_residual-in_err-parameter_copies.ensures.1 in
    rw (p.1, p.2)
    (four_second b c.requires (plain_lines (entering scope.has_frame)) (parameter_copies 0 (out-FnTy c.args.ty.now).params scope.locals)
    (block_code scope c.args.function.now.block) (plain_lines (leaving scope.has_frame None)) m1 h1 c.in_ok-enter.ensures.sound m2 e h2)

pub returns-in_err-function_block-clause-made : goal.returns-in_err-function_block-clause-made
returns-in_err-function_block-clause-made c =
    let scope = c.args.scope.now in
    let b = c.args.body.now in
    let m1 = c.enter.new.body in
    let m2 = c.parameter_copies.new.body in
    let m3 = c.function_block.new.body in
    let e = c.in_err-function_block.field-0.0 in
    let h1 = put_piece b m1 (entering scope.has_frame) (Ok tt) c.in_ok-enter.ensures.made in
    let h2 = subst (λ (x : List Ty × List Standing). PieceOutcome m1 (piece_at m1 (parameter_copies 0 x.0 x.1)) (Ok tt) m2) (λ i. (c.as_slice.ensures i, c.as_slice-2.ensures i))
    c.in_ok-parameter_copies.ensures.made in
    let p = err_from_is_err_and c.from_residual-in_err-function_block.result c.from_residual-in_err-function_block.ensures.1 in
    rw (p.1, p.2)
    (four_third b c.requires (plain_lines (entering scope.has_frame)) (parameter_copies 0 (out-FnTy c.args.ty.now).params scope.locals)
    (block_code scope c.args.function.now.block) (plain_lines (leaving scope.has_frame None)) m1 h1 c.in_ok-enter.ensures.sound m2 h2
    c.in_ok-parameter_copies.ensures.sound m3 e c.in_err-function_block.ensures.made)

pub returns-clause-made : goal.returns-clause-made
returns-clause-made c =
    let scope = c.args.scope.now in
    let b = c.args.body.now in
    let m1 = c.enter.new.body in
    let m2 = c.parameter_copies.new.body in
    let m3 = c.function_block.new.body in
    let m4 = c.leave.new.body in
    let h1 = put_piece b m1 (entering scope.has_frame) (Ok tt) c.in_ok-enter.ensures.made in
    let h2 = subst (λ (x : List Ty × List Standing). PieceOutcome m1 (piece_at m1 (parameter_copies 0 x.0 x.1)) (Ok tt) m2) (λ i. (c.as_slice.ensures i, c.as_slice-2.ensures i))
    c.in_ok-parameter_copies.ensures.made in
    four_last b c.requires (plain_lines (entering scope.has_frame)) (parameter_copies 0 (out-FnTy c.args.ty.now).params scope.locals)
    (block_code scope c.args.function.now.block) (plain_lines (leaving scope.has_frame None)) m1 h1 c.in_ok-enter.ensures.sound m2 h2
    c.in_ok-parameter_copies.ensures.sound m3 c.in_ok-function_block.ensures.made c.in_ok-function_block.ensures.sound m4 c.leave.result c.leave.ensures.sound
    (put_piece m3 m4 (leaving scope.has_frame None) c.leave.result c.leave.ensures.made)
