use Rattle.std.proofs.lemmas.Result.{err_from_is_err_and}
use Rattle.std.proofs.Common.{◌≡◌, [], ◌∷◌, ◌++◌, arith}
use Rattle.elab_statements.specs.Bodies.{piece_at}
use Rattle.elab_statements.specs.inner.Leaves.{text_lines}
use Rattle.elab_statements.specs.inner.Pieces.{reaches_last}
use Rattle.elab_statements.proofs.MissingLoops.{no_items, text_full, text_last, text_stops}
use Rattle.elab_statements.proofs.texts.byte_leaves.Goals as goal

pub returns-in_default-clause-made : goal.returns-in_default-clause-made
returns-in_default-clause-made c =
    let x = c.args.target.now in
    let start = c.args.body.now in
    text_full x c.args.bytes.now start (piece_at start (text_lines x (c.args.bytes.now ++ 0 ∷ []) c.args.scalars.now c.args.k)) c.loop-byte.body
    c.loop-byte.byte-index c.loop-byte.at c.loop-byte.left.now c.loop-byte.invariant 0 (omega arith)
    (no_items c.loop-byte.left.now c.in_default.ensures.cases)

pub returns-in_err-byte_leaf-clause-made : goal.returns-in_err-byte_leaf-clause-made
returns-in_err-byte_leaf-clause-made c =
    let x = c.args.target.now in
    let start = c.args.body.now in
    let split : c.loop-byte.left.now ≡ c.in-Some.ty.now ∷ c.in-Some.behind.now = cc (c.in-Some.ensures.cases.0, c.in-Some.ty-is, c.in-Some.behind-is) in
    let p = err_from_is_err_and c.from_residual.result c.from_residual.ensures.1 in
    rw (p.1, p.2)
    (text_stops x c.args.bytes.now start (piece_at start (text_lines x (c.args.bytes.now ++ 0 ∷ []) c.args.scalars.now c.args.k)) c.loop-byte.body
    c.loop-byte.byte-index c.loop-byte.at c.loop-byte.left.now c.loop-byte.invariant 0 (omega arith) c.in-Some.ty.now c.in-Some.behind.now split
    c.byte_leaf.new.body c.in_err-byte_leaf.field-0.0 c.in_err-byte_leaf.ensures.made)

pub returns-clause-made : goal.returns-clause-made
returns-clause-made c =
    let x = c.args.target.now in
    let start = c.args.body.now in
    let all = piece_at start (text_lines x (c.args.bytes.now ++ 0 ∷ []) c.args.scalars.now c.args.k) in
    reaches_last start all c.loop-byte.body (piece_at c.loop-byte.body (text_lines x (0 ∷ []) c.loop-byte.left.now c.loop-byte.at))
    (text_last x c.args.bytes.now start all c.loop-byte.body c.loop-byte.byte-index c.loop-byte.at c.loop-byte.left.now c.loop-byte.invariant (omega arith))
    c.last_byte.result c.last_byte.new.body c.last_byte.ensures.made
