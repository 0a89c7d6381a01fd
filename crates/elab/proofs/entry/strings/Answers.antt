use Rattle.std.proofs.Common.{◌∙◌, List, ℕ, arith, subst, Ok, Err}
use Rattle.std.proofs.lemmas.Result.{err_from_is_err_and}
use Rattle.elab_pieces.specs.Entry.{strings_initialised}
use Rattle.elab_statements.specs.Bodies.{PieceOutcome, piece_at}
use Rattle.elab.proofs.EntryRows.{string_given, strings_further, strings_stop}
use Rattle.elab.proofs.entry.strings.Goals as goal

pub returns-in_err-string_object-clause-made : goal.returns-in_err-string_object-clause-made
returns-in_err-string_object-clause-made c =
    let e = c.in_err-string_object.field-0.0 in
    let scope = c.args.scope.now in
    let ss = c.args.strings.now in
    let start = c.args.body.now in
    let now = c.loop-bytes.body in
    let i = c.loop-bytes.bytes-index in
    let g = c.loop-bytes.g in
    let s = c.bytes-item.result in
    let new = c.string_object.new.body in
    let all = piece_at start (strings_initialised scope scope.first_string ss) in
    let k = subst (λ (u : List ℕ). PieceOutcome now (piece_at now (string_given scope g u)) (Err e) new) (c.as_slice.ensures ∙ c.bytes-item.is)
    c.in_err-string_object.ensures.made in
    let p = err_from_is_err_and c.from_residual.result c.from_residual.ensures.1 in
    rw (p.1, p.2)
    (strings_stop scope ss start all now i g c.loop-bytes.invariant s (omega arith) new e k)

pub loop-bytes-preserved : goal.loop-bytes-preserved
loop-bytes-preserved c =
    let scope = c.args.scope.now in
    let ss = c.args.strings.now in
    let start = c.args.body.now in
    let now = c.loop-bytes.body in
    let i = c.loop-bytes.bytes-index in
    let g = c.loop-bytes.g in
    let s = c.bytes-item.result in
    let new = c.string_object.new.body in
    let all = piece_at start (strings_initialised scope scope.first_string ss) in
    let k = subst (λ (u : List ℕ). PieceOutcome now (piece_at now (string_given scope g u)) (Ok tt) new) (c.as_slice.ensures ∙ c.bytes-item.is)
    c.in_ok-string_object.ensures.made in
    strings_further scope ss start all now i g c.loop-bytes.invariant s (omega arith) new k c.in_ok-string_object.ensures.sound c.in_ok-g.g c.in_ok-g.ensures
