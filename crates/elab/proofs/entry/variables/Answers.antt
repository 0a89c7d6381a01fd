use Rattle.std.proofs.lemmas.Result.{err_from_is_err_and}
use Rattle.std.proofs.Common.{◌+◌, [], ◌∷◌, length, drop, get_or, subst, arith, Ok, Err}
use Rattle.elab_pieces.specs.Entry.{globals_initialised}
use Rattle.elab_pieces.specs.Globals.{globals}
use Rattle.elab_statements.specs.Bodies.{piece_at}
use Rattle.elab.specs.inner.Programs.{RunOutcome}
use Rattle.elab.proofs.EntryRows.{declaration_further, declaration_stops, globals_whole}
use Rattle.elab.proofs.Turns.{globals_end, globals_turn}
use Rattle.elab.proofs.entry.variables.Goals as goal

pub returns-in_err-next-clause-made : goal.returns-in_err-next-clause-made
returns-in_err-next-clause-made c =
    let scope = c.args.scope.now in
    let xs = c.args.items.now in
    let i = c.loop-item.item-index in
    let d = c.item-item.result in
    let start = c.args.body.now in
    let now = c.loop-item.body in
    let g = c.loop-item.next in
    let new = c.item_variables.new.body in
    let e = c.in_err-next.field-0.0 in
    let p = err_from_is_err_and c.from_residual.result c.from_residual.ensures.1 in
    rw (p.1, p.2)
    (declaration_stops scope g (globals (drop i xs)) start (piece_at start (globals_initialised scope 0 (globals xs))) now
    c.loop-item.invariant (globals (get_or xs i d ∷ [])) (globals (drop (i + 1) xs)) (globals_turn xs i d (omega arith)) new e
    (subst (λ x. let gs = globals (x ∷ []) in RunOutcome now (globals_initialised scope g gs) (g + length gs) (Err e) new)
    c.item-item.is c.in_err-next.ensures.made))

pub loop-item-preserved : goal.loop-item-preserved
loop-item-preserved c =
    let scope = c.args.scope.now in
    let xs = c.args.items.now in
    let i = c.loop-item.item-index in
    let d = c.item-item.result in
    let start = c.args.body.now in
    let now = c.loop-item.body in
    let g = c.loop-item.next in
    let new = c.item_variables.new.body in
    let n = c.in_ok-next.next in
    declaration_further scope g (globals (drop i xs)) start (piece_at start (globals_initialised scope 0 (globals xs))) now
    c.loop-item.invariant (globals (get_or xs i d ∷ [])) (globals (drop (i + 1) xs)) (globals_turn xs i d (omega arith)) new n
    (subst (λ x. let gs = globals (x ∷ []) in RunOutcome now (globals_initialised scope g gs) (g + length gs) (Ok n) new)
    c.item-item.is c.in_ok-next.ensures.made) c.in_ok-next.ensures.sound

pub returns-clause-made : goal.returns-clause-made
returns-clause-made c =
    let scope = c.args.scope.now in
    let xs = c.args.items.now in
    let i = c.loop-item.item-index in
    let start = c.args.body.now in
    globals_whole scope c.loop-item.next (globals (drop i xs)) start (piece_at start (globals_initialised scope 0 (globals xs))) c.loop-item.body
    c.loop-item.invariant (globals_end xs i (omega arith))
