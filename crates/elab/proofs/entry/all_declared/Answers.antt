use Rattle.std.proofs.lemmas.Result.{err_from_is_err_and}
use Rattle.std.proofs.Common.{◌+◌, [], ◌∷◌, length, drop, get_or, ap, subst, arith, length-append, Ok, Err}
use Rattle.elab_pieces.specs.Entry.{globals_initialised}
use Rattle.elab_pieces.specs.Globals.{declared_globals}
use Rattle.elab_statements.specs.Bodies.{piece_at}
use Rattle.elab.specs.inner.Programs.{RunOutcome}
use Rattle.elab.proofs.EntryRows.{declaration_further, declaration_stops, globals_whole}
use Rattle.elab.proofs.Turns.{declared_end, declared_turn}
use Rattle.elab.proofs.entry.all_declared.Goals as goal

pub returns-in_err-next-clause-made : goal.returns-in_err-next-clause-made
returns-in_err-next-clause-made c =
    let scope = c.args.scope.now in
    let ds = c.args.declarators.now in
    let i = c.loop-declarator.declarator-index in
    let d = c.declarator-item.result in
    let start = c.args.body.now in
    let now = c.loop-declarator.body in
    let g = c.loop-declarator.next in
    let new = c.declared.new.body in
    let e = c.in_err-next.field-0.0 in
    let p = err_from_is_err_and c.from_residual.result c.from_residual.ensures.1 in
    rw (p.1, p.2)
    (declaration_stops scope g (declared_globals (drop i ds) []) start (piece_at start (globals_initialised scope c.args.g (declared_globals ds []))) now
    c.loop-declarator.invariant.reaches (declared_globals (get_or ds i d ∷ []) []) (declared_globals (drop (i + 1) ds) [])
    (declared_turn ds i d (omega arith)) new e
    (subst (λ x. let gs = declared_globals (x ∷ []) [] in RunOutcome now (globals_initialised scope g gs) (g + length gs) (Err e) new)
    c.declarator-item.is c.in_err-next.ensures.made))

pub loop-declarator-preserved : goal.loop-declarator-preserved
loop-declarator-preserved c =
    let scope = c.args.scope.now in
    let ds = c.args.declarators.now in
    let i = c.loop-declarator.declarator-index in
    let d = c.declarator-item.result in
    let start = c.args.body.now in
    let now = c.loop-declarator.body in
    let g = c.loop-declarator.next in
    let new = c.declared.new.body in
    let n = c.in_ok-next.next in
    let us = declared_globals (get_or ds i d ∷ []) [] in
    let ws = declared_globals (drop (i + 1) ds) [] in
    let turn = declared_turn ds i d (omega arith) in
    let made = subst (λ x. let gs = declared_globals (x ∷ []) [] in RunOutcome now (globals_initialised scope g gs) (g + length gs) (Ok n) new)
    c.declarator-item.is c.in_ok-next.ensures.made in
    record {
      reaches = declaration_further scope g (declared_globals (drop i ds) []) start (piece_at start (globals_initialised scope c.args.g (declared_globals ds []))) now
          c.loop-declarator.invariant.reaches us ws turn new n made c.in_ok-next.ensures.sound;
      number = omega (arith, made.1, c.loop-declarator.invariant.number, ap length turn, length-append us ws);
    }

pub returns-clause-made : goal.returns-clause-made
returns-clause-made c =
    let scope = c.args.scope.now in
    let ds = c.args.declarators.now in
    let i = c.loop-declarator.declarator-index in
    let start = c.args.body.now in
    let none = declared_end ds i (omega arith) in (
      globals_whole scope c.loop-declarator.next (declared_globals (drop i ds) []) start
          (piece_at start (globals_initialised scope c.args.g (declared_globals ds []))) c.loop-declarator.body c.loop-declarator.invariant.reaches none,
      omega (arith, c.loop-declarator.invariant.number, ap length none),
    )
