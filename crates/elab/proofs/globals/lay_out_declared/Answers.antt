use Rattle.std.proofs.lemmas.Result.{err_from_is_err_and}
use Rattle.std.proofs.Common.{[], ◌∷◌, ◌+◌, map, drop, get_or, subst, arith, Ok, Err}
use Rattle.elab_pieces.specs.Globals.{declared_globals}
use Rattle.elab.specs.inner.Programs.{LaysOut}
use Rattle.elab.proofs.Layouts.{variables_end, variables_further, variables_stop}
use Rattle.elab.proofs.Turns.{declared_end, declared_turn}
use Rattle.elab.proofs.globals.lay_out_declared.Goals as goal

pub returns-in_err-lay_out_one : goal.returns-in_err-lay_out_one
returns-in_err-lay_out_one c =
    let defs = c.args.scope.now.structs in
    let ds = c.args.declarators.now in
    let i = c.loop-declarator.declarator-index in
    let d = c.declarator-item.result in
    let now = c.loop-declarator.layout in
    let next = c.lay_out_one.new.layout in
    let e = c.in_err-lay_out_one.field-0.0 in
    let p = err_from_is_err_and c.from_residual.result c.from_residual.ensures.1 in
    rw (p.1, p.2)
    (variables_stop defs c.args.layout.now (map (λ g. g.ty) (declared_globals ds [])) now (declared_globals (drop i ds) []) c.loop-declarator.invariant
    (declared_globals (get_or ds i d ∷ []) []) (declared_globals (drop (i + 1) ds) []) (declared_turn ds i d (omega arith)) next e
    (subst (λ x. LaysOut defs (map (λ g. g.ty) (declared_globals (x ∷ []) [])) now (Err e) next) c.declarator-item.is c.in_err-lay_out_one.ensures))

pub loop-declarator-preserved : goal.loop-declarator-preserved
loop-declarator-preserved c =
    let defs = c.args.scope.now.structs in
    let ds = c.args.declarators.now in
    let i = c.loop-declarator.declarator-index in
    let d = c.declarator-item.result in
    let now = c.loop-declarator.layout in
    let next = c.lay_out_one.new.layout in
    variables_further defs c.args.layout.now (map (λ g. g.ty) (declared_globals ds [])) now (declared_globals (drop i ds) []) c.loop-declarator.invariant
    (declared_globals (get_or ds i d ∷ []) []) (declared_globals (drop (i + 1) ds) []) (declared_turn ds i d (omega arith)) next
    (subst (λ x. LaysOut defs (map (λ g. g.ty) (declared_globals (x ∷ []) [])) now (Ok tt) next) c.declarator-item.is c.in_ok-lay_out_one.ensures)

pub returns : goal.returns
returns c =
    let ds = c.args.declarators.now in
    variables_end c.args.scope.now.structs c.args.layout.now (map (λ g. g.ty) (declared_globals ds [])) c.loop-declarator.layout
    (declared_globals (drop c.loop-declarator.declarator-index ds) []) c.loop-declarator.invariant
    (declared_end ds c.loop-declarator.declarator-index (omega arith))
