use Rattle.std.proofs.lemmas.Result.{err_from_is_err_and}
use Rattle.std.proofs.Common.{[], ◌∷◌, ◌+◌, map, drop, get_or, subst, arith, Ok, Err}
use Rattle.elab_pieces.specs.Globals.{globals}
use Rattle.elab.specs.inner.Programs.{LaysOut}
use Rattle.elab.proofs.Layouts.{variables_end, variables_further, variables_stop}
use Rattle.elab.proofs.Turns.{globals_end, globals_turn}
use Rattle.elab.proofs.globals.lay_out_items.Goals as goal

pub returns-in_err-lay_out_item : goal.returns-in_err-lay_out_item
returns-in_err-lay_out_item c =
    let defs = c.args.scope.now.structs in
    let xs = c.args.items.now in
    let i = c.loop-item.item-index in
    let d = c.item-item.result in
    let now = c.loop-item.layout in
    let next = c.lay_out_item.new.layout in
    let e = c.in_err-lay_out_item.field-0.0 in
    let p = err_from_is_err_and c.from_residual.result c.from_residual.ensures.1 in
    rw (p.1, p.2)
    (variables_stop defs c.args.layout.now (map (λ g. g.ty) (globals xs)) now (globals (drop i xs)) c.loop-item.invariant
    (globals (get_or xs i d ∷ [])) (globals (drop (i + 1) xs)) (globals_turn xs i d (omega arith)) next e
    (subst (λ x. LaysOut defs (map (λ g. g.ty) (globals (x ∷ []))) now (Err e) next) c.item-item.is c.in_err-lay_out_item.ensures))

pub loop-item-preserved : goal.loop-item-preserved
loop-item-preserved c =
    let defs = c.args.scope.now.structs in
    let xs = c.args.items.now in
    let i = c.loop-item.item-index in
    let d = c.item-item.result in
    let now = c.loop-item.layout in
    let next = c.lay_out_item.new.layout in
    variables_further defs c.args.layout.now (map (λ g. g.ty) (globals xs)) now (globals (drop i xs)) c.loop-item.invariant
    (globals (get_or xs i d ∷ [])) (globals (drop (i + 1) xs)) (globals_turn xs i d (omega arith)) next
    (subst (λ x. LaysOut defs (map (λ g. g.ty) (globals (x ∷ []))) now (Ok tt) next) c.item-item.is c.in_ok-lay_out_item.ensures)

pub returns : goal.returns
returns c =
    let xs = c.args.items.now in
    variables_end c.args.scope.now.structs c.args.layout.now (map (λ g. g.ty) (globals xs)) c.loop-item.layout
    (globals (drop c.loop-item.item-index xs)) c.loop-item.invariant (globals_end xs c.loop-item.item-index (omega arith))
