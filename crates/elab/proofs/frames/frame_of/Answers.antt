use Rattle.std.proofs.Common.{◌≡◌, ◌∙◌, ◌+◌, false, [], ◌∷◌, ◌++◌, drop, get_or, ap, sym, arith}
use Rattle.core_ir.specs.Layout.{local_units}
use Rattle.elab_rows.specs.Scope.{is_slot_local}
use Rattle.elab_rows.specs.Units.{units}
use Rattle.elab_pieces.specs.Functions.{frame_local, frame_locals}
use Rattle.elab.proofs.FrameRows.{frame_large, frame_more, units_more}
use Rattle.elab.proofs.frames.frame_of.Goals as goal

pub returns-then-end-gt-MOST_FRAME_UNITS : goal.returns-then-end-gt-MOST_FRAME_UNITS
returns-then-end-gt-MOST_FRAME_UNITS c =
    let defs = c.args.scope.now.structs in
    let vs = c.args.variables.now in
    let i = c.loop-variable.variable-index in
    let v = c.variable-item.result in
    let h = c.loop-variable.invariant in
    let in_frame : is_slot_local (get_or vs i v) ≡ false =
    ap is_slot_local (sym c.variable-item.is) ∙ sym c.is_slot_local.ensures ∙ c.if-is_slot_local.false in
    let n : c.in_ok-units.units ≡ units defs (get_or vs i v).ty = c.in_ok-units.ensures ∙ ap (λ x. units defs x.ty) c.variable-item.is in
    frame_large defs (frame_locals defs 0 vs) c.loop-variable.locals vs i c.loop-variable.offset v (omega arith) h.0 in_frame h.1
    (omega (arith, n, c.in-Some.ensures.1))

pub loop-variable-preserved : goal.loop-variable-preserved
loop-variable-preserved c =
    let defs = c.args.scope.now.structs in
    let vs = c.args.variables.now in
    let i = c.loop-variable.variable-index in
    let v = c.variable-item.result in
    let now = c.loop-variable.locals in
    let at = c.loop-variable.offset in
    let h = c.loop-variable.invariant in
    let x = frame_local defs at (get_or vs i v).ty in
    let in_frame : is_slot_local (get_or vs i v) ≡ false =
    ap is_slot_local (sym c.variable-item.is) ∙ sym c.is_slot_local.ensures ∙ c.if-is_slot_local.false in
    let n : c.in_ok-units.units ≡ units defs (get_or vs i v).ty = c.in_ok-units.ensures ∙ ap (λ x. units defs x.ty) c.variable-item.is in
    let t : c.in_ok-ty.ty ≡ (get_or vs i v).ty = c.in_ok-ty.ensures ∙ ap (λ x. x.ty) c.variable-item.is in
    let end : c.in-Some.end ≡ at + units defs (get_or vs i v).ty = omega (arith, n, c.in-Some.ensures.1) in
    let pushed : c.push.new.self ≡ now ++ x ∷ [] =
    c.in_ok-push.ensures.ok ∙ (λ j. now ++ record { ty = t j; offset = at; units = n j } ∷ []) in (
      (λ j. pushed j ++ frame_locals defs (end j) (drop (i + 1) vs)) ∙ frame_more defs (frame_locals defs 0 vs) now vs i at v (omega arith) h.0 in_frame,
      omega (arith, end, ap local_units pushed, units_more now x, h.1),
      c.if-end-gt-MOST_FRAME_UNITS.false,
    )
