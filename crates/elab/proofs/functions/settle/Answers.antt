use Rattle.std.proofs.Common.{◌≡◌, ◌∙◌, length, ap}
use Rattle.c_types.specs.declared.ty.FnTy.{out-FnTy}
use Rattle.elab_rows.specs.Scope.{slots_behind, standings}
use Rattle.elab.specs.inner.Programs.{inside}
use Rattle.elab.proofs.functions.settle.Goals as goal

pub returns-clause-scope : goal.returns-clause-scope
returns-clause-scope c =
    let t = c.args.ty.now in
    let d = c.args.definition.now in
    let st = c.in_ok-own.own in
    let hp : st.places ≡ standings (length (out-FnTy t).params) 0 0 d.locals =
    c.in_ok-own.ensures.0 ∙ (λ i. standings (c.len.ensures i) 0 0 (c.as_slice.ensures i)) in
    let hs : st.slots ≡ slots_behind (length (out-FnTy t).params) 0 d.locals =
    c.in_ok-own.ensures.1 ∙ (λ i. slots_behind (c.len.ensures i) 0 (c.as_slice.ensures i)) in
    (hs, c.in_ok-go_inside.ensures.scope ∙ ap (λ ps. inside c.args.scope.now (out-FnTy t).result ps c.args.has_frame) hp)
