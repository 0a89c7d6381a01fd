use Rattle.std.proofs.lemmas.Result.{err_from_is_err_and}
use Rattle.std.proofs.Common.{◌≡◌, ◌∙◌, length, ap, refl, sym, subst, Some, Ok, Err}
use Rattle.c_types.specs.declared.ty.FnTy.{FnTy, out-FnTy}
use Rattle.c_types.specs.Kinds.{function_of}
use Rattle.c_typed.specs.declared.expression.Declared.{out-Declared}
use Rattle.elab_rows.specs.Scope.{standings}
use Rattle.elab_rows.specs.declared.scope.Scope.{Scope}
use Rattle.elab_pieces.specs.Functions.{body_code, frame_locals, function_code, parameter_copies}
use Rattle.elab_pieces.specs.Statements.{block_code}
use Rattle.elab.specs.inner.Programs.{BodyOutcome, IsFunction, bare, frame_stands, inside}
use Rattle.elab.proofs.FunctionRows.{FrameIs, function_done, function_stops}
use Rattle.elab.proofs.functions.function.Goals as goal

pub returns-in_err-body-clause-made : goal.returns-in_err-body-clause-made
returns-in_err-body-clause-made c =
    let file = bare c.args.scope.now in
    let d = c.args.definition.now in
    let t = c.in-Some.ty.now in
    let found = c.in_ok-frame.frame in
    let slots = c.in_ok-slots.slots in
    let places = standings (length (out-FnTy t).params) 0 0 d.locals in
    let typed : function_of (out-Declared d.declared).ty ≡ Some t = cc (c.in-Some.ensures) in
    let hf = subst (λ vs. FrameIs (frame_locals c.args.scope.now.structs 0 vs) found) c.as_slice.ensures c.in_ok-frame.ensures in
    let inner : c.settle.new.scope ≡ inside file (out-FnTy t).result places (frame_stands found) =
    c.in_ok-slots.ensures.scope.1 ∙ ap (λ b. inside file (out-FnTy t).result places b) c.has_frame.ensures in
    let e = c.in_err-body.field-0.0 in
    let w = subst (λ (s : Scope). BodyOutcome (body_code s.has_frame (parameter_copies 0 (out-FnTy t).params s.locals) (block_code s d.block) 0 slots) (Err e)) inner
    c.in_err-body.ensures in
    let p = err_from_is_err_and c.from_residual-in_err-body.result c.from_residual-in_err-body.ensures.1 in
    rw (p.1, p.2)
    (function_stops file d t typed places slots refl c.in_ok-slots.ensures.scope.0 found hf e w)

pub returns-clause-made : goal.returns-clause-made
returns-clause-made c =
    let file = bare c.args.scope.now in
    let d = c.args.definition.now in
    let t = c.in-Some.ty.now in
    let found = c.in_ok-frame.frame in
    let slots = c.in_ok-slots.slots in
    let places = standings (length (out-FnTy t).params) 0 0 d.locals in
    let typed : function_of (out-Declared d.declared).ty ≡ Some t = cc (c.in-Some.ensures) in
    let hf = subst (λ vs. FrameIs (frame_locals c.args.scope.now.structs 0 vs) found) c.as_slice.ensures c.in_ok-frame.ensures in
    let inner : c.settle.new.scope ≡ inside file (out-FnTy t).result places (frame_stands found) =
    c.in_ok-slots.ensures.scope.1 ∙ ap (λ b. inside file (out-FnTy t).result places b) c.has_frame.ensures in
    let body = c.in_ok-body.body in
    let w = subst (λ (s : Scope). BodyOutcome (body_code s.has_frame (parameter_copies 0 (out-FnTy t).params s.locals) (block_code s d.block) 0 slots) (Ok body)) inner
    c.in_ok-body.ensures in
    subst (λ (u : FnTy). IsFunction (function_code file d) (record { ty = u; body = body; frame = found })) (sym c.in_ok-ty.ensures)
    (function_done file d t typed places slots refl c.in_ok-slots.ensures.scope.0 found hf body w)
