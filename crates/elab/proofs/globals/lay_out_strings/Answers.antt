use Rattle.std.proofs.Common.{◌≡◌, ◌∙◌, ℕ, ◌+◌, List, [], ◌∷◌, map, drop, get_or, ap, subst, arith, Ok, Err}
use Rattle.std.proofs.lemmas.List.{at_drop_more}
use Rattle.std.proofs.lemmas.Result.{err_from_is_err_and}
use Rattle.c_types.specs.declared.ty.Ty.{Ty}
use Rattle.elab_pieces.specs.Globals.{string_type}
use Rattle.elab.specs.inner.Programs.{Lays, LaysOut}
use Rattle.elab.proofs.Layouts.{lays_one, stops_one}
use Rattle.elab.proofs.globals.lay_out_strings.Goals as goal

pub returns-in_err-lay_out : goal.returns-in_err-lay_out
returns-in_err-lay_out c =
    let e = c.in_err-lay_out.field-0.0 in
    let defs = c.args.scope.now.structs in
    let ss = c.args.strings.now in
    let i = c.loop-bytes.bytes-index in
    let s = c.bytes-item.result in
    let start = c.args.layout.now in
    let all = map string_type ss in
    let now = c.loop-bytes.layout in
    let next = c.lay_out.new.layout in
    let t = string_type (get_or ss i s) in
    let rest = map string_type (drop (i + 1) ss) in
    let typed : c.in_ok-ty.ty ≡ t = c.in_ok-ty.ensures ∙ ap string_type (c.as_slice.ensures ∙ c.bytes-item.is) in
    let first : map string_type (drop i ss) ≡ t ∷ rest = at_drop_more (λ (ys : List (List ℕ)). map string_type ys) ss i s (omega arith) in
    let h = subst (λ (ts : List Ty). Lays defs start all now ts) first c.loop-bytes.invariant in
    let p = err_from_is_err_and c.from_residual-in_err-lay_out.result c.from_residual-in_err-lay_out.ensures.1 in
    rw (p.1, p.2)
    (stops_one defs start all now t rest h e next (subst (λ (u : Ty). LaysOut defs (u ∷ []) now (Err e) next) typed c.in_err-lay_out.ensures))

pub loop-bytes-preserved : goal.loop-bytes-preserved
loop-bytes-preserved c =
    let defs = c.args.scope.now.structs in
    let ss = c.args.strings.now in
    let i = c.loop-bytes.bytes-index in
    let s = c.bytes-item.result in
    let start = c.args.layout.now in
    let all = map string_type ss in
    let now = c.loop-bytes.layout in
    let next = c.lay_out.new.layout in
    let t = string_type (get_or ss i s) in
    let rest = map string_type (drop (i + 1) ss) in
    let typed : c.in_ok-ty.ty ≡ t = c.in_ok-ty.ensures ∙ ap string_type (c.as_slice.ensures ∙ c.bytes-item.is) in
    let first : map string_type (drop i ss) ≡ t ∷ rest = at_drop_more (λ (ys : List (List ℕ)). map string_type ys) ss i s (omega arith) in
    let h = subst (λ (ts : List Ty). Lays defs start all now ts) first c.loop-bytes.invariant in
    lays_one defs start all now t rest h next (subst (λ (u : Ty). LaysOut defs (u ∷ []) now (Ok tt) next) typed c.in_ok-lay_out.ensures)
