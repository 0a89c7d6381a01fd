use Rattle.std.proofs.lemmas.Result.{err_from_is_err_and}
use Rattle.std.proofs.Common.{◌++◌, map, subst, Ok, Err}
use Rattle.core_ir.specs.Layout.{first_address}
use Rattle.elab_pieces.specs.Globals.{global_list, globals, laid_out, string_type}
use Rattle.elab.specs.inner.Programs.{LaysOut, LayoutOutcome}
use Rattle.elab.proofs.Layouts.{layout_first, layout_second, layout_whole}
use Rattle.elab.proofs.globals.global_list.Goals as goal

pub returns-in_err-lay_out_items : goal.returns-in_err-lay_out_items
unfolding global_list
returns-in_err-lay_out_items c =
    let defs = c.args.scope.now.structs in
    let typed = c.args.typed.now in
    let ts = map (λ g. g.ty) (globals typed.items) in
    let us = map string_type typed.strings in
    let start = c.no_layout-layout.result in
    let mid = c.lay_out_items.new.layout in
    let e = c.in_err-lay_out_items.field-0.0 in
    let p = err_from_is_err_and c.from_residual.result c.from_residual.ensures.1 in
    rw (p.1, p.2)
    (subst (λ d. LayoutOutcome (laid_out d first_address (ts ++ us)) (Err e)) c.requires
    (layout_first defs start ts us c.no_layout-layout.ensures.globals c.no_layout-layout.ensures.end mid e
    (subst (λ is. LaysOut defs (map (λ g. g.ty) (globals is)) start (Err e) mid) c.as_slice.ensures c.in_err-lay_out_items.ensures)))

pub returns-in_err-lay_out_strings : goal.returns-in_err-lay_out_strings
unfolding global_list
returns-in_err-lay_out_strings c =
    let defs = c.args.scope.now.structs in
    let typed = c.args.typed.now in
    let ts = map (λ g. g.ty) (globals typed.items) in
    let us = map string_type typed.strings in
    let start = c.no_layout-layout.result in
    let mid = c.lay_out_items.new.layout in
    let new = c.lay_out_strings.new.layout in
    let e = c.in_err-lay_out_strings.field-0.0 in
    let h = subst (λ is. LaysOut defs (map (λ g. g.ty) (globals is)) start (Ok tt) mid) c.as_slice.ensures c.in_ok-lay_out_items.ensures in
    let p = err_from_is_err_and c.from_residual-in_err-lay_out_strings.result c.from_residual-in_err-lay_out_strings.ensures.1 in
    rw (p.1, p.2)
    (subst (λ d. LayoutOutcome (laid_out d first_address (ts ++ us)) (Err e)) c.requires
    (layout_second defs start ts us c.no_layout-layout.ensures.globals c.no_layout-layout.ensures.end mid h new e
    (subst (λ ss. LaysOut defs (map string_type ss) mid (Err e) new) c.as_slice-2.ensures c.in_err-lay_out_strings.ensures)))

pub returns : goal.returns
unfolding global_list
returns c =
    let defs = c.args.scope.now.structs in
    let typed = c.args.typed.now in
    let ts = map (λ g. g.ty) (globals typed.items) in
    let us = map string_type typed.strings in
    let start = c.no_layout-layout.result in
    let mid = c.lay_out_items.new.layout in
    let new = c.lay_out_strings.new.layout in
    let h = subst (λ is. LaysOut defs (map (λ g. g.ty) (globals is)) start (Ok tt) mid) c.as_slice.ensures c.in_ok-lay_out_items.ensures in
    subst (λ d. LayoutOutcome (laid_out d first_address (ts ++ us)) (Ok new.globals)) c.requires
    (layout_whole defs start ts us c.no_layout-layout.ensures.globals c.no_layout-layout.ensures.end mid h new
    (subst (λ ss. LaysOut defs (map string_type ss) mid (Ok tt) new) c.as_slice-2.ensures c.in_ok-lay_out_strings.ensures))
