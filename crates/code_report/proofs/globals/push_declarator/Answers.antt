use Rattle.std.proofs.Common.{◌≡◌, ◌∙◌, ◌+◌, ◌<◌, ◌≤◌, ◌++◌, [], length, ap, refl, sym, subst, arith}
use Rattle.std.proofs.lemmas.Option.{slice_get_read}
use Rattle.elab_pieces.specs.Program.{name_of}
use Rattle.code_report.specs.Lines.{global_line}
use Rattle.code_report.specs.Names.{with_global}
use Rattle.code_report.specs.inner.Appending.{GlobalLinesFrom, Passes}
use Rattle.code_report.proofs.LinesOfOne.{global_passes}
use Rattle.code_report.proofs.globals.push_declarator.Goals as goal

pub returns : goal.returns
unfolding name_of
returns c = λ ds.
    let gs = c.args.globals.now in
    let n = c.args.n in
    let d = c.args.declarator.now in
    let g = c.index-globals-n.result in
    let old = c.args.text.now.items in
    let new = c.push_global.new.text.items in
    let room = subst (λ e. n + length (with_global d.declared e []) ≤ length gs) c.in-Global.is c.requires in
    let within : n < length gs = omega (arith, room) in
    let there = slice_get_read gs (length gs) n g refl within c.index-globals-n.is in
    let named : c.bytes.result.now ≡ name_of d.declared = c.bytes.ensures ∙ c.name_of-name.ensures in
    subst (λ e. Passes (GlobalLinesFrom gs) n (with_global d.declared e ds) (n + 1) ds old new) (sym c.in-Global.is)
    (global_passes old new n gs (name_of d.declared) ds g there (c.in_ok-push_global.ensures ∙ ap (λ x. old ++ global_line x g) named))
