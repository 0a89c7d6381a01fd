use Rattle.std.proofs.Common.{◌≡◌, ◌∙◌, ◌+◌, ◌<◌, ◌≤◌, ◌++◌, false, if◌then◌else◌, [], ◌∷◌, length, ap, sym, subst, arith}
use Rattle.std.specs.List.{slice_index_or}
use Rattle.elab_rows.specs.Scope.{is_slot_local}
use Rattle.code_report.specs.Lines.{local_line}
use Rattle.code_report.specs.Names.{frame_names}
use Rattle.code_report.specs.inner.Appending.{LocalLinesFrom, Passes}
use Rattle.code_report.proofs.LinesOfOne.{local_passes, some_at}
use Rattle.code_report.proofs.locals.push_variable.Goals as goal

pub returns : goal.returns
returns c = λ vs.
    let f = c.args.function.now in
    let v = c.args.v in
    let x = c.args.variable.now in
    let old = c.args.text.now.items in
    let new = c.push_local.new.text.items in
    let b = slice_index_or c.args.safe.now v false in
    let test : is_slot_local x ≡ false = sym c.is_slot_local.ensures ∙ c.if-is_slot_local.false in
    let room = subst (λ t. v + length (if t then [] else x.name ∷ []) ≤ length f.locals) test c.requires.within in
    let within : v < length f.locals = omega (arith, room) in
    let l = some_at f.locals v within in
    subst (λ t. Passes (LocalLinesFrom f) v (if t then frame_names vs else x.name ∷ frame_names vs) (v + 1) (frame_names vs) old new) (sym test)
    (local_passes old new v f x.name (frame_names vs) l.0 b l.1 (c.requires.safe.exact v within)
    (c.in_ok-push_local.ensures ∙ ap (λ y. old ++ local_line y b) c.bytes.ensures))
