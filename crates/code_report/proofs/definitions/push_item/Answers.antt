use Rattle.std.proofs.Common.{◌+◌, ◌∷◌, IfSome, sym, subst}
use Rattle.elab_pieces.specs.Program.{definitions}
use Rattle.code_report.specs.Report.{DefinitionLines}
use Rattle.code_report.specs.inner.Appending.{Adds, FunctionLinesFrom, IsDefined, Passes}
use Rattle.code_report.proofs.LinesOfOne.{function_passes, some_at}
use Rattle.code_report.proofs.definitions.push_item.Goals as goal

pub returns-in_ok-push_definition-in-Function : goal.returns-in_ok-push_definition-in-Function
returns-in_ok-push_definition-in-Function c = λ is.
    let p = c.args.program.now in
    let n = c.args.f in
    let d = c.in-Function.definition in
    let old = c.args.text.now.items in
    let new = c.push_definition.new.text.items in
    let has = subst (IsDefined p.functions n) c.in-Function.is c.requires.has in
    let f = some_at p.functions n has.within in
    let adds = subst (λ o. IfSome o (λ g. Adds (DefinitionLines p.structs n d g) old new)) f.1 c.in_ok-push_definition-in-Function.ensures in
    subst (λ x. Passes (FunctionLinesFrom p) n (definitions (x ∷ is)) (n + 1) (definitions is) old new) (sym c.in-Function.is)
    (function_passes old new n p d (definitions is) f.0 f.1 adds)
