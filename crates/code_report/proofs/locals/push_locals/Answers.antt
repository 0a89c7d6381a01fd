use Rattle.std.proofs.Common.{◌≤◌, List, [], length, drop, ap, sym, subst, arith}
use Rattle.std.proofs.lemmas.List.{at_drop_all}
use Rattle.core_ir.specs.declared.program.Local.{Local}
use Rattle.code_report.specs.Names.{frame_names}
use Rattle.code_report.specs.Report.{LocalLines, no_locals}
use Rattle.code_report.specs.inner.Appending.{LocalLinesFrom}
use Rattle.code_report.proofs.Passing.{passes_end}
use Rattle.code_report.proofs.locals.push_locals.Goals as goal

pub returns : goal.returns
returns c =
    let f = c.args.function.now in
    let vs = c.args.variables.now in
    let i = c.loop-variable.variable-index in
    let v = c.loop-variable.v in
    let none = at_drop_all frame_names vs i (omega (arith, c.loop-variable-test.false)) in
    let all : length f.locals ≤ v = omega (arith, c.loop-variable.invariant.count, c.requires.each, ap length none) in
    passes_end (LocalLinesFrom f) 0 (frame_names vs) c.args.text.now.items v (frame_names (drop i vs)) c.loop-variable.text.items c.loop-variable.invariant none
    (subst (λ ls. LocalLines f v [] ls []) (sym (at_drop_all (λ (ls : List Local). ls) f.locals v all)) (no_locals v))
