use Rattle.std.proofs.Common.{drop}
use Rattle.elab_pieces.specs.Program.{definitions}
use Rattle.code_report.specs.inner.Appending.{FunctionLinesFrom, HaveFunctions, Passes}
use Rattle.code_report.proofs.definitions.push_functions.Given as goal

abbrev pub invariant-loop-item : goal.invariant-loop-item
invariant-loop-item l = record {
  passes : Passes (FunctionLinesFrom l.program) 0 (definitions l.items) l.f (definitions (drop l.item-index l.items)) l.initial.text.items l.text.items;
  have : HaveFunctions (definitions (drop l.item-index l.items)) (drop l.f l.program.functions);
}
