use Rattle.std.proofs.Common.{[]}
use Rattle.elab_valid.proofs.ProgramsValid.{program-typed}
use Rattle.elab_valid.proofs.theorems.programs_are_typed.Goals as goal

pub returns : goal.returns
returns c t test typed fit = program-typed (record {
  base = record {
    rows = c.rows_are_good.ensures;
    parts = c.parts_compose.ensures;
    fit = c.rows_fit.ensures;
    touch = c.rows_touch.ensures;
    equal = c.same_is_equality.ensures;
    known = [];
  };
  good = c.statements_are_good.ensures;
  fit = c.statements_fit.ensures;
  numbers = c.lines_are_numbered.ensures;
}) t test typed fit
