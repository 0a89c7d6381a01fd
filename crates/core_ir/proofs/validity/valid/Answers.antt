use Rattle.std.proofs.Common.{arith}
use Rattle.core_ir.proofs.validity.valid.Goals as goal

pub returns : goal.returns
returns c = (
  λ is. record {
    few_functions = omega arith;
    few_structs = omega arith;
    structs = c.tables_are_sound.ensures;
    entry = c.has_entry.ensures.0 c.if-not-has_entry.false;
    globals = c.has_globals.ensures.0 c.if-not-has_globals.false;
    functions = c.are_valid_functions.ensures.0 is;
  },
  λ valid. c.are_valid_functions.ensures.1 valid.functions,
)
