use Rattle.std.proofs.Common.{arith}
use Rattle.icode.proofs.validity.valid_code.Goals as goal

pub returns : goal.returns
returns c = (
  λ is. record {
    few_functions = omega arith;
    entry = c.has_entry.ensures.0 c.if-not-has_entry.false;
    functions = c.are_valid_functions.ensures.0 is;
  },
  λ valid. c.are_valid_functions.ensures.1 valid.functions,
)
