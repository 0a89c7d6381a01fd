use Rattle.std.proofs.Common.{map, subst}
use Rattle.core_ir.specs.Instructions.{outline_of}
use Rattle.safe_locals.specs.AtLocals.{AreAt}
use Rattle.safe_locals.proofs.AtEach.{at_function}
use Rattle.safe_locals.proofs.functions.at_safe_of.Goals as goal

pub returns : goal.returns
returns c =
    at_function c.args.function.now c.args.safe.now c.in_ok-at.at c.requires.safe
    (subst (λ b. AreAt (map outline_of b) c.args.safe.now c.in_ok-at.at) c.as_slice-body.ensures c.in_ok-at.ensures)
