use Rattle.c_types.proofs.SameTypes.{all_same_unequal}
use Rattle.c_types.proofs.sameness.+same.Goals as goal

pub lists_agree-returns-then-ts-us : goal.lists_agree-returns-then-ts-us
lists_agree-returns-then-ts-us t c = all_same_unequal c.args.ts.now c.args.us.now c.if-ts-us.true
