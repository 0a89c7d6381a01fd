use Rattle.std.proofs.Common.{arith, rules}
use Rattle.std.proofs.lemmas.Grind.{common_steps}
use Rattle.elab_emit.proofs.Scalars.{greatest_among}
use Rattle.elab_emit.proofs.copies.members_of.Goals as goal

pub returns-in-Some-members-clause-depth : goal.returns-in-Some-members-clause-depth
returns-in-Some-members-clause-depth c = greatest_among _ c.args.s _ (first_of (search rules, grind (arith, common_steps)))
