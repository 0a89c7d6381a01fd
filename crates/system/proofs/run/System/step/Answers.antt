use Rattle.std.proofs.Common.{SFits, w64, rules}
use Rattle.std.proofs.lemmas.Int.{to_z-of_z}
use Rattle.system.proofs.run.System.step.Goals as goal

pub returns-in-Corrupt-clause-ok : goal.returns-in-Corrupt-clause-ok
returns-in-Corrupt-clause-ok c =
    let fits : SFits w64 c.in-Corrupt.v = search rules in
    rw c.in-Corrupt.is (rw (to_z-of_z w64 c.in-Corrupt.v fits) at c.corrupt.ensures.ok c.args.code.now)

pub returns-in-Corrupt-clause-recorded : goal.returns-in-Corrupt-clause-recorded
returns-in-Corrupt-clause-recorded c =
    let fits : SFits w64 c.in-Corrupt.v = search rules in
    rw c.in-Corrupt.is (rw (to_z-of_z w64 c.in-Corrupt.v fits) at c.corrupt.ensures.recorded c.args.code.now)

pub returns-in-Corrupt-clause-same : goal.returns-in-Corrupt-clause-same
returns-in-Corrupt-clause-same c = c.corrupt.ensures.same c.args.code.now c.requires.same

pub returns-in-Corrupt-clause-setting : goal.returns-in-Corrupt-clause-setting
returns-in-Corrupt-clause-setting c = c.corrupt.ensures.setting c.args.code.now

pub returns-in-Cut-clause-ok : goal.returns-in-Cut-clause-ok
returns-in-Cut-clause-ok c = rw c.in-Cut.is (c.cut.ensures.ok c.args.code.now)

pub returns-in-Cut-clause-recorded : goal.returns-in-Cut-clause-recorded
returns-in-Cut-clause-recorded c = rw c.in-Cut.is (c.cut.ensures.recorded c.args.code.now)

pub returns-in-Cut-clause-same : goal.returns-in-Cut-clause-same
returns-in-Cut-clause-same c = c.cut.ensures.same c.args.code.now c.requires.same

pub returns-in-Cut-clause-setting : goal.returns-in-Cut-clause-setting
returns-in-Cut-clause-setting c = c.cut.ensures.setting c.args.code.now
