use Rattle.std.proofs.Common.{arith}
use Rattle.icode.proofs.SafeUnits.{count_le}
use Rattle.icode.proofs.sites.Sites.new.Goals as goal

pub write_units_before-requires-clause-room : goal.write_units_before-requires-clause-room
write_units_before-requires-clause-room c =
    let many = count_le 0 c.args.locals.now c.requires.lie in omega (arith, many, c.requires.few)
