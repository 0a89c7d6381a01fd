use Rattle.std.proofs.Common.{◌<◌, ◌^◌, suc, length, arith}
use Rattle.c_types.proofs.LaidOut.{laid_declared}
use Rattle.c_types.proofs.struct_table.StructTable.declare.Goals as goal

pub invariant_of-self-in_default-push : goal.invariant_of-self-in_default-push
invariant_of-self-in_default-push c =
    let room : suc (length c.self.inside.defs) < 2 ^ 32 = omega arith in
    rw (c.in_default.ensures.ok, c.in_default-push.ensures.ok, c.in_ok-push.ensures.ok, c.in_ok-name.ensures)
    (laid_declared c.self.inside.defs c.self.inside.tags c.self.inside.layouts c.self.invariant c.args.tag room)
