use Rattle.c_types.proofs.LaidOut.{units_some, units_none}
use Rattle.c_types.proofs.struct_table.StructTable.units.Goals as goal

pub returns-in-Some : goal.returns-in-Some
returns-in-Some c =
    rw (c.within_limit.ensures, ← c.self.view_is)
    (units_some c.self.inside.defs c.self.inside.tags c.self.inside.layouts c.self.invariant c.args.ty.now c.in-Some.units
    (rw c.as_slice.ensures at c.in-Some.ensures))

pub returns-in-None : goal.returns-in-None
returns-in-None c =
    rw (← c.self.view_is)
    (units_none c.self.inside.defs c.self.inside.tags c.self.inside.layouts c.self.invariant c.args.ty.now
    (rw c.as_slice.ensures at c.in-None.ensures))
