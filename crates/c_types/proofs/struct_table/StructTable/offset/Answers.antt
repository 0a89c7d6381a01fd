use Rattle.std.proofs.Common.{sym}
use Rattle.c_types.proofs.LaidOut.{offset_answer, offset_there}
use Rattle.c_types.proofs.struct_table.StructTable.offset.Goals as goal

pub unreachable-requires-in_default-get : goal.unreachable-requires-in_default-get
unreachable-requires-in_default-get c =
    offset_there c.self.inside.defs c.self.inside.tags c.self.inside.layouts c.self.invariant c.args.s c.args.member c.in-Some.layout.now
    (rw (c.self.view_is) c.requires)
    (rw c.as_slice.ensures at (sym c.in-Some.ensures))
    (sym c.in_default-get.ensures.value)

pub returns : goal.returns
returns c =
    rw (c.within_limit.ensures, ← c.self.view_is)
    (offset_answer c.self.inside.defs c.self.inside.tags c.self.inside.layouts c.self.invariant c.args.s c.args.member c.in-Some.layout.now c.in-Some-get.units.now
    (rw (c.self.view_is) c.requires)
    (rw c.as_slice.ensures at (sym c.in-Some.ensures))
    (sym c.in-Some-get.ensures.value))
