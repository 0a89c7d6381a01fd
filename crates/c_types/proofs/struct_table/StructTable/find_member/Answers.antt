use Rattle.std.proofs.Common.{sym, ◌∙◌, ◌<◌, ◌^◌, arith, length}
use Rattle.c_types.proofs.LaidOut.{member_at, names_few}
use Rattle.c_types.proofs.struct_table.StructTable.find_member.Goals as goal

pub returns-in_err-find : goal.returns-in_err-find
returns-in_err-find c =
    rw (c.from_residual-in_err-find.ensures, ← c.self.view_is)
    (c.in_err-find.ensures.place
    ∙ member_at c.self.inside.defs c.self.inside.tags c.self.inside.layouts c.self.invariant c.args.s c.args.name.now c.in_ok-layout_at.field-0.now
    (rw c.as_slice.ensures at (sym c.in_ok-layout_at.ensures)))

pub overflow_cast-result : goal.overflow_cast-result
overflow_cast-result c =
    let few : length c.in_ok-layout_at.field-0.now.names < 2 ^ 32 =
    names_few c.self.inside.defs c.self.inside.tags c.self.inside.layouts c.self.invariant c.args.s c.in_ok-layout_at.field-0.now
    (rw c.as_slice.ensures at (sym c.in_ok-layout_at.ensures)) in
    omega (arith, c.in_ok-find.ensures.within)

pub returns : goal.returns
returns c =
    rw (← c.self.view_is)
    (c.in_ok-find.ensures.place
    ∙ member_at c.self.inside.defs c.self.inside.tags c.self.inside.layouts c.self.invariant c.args.s c.args.name.now c.in_ok-layout_at.field-0.now
    (rw c.as_slice.ensures at (sym c.in_ok-layout_at.ensures)))
