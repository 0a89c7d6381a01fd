use Rattle.std.proofs.Common.{◌∙◌}
use Rattle.c_types.proofs.LaidOut.{tag_found}
use Rattle.c_types.proofs.struct_table.StructTable.find.Goals as goal

pub returns-in_err-find : goal.returns-in_err-find
returns-in_err-find c =
    rw (c.from_residual.ensures, ← c.self.view_is)
    (c.in_err-find.ensures.place ∙ tag_found c.self.inside.defs c.self.inside.tags c.self.inside.layouts c.self.invariant c.args.tag.now)

pub returns : goal.returns
returns c =
    rw (← c.self.view_is)
    (c.in_ok-find.ensures.place ∙ tag_found c.self.inside.defs c.self.inside.tags c.self.inside.layouts c.self.invariant c.args.tag.now)
