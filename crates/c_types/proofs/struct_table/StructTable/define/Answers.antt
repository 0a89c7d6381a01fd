use Rattle.std.proofs.Common.{◌≡◌, ◌∙◌, ◌<◌, length, get_or, Some, arith}
use Rattle.std.specs.List.{slice_get}
use Rattle.std.proofs.lemmas.Option.{slice_get-get_or}
use Rattle.c_types.specs.declared.structs.StructDef.{StructDef}
use Rattle.c_types.specs.Structs.{with_body}
use Rattle.c_types.proofs.LaidOut.{laid_defined}
use Rattle.c_types.proofs.StructsLemmas.{set_bodied}
use Rattle.c_types.proofs.struct_table.StructTable.define.Goals as goal
use Rattle.c_types.proofs.struct_table.StructTable.define.Goals.{After-set-2}

bodied : (c : After-set-2) → c.set.new.self ≡ with_body c.self.inside.defs c.args.s c.args.members
bodied c =
    let before : StructDef = get_or c.as_slice-3.result.now c.args.s c.index-as_slice-s.result in
    let declared : c.args.s < length c.self.inside.defs = rw c.self.view_is c.requires.declared in
    let below : c.args.s < length c.as_slice-3.result.now = rw c.as_slice-3.ensures declared in
    let at : slice_get c.self.inside.defs c.args.s ≡ Some before =
    rw (← c.as_slice-3.ensures) (slice_get-get_or c.as_slice-3.result.now c.args.s c.index-as_slice-s.result below) in
    c.set.ensures ∙ set_bodied c.self.inside.defs c.args.s before c.in_ok-name.name c.args.members at c.in_ok-name.ensures

pub invariant_of-self : goal.invariant_of-self
invariant_of-self c =
    rw (bodied c, c.set-2.ensures)
    (laid_defined c.self.inside.defs c.self.inside.tags c.self.inside.layouts c.self.invariant c.args.s c.args.members
    (rw c.self.view_is c.requires.declared) (rw c.self.view_is c.requires.no_body) (rw c.self.view_is c.requires.members) (omega arith)
    c.in_ok-layout.layout (rw (c.as_slice.ensures, c.as_slice-2.ensures) at c.in_ok-layout.ensures))

pub returns-clause-ok : goal.returns-clause-ok
returns-clause-ok c = rw (← c.self.view_is) (bodied c)
