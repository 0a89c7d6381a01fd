use Rattle.std.proofs.Common.{◌∙◌, map, refl, sym}
use Rattle.core_ir.proofs.RegistersAreKnown.{started_more, started_same}
use Rattle.core_ir.proofs.registers.Registers.pass.Goals as goal

pub returns-in-Some : goal.returns-in-Some
returns-in-Some g c =
    let o = g.I.HasOutline.outline c.args.instr.now in
    let some = c.in-Some.ensures.some in
    started_more (map g.I.HasOutline.outline c.args.code.now) c.args.place o c.requires.here c.args.self.now c.pass_definition.new.self c.start.new.self some.1.0 c.in-Some.register
    c.requires.known c.pass_definition.ensures.started c.pass_definition.ensures.defined (sym c.role.ensures ∙ some.1.1) c.start.ensures.started c.start.ensures.last c.start.ensures.chain

pub returns-in_default : goal.returns-in_default
returns-in_default g c =
    let o = g.I.HasOutline.outline c.args.instr.now in
    started_same (map g.I.HasOutline.outline c.args.code.now) c.args.place o c.requires.here c.args.self.now c.pass_definition.new.self
    c.requires.known c.pass_definition.ensures.started c.pass_definition.ensures.defined (λ t f is. c.in_default.ensures.none refl t f (c.role.ensures ∙ is))
