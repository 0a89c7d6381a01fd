use Rattle.std.proofs.Common.{◌<◌, ◌∙◌, IfSome, map, sym, subst}
use Rattle.core_ir.specs.inner.Registers.{IsEntered, linked}
use Rattle.core_ir.proofs.RegistersAreKnown.{defined_more, defined_same}
use Rattle.core_ir.proofs.registers.Registers.pass_definition.Goals as goal

pub returns-in-Some-clause-defined : goal.returns-in-Some-clause-defined
returns-in-Some-clause-defined g c =
    let o = g.I.HasOutline.outline c.args.instr.now in
    let low = subst (λ x. IfSome x (λ d. d < 1024)) (sym c.in-Some.ensures) c.requires.defined in
    let chain = subst (λ x. IsEntered c.args.self.now.chain c.in-Some.register (linked c.args.self.now.chain c.args.place x) c.define.new.self.chain) c.role.ensures c.define.ensures.chain in
    defined_more (map g.I.HasOutline.outline c.args.code.now) c.args.place o c.requires.here c.args.self.now c.define.new.self c.in-Some.register c.requires.known (sym c.in-Some.ensures) low c.define.ensures.last chain

pub returns-in_default-clause-defined : goal.returns-in_default-clause-defined
returns-in_default-clause-defined g c =
    let o = g.I.HasOutline.outline c.args.instr.now in
    defined_same (map g.I.HasOutline.outline c.args.code.now) c.args.place o c.requires.here c.args.self.now c.requires.known (sym c.defined.ensures ∙ c.in_default.is)
