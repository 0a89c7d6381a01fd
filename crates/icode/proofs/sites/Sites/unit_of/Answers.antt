use Rattle.std.proofs.Common.{◌≡◌, ◌∙◌, ℕ, IfSome, map, Some, slice_get, ℤ, sym, ap, subst, arith}
use Rattle.core_ir.specs.Outline.{Outline}
use Rattle.machine.specs.Stands.{IsUnitOf, accessed}
use Rattle.icode.specs.inner.Sites.{IsOnlyUnit, StaysInside, unit_at}
use Rattle.icode.proofs.SafeUnits.{count_le}
use Rattle.icode.proofs.Units.{one_unit, stays_inside, unit_is}
use Rattle.icode.proofs.sites.Sites.unit_of.Goals as goal

pub unit_at-requires-clause-room : goal.unit_at-requires-clause-room
unit_at-requires-clause-room g c =
    let many = count_le 0 c.args.locals.now c.requires.locals.lie in omega (arith, many, c.requires.locals.few)

pub unit_at-requires-clause-inside : goal.unit_at-requires-clause-inside
unit_at-requires-clause-inside g c =
    let code = map g.I.HasOutline.outline c.args.code.now in
    let i : Outline = g.I.HasOutline.outline c.args.instr.now in
    let access : accessed i.role ≡ Some c.in-Some.register = ap accessed (sym c.role.ensures) ∙ sym c.accessed.ensures ∙ c.in-Some.is in
    let names : slice_get i.used 0 ≡ Some c.in-Some.register = subst (λ o. IfSome o (λ p. slice_get i.used 0 ≡ Some p)) access c.requires.names in
    stays_inside code c.args.locals.now c.args.place c.in-Some.register c.address.result (λ v o. c.address.ensures code c.args.place v o c.requires.known.marks)
    i c.requires.here access names c.requires.locals

pub returns-in-Some : goal.returns-in-Some
returns-in-Some g c =
    let code = map g.I.HasOutline.outline c.args.code.now in
    let locals = c.args.locals.now in
    let i : Outline = g.I.HasOutline.outline c.args.instr.now in
    let p = c.in-Some.register in
    let access : accessed i.role ≡ Some p = ap accessed (sym c.role.ensures) ∙ sym c.accessed.ensures ∙ c.in-Some.is in
    let names : slice_get i.used 0 ≡ Some p = subst (λ o. IfSome o (λ q. slice_get i.used 0 ≡ Some q)) access c.requires.names in
    let tells = λ (v : ℕ) (o : ℤ). c.address.ensures code c.args.place v o c.requires.known.marks in
    let inside : StaysInside locals c.address.result = stays_inside code locals c.args.place p c.address.result tells i c.requires.here access names c.requires.locals in
    let is : IsUnitOf code locals c.args.place (Some p) (unit_at locals c.address.result) = unit_is code locals c.args.place p c.address.result tells inside in
    subst (λ u. IsOnlyUnit code locals c.args.place i.role u) (sym c.unit_at.ensures) (record {
      is = subst (λ o. IsUnitOf code locals c.args.place o (unit_at locals c.address.result)) (sym access) is;
      one = λ u of. one_unit code locals c.args.place p c.address.result tells u (unit_at locals c.address.result) (subst (λ o. IsUnitOf code locals c.args.place o u) access of) is;
    })
