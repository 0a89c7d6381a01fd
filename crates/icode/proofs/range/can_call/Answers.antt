use Rattle.std.proofs.Common.{◌≡◌, ◌∙◌, Some, slice_get, sym, subst}
use Rattle.std.proofs.lemmas.Option.{same_Some}
use Rattle.core_ir.specs.Valid.{HasArguments}
use Rattle.icode.proofs.range.can_call.Goals as goal

pub returns-in-Some : goal.returns-in-Some
returns-in-Some c =
    let there : slice_get c.args.code.now.functions c.args.number ≡ Some c.in-Some.callee.now = sym c.in-Some.ensures.value in (
      λ is. record { callee = c.in-Some.callee.now; there = there; arguments = c.has_arguments.ensures.0 is },
      λ can.
          let e = same_Some can.callee c.in-Some.callee.now (sym can.there ∙ there) in
          c.has_arguments.ensures.1 (subst (λ f. HasArguments f.ty c.args.args.now) e can.arguments),
    )
