use Rattle.std.proofs.Common.{◌≡◌, ◌∙◌, Some, slice_get, sym, ap}
use Rattle.std.proofs.lemmas.Option.{same_Some}
use Rattle.c_types.specs.declared.ty.FnTy.{out-FnTy}
use Rattle.machine.specs.declared.code.CodeFunction.{CodeFunction}
use Rattle.icode.proofs.validity.has_entry.Goals as goal

pub returns-in-Some : goal.returns-in-Some
returns-in-Some c =
    let there : slice_get c.args.code.now.functions c.args.code.now.entry ≡ Some c.in-Some.entry.now = sym c.in-Some.ensures.value in (
      λ is. record { entry = c.in-Some.entry.now; there = there; no_parameters = c.is_empty.ensures.0 is },
      λ has.
          let e = same_Some has.entry c.in-Some.entry.now (sym has.there ∙ there) in
          c.is_empty.ensures.1 (sym (ap (λ (f : CodeFunction). (out-FnTy f.ty).params) e) ∙ has.no_parameters),
    )
