use Rattle.std.proofs.Common.{rules, ◌≡◌, ◌∙◌, ◌<◌, ◌^◌, SFits, sym, ap, w64}
use Rattle.std.proofs.lemmas.Int.{to_z-of_z}
use Rattle.safe_locals.specs.inner.Marks as spec
use Rattle.safe_locals.proofs.Products.{product_is}
use Rattle.safe_locals.proofs.marks.moved_by.Goals as goal

pub returns-in-Number-clause-value : goal.returns-in-Number-clause-value
returns-in-Number-clause-value c =
    let n = c.in-Number.number in
    let fits : SFits w64 n = search rules in
    let small : c.args.units < 2 ^ 32 = c.ranges.units.fits in
    let from : c.from.result ≡ n = c.from.ensures ∙ to_z-of_z w64 n fits in
    c.moved.ensures.value ∙ ap (λ x. spec.moved c.args.mark x) (product_is n c.args.units c.from.result c.from-in-Number.result fits small from c.from-in-Number.ensures)
    ∙ sym (ap (λ x. spec.moved_by c.args.mark x c.args.units) c.in-Number.is)
