use Rattle.std.proofs.Common.{◌≡◌, ◌∙◌, inl, inr, ◌+◌, length, map, Some, slice_get, refl, sym, ap, subst, arith}
use Rattle.std.proofs.lemmas.Bool.{cases_eq}
use Rattle.std.proofs.lemmas.Option.{same_Some, slice_get_read, slice_get_within}
use Rattle.core_ir.specs.Order.{IsOrdered}
use Rattle.machine.specs.Outlines.{outline_of_code, role_of}
use Rattle.machine.specs.ValidCode.{SaysWhere}
use Rattle.icode.specs.Sites.{AreLocals, IsSite, KnowsSites}
use Rattle.icode.specs.inner.Locals.{DefinesFew}
use Rattle.icode.proofs.Lists.{place_here}
use Rattle.icode.proofs.SiteIsSaid.{says_where}
use Rattle.icode.proofs.says.places_say_where.Goals as goal

pub loop-place-init : goal.loop-place-init
loop-place-init c = record {
  known = subst (λ locals. KnowsSites (map outline_of_code c.args.function.now.body) locals 0 c.new-sites.result) c.as_slice-locals.ensures (c.new-sites.ensures (map outline_of_code c.args.function.now.body));
  before = λ k i low. absurd (omega arith);
}

pub at-requires-clause-known : goal.at-requires-clause-known
at-requires-clause-known c =
    subst (λ body. KnowsSites (map outline_of_code body) c.as_slice-locals.result.now c.loop-place.place c.loop-place.sites) (sym c.as_slice-body.ensures)
    (subst (λ locals. KnowsSites (map outline_of_code c.args.function.now.body) locals c.loop-place.place c.loop-place.sites) (sym c.as_slice-locals.ensures) c.loop-place.invariant.known)

pub at-requires-clause-here : goal.at-requires-clause-here
at-requires-clause-here c = place_here outline_of_code c.as_slice-body.result.now c.loop-place.place c.index-body-place.result c.loop-place-test.true c.index-body-place.is

pub at-requires-clause-fits : goal.at-requires-clause-fits
at-requires-clause-fits c =
    let here = place_here outline_of_code c.as_slice-body.result.now c.loop-place.place c.index-body-place.result c.loop-place-test.true c.index-body-place.is in
    let ordered = subst (λ body. IsOrdered (map outline_of_code body)) (sym c.as_slice-body.ensures) c.requires.ordered in
    (ordered.each c.loop-place.place (outline_of_code c.index-body-place.result) here).fits

pub at-requires-clause-locals : goal.at-requires-clause-locals
at-requires-clause-locals c =
    subst (λ body. AreLocals (map outline_of_code body) c.as_slice-locals.result.now) (sym c.as_slice-body.ensures)
    (subst (λ locals. AreLocals (map outline_of_code c.args.function.now.body) locals) (sym c.as_slice-locals.ensures) c.requires.locals)

pub returns-then-not-says : goal.returns-then-not-says
returns-then-not-says c =
    let f = c.args.function.now in
    let i = c.index-body-place.result in
    let at : slice_get f.body c.loop-place.place ≡ Some i = subst (λ body. slice_get body c.loop-place.place ≡ Some i) c.as_slice-body.ensures (slice_get_read c.as_slice-body.result.now (length c.as_slice-body.result.now) c.loop-place.place i refl c.loop-place-test.true c.index-body-place.is) in
    let site = subst (λ locals. IsSite (map outline_of_code f.body) locals c.loop-place.place (role_of i) c.at.result) c.as_slice-locals.ensures
    (subst (λ body. IsSite (map outline_of_code body) c.as_slice-locals.result.now c.loop-place.place (role_of i) c.at.result) c.as_slice-body.ensures c.at.ensures) in (
      λ is. absurd (cc),
      λ all. sym c.if-not-says.true ∙ (c.says.ensures ∙ (says_where f c.loop-place.place i c.at.result site).1 (all c.loop-place.place i at)),
    )

pub pass-requires-clause-known : goal.pass-requires-clause-known
pass-requires-clause-known c =
    subst (λ body. KnowsSites (map outline_of_code body) c.as_slice-locals.result.now c.loop-place.place c.loop-place.sites) (sym c.as_slice-body.ensures)
    (subst (λ locals. KnowsSites (map outline_of_code c.args.function.now.body) locals c.loop-place.place c.loop-place.sites) (sym c.as_slice-locals.ensures) c.loop-place.invariant.known)

pub pass-requires-clause-here : goal.pass-requires-clause-here
pass-requires-clause-here c = place_here outline_of_code c.as_slice-body.result.now c.loop-place.place c.index-body-place.result c.loop-place-test.true c.index-body-place.is

pub pass-requires-clause-defined : goal.pass-requires-clause-defined
pass-requires-clause-defined c =
    let here = place_here outline_of_code c.as_slice-body.result.now c.loop-place.place c.index-body-place.result c.loop-place-test.true c.index-body-place.is in
    let defined = subst (λ body. DefinesFew (map outline_of_code body)) (sym c.as_slice-body.ensures) c.requires.defined in
    defined c.loop-place.place (outline_of_code c.index-body-place.result) here

pub loop-place-preserved : goal.loop-place-preserved
loop-place-preserved c =
    let f = c.args.function.now in
    let i = c.index-body-place.result in
    let place = c.loop-place.place in
    let at : slice_get f.body place ≡ Some i = subst (λ body. slice_get body place ≡ Some i) c.as_slice-body.ensures (slice_get_read c.as_slice-body.result.now (length c.as_slice-body.result.now) place i refl c.loop-place-test.true c.index-body-place.is) in
    let site = subst (λ locals. IsSite (map outline_of_code f.body) locals place (role_of i) c.at.result) c.as_slice-locals.ensures
    (subst (λ body. IsSite (map outline_of_code body) c.as_slice-locals.result.now place (role_of i) c.at.result) c.as_slice-body.ensures c.at.ensures) in
    record {
      known = subst (λ locals. KnowsSites (map outline_of_code f.body) locals (place + 1) c.pass.new.self) c.as_slice-locals.ensures
          (subst (λ body. KnowsSites (map outline_of_code body) c.as_slice-locals.result.now (place + 1) c.pass.new.self) c.as_slice-body.ensures c.pass.ensures);
      before = λ k j low there. elim (cases_eq k place) [
        | inl e ↦
            let same = same_Some i j (sym at ∙ ap (λ n. slice_get f.body n) (sym e) ∙ there) in
            subst (λ n. SaysWhere f n j) (sym e) (subst (SaysWhere f place) same ((says_where f place i c.at.result site).0 (sym c.says.ensures ∙ c.if-not-says.false)))
        | inr ne ↦ c.loop-place.invariant.before k j (omega arith) there
      ];
    }

pub returns : goal.returns
returns c = (
  λ is k i there.
      let low = slice_get_within c.args.function.now.body k i there in
      let same = ap length c.as_slice-body.ensures in
      c.loop-place.invariant.before k i (omega (arith, low, same, c.loop-place-test.false)) there,
  λ all. refl,
)
