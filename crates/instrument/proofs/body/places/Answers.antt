use Rattle.std.proofs.Common.{◌≡◌, ◌+◌, List, length, map, Some, slice_get, refl, sym, ap, subst, arith}
use Rattle.std.proofs.lemmas.Option.{slice_get_read}
use Rattle.core_ir.specs.declared.instr.Instr.{Instr}
use Rattle.core_ir.specs.Flow.{Stands}
use Rattle.core_ir.specs.Instructions.{outline_of}
use Rattle.core_ir.specs.Order.{RoleFits}
use Rattle.icode.specs.Sites.{IsSite, KnowsSites}
use Rattle.instrument.specs.inner.Places.{AreMade, IsMade}
use Rattle.instrument.proofs.Made.{few_registers, none_made, one_more, place_here}
use Rattle.instrument.proofs.body.places.Goals as goal

pub loop-place-init : goal.loop-place-init
loop-place-init c =
    let f = c.args.function.now in
    record {
      known = c.new-sites.ensures (map outline_of f.body);
      made = subst (AreMade c.args.program.now f c.args.classes.now c.args.locals.now 0) (sym c.new-places.ensures) (none_made c.args.program.now f c.args.classes.now c.args.locals.now);
    }

pub at-site-requires-clause-here : goal.at-site-requires-clause-here
at-site-requires-clause-here c = place_here outline_of c.as_slice-body.result.now c.loop-place.place c.index-body-place.result c.loop-place-test.true c.index-body-place.is

pub at-site-requires-clause-fits : goal.at-site-requires-clause-fits
at-site-requires-clause-fits c =
    let i = outline_of c.index-body-place.result in
    let here = place_here outline_of c.as_slice-body.result.now c.loop-place.place c.index-body-place.result c.loop-place-test.true c.index-body-place.is in
    let there = subst (λ (body : List Instr). Stands (map outline_of body) 0 c.loop-place.place i) c.as_slice-body.ensures here in
    subst (λ (body : List Instr). RoleFits (map outline_of body) c.loop-place.place i.role) (sym c.as_slice-body.ensures) (c.requires.valid.well_formed.ordered.each c.loop-place.place i there).fits

pub pass-requires-clause-here : goal.pass-requires-clause-here
pass-requires-clause-here c = place_here outline_of c.as_slice-body.result.now c.loop-place.place c.index-body-place.result c.loop-place-test.true c.index-body-place.is

pub pass-requires-clause-defined : goal.pass-requires-clause-defined
pass-requires-clause-defined c =
    let i = outline_of c.index-body-place.result in
    let here = place_here outline_of c.as_slice-body.result.now c.loop-place.place c.index-body-place.result c.loop-place-test.true c.index-body-place.is in
    let there = subst (λ (body : List Instr). Stands (map outline_of body) 0 c.loop-place.place i) c.as_slice-body.ensures here in
    few_registers c.args.program.now c.args.function.now c.requires.valid c.loop-place.place i there

pub loop-place-preserved : goal.loop-place-preserved
loop-place-preserved c =
    let program = c.args.program.now in
    let f = c.args.function.now in
    let classes = c.args.classes.now in
    let locals = c.args.locals.now in
    let n = c.loop-place.place in
    let i = c.index-body-place.result in
    let body = c.as_slice-body.result.now in
    let at : slice_get f.body n ≡ Some i = subst (λ (xs : List Instr). slice_get xs n ≡ Some i) c.as_slice-body.ensures (slice_get_read body (length body) n i refl c.loop-place-test.true c.index-body-place.is) in
    let site = subst (λ (xs : List Instr). IsSite (map outline_of xs) locals n (outline_of i).role c.at-site.result) c.as_slice-body.ensures c.at-site.ensures in
    let now : IsMade program f classes locals n i c.in_ok-decide.field-0 = record { site = c.at-site.result; is_site = site; is = c.in_ok-decide.ensures } in
    record {
      known = subst (λ (xs : List Instr). KnowsSites (map outline_of xs) locals (n + 1) c.pass.new.self) c.as_slice-body.ensures c.pass.ensures;
      made = subst (AreMade program f classes locals (n + 1)) (sym c.in_ok-push.ensures.ok) (one_more program f classes locals n c.loop-place.places i c.in_ok-decide.field-0 c.loop-place.invariant.made at now);
    }

pub returns : goal.returns
returns c =
    let same = ap length c.as_slice-body.ensures in
    subst (λ n. AreMade c.args.program.now c.args.function.now c.args.classes.now c.args.locals.now n c.loop-place.places) (omega (arith, same, c.loop-place-test.false, c.loop-place.auto.place-end)) c.loop-place.invariant.made
