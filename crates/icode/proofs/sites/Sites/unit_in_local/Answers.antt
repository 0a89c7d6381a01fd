use Rattle.std.proofs.Common.{◌∙◌, Some, take, sym, ap, arith}
use Rattle.std.proofs.lemmas.Option.{slice_get_within}
use Rattle.machine.specs.Stands.{safe_units}
use Rattle.icode.specs.inner.Sites.{unit_in}
use Rattle.icode.proofs.SafeUnits.{take_le, units_le}
use Rattle.icode.proofs.sites.Sites.unit_in_local.Goals as goal

pub bounds-self-number : goal.bounds-self-number
bounds-self-number c =
    let low = slice_get_within c.args.locals.now c.args.address.local c.in-Some.local.now (sym c.in-Some.ensures) in omega (arith, low, c.requires.room)

pub unit_in-requires-clause-few : goal.unit_in-requires-clause-few
unit_in-requires-clause-few c =
    let low = slice_get_within c.args.locals.now c.args.address.local c.in-Some.local.now (sym c.in-Some.ensures) in
    let is = c.requires.before c.args.address.local low in
    let most = take_le c.args.address.local c.args.locals.now in
    omega (arith, is, most, c.requires.few)

pub unit_in-requires-clause-small : goal.unit_in-requires-clause-small
unit_in-requires-clause-small c =
    let most = units_le c.args.locals.now c.args.address.local c.in-Some.local.now (sym c.in-Some.ensures) in omega (arith, most, c.requires.few)

pub unit_in-requires-clause-inside : goal.unit_in-requires-clause-inside
unit_in-requires-clause-inside c = c.requires.inside c.in-Some.local.now (sym c.in-Some.ensures)

pub returns-in-Some : goal.returns-in-Some
returns-in-Some c =
    let low = slice_get_within c.args.locals.now c.args.address.local c.in-Some.local.now (sym c.in-Some.ensures) in
    let is = c.requires.before c.args.address.local low in
    c.unit_in.ensures ∙ ap (λ n. unit_in c.args.address n (Some c.in-Some.local.now)) is
    ∙ ap (λ o. unit_in c.args.address (safe_units (take c.args.address.local c.args.locals.now)) o) c.in-Some.ensures
