use Rattle.std.proofs.Common.{◌∙◌, refl, ap, sym, Some}
use Rattle.std.proofs.lemmas.Option.{slice_get_read}
use Rattle.trace.proofs.SameRecords.{same_record}
use Rattle.trace.proofs.kept.equal_at.Goals as goal

pub returns-then-eq : goal.returns-then-eq
returns-then-eq c =
    let found = c.in_ok-found.found.now in
    let lookup = c.in_ok-found.ensures.lookup in
    slice_get_read c.args.kept.now _ c.args.place found refl lookup.3.0 lookup.1
    ∙ ap Some (same_record found c.args.item.now (sym c.eq.ensures ∙ c.if-eq.true))
