use Rattle.std.proofs.Common.{[], ◌∷◌, ◌++◌, ◌∙◌, ap, ◌≡◌, slice_get, Some}
use Rattle.trace.specs.inner.Kept.{records_at}
use Rattle.trace.proofs.Places.{records_push, records_push_kept}
use Rattle.trace.proofs.kept.KeptRecords.push.Goals as goal

pub returns-in-Some-clause-records : goal.returns-in-Some-clause-records
returns-in-Some-clause-records c =
    let kept = c.self.inside.kept.items in
    let found : slice_get kept c.in-Some.place ≡ Some c.args.item.now = rw (← c.as_slice.ensures.value) (c.in-Some.ensures) in
    ap (records_at kept) c.push_reserved.ensures.items
    ∙ records_push kept c.self.inside.places.items c.in-Some.place c.args.item.now found
    ∙ ap (λ v. v.records ++ c.args.item.now ∷ []) c.self.view_is

pub returns-in-None-clause-records : goal.returns-in-None-clause-records
returns-in-None-clause-records c =
    let kept = c.self.inside.kept.items in
    let places = c.self.inside.places.items in
    rw (c.push_reserved-in-None.ensures.items, c.push_reserved-in-None-2.ensures.items, c.len-place.ensures, c.self.inside.kept.ok.0)
    (records_push_kept kept places c.args.item.now c.self.invariant ∙ ap (λ v. v.records ++ c.args.item.now ∷ []) c.self.view_is)
