use Rattle.std.proofs.Common.{sym, ◌∙◌}
use Rattle.tables.proofs.Lookups.{lookup_inserted_bytes}
use Rattle.tables.proofs.PlacesLemmas.{place_of_known, place_of_added, told}
use Rattle.tables.proofs.table.Table.push.Goals as goal

pub invariant_of-self : goal.invariant_of-self
invariant_of-self g c = λ x. rw c.in_err-push.ensures.err (c.self.invariant x)

pub invariant_of-self-then-contains_key : goal.invariant_of-self-then-contains_key
invariant_of-self-then-contains_key g c = λ x.
    rw c.in_ok-push.ensures.ok (c.self.invariant x
    ∙ sym (place_of_known g.T.Named.name_of c.self.inside.items c.args.item x
    (told g.T.Named.name_of c.self.inside.items _ c.name.result.now _ _ _ (c.self.invariant c.name.result.now) c.name.ensures c.contains_key.ensures c.if-contains_key.true)))

pub invariant_of-self-in_default : goal.invariant_of-self-in_default
invariant_of-self-in_default g c = λ x.
    rw c.in_default.ensures.entries (lookup_inserted_bytes (λ key. key.items) x c.in_ok-key.key c.len-place.result c.self.inside.places.entries
    ∙ place_of_added g.T.Named.name_of c.self.inside.items c.args.item _ _ x _ _ (c.in_ok-key.ensures.items ∙ c.name-2.ensures) c.len-place.ensures (c.self.invariant x)
    (told g.T.Named.name_of c.self.inside.items _ c.name.result.now _ _ _ (c.self.invariant c.name.result.now) c.name.ensures c.contains_key.ensures c.if-contains_key.false)
    c.in_ok-push-2.ensures.ok)
