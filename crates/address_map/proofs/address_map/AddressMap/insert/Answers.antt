use Rattle.std.proofs.Common.{ap, ◌∙◌}
use Rattle.std.specs.FinMap as map
use Rattle.address_map.proofs.MapLemmas.{insert-value_at}
use Rattle.address_map.proofs.address_map.AddressMap.insert.Goals as goal

pub returns-clause-ok : goal.returns-clause-ok
returns-clause-ok g c =
    insert-value_at c.self.inside.entries.entries c.insert.new.self.entries c.args.at c.args.value c.in_ok-insert.ensures.updates.0
    ∙ ap (λ m. map.insert m c.args.at c.args.value) c.self.view_is
