use Rattle.std.proofs.Common.{ap, sym, ◌∙◌}
use Rattle.std.specs.FinMap as map
use Rattle.address_map.proofs.MapLemmas.{get-value_at}
use Rattle.address_map.proofs.address_map.AddressMap.get.Goals as goal

pub returns : goal.returns
returns g c =
    c.copied.ensures ∙ c.get.ensures.value
    ∙ sym (get-value_at c.self.inside.entries.entries c.args.at) ∙ ap (λ m. map.get m c.args.at) c.self.view_is
