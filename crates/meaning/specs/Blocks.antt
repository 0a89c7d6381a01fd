-- Events that come several times.
use Rattle.std.specs.Prelude.{ℕ, zero, suc, List, [], ◌++◌}
use Rattle.std.specs.List.{flat_map}
use Rattle.meaning.specs.declared.event.Event.{Event}
use Rattle.meaning.specs.declared.events.Block.{Block}

-- these events so many times
abbrev pub repeated : ℕ → List Event → List Event
repeated zero events = []
repeated (suc n) events = repeated n events ++ events

abbrev pub events_of : Block → List Event
events_of block = repeated block.times block.events

-- the events of blocks, in order
abbrev pub listed : List Block → List Event
listed = flat_map events_of
