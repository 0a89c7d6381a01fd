-- What the lines of a script say, once each was read.
use Rattle.std.specs.Prelude.{◌≡◌, ℕ, ℤ, ◌≤◌, List}
use Rattle.std.specs.List.{flat_map}
use Rattle.meaning.specs.declared.event.Event.{Event}
use Rattle.script.specs.Script.{Line, IsLine, line_events, line_inputs, turns_of, greatest_turns, AreLinesOf}

-- each line of the script is one, with these inputs, so many turns in all, and these events where the turns aren't too many
pub record Says (script : List ℕ) (inputs : List ℤ) (events : List Event) (turns : ℕ) : Type 0 where
  pub lines : List Line
  pub said : AreLinesOf IsLine script lines
  pub inputs_are : inputs ≡ flat_map line_inputs lines
  pub turns_are : turns ≡ turns_of lines
  pub events_are : turns ≤ greatest_turns → events ≡ flat_map line_events lines
