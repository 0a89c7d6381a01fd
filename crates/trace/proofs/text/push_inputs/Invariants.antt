use Rattle.std.proofs.Common.{◌≡◌, ◌++◌, drop}
use Rattle.std.specs.List.{flat_map}
use Rattle.trace.specs.Text.{input_text}
use Rattle.trace.proofs.text.push_inputs.Given as goal

-- what is written and the lines of what is left are all lines
abbrev pub invariant-loop-v : goal.invariant-loop-v
invariant-loop-v l =
    l.text.items ++ flat_map input_text (drop l.v-index l.inputs) ≡ l.fn.text.items ++ flat_map input_text l.inputs
