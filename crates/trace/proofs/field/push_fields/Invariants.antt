use Rattle.std.proofs.Common.{◌≡◌, ◌++◌, drop, map}
use Rattle.trace.specs.Text.{spaced}
use Rattle.trace.specs.inner.Field.{field_text}
use Rattle.trace.proofs.field.push_fields.Given as goal

-- what is written and what is left to write are what all the fields give
abbrev pub invariant-loop-field : goal.invariant-loop-field
invariant-loop-field l =
    l.text.items ++ spaced (map field_text (drop l.field-index l.fields)) ≡ l.fn.text.items ++ spaced (map field_text l.fields)
