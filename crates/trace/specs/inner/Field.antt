-- The texts of a line's fields.
use Rattle.std.specs.Prelude.{ℕ, List, decimal}
use Rattle.std.specs.Fmt.{signed_decimal}
use Rattle.trace.specs.declared.field.Field.{Field}
use Rattle.trace.specs.declared.field.Field.TheVariants.{Word, Number, Count}

abbrev pub field_text : Field → List ℕ
field_text (Word word) = word.now
field_text (Number n) = signed_decimal n
field_text (Count n) = decimal n
