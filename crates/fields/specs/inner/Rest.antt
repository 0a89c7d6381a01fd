-- What a cursor has left.
use Rattle.std.specs.Prelude.{ℕ, List, [], Option, Some, None}
use denote.Ref.{Bor}
use Rattle.fields.specs.Fields.{fields_of}

-- the fields of the rest of a line, or none where there is no rest
abbrev pub left : Option (Bor (List ℕ)) → List (List ℕ)
left None = []
left (Some text) = fields_of text.now
