use Rattle.std.proofs.Common.{sym, ◌∙◌}
use Rattle.std.proofs.lemmas.Option.{IfSome_then}
use Rattle.script.specs.inner.Reading.{line_of}
use Rattle.script.proofs.LineTexts.{text_is}
use Rattle.script.proofs.grammar.parse_line.Goals as goal

pub returns-in-None-clause-found : goal.returns-in-None-clause-found
returns-in-None-clause-found c =
    IfSome_then c.read_fields.result c.read_fields.ensures.found (λ read is. text_is c.field_laws.ensures c.args.text.now (line_of read) (sym c.of.ensures ∙ is))
