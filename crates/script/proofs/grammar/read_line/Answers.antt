use Rattle.script.proofs.LineTexts.{reading_is}
use Rattle.script.proofs.grammar.read_line.Goals as goal

pub returns : goal.returns
returns c =
    let read = c.parse_line.ensures in
    reading_is c.field_laws.ensures c.args.text.now c.parse_line.result read.is read.found read.proper
