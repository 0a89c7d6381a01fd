use Rattle.fields.proofs.NumberTexts.{word_from}
use Rattle.fields.proofs.number.read_word.Goals as goal

pub returns-clause-is : goal.returns-clause-is
returns-clause-is c = word_from c.args.text.now c.parse_word.result c.parse_word.ensures.small c.parse_word.ensures.found c.parse_word.ensures.none
