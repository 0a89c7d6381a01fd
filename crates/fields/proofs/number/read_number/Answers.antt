use Rattle.fields.proofs.NumberTexts.{number_from}
use Rattle.fields.proofs.number.read_number.Goals as goal

pub returns-clause-is : goal.returns-clause-is
returns-clause-is c = number_from c.args.text.now c.parse_decimal.result c.parse_decimal.ensures.small c.parse_decimal.ensures.found c.parse_decimal.ensures.none
