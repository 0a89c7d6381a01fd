use Rattle.c_parser.proofs.Sources as sources
use Rattle.c_parser.proofs.theorems.refusals_are_certain.Goals as goal

pub returns : goal.returns
returns c = sources.refusals_are_certain c.expression_laws.ensures c.declarators_declare_their_names.ensures
