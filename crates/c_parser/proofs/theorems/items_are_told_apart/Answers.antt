use Rattle.c_parser.proofs.Sources as sources
use Rattle.c_parser.proofs.theorems.items_are_told_apart.Goals as goal

pub returns : goal.returns
returns c = sources.items_are_told_apart c.expression_laws.ensures c.declarators_declare_their_names.ensures
