use Rattle.c_parser.proofs.Sources as sources
use Rattle.c_parser.proofs.theorems.sources_have_one_tree.Goals as goal

pub returns : goal.returns
returns c = sources.sources_have_one_tree c.expression_laws.ensures c.declarators_declare_their_names.ensures
