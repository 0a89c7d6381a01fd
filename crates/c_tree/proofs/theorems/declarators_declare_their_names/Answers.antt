use Rattle.c_tree.proofs.DeclaredNameLemmas.{DeclaratorReads-name}
use Rattle.c_tree.proofs.theorems.declarators_declare_their_names.Goals as goal

pub returns : goal.returns
returns c = λ names h x ts d r. DeclaratorReads-name r
