use Rattle.c_typing_laws.proofs.SourcesKeepTrees.{source-kept}
use Rattle.c_typing_laws.proofs.WalksKeepTrees.{walks-keep}
use Rattle.c_typing_laws.proofs.theorems.typed_sources_keep_their_trees.Goals as goal

pub returns : goal.returns
returns c = source-kept walks-keep
