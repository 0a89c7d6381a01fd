use Rattle.c_types.proofs.LaidOut.{extends_bodied}
use Rattle.c_types.proofs.StructsLemmas.{extends_tagged}
use Rattle.c_types.proofs.theorems.tables_grow.Goals as goal

pub returns : goal.returns
returns c = record {
  declared = extends_tagged;
  defined = extends_bodied;
}
