use Rattle.elab_piece_laws.proofs.ListedKinds as kinds
use Rattle.elab_piece_laws.proofs.theorems.statements_fit.Goals as goal

pub returns : goal.returns
returns c = record {
  in_range = kinds.in_range;
  touched = kinds.touched c.rows_touch.ensures;
}
