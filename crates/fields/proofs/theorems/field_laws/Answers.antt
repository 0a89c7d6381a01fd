use Rattle.fields.proofs.Laws.{field_laws}
use Rattle.fields.proofs.theorems.field_laws.Goals as goal

pub returns : goal.returns
returns c = field_laws
