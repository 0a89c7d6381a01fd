use Rattle.c_typing.proofs.OneVerdict.{one_verdict}
use Rattle.c_typing.proofs.theorems.sources_have_one_verdict.Goals as goal

pub returns : goal.returns
returns c = one_verdict
