use Rattle.thread_laws.proofs.Runs.{threads_ask}
use Rattle.thread_laws.proofs.theorems.threads_ask_what_fits.Goals as goal

pub returns : goal.returns
returns c = threads_ask
