use Rattle.std.proofs.Common.{sym, ap, ◌∙◌}
use Rattle.machine.specs.Protected.{free_action}
use Rattle.thread_engine.proofs.action.free_action.Goals as goal

pub returns-in-Based : goal.returns-in-Based
returns-in-Based c = c.free_based.ensures c.in-Based.upper ∙ ap free_action (sym c.in-Based.is)
