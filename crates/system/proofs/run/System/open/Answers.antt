use Rattle.std.proofs.Common.{refl}
use Rattle.system.proofs.Systems.{all_threads}
use Rattle.system.proofs.run.System.open.Goals as goal

pub returns-clause-state : goal.returns-clause-state
returns-clause-state c =
    rw (
      c.in_ok-open.ensures,
      c.in_ok-open-2.ensures,
      c.in_ok-threads.ensures.threads,
      all_threads c.args.code.now c.args.threads c.requires.some_thread,
    ) refl
