-- A new frame has few values.
use Rattle.std.proofs.Common.{◌<◌, ◌≤◌, sym, subst, arith}
use Rattle.meaning.specs.declared.value.Value.{Value}
use Rattle.machine.specs.Frames.{Frame}
use Rattle.machine.specs.Protected.{protected}
use Rattle.machine.specs.Threads.{opened}
use Rattle.thread_engine.specs.Sound.{length_of}
use Rattle.thread_engine.proofs.Valid.{opened_is_small}
use Rattle.thread_engine.proofs.state.State.begin.Goals as goal

pub begin-requires-clause-small : goal.begin-requires-clause-small
begin-requires-clause-small c =
    let arguments = c.in_ok-arguments.arguments.items in
    let small : length_of (opened protected c.args.code.now c.args.f arguments) ≤ 18432 =
    opened_is_small c.args.code.now c.args.f arguments c.requires.valid in
    subst (λ (f : Frame Value). length_of f < 4294967296) (sym c.in_ok-frame.ensures) (omega (arith, small))
