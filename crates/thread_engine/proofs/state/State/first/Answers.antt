-- A new frame has few values.
use Rattle.std.proofs.Common.{◌<◌, ◌≤◌, sym, subst, arith}
use Rattle.meaning.specs.declared.value.Value.{Value}
use Rattle.machine.specs.Frames.{Frame}
use Rattle.machine.specs.Protected.{protected}
use Rattle.machine.specs.Threads.{opened}
use Rattle.thread_engine.specs.Sound.{length_of}
use Rattle.thread_engine.proofs.Valid.{opened_is_small}
use Rattle.thread_engine.proofs.state.State.first.Goals as goal

pub with_frame-requires : goal.with_frame-requires
with_frame-requires c =
    let arguments = c.new.result.items in
    let small : length_of (opened protected c.args.code.now c.args.code.now.entry arguments) ≤ 18432 =
    opened_is_small c.args.code.now c.args.code.now.entry arguments c.requires in
    subst (λ (f : Frame Value). length_of f < 4294967296) (sym c.in_ok-top.ensures) (omega (arith, small))
