-- What is held is what the functions of the frames ask for.
use Rattle.std.proofs.Common.{◌≡◌, subst, arith}
use Rattle.thread_engine.specs.declared.state.Phase.{Phase}
use Rattle.thread_engine.specs.Sound.{AreSound, IsSound}
use Rattle.thread_engine.specs.inner.Frames.{frames_of, held}
use Rattle.thread_engine.specs.inner.Views.{CountsBy, thread_by}
use Rattle.thread_engine.proofs.Counts.{held_are_values}
use Rattle.thread_engine.proofs.state.State.enter.Goals as goal

pub enter-requires-clause-used : goal.enter-requires-clause-used
enter-requires-clause-used c =
    let stack = c.args.self.now.stack in
    let sound : AreSound c.args.code.now (frames_of stack) =
    subst (λ (p : Phase). IsSound c.args.code.now (thread_by p stack)) c.requires.running c.requires.sound in
    let counted : stack.used ≡ held (frames_of stack) =
    subst (λ (p : Phase). CountsBy p stack) c.requires.running c.requires.kept.counts in
    omega (arith, counted, held_are_values c.args.code.now (frames_of stack) sound, sound.small)
