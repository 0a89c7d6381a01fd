-- What is known of the thread is known of its fields.
use Rattle.std.proofs.Common.{sym, subst}
use Rattle.thread_engine.specs.Sound.{IsSound}
use Rattle.thread_engine.specs.State.{ThreadState}
use Rattle.thread_engine.specs.inner.Views.{thread_of}
use Rattle.thread_engine.proofs.QuietTurns.{quiet_turns_keep_sound}
use Rattle.thread_engine.proofs.thread.Thread.take_quiet_turn.Goals as goal

pub returns-clause-sound : goal.returns-clause-sound
returns-clause-sound c =
    let code = c.args.code.now in
    let t = c.self.inside.number in
    quiet_turns_keep_sound c.take_quiet_turn.result code t (thread_of c.self.inside.state) (thread_of c.take_quiet_turn.new.self)
    c.requires.valid
    (subst (λ (s : ThreadState). IsSound code s.thread) (sym c.self.view_is) c.requires.sound)
    (c.take_quiet_turn.ensures.turn t)
