-- What is performed quietly in the top frame is the turn of its thread.
use Rattle.std.proofs.Common.{sym, ap, ◌∙◌}
use Rattle.std.specs.Option.{option_copied}
use Rattle.thread_engine.specs.inner.Frames.{below_of, frame_of, top_of}
use Rattle.thread_engine.proofs.QuietTurns.{runs_quietly}
use Rattle.thread_engine.proofs.stack.Stack.take_quiet_turn.Goals as goal

pub returns-in-Some-clause-turn : goal.returns-in-Some-clause-turn
returns-in-Some-clause-turn c t =
    let code = c.args.code.now in
    let stack = c.args.self.now in
    runs_quietly c.take_quietly.result code t (top_of stack) (frame_of c.take_quietly.new.top) (below_of stack)
    c.in-Some.place.now (sym c.place_at.ensures ∙ ap option_copied c.in-Some.is)
    (c.take_quietly.ensures.quiet code t (below_of stack))
