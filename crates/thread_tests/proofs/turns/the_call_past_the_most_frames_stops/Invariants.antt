use Rattle.thread_engine.specs.Sound.{IsSound}
use Rattle.thread_tests.proofs.turns.the_call_past_the_most_frames_stops.Given as goal

-- the thread stays one of the code
abbrev pub invariant-loop-depth : goal.invariant-loop-depth
invariant-loop-depth g l = IsSound l.code l.thread.thread
