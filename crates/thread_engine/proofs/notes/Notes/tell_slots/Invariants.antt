-- What was told so far is told of the slots before this one.
use Rattle.std.proofs.Common.{◌≡◌, ◌≤◌, ◌+◌, ◌++◌, length, take}
use Rattle.machine.specs.Protected.{protected}
use Rattle.machine.specs.Threads.{slots_told}
use Rattle.thread_engine.proofs.notes.Notes.tell_slots.Given as goal

abbrev pub invariant-loop-slot : goal.invariant-loop-slot
invariant-loop-slot l = record {
  told : l.self ≡ l.initial.self ++ slots_told protected l.depth 0 (take l.slot l.values);
  few : length l.self ≤ length l.initial.self + l.slot;
}
