-- What is held is what the functions of the frames ask for.
use Rattle.std.proofs.Common.{◌≡◌, ◌<◌, length, map, arith}
use Rattle.std.proofs.lemmas.List.{length-map, length-reverse}
use Rattle.machine.specs.Threads.{values_of}
use Rattle.thread_engine.specs.inner.Frames.{frame_of, frames_of, held}
use Rattle.thread_engine.proofs.Counts.{held_are_values, room_by_counts}
use Rattle.thread_engine.proofs.stack.Stack.has_room.Goals as goal

pub overflow_add-result : goal.overflow_add-result
overflow_add-result c =
    let values : held (frames_of c.args.self.now) ≡ values_of c.args.code.now (frames_of c.args.self.now) =
    held_are_values c.args.code.now (frames_of c.args.self.now) c.requires.sound in
    omega (arith, values, c.requires.counted, c.requires.sound.small, c.size_of.ensures.low)

pub returns-then-len-lt-MOST_FRAMES : goal.returns-then-len-lt-MOST_FRAMES
returns-then-len-lt-MOST_FRAMES c =
    let few : length (frames_of c.args.self.now) < 4096 = omega (
      arith,
      length-reverse (map frame_of c.args.self.now.below.items),
      length-map c.args.self.now.below.items frame_of,
      c.args.self.now.below.ok,
      c.len.ensures,
    ) in
    room_by_counts c.args.code.now (frames_of c.args.self.now) c.args.f c.args.self.now.used c.size_of.result
    c.requires.sound c.requires.counted c.size_of.ensures.value few
