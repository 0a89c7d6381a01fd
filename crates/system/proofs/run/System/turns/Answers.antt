use Rattle.std.proofs.Common.{refl, ap, map, ◌∙◌, slice_set}
use Rattle.std.specs.Vec.{with_item}
use Rattle.system.specs.State.{thread_of}
use Rattle.system.specs.inner.Seats.{state_with}
use Rattle.system.proofs.Systems.{found, system_after, turn_recorded, turned}
use Rattle.system.proofs.run.System.turns.Goals as goal

pub returns-clause-ok : goal.returns-clause-ok
returns-clause-ok c =
    let self = c.args.self.now in
    let items = self.threads.items in
    let seat = c.turns_of_seat.new.seat in
    let n = c.in_ok-taken.taken in
    let is = found items c.from.result c.args.t c.in-Some.seat.now c.from.ensures c.in-Some.ensures.item.3.0 c.in-Some.ensures.value in
    record {
      state =
          ap (λ k. state_with c.turns_of_seat.new.memories (map thread_of (slice_set items k seat))) c.from.ensures
          ∙ turned c.args.code.now self.memories c.turns_of_seat.new.memories items c.args.t n c.in-Some.seat.now seat
          c.requires.same.within.count is c.in_ok-taken.ensures.after;
      recorded =
          turn_recorded c.args.code.now self.memories items c.args.t n c.in-Some.seat.now c.args.trace.now.records c.turns_of_seat.new.trace.records
          c.requires.same.within.count is c.in_ok-taken.ensures.recorded;
    }

pub returns-clause-kept : goal.returns-clause-kept
returns-clause-kept c =
    let self = c.args.self.now in
    let seat = c.turns_of_seat.new.seat in
    let kept = c.turns_of_seat.ensures.kept in
    record {
      same =
          system_after c.args.code.now self
          (record { memories = c.turns_of_seat.new.memories; threads = with_item self.threads c.from.result seat; notes = c.turns_of_seat.new.notes })
          c.args.t seat c.requires.same kept
          (ap (λ k. slice_set self.threads.items k seat) c.from.ensures) c.turns_of_seat.ensures.seat;
      setting = rw (kept.inputs, kept.slots) refl;
      threads = kept.threads;
    }
