use Rattle.std.proofs.Common.{ap, map, refl, ◌∙◌, slice_set}
use Rattle.std.specs.Vec.{with_item}
use Rattle.system.specs.State.{thread_of}
use Rattle.system.specs.inner.Seats.{state_with}
use Rattle.system.proofs.Systems.{cut_off, cut_recorded, found, system_after}
use Rattle.system.proofs.run.System.cut.Goals as goal

pub returns-clause-ok : goal.returns-clause-ok
returns-clause-ok c = λ code.
    let self = c.args.self.now in
    let items = self.threads.items in
    let is = found items c.from.result c.args.t c.in-Some.seat.now c.from.ensures c.in-Some.ensures.item.3.0 c.in-Some.ensures.value in
    ap (λ k. state_with self.memories (map thread_of (slice_set items k c.cut_seat.new.seat))) c.from.ensures
    ∙ cut_off self.memories items c.args.t c.in-Some.seat.now c.cut_seat.new.seat is
    (c.in_ok-cut_seat.ensures.after self.memories)

pub returns-clause-recorded : goal.returns-clause-recorded
returns-clause-recorded c = λ code.
    let self = c.args.self.now in
    let items = self.threads.items in
    let is = found items c.from.result c.args.t c.in-Some.seat.now c.from.ensures c.in-Some.ensures.item.3.0 c.in-Some.ensures.value in
    cut_recorded self.memories items c.args.t c.in-Some.seat.now c.args.trace.now.records c.cut_seat.new.trace.records is
    (c.in_ok-cut_seat.ensures.recorded self.memories)

pub returns-clause-same : goal.returns-clause-same
returns-clause-same c = λ code was.
    let self = c.args.self.now in
    let items = self.threads.items in
    let seat = c.cut_seat.new.seat in
    let is = found items c.from.result c.args.t c.in-Some.seat.now c.from.ensures c.in-Some.ensures.item.3.0 c.in-Some.ensures.value in
    system_after code self (record { memories = self.memories; threads = with_item self.threads c.from.result seat; notes = self.notes })
    c.args.t seat was (record { slots = refl; threads = refl; inputs = refl })
    (ap (λ k. slice_set items k seat) c.from.ensures)
    (c.in_ok-cut_seat.ensures.seat code (was.each c.args.t c.in-Some.seat.now is))
