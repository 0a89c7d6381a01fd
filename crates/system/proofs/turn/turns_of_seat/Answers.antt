use Rattle.std.proofs.Common.{◌≡◌, ◌≤◌, ◌-◌, ◌^◌, Some, sym, ap, ◌∙◌, arith, rules}
use Rattle.system.specs.State.{thread_of}
use Rattle.system.proofs.QuietTurns.{some_record, quietly_recorded}
use Rattle.system.proofs.Turns.{recorded_once, taken_once}
use Rattle.system.proofs.turn.turns_of_seat.Goals as goal

pub returns-then-quiet-gt0-clause-recorded : goal.returns-then-quiet-gt0-clause-recorded
returns-then-quiet-gt0-clause-recorded c = λ threads long at.
    let n = c.take_quiet_turns-quiet.result in
    let number : c.in-Some.thread.number ≡ c.args.t = (rw c.in-Some.is at c.requires.seat).0 in
    let few : n ≤ 2 ^ 64 - 1 = search rules in
    rw (c.push.ensures.records, c.in_ok-reserve-in-Some.ensures.records) (some_record c.args.trace.now.records c.args.t n c.if-quiet-gt0.true
    ∙ quietly_recorded c.args.code.now c.args.t c.args.memories.now n c.in-Some.thread.thread c.take_quiet_turns-quiet.new.thread.thread threads
    c.args.trace.now.records few (rw number at c.take_quiet_turns-quiet.ensures.turns) long (at ∙ ap (λ s. Some (thread_of s)) c.in-Some.is))

pub returns-in_ok-take_access-in-Some-access-clause-after : goal.returns-in_ok-take_access-in-Some-access-clause-after
returns-in_ok-take_access-in-Some-access-clause-after c = λ threads long at.
    let none : c.take_quiet_turns-quiet.result ≡ 0 = omega (arith, c.if-quiet-gt0.false) in
    let same : c.take_quiet_turns-quiet.new.thread.thread ≡ c.in-Some.thread.thread = rw none at c.take_quiet_turns-quiet.ensures.turns in
    let did = c.in_ok-take_access-in-Some-access.ensures.ok in
    taken_once c.args.code.now c.args.t c.in-Some.thread.thread c.take_access.new.thread.thread c.args.memories.now c.take_access.new.memories threads
    long (sym c.if-is_live.ensures) (rw same at did.told) (rw same at did.region) (rw same at did.plain)
    (at ∙ ap (λ s. Some (thread_of s)) c.in-Some.is)

pub returns-in_ok-take_access-in-Some-access-clause-recorded : goal.returns-in_ok-take_access-in-Some-access-clause-recorded
returns-in_ok-take_access-in-Some-access-clause-recorded c = λ threads long at.
    let none : c.take_quiet_turns-quiet.result ≡ 0 = omega (arith, c.if-quiet-gt0.false) in
    let same : c.take_quiet_turns-quiet.new.thread.thread ≡ c.in-Some.thread.thread = rw none at c.take_quiet_turns-quiet.ensures.turns in
    let begun = c.in_ok-reserve-in-Some.ensures.records in
    recorded_once c.args.code.now c.args.t c.in-Some.thread.thread c.args.memories.now threads c.args.trace.now.records c.take_access.new.trace.records
    long (sym c.if-is_live.ensures) (rw (same, begun) at c.in_ok-take_access-in-Some-access.ensures.ok.recorded)
    (at ∙ ap (λ s. Some (thread_of s)) c.in-Some.is)

pub returns-in_ok-take_turn-in-None-clause-after : goal.returns-in_ok-take_turn-in-None-clause-after
returns-in_ok-take_turn-in-None-clause-after c = λ threads long at.
    let none : c.take_quiet_turns-quiet.result ≡ 0 = omega (arith, c.if-quiet-gt0.false) in
    let same : c.take_quiet_turns-quiet.new.thread.thread ≡ c.in-Some.thread.thread = rw none at c.take_quiet_turns-quiet.ensures.turns in
    let did = c.in_ok-take_turn-in-None.ensures.ok in
    taken_once c.args.code.now c.args.t c.in-Some.thread.thread c.take_turn.new.thread.thread c.args.memories.now c.take_turn.new.memories threads
    long (sym c.if-is_live.ensures) (rw same at did.told) (rw same at did.region) (rw same at did.plain)
    (at ∙ ap (λ s. Some (thread_of s)) c.in-Some.is)

pub returns-in_ok-take_turn-in-None-clause-recorded : goal.returns-in_ok-take_turn-in-None-clause-recorded
returns-in_ok-take_turn-in-None-clause-recorded c = λ threads long at.
    let none : c.take_quiet_turns-quiet.result ≡ 0 = omega (arith, c.if-quiet-gt0.false) in
    let same : c.take_quiet_turns-quiet.new.thread.thread ≡ c.in-Some.thread.thread = rw none at c.take_quiet_turns-quiet.ensures.turns in
    let begun = c.in_ok-reserve-in-Some.ensures.records in
    recorded_once c.args.code.now c.args.t c.in-Some.thread.thread c.args.memories.now threads c.args.trace.now.records c.take_turn.new.trace.records
    long (sym c.if-is_live.ensures) (rw (same, begun) at c.in_ok-take_turn-in-None.ensures.ok.recorded)
    (at ∙ ap (λ s. Some (thread_of s)) c.in-Some.is)
