use Rattle.system.specs.State.{thread_of}
use Rattle.system.proofs.Turns.{uncut}
use Rattle.system.proofs.turn.cut_seat.Goals as goal

pub returns-then-not-can_be_cut-clause-after : goal.returns-then-not-can_be_cut-clause-after
returns-then-not-can_be_cut-clause-after c = λ m threads at.
    uncut c.args.t (thread_of c.args.seat.now) m threads c.can_be_cut.result c.if-not-can_be_cut.true c.can_be_cut.ensures at
