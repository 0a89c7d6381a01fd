use Rattle.std.proofs.Common.{add-one, sym, ◌∙◌}
use Rattle.system.proofs.turn.take_quiet_turns.Goals as goal

pub loop-taken-preserved : goal.loop-taken-preserved
loop-taken-preserved c =
    let invariant = c.loop-taken.invariant in
    record {
      turns =
          rw add-one (
            c.loop-taken.thread.thread,
            (invariant.turns, (sym c.if-not-is_live.ensures, rw invariant.number at c.if-not-take_quiet_turn.ensures.turn)),
          );
      number = c.take_quiet_turn.ensures.number ∙ invariant.number;
      sound = c.take_quiet_turn.ensures.sound;
    }
