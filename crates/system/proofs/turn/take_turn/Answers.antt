-- A turn is recorded as it is.
use Rattle.std.proofs.Common.{refl, rules, ◌∙◌}
use Rattle.system.proofs.Turns.{told_records}
use Rattle.system.proofs.turn.take_turn.Goals as goal

pub returns-clause-ok : goal.returns-clause-ok
returns-clause-ok c = record {
  told = search rules;
  region = search rules;
  plain = search rules;
  recorded =
      told_records c.args.code.now c.args.t c.args.thread.now.number c.args.thread.now.thread c.args.memories.now
      c.args.trace.now.records c.args.trace.now.records c.record_turn.new.trace.records
      c.next-action.result c.in_ok-reply.reply c.as_slice.result.now
      c.requires.number c.next-action.ensures c.in_ok-reply.ensures.reply
      (c.as_slice.ensures.notes ∙ c.in_ok-resume_into.ensures.resumed.1)
      refl c.record_turn.ensures.records;
}
