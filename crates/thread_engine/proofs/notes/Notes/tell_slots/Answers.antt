-- One slot more is told.
use Rattle.std.proofs.Common.{◌<◌, ◌++◌, pos, List, length, take, sym, ap, ◌∙◌, arith}
use Rattle.std.proofs.lemmas.List.{append_assoc}
use Rattle.meaning.specs.declared.note.Note.{Note}
use Rattle.meaning.specs.declared.value.Value.{Value}
use Rattle.meaning.specs.declared.value.Value.TheVariants.{Bare}
use Rattle.machine.specs.Protected.{protected}
use Rattle.machine.specs.Threads.{slot_told, slots_told}
use Rattle.machine.specs.Values.{told_function}
use Rattle.thread_engine.proofs.Slots.{told_step}
use Rattle.thread_engine.proofs.notes.Notes.tell_slots.Goals as goal

pub loop-slot-preserved : goal.loop-slot-preserved
loop-slot-preserved c =
    let low : c.loop-slot.slot < length c.args.values.now = omega arith in
    let depth = c.args.depth in
    let slot = c.loop-slot.slot in
    let told = slots_told protected depth 0 (take slot c.args.values.now) in
    record {
      told =
          c.tell_slot.ensures.told
          ∙ ap (λ (r : List Note). r ++ slot_told protected depth slot (told_function c.value_at.result)) c.loop-slot.invariant.told
          ∙ append_assoc c.args.self.now told (slot_told protected depth slot (told_function c.value_at.result))
          ∙ ap (λ (x : Value). c.args.self.now ++ (told ++ slot_told protected depth slot (told_function x))) c.value_at.ensures
          ∙ ap (λ (r : List Note). c.args.self.now ++ r) (sym (told_step depth slot c.args.values.now (Bare (pos 0)) low));
      few = omega (arith, c.tell_slot.ensures.few, c.loop-slot.invariant.few);
    }
