-- What is known of the thread is known of its fields.
use Rattle.std.proofs.Common.{sym, subst}
use Rattle.meaning.specs.Action.{Fits}
use Rattle.machine.specs.Protected.{next}
use Rattle.thread_engine.specs.Sound.{IsSound, SlotsAreThere}
use Rattle.thread_engine.specs.State.{ThreadState}
use Rattle.thread_engine.proofs.Resumed.{resumed_is_sound}
use Rattle.thread_engine.proofs.thread.Thread.resume_into.Goals as goal

pub resume-requires-clause-fits : goal.resume-requires-clause-fits
resume-requires-clause-fits c =
    subst (λ (t : ThreadState). Fits (next c.args.code.now t.number t.thread) c.args.answer) (sym c.self.view_is) c.requires.fits

pub returns-clause-sound : goal.returns-clause-sound
returns-clause-sound c =
    let code = c.args.code.now in
    resumed_is_sound code c.self.inside.number c.self.inside.state c.resume.new.self c.args.answer c.resume.new.notes c.resume.result c.requires.valid
    (subst (λ (t : ThreadState). IsSound code t.thread) (sym c.self.view_is) c.requires.sound)
    (subst (λ (t : ThreadState). Fits (next code t.number t.thread) c.args.answer) (sym c.self.view_is) c.requires.fits)
    (subst (λ (t : ThreadState). SlotsAreThere (next code t.number t.thread) c.args.answer) (sym c.self.view_is) c.requires.there)
    c.resume.ensures.gives c.resume.ensures.err
