-- The turn of a thread that runs has an effect that fits.
use Rattle.std.proofs.Common.{◌≡◌, None, subst}
use Rattle.meaning.specs.Action.{Fits}
use Rattle.machine.specs.Protected.{next}
use Rattle.thread_engine.specs.declared.state.Phase.{Phase}
use Rattle.thread_engine.specs.Sound.{IsSound, SlotsAreThere}
use Rattle.thread_engine.specs.inner.Frames.{below_of, top_of}
use Rattle.thread_engine.specs.inner.Turns.{halt_of}
use Rattle.thread_engine.specs.inner.Views.{thread_by}
use Rattle.thread_engine.proofs.Effects.{step_fits}
use Rattle.thread_engine.proofs.state.State.answered.Goals as goal

pub step-requires-clause-fits : goal.step-requires-clause-fits
step-requires-clause-fits c =
    let code = c.args.code.now in
    let stack = c.args.self.now.stack in
    let running = c.in-Running.is in
    step_fits code c.args.number (top_of stack) (below_of stack) c.args.answer c.requires.valid
    (subst (λ (p : Phase). IsSound code (thread_by p stack)) running c.requires.sound)
    (subst (λ (p : Phase). halt_of (next code c.args.number (thread_by p stack)) ≡ None) running c.requires.goes)
    (subst (λ (p : Phase). Fits (next code c.args.number (thread_by p stack)) c.args.answer) running c.requires.fits)
    (subst (λ (p : Phase). SlotsAreThere (next code c.args.number (thread_by p stack)) c.args.answer) running c.requires.there)
