-- To a place of the top frame, whatever the code.
use Rattle.std.proofs.Common.{sym, subst, map}
use Rattle.machine.specs.Protected.{protected}
use Rattle.machine.specs.Shapes.{register}
use Rattle.machine.specs.Threads.{applied}
use Rattle.thread_engine.specs.declared.effect.Effect.{Effect}
use Rattle.thread_engine.specs.inner.Frames.{below_of, top_of}
use Rattle.thread_engine.specs.inner.Turns.{effect_of}
use Rattle.thread_engine.specs.inner.Views.{Gives}
use Rattle.thread_engine.proofs.state.State.apply.Goals as goal

pub returns-in-Goes-clause-gives : goal.returns-in-Goes-clause-gives
returns-in-Goes-clause-gives c =
    let stack = c.args.self.now.stack in
    let arguments = map (register protected (top_of stack)) c.args.registers.now in
    subst (λ (e : Effect). Gives c.go.new.self c.go.new.notes (applied protected c.args.code.now (top_of stack) (below_of stack) (effect_of arguments e)))
    (sym c.in-Goes.is) (c.go.ensures.gives c.args.code.now)
