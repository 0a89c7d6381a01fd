-- What is an access by the top frame's instruction is one of the thread.
use Rattle.std.proofs.Common.{sym, ap, ◌∙◌}
use Rattle.std.specs.Option.{option_copied}
use Rattle.thread_engine.specs.inner.Frames.{below_of, top_of}
use Rattle.thread_engine.proofs.Accesses.{is_access}
use Rattle.thread_engine.proofs.stack.Stack.access.Goals as goal

pub returns-in-Some : goal.returns-in-Some
returns-in-Some c t =
    let stack = c.args.self.now in
    is_access c.access_at.result c.args.code.now t (top_of stack) (below_of stack) c.in-Some.place.now c.requires.valid
    (sym c.place_at.ensures ∙ ap option_copied c.in-Some.is)
    (c.access_at.ensures c.args.code.now t (below_of stack))
