-- What a full expression adds to the code of a function.
use Rattle.std.specs.Prelude.{◌≡◌, ℕ, length, Result, Ok, Err}
use Rattle.elab_emit.specs.Emits.{Stops}
use Rattle.elab_emit.specs.declared.emitter.Trouble.{Trouble}
use Rattle.elab_rows.specs.Made.{Code, Made}
use Rattle.elab_statements.specs.declared.body.Body.{Body}
use Rattle.elab_statements.specs.Bodies.{Grows}

-- what a full expression's code is here
abbrev pub made_at : Body → Code → Made
made_at b c = c (length b.out.code) 0 b.out.slot

-- the code of a full expression is there, and this register has its value; or why it isn't
abbrev pub FullOutcome : Body → Made → Result ℕ Trouble → Body → Type 0
FullOutcome old m (Ok r) new = Grows old m.code m.register m.slot new × (r ≡ m.result)
FullOutcome old m (Err e) new = Stops old.out m.code e

-- the same of one whose value nobody asks for
abbrev pub DoneOutcome : Body → Made → Result (Unit {0}) Trouble → Body → Type 0
DoneOutcome old m (Ok u) new = Grows old m.code m.register m.slot new
DoneOutcome old m (Err e) new = Stops old.out m.code e
