-- A thread is sound behind a call, whether memory was there or not.
use Rattle.std.proofs.Common.{◌≡◌, ℕ, List, Result, Ok, Err, OnOk, OnErr, sym, subst}
use Rattle.meaning.specs.Action.{Fits}
use Rattle.meaning.specs.declared.action.Reply.{Reply}
use Rattle.meaning.specs.declared.note.Note.{Note}
use Rattle.machine.specs.declared.code.Code.{Code}
use Rattle.machine.specs.Protected.{next, resume}
use Rattle.machine.specs.ValidCode.{ValidCode}
use Rattle.thread_engine.specs.declared.state.State.{State}
use Rattle.thread_engine.specs.Sound.{IsSound, SlotsAreThere}
use Rattle.thread_engine.specs.inner.Views.{Gives, thread_of}
use Rattle.thread_engine.proofs.Preserved.{turns_keep_sound}

pub resumed_is_sound :
    {E : Type 0} (code : Code) (t : ℕ) (old new : State) (answer : Reply) (notes : List Note) (r : Result Unit E)
    → ValidCode code
    → IsSound code (thread_of old)
    → Fits (next code t (thread_of old)) answer
    → SlotsAreThere (next code t (thread_of old)) answer
    → OnOk r (Gives new notes (resume code t (thread_of old) (next code t (thread_of old)) answer))
    → OnErr r (new ≡ old)
    → IsSound code (thread_of new)
resumed_is_sound code t old new answer notes (Ok done) valid sound fits there gives err =
    subst (IsSound code) (sym gives.thread) (turns_keep_sound code t (thread_of old) answer valid sound fits there)
resumed_is_sound code t old new answer notes (Err e) valid sound fits there gives err =
    subst (λ (s : State). IsSound code (thread_of s)) (sym err) sound
