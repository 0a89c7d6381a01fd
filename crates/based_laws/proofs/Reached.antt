-- Behind all events of a run every value is known, by what these made.
use Rattle.std.proofs.Common.{◌≡◌, ℕ, ◌-◌, List, [], ◌∷◌, ◌++◌, Some, None, sym, ◌∙◌, subst, append_assoc, append-nil}
use Rattle.std.specs.FinMap.{get-empty}
use Rattle.std.specs.Ordering.{nat_cmp}
use Rattle.core_ir.specs.declared.program.Program.{Program}
use Rattle.meaning.specs.declared.event.Event.{Event}
use Rattle.machine.specs.Based.{IsBased, Object, all_made, made}
use Rattle.machine.specs.Frames.{Waiting}
use Rattle.machine.specs.Run.{Move, Setting, State, happens, opening, state_after}
use Rattle.machine.specs.Stands.{Stands}
use Rattle.machine.specs.ValidCode.{ValidCode}
use Rattle.thread_laws.proofs.FittingValues.{all_replicate}
use Rattle.based_laws.proofs.Known.{StateIs, ThreadIs, new_is, state_to, values_are_kept}

module _ (program : Program) (setting : Setting) (valid : ValidCode setting.code) (stands : Stands setting.code program) where
  behind : (objects : List Object) (s : State) (events : List Event)
      → IsBased program setting.code objects s
      → IsBased program setting.code (all_made setting s events ++ objects) (state_after setting s events)
  behind objects s [] based = based
  behind objects s (e ∷ es) based =
      let move : Move = happens setting s e in
      let now : List Object = made setting.code s move.step in
      subst (λ (l : List Object). IsBased program setting.code l (state_after setting move.after es))
      (sym (append_assoc (all_made setting move.after es) now objects))
      (behind (now ++ objects) move.after es (values_are_kept program setting valid stands objects s e based))

  opening_is : (threads : ℕ) → StateIs program setting valid stands [] (opening setting threads)
  opening_is threads = record {
    threads = (
      (new_is program setting valid stands [] setting.code.entry [] tt, tt),
      all_replicate (ThreadIs program setting valid stands []) (threads - 1) Waiting tt,
    );
    entries = λ a e is. let none : None ≡ Some e = sym (get-empty nat_cmp a) ∙ is in absurd (cc);
  }

  pub values_behind : (threads : ℕ) (events : List Event)
      → IsBased program setting.code (all_made setting (opening setting threads) events) (state_after setting (opening setting threads) events)
  values_behind threads events =
      subst (λ (l : List Object). IsBased program setting.code l (state_after setting (opening setting threads) events))
      (append-nil (all_made setting (opening setting threads) events))
      (behind [] (opening setting threads) events (state_to program setting valid stands [] (opening setting threads) (opening_is threads)))
