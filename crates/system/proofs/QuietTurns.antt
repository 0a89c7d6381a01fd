-- Quiet turns of a thread are so many turns of it, with one record.
use Rattle.std.proofs.Common.{◌≡◌, ℕ, zero, suc, ◌+◌, ◌-◌, ◌^◌, ◌<◌, ◌≤◌, List, [], ◌∷◌, length, refl, sym, ap, ◌∙◌, arith, Some, slice_get, slice_set}
use Rattle.std.proofs.lemmas.List.{length-set, set-set}
use Rattle.meaning.specs.Blocks.{repeated}
use Rattle.meaning.specs.declared.event.Event.TheVariants.{Turn}
use Rattle.meaning.specs.declared.record.Record.{Record}
use Rattle.meaning.specs.declared.record.Record.TheVariants.{Steps}
use Rattle.meaning.specs.declared.value.Value.{Value}
use Rattle.meaning.specs.Records.{added}
use Rattle.machine.specs.declared.code.Code.{Code}
use Rattle.machine.specs.Frames.{Thread}
use Rattle.machine.specs.Run.{happens, state_after, steps_from}
use Rattle.machine.specs.Trace.{traced}
use Rattle.system.specs.declared.memories.Memories.{Memories}
use Rattle.system.specs.inner.QuietTurns.{AreQuietTurns}
use Rattle.system.specs.inner.Seats.{setting_with, state_with}
use Rattle.system.proofs.JoinedSteps.{added_twice}
use Rattle.system.proofs.RunsInParts.{state_after-append, steps_from-append, traced-append}
use Rattle.system.proofs.SeatLemmas.{got_set, set_same}
use Rattle.system.proofs.Turns.{quiet_turn, quiet_record}

-- the record of so many quiet turns
abbrev pub quiet_records : List Record → ℕ → ℕ → List Record
quiet_records records t zero = records
quiet_records records t (suc n) = added records (Steps t (suc n))

pub some_record : (records : List Record) (t n : ℕ) → zero < n → added records (Steps t n) ≡ quiet_records records t n
some_record records t zero some = absurd (omega arith)
some_record records t (suc n) some = refl

module _ (code : Code) (t : ℕ) (m : Memories) where
  pub quietly_taken : (n : ℕ) (thread thread' : Thread Value) (threads : List (Thread Value))
      → AreQuietTurns code t n thread thread' → length threads ≡ m.region.threads → slice_get threads t ≡ Some thread
      → state_after (setting_with code m) (state_with m threads) (repeated n (Turn t ∷ [])) ≡ state_with m (slice_set threads t thread')
  quietly_taken zero thread thread' threads quiet long at =
      ap (state_with m) (sym (set_same threads t thread at) ∙ ap (slice_set threads t) (sym quiet))
  quietly_taken (suc n) thread thread' threads quiet long at =
      let setting = setting_with code m in
      let between = quiet.0 in
      let last = slice_set threads t between in
      state_after-append setting (state_with m threads) (repeated n (Turn t ∷ [])) (Turn t ∷ [])
      ∙ ap (λ s. (happens setting s (Turn t)).after) (quietly_taken n thread between threads quiet.1.0 long at)
      ∙ quiet_turn code t between thread' m last (length-set threads t between ∙ long) quiet.1.1.0 quiet.1.1.1 (got_set threads t thread between at)
      ∙ ap (state_with m) (set-set threads t between thread')

  record_more : (records : List Record) (n : ℕ) → suc n ≤ 2 ^ 64 - 1
      → added (quiet_records records t n) (Steps t 1) ≡ added records (Steps t (suc n))
  record_more records zero few = refl
  record_more records (suc n) few =
      let on : suc n + 1 ≡ suc (suc n) = omega arith in
      added_twice records t (suc n) 1 (omega arith) ∙ ap (λ k. added records (Steps t k)) on

  pub quietly_recorded : (n : ℕ) (thread thread' : Thread Value) (threads : List (Thread Value)) (records : List Record)
      → n ≤ 2 ^ 64 - 1 → AreQuietTurns code t n thread thread' → length threads ≡ m.region.threads → slice_get threads t ≡ Some thread
      → quiet_records records t n ≡ traced records (steps_from (setting_with code m) (state_with m threads) (repeated n (Turn t ∷ [])))
  quietly_recorded zero thread thread' threads records few quiet long at = refl
  quietly_recorded (suc n) thread thread' threads records few quiet long at =
      let setting = setting_with code m in
      let first = state_with m threads in
      let between = quiet.0 in
      let last = slice_set threads t between in
      let before = repeated n (Turn t ∷ []) in
      sym (record_more records n few)
      ∙ quiet_record code t between thread' m last (quiet_records records t n) (length-set threads t between ∙ long) quiet.1.1.0 quiet.1.1.1 (got_set threads t thread between at)
      ∙ ap (λ rs. traced rs (steps_from setting (state_with m last) (Turn t ∷ []))) (quietly_recorded n thread between threads records (omega arith) quiet.1.0 long at)
      ∙ ap (λ s. traced (traced records (steps_from setting first before)) (steps_from setting s (Turn t ∷ []))) (sym (quietly_taken n thread between threads quiet.1.0 long at))
      ∙ sym (traced-append records (steps_from setting first before) (steps_from setting (state_after setting first before) (Turn t ∷ [])))
      ∙ ap (traced records) (sym (steps_from-append setting first before (Turn t ∷ [])))
