-- Runs in two parts.
use Rattle.std.proofs.Common.{◌≡◌, ℕ, zero, suc, ◌+◌, ◌<◌, ◌≤◌, List, [], ◌∷◌, ◌++◌, length, get_or, take, drop, refl, sym, ap, arith, ◌∙◌, ⊎_elim, eq-or-lt_of_le, le_refl}
use Rattle.std.proofs.lemmas.List.{append-nil, append_assoc, drop_more, take-append-drop, take-append-le, take_all, take_more}
use Rattle.std.specs.List.{flat_map}
use Rattle.std.proofs.lemmas.Grind.{flat_map-append}
use Rattle.meaning.specs.Blocks.{events_of, listed, repeated}
use Rattle.meaning.specs.declared.event.Event.{Event}
use Rattle.meaning.specs.declared.events.Block.{Block}
use Rattle.meaning.specs.declared.record.Record.{Record}
use Rattle.machine.specs.declared.code.Code.{Code}
use Rattle.machine.specs.Run.{Setting, State, Step, happens, steps_from, state_after}
use Rattle.machine.specs.Trace.{records_of, traced}
use Rattle.system.proofs.RecordsInOrder.{added_all-append}
use Rattle.system.specs.declared.run.System.{System}
use Rattle.system.specs.inner.Runs.{IsBehind, IsWithin}
use Rattle.system.specs.State.{setting_of, state_of}

module _ (setting : Setting) where
  pub state_after-append : (s : State) (es fs : List Event)
      → state_after setting s (es ++ fs) ≡ state_after setting (state_after setting s es) fs
  state_after-append s [] fs = refl
  state_after-append s (e ∷ es) fs = state_after-append (happens setting s e).after es fs

  pub steps_from-append : (s : State) (es fs : List Event)
      → steps_from setting s (es ++ fs) ≡ steps_from setting s es ++ steps_from setting (state_after setting s es) fs
  steps_from-append s [] fs = refl
  steps_from-append s (e ∷ es) fs =
      ap (λ steps. (happens setting s e).step ∷ steps) (steps_from-append (happens setting s e).after es fs)

pub traced-append : (trace : List Record) (xs ys : List Step) → traced trace (xs ++ ys) ≡ traced (traced trace xs) ys
traced-append trace xs ys = rw (flat_map-append records_of xs ys) (added_all-append trace (flat_map records_of xs) (flat_map records_of ys))

-- ---- a system behind events

pub nothing : (code : Code) (s : System) (records : List Record) → IsBehind code [] s s records records
nothing code s records = record { state = refl; recorded = refl }

recorded_in_parts : (setting : Setting) (s : State) (records : List Record) (es fs : List Event)
    → traced (traced records (steps_from setting s es)) (steps_from setting (state_after setting s es) fs)
    ≡ traced records (steps_from setting s (es ++ fs))
recorded_in_parts setting s records es fs =
    sym (traced-append records (steps_from setting s es) (steps_from setting (state_after setting s es) fs))
    ∙ ap (traced records) (sym (steps_from-append setting s es fs))

module _ (code : Code) (s s' : System) (records records' : List Record) (es : List Event) where
  pub append : (s'' : System) (records'' : List Record) (fs : List Event)
      → IsBehind code es s s' records records' → setting_of code s' ≡ setting_of code s
      → IsBehind code fs s' s'' records' records'' → IsBehind code (es ++ fs) s s'' records records''
  append s'' records'' fs before same behind =
      let setting = setting_of code s in
      let first = state_of s in
      record {
        state =
            behind.state
            ∙ ap (λ k. state_after k (state_of s') fs) same
            ∙ ap (λ x. state_after setting x fs) before.state
            ∙ sym (state_after-append setting first es fs);
        recorded =
            behind.recorded
            ∙ ap (λ k. traced records' (steps_from k (state_of s') fs)) same
            ∙ ap (λ x. traced records' (steps_from setting x fs)) before.state
            ∙ ap (λ x. traced x (steps_from setting (state_after setting first es) fs)) before.recorded
            ∙ recorded_in_parts setting first records es fs;
      }

  pub within : (records'' : List Record) (fs rest : List Event)
      → IsBehind code es s s' records records' → setting_of code s' ≡ setting_of code s
      → IsWithin code fs s' records' records'' → IsWithin code (es ++ (fs ++ rest)) s records records''
  within records'' fs rest before same stops =
      let setting = setting_of code s in
      let first = state_of s in
      record {
        done = es ++ stops.done;
        rest = stops.rest ++ rest;
        split =
            ap (λ x. es ++ (x ++ rest)) stops.split
            ∙ ap (λ x. es ++ x) (append_assoc stops.done stops.rest rest)
            ∙ sym (append_assoc es stops.done (stops.rest ++ rest));
        recorded =
            stops.recorded
            ∙ ap (λ k. traced records' (steps_from k (state_of s') stops.done)) same
            ∙ ap (λ x. traced records' (steps_from setting x stops.done)) before.state
            ∙ ap (λ x. traced x (steps_from setting (state_after setting first es) stops.done)) before.recorded
            ∙ recorded_in_parts setting first records es stops.done;
      }

-- the events of blocks up to one, of that one, and of those behind it
pub listed_parts : (blocks : List Block) (k : ℕ) (block : Block) → k < length blocks → block ≡ get_or blocks k block
    → listed blocks ≡ listed (take k blocks) ++ (events_of block ++ listed (drop (k + 1) blocks))
listed_parts blocks k block inside is =
    ap listed (sym (take-append-drop k blocks))
    ∙ flat_map-append events_of (take k blocks) (drop k blocks)
    ∙ ap (λ x. listed (take k blocks) ++ listed x) (drop_more blocks k block inside)
    ∙ ap (λ b. listed (take k blocks) ++ (events_of b ++ listed (drop (k + 1) blocks))) (sym is)

pub listed_more : (blocks : List Block) (k : ℕ) (block : Block) → k < length blocks → block ≡ get_or blocks k block
    → listed (take (k + 1) blocks) ≡ listed (take k blocks) ++ events_of block
listed_more blocks k block inside is =
    ap listed (take_more blocks k block inside)
    ∙ flat_map-append events_of (take k blocks) (get_or blocks k block ∷ [])
    ∙ ap (λ x. listed (take k blocks) ++ x) (append-nil (events_of (get_or blocks k block)) ∙ ap events_of (sym is))

-- the first of these events
pub taken : (events done rest : List Event) → events ≡ done ++ rest → done ≡ take (length done) events
taken events done rest split =
    sym (take_all (length done) done (le_refl (length done))) ∙ sym (take-append-le (length done) done rest (le_refl (length done))) ∙ ap (take (length done)) (sym split)

pub repeated_parts : (times k : ℕ) (events : List Event) → k < times
    → (rest : List Event) × (repeated times events ≡ repeated k events ++ (events ++ rest))
repeated_parts zero k events inside = absurd (omega arith)
repeated_parts (suc n) k events inside =
    let at_most : k ≤ n = omega arith in
    ⊎_elim
    (λ (last : k ≡ n). ([], ap (λ x. repeated x events ++ events) (sym last) ∙ ap (λ x. repeated k events ++ x) (sym (append-nil events))))
    (λ (earlier : k < n).
    let parts = repeated_parts n k events earlier in (
      parts.0 ++ events,
      ap (λ x. x ++ events) parts.1
          ∙ append_assoc (repeated k events) (events ++ parts.0) events
          ∙ ap (λ x. repeated k events ++ x) (append_assoc events parts.0 events),
    ))
    (eq-or-lt_of_le at_most)

pub repeated-append : (a b : ℕ) (events : List Event) → repeated a events ++ repeated b events ≡ repeated (a + b) events
repeated-append a zero events =
    let on : a + zero ≡ a = omega arith in append-nil (repeated a events) ∙ ap (λ k. repeated k events) (sym on)
repeated-append a (suc b) events =
    let on : a + suc b ≡ suc (a + b) = omega arith in
    sym (append_assoc (repeated a events) (repeated b events) events)
    ∙ ap (λ x. x ++ events) (repeated-append a b events)
    ∙ ap (λ k. repeated k events) (sym on)
