-- What becomes of one thread, as what becomes of the state; and that a system stays one.
use Rattle.std.proofs.Common.{◌≡◌, ℕ, zero, suc, ◌+◌, ◌-◌, ◌<◌, ◌≤◌, List, [], ◌∷◌, ◌++◌, length, get_or, map, replicate, sym, ap, ◌∙◌, arith, Option, Some, slice_get, slice_set, ⊎_elim}
use Rattle.std.proofs.lemmas.List.{length-map, length-set, map_push}
use Rattle.std.proofs.lemmas.Option.{slice_get-get_or}
use Rattle.meaning.specs.Blocks.{repeated}
use Rattle.meaning.specs.declared.event.Event.TheVariants.{Turn}
use Rattle.meaning.specs.declared.record.Record.{Record}
use Rattle.meaning.specs.declared.value.Value.{Value}
use Rattle.machine.specs.declared.code.Code.{Code}
use Rattle.machine.specs.Frames.{Thread, Running, Waiting}
use Rattle.machine.specs.Logs.{first_thread}
use Rattle.machine.specs.Protected.{protected}
use Rattle.machine.specs.Run.{cuts, state_after, steps_from}
use Rattle.machine.specs.Threads.{opened}
use Rattle.machine.specs.Trace.{traced}
use Rattle.thread_engine.specs.State.{ThreadState}
use Rattle.system.proofs.SeatLemmas.{first_of, get_map, got_of_push, got_of_set, map_set}
use Rattle.system.specs.declared.memories.Memories.{Memories}
use Rattle.system.specs.declared.run.System.{System}
use Rattle.system.specs.inner.Seats.{Keeps, first_threads, setting_with, state_with}
use Rattle.system.specs.State.{IsSeat, IsSystemOf, thread_of}

-- ---- the seat of a number

pub found : (items : List (Option ThreadState)) (i t : ℕ) (seat : Option ThreadState)
    → i ≡ t → i < length items → seat ≡ get_or items i seat → slice_get items t ≡ Some seat
found items i t seat same within is =
    sym (ap (slice_get items) same) ∙ slice_get-get_or items i seat within ∙ ap Some (sym is)

-- ---- so many turns of the thread in a seat

pub turned : (code : Code) (m m' : Memories) (items : List (Option ThreadState)) (t n : ℕ) (seat seat' : Option ThreadState)
    → m.region.threads ≡ length items
    → slice_get items t ≡ Some seat
    → ((threads : List (Thread Value)) → length threads ≡ m.region.threads → slice_get threads t ≡ Some (thread_of seat)
    → state_after (setting_with code m) (state_with m threads) (repeated n (Turn t ∷ []))
    ≡ state_with m' (slice_set threads t (thread_of seat')))
    → state_with m' (map thread_of (slice_set items t seat'))
    ≡ state_after (setting_with code m) (state_with m (map thread_of items)) (repeated n (Turn t ∷ []))
turned code m m' items t n seat seat' count is after =
    ap (state_with m') (map_set thread_of items t seat')
    ∙ sym (after (map thread_of items) (length-map items thread_of ∙ sym count) (get_map thread_of items t seat is))

pub turn_recorded : (code : Code) (m : Memories) (items : List (Option ThreadState)) (t n : ℕ) (seat : Option ThreadState) (before after : List Record)
    → m.region.threads ≡ length items
    → slice_get items t ≡ Some seat
    → ((threads : List (Thread Value)) → length threads ≡ m.region.threads → slice_get threads t ≡ Some (thread_of seat)
    → after ≡ traced before (steps_from (setting_with code m) (state_with m threads) (repeated n (Turn t ∷ []))))
    → after ≡ traced before (steps_from (setting_with code m) (state_with m (map thread_of items)) (repeated n (Turn t ∷ [])))
turn_recorded code m items t n seat before after count is records =
    records (map thread_of items) (length-map items thread_of ∙ sym count) (get_map thread_of items t seat is)

-- ---- a cut of the thread in a seat

pub cut_off : (m : Memories) (items : List (Option ThreadState)) (t : ℕ) (seat seat' : Option ThreadState)
    → slice_get items t ≡ Some seat
    → ((threads : List (Thread Value)) → slice_get threads t ≡ Some (thread_of seat)
    → (cuts (state_with m threads) t (Some (thread_of seat))).after ≡ state_with m (slice_set threads t (thread_of seat')))
    → state_with m (map thread_of (slice_set items t seat'))
    ≡ (cuts (state_with m (map thread_of items)) t (slice_get (map thread_of items) t)).after
cut_off m items t seat seat' is after =
    let there = get_map thread_of items t seat is in
    ap (state_with m) (map_set thread_of items t seat')
    ∙ sym (after (map thread_of items) there)
    ∙ sym (ap (λ x. (cuts (state_with m (map thread_of items)) t x).after) there)

pub cut_recorded : (m : Memories) (items : List (Option ThreadState)) (t : ℕ) (seat : Option ThreadState) (before after : List Record)
    → slice_get items t ≡ Some seat
    → ((threads : List (Thread Value))
    → after ≡ traced before ((cuts (state_with m threads) t (Some (thread_of seat))).step ∷ []))
    → after ≡ traced before ((cuts (state_with m (map thread_of items)) t (slice_get (map thread_of items) t)).step ∷ [])
cut_recorded m items t seat before after is records =
    let there = get_map thread_of items t seat is in
    records (map thread_of items)
    ∙ sym (ap (λ x. traced before ((cuts (state_with m (map thread_of items)) t x).step ∷ [])) there)

-- ---- each seat has a thread of the code

abbrev pub AreSeats : Code → List (Option ThreadState) → Type 0
AreSeats code items = (n : ℕ) (seat : Option ThreadState) → slice_get items n ≡ Some seat → IsSeat code n seat

pub seats_set : (code : Code) (items : List (Option ThreadState)) (t : ℕ) (seat' : Option ThreadState)
    → AreSeats code items → IsSeat code t seat' → AreSeats code (slice_set items t seat')
seats_set code items t seat' each is n seat at =
    ⊎_elim (λ (here : (n ≡ t) × (seat ≡ seat')). rw (here.0, here.1) is) (λ there. each n seat there) (got_of_set items t n seat' seat at)

pub seats_push : (code : Code) (items : List (Option ThreadState)) (seat' : Option ThreadState)
    → AreSeats code items → IsSeat code (length items) seat' → AreSeats code (items ++ seat' ∷ [])
seats_push code items seat' each is n seat at =
    ⊎_elim (λ (here : (n ≡ length items) × (seat ≡ seat')). rw (here.0, here.1) is) (λ there. each n seat there) (got_of_push items n seat' seat at)

-- a system in which one thread took a turn, or was cut off
pub system_after : (code : Code) (s s' : System) (t : ℕ) (seat' : Option ThreadState)
    → IsSystemOf code s
    → Keeps s.memories s'.memories
    → s'.threads.items ≡ slice_set s.threads.items t seat'
    → IsSeat code t seat'
    → IsSystemOf code s'
system_after code s s' t seat' is keeps items seat = record {
  within = record {
    count = keeps.threads ∙ is.within.count ∙ sym (length-set s.threads.items t seat') ∙ sym (ap length items);
    few = rw keeps.threads is.within.few;
    slots = rw keeps.slots is.within.slots;
  };
  each = rw items (seats_set code s.threads.items t seat' is.each seat);
}

-- ---- the threads before their first turns

minus_one : (n : ℕ) → n ≡ suc n - 1
minus_one n = omega arith

plus_one : (n : ℕ) → n + 1 ≡ suc n
plus_one n = omega arith

pub opened_more : (code : Code) (items : List (Option ThreadState)) (n : ℕ) (t : ThreadState)
    → map thread_of items ≡ first_threads code n
    → t.thread ≡ first_thread code n
    → map thread_of (items ++ Some t ∷ []) ≡ first_threads code (n + 1)
opened_more code items n t before is =
    map_push thread_of items (Some t)
    ∙ ap (λ ts. ts ++ t.thread ∷ []) before
    ∙ ap (λ x. first_threads code n ++ x ∷ []) is
    ∙ sym (ap (first_threads code) (plus_one n))

pub all_threads : (code : Code) (n : ℕ) → 1 ≤ n
    → first_threads code n ≡ Running (opened protected code code.entry []) [] ∷ replicate (n - 1) Waiting
all_threads code zero some = absurd (omega arith)
all_threads code (suc n) some =
    first_of code n ∙ ap (λ k. Running (opened protected code code.entry []) [] ∷ replicate k Waiting) (minus_one n)
