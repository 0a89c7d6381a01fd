-- What the threads of a run keep: pointers are numbers of 32 bits, and each thread is ready for its next access.
use Rattle.std.proofs.Common.{◌≡◌, inl, inr, ℕ, ℤ, zero, suc, pos, ◌+◌, ◌-◌, ◌*◌, ◌^◌, ◌<◌, ◌≤◌, Bool, true, false, if◌then◌else◌, nat_eq, nat_le, List, [], ◌∷◌, ◌++◌, length, replicate, Option, Some, None, unwrap_or, slice_get, slice_set, refl, sym, ap, ◌∙◌, subst, arith, length-set}
use Rattle.std.proofs.lemmas.Bool.{leb-true}
use Rattle.std.proofs.lemmas.List.{length-replicate}
use Rattle.std.specs.FinMap.{get, get-empty}
use Rattle.std.specs.Ordering.{nat_cmp}
use Rattle.core_ir.specs.Typed.{start_type}
use Rattle.meaning.specs.declared.action.Action.{Action}
use Rattle.meaning.specs.declared.action.Action.TheVariants as act
use Rattle.meaning.specs.declared.action.Reply.{Reply}
use Rattle.meaning.specs.declared.action.Reply.TheVariants as reply
use Rattle.meaning.specs.declared.event.Event.{Event}
use Rattle.meaning.specs.declared.value.Entry.{Entry}
use Rattle.meaning.specs.declared.value.Stop.TheVariants.{Budget}
use Rattle.meaning.specs.declared.value.Value.{Value}
use Rattle.meaning.specs.declared.value.Value.TheVariants.{Based}
use Rattle.machine.specs.declared.code.Code.{Code}
use Rattle.machine.specs.declared.code.CodeFunction.{CodeFunction}
use Rattle.machine.specs.declared.code.CodePlace.{CodePlace}
use Rattle.machine.specs.declared.code.CodePlace.TheVariants.{AddrG, AddrL, AddrF, Binary, Load, Malloc}
use Rattle.machine.specs.Addresses.{argument_address, slots_for}
use Rattle.machine.specs.Domain.{Callee, Reaches, Refused}
use Rattle.machine.specs.Frames.{Effect, Ended, Enters, Frame, Goes, Leaves, Running, Starting, Stopped, Stops, Thread, Waiting, Write, is_live}
use Rattle.machine.specs.Numbers.{computed, is_kept, low_word}
use Rattle.machine.specs.Protected.{action_of, effect_of, found_entry, is_object_size, next, protected, protected_callee, start_by, started, unless_unit}
use Rattle.machine.specs.Run.{Move, Setting, State, Step, Turned, happens, opening, site_of, state_after, steps_from}
use Rattle.machine.specs.Shapes.{defines_number, number_in, object_of, register, shape_of}
use Rattle.machine.specs.Store.{Store, first_slot, stored}
use Rattle.machine.specs.Threads.{Told, applied, frame_units, leaves, opened, place_at, result_slot, result_write, written}
use Rattle.machine.specs.Transfers.{IsOthers}
use Rattle.machine.specs.ValidCode.{CodeFits, IsValidCodeFunction, ValidCode}
use Rattle.machine.specs.Values.{address_of, loaded_entry, moved_number, object_address, value_of}
use Rattle.thread_laws.proofs.Bodies.{StandsIn, at_place, local_in_frame, place_is, stands_in, valid_function}
use Rattle.thread_laws.proofs.FittingValues.{Each}
use Rattle.thread_laws.proofs.Readiness.{halts}
use Rattle.thread_laws.proofs.Successors.{IsCall, LeadsTo, leads_to}
use Rattle.machine_laws.proofs.Events.{IsNotOf, all_kept, answer_in, any_event, told_in}
use Rattle.machine_laws.proofs.Events as events
use Rattle.machine_laws.proofs.Flow.{call_is_free, first_is_free}
use Rattle.machine_laws.proofs.Frames.{Drew, GivesNoObject, IsObjectFree, drew, gives_no_object, is_enter, opened_function, opened_object, opened_place, opened_registers, result_is_free, written_function, written_object, written_place, written_registers}
use Rattle.machine_laws.proofs.Turns.{running}
use Rattle.machine_laws.proofs.Values.{ActionOf, AddressIs, AnswerOf, EffectOf, FoundIs, FrameOf, IsClosed, ObjectIs, WriteOf, action_is, effect_is, loaded_is, opened_of, placed_of, result_of, shape_is, stored_is, written_of}
use Rattle.based_laws.proofs.Ready.{IsReady, goes_ready, ready_later, site_here, unguarded}

-- ---- pointers are numbers of 32 bits

abbrev pub IsLow : Value → Type 0
IsLow (Based value lower upper id) = value < 2 ^ 32
IsLow v = Unit {0}

moved_low : (n : ℤ) (k : ℕ) → moved_number n k < 2 ^ 32
moved_low n k = omega arith

pub low_is_closed : IsClosed IsLow
low_is_closed = record { bare = λ n. tt; moved = λ value lower upper id k here. moved_low (pos value) k }

object_low : (first units id : ℕ) (kept : Bool) → first < 2 ^ 32 → IsLow (object_address first units id kept)
object_low first units id true low = low
object_low first units id false low = tt

others_of : (t : ℕ) (step : Step) → IsNotOf t step → IsOthers t step
others_of t (Turned u site action answer notes) other = other
others_of t _ other = tt

abbrev stopped_thread : Thread Value
stopped_thread = Stopped Budget

abbrev waiting_thread : Thread Value
waiting_thread = Waiting

module _ (setting : Setting) (valid : ValidCode setting.code) (few : setting.slots ≤ 1048576) where
  abbrev code : Code
  code = setting.code

  -- ---- frames

  pub record FrameLow (f : Frame Value) : Type 0 where
    pub values : FrameOf IsLow f
    pub object : object_of protected f ≤ 1048576
    pub registers : (c : CodeFunction) → slice_get code.functions f.function ≡ Some c → length f.registers ≡ c.registers

  -- it goes on behind a call
  pub record IsBehindCall (f : Frame Value) : Type 0 where
    pub before : ℕ
    pub is : f.place ≡ suc before
    pub call : CodePlace
    pub there : place_at code f.function before ≡ Some call
    pub calls : IsCall call

  pub record FrameWaits (f : Frame Value) : Type 0 where
    pub low : FrameLow f
    pub behind : IsBehindCall f

  pub record RunningIs (past : List Step) (t : ℕ) (top : Frame Value) (below : List (Frame Value)) : Type 0 where
    pub low : FrameLow top
    pub waiting : Each FrameWaits below
    pub ready : (i : CodePlace) → place_at code top.function top.place ≡ Some i → IsReady code past t top below i

  abbrev pub ThreadIs : List Step → ℕ → Thread Value → Type 0
  ThreadIs past t (Running top below) = RunningIs past t top below
  ThreadIs past t _ = Unit {0}

  abbrev pub ThreadAt : List Step → ℕ → Option (Thread Value) → Type 0
  ThreadAt past t None = Unit {0}
  ThreadAt past t (Some thread) = ThreadIs past t thread

  -- what the store has, and how many threads there are
  pub record StoreIs (past : List Step) (s : State) : Type 0 where
    pub entries : (a : ℕ) (e : Entry) → get s.store.entries a ≡ Some e → IsLow (value_of e)
    pub many : length s.threads ≤ 16
    pub counted : s.store.count ≤ length s.threads

  -- ---- behind the steps of other threads

  thread_later : (past : List Step) (step : Step) (t : ℕ) (thread : Thread Value) → IsOthers t step → ThreadIs past t thread → ThreadIs (past ++ step ∷ []) t thread
  thread_later past step t (Running top below) others is = record {
    low = is.low;
    waiting = is.waiting;
    ready = λ i here. ready_later code past step t top below i others (is.ready i here);
  }
  thread_later past step t Waiting others is = tt
  thread_later past step t (Starting f) others is = tt
  thread_later past step t Ended others is = tt
  thread_later past step t (Stopped why) others is = tt

  at_later : (past : List Step) (step : Step) (t : ℕ) (o : Option (Thread Value)) → IsNotOf t step → ThreadAt past t o → ThreadAt (past ++ step ∷ []) t o
  at_later past step t None other is = tt
  at_later past step t (Some thread) other is = thread_later past step t thread (others_of t step other) is

  -- ---- addresses that instructions make

  address_by : (top : Frame Value) (c : CodeFunction) → IsValidCodeFunction code c → FrameLow top → (i : CodePlace) → CodeFits code c i → AddressIs IsLow low_is_closed top i
  address_by top c rules frame (AddrG d g address units kept) fits = object_low address units 2 kept (omega (arith, fits.to))
  address_by top c rules frame (AddrL d v offset units kept) fits =
      let within = local_in_frame code c v fits.local rules fits.there in
      object_low (64 * object_of protected top + offset) units (object_of protected top) kept
      (omega (arith, within, fits.at, frame.object, rules.within_limits.frame_units))
  address_by top c rules frame (AddrF d g) fits = tt
  address_by top c rules frame _ fits = tt

  address_low : (top : Frame Value) (i : CodePlace) → place_at code top.function top.place ≡ Some i → FrameLow top → AddressIs IsLow low_is_closed top i
  address_low top i here frame =
      let now : StandsIn code top.function top.place i = stands_in code top.function top.place i here in
      let rules : IsValidCodeFunction code now.function = valid_function code top.function now.function valid now.there in
      address_by top now.function rules frame i (at_place (CodeFits code now.function) now.function.body top.place i rules.in_range now.at)

  -- ---- new frames

  opened_is : (t f : ℕ) (arguments : List Value) (frames : List (Frame Value)) → Each IsLow arguments → Each FrameWaits frames
      → (later : List Step) → RunningIs later t (opened protected code f arguments) frames
  opened_is t f arguments frames are waiting later =
      let new : Frame Value = opened protected code f arguments in
      record {
        low = record {
          values = opened_of IsLow low_is_closed code f arguments are;
          object = subst (λ (o : Option ℕ). unwrap_or o 0 ≤ 1048576) (sym (opened_object code f arguments)) (omega arith);
          registers = λ c there. opened_registers code f arguments c (ap (λ (n : ℕ). slice_get code.functions n) (sym (opened_function code f arguments)) ∙ there);
        };
        waiting = waiting;
        ready = λ i there.
            let first : place_at code new.function 0 ≡ Some i = ap (λ (k : ℕ). place_at code new.function k) (sym (opened_place code f arguments)) ∙ there in
            let now : StandsIn code new.function 0 i = stands_in code new.function 0 i first in
            unguarded code later t new frames i
            (first_is_free code now.function (valid_function code new.function now.function valid now.there) i now.at);
      }

  -- ---- a turn

  module _ (past : List Step) (s : State) (t : ℕ) (is : StoreIs past s) where
    found_low : (a : ℕ) → FoundIs IsLow low_is_closed (answer_in setting s (act.Get a))
    found_low a = loaded_is IsLow low_is_closed (get s.store.entries a) (is.entries a)

    load_answer : (kept : Bool) (unit : Option ℕ) (a b : ℕ)
        → FoundIs IsLow low_is_closed (answer_in setting s (unless_unit unit (if kept then act.Get a else act.Load b)))
    load_answer true None a b = found_low a
    load_answer false None a b = tt
    load_answer kept (Some u) a b = tt

    -- a slot that was drawn
    slot_low : (next k id : ℕ) (b : Bool) → nat_le (next + k) setting.slots ≡ b → (if b then Some next else None) ≡ Some id → id ≤ 1048576
    slot_low next k id true fits found =
        let same : next ≡ id = cc in
        let within : next + k ≤ setting.slots = leb-true (next + k) setting.slots fits in
        omega (arith, within, same, few)
    slot_low next k id false fits found = absurd (cc)

    drawn_low : (k id : ℕ) → first_slot setting.slots s.store.next k ≡ Some id → id ≤ 1048576
    drawn_low k id found = slot_low s.store.next k id (nat_le (s.store.next + k) setting.slots) refl found

    slot_answer : (n : ℤ) (o : Option ℕ) → ((id : ℕ) → o ≡ Some id → id ≤ 1048576) → ObjectIs IsLow low_is_closed n (reply.Slot o)
    slot_answer n None low = tt
    slot_answer n (Some id) low = let small = low id refl in omega (arith, small)

    allocate_answer : (n : ℤ) (k : ℕ) (sized : Bool) → ObjectIs IsLow low_is_closed n (answer_in setting s (if sized then act.Alloc k else act.Own))
    allocate_answer n k true = slot_answer n (first_slot setting.slots s.store.next k) (drawn_low k)
    allocate_answer n k false = tt

    module _ (top : Frame Value) (below : List (Frame Value)) (r : RunningIs past t top below) (i : CodePlace)
        (here : place_at code top.function top.place ≡ Some i) where
      abbrev action_at : CodePlace → Action
      action_at j = action_of code t top below (shape_of protected (length below) top j)

      abbrev effect_at : CodePlace → Effect Value
      effect_at j = effect_of code top (answer_in setting s (action_at j)) (shape_of protected (length below) top j)

      numbers_answer : (d : ℕ) (n : Option ℤ) (answered : Reply) → AnswerOf IsLow low_is_closed (defines_number protected d n) answered
      numbers_answer d None answered = tt
      numbers_answer d (Some n) answered = tt

      answer_is : (j : CodePlace) → AnswerOf IsLow low_is_closed (shape_of protected (length below) top j) (answer_in setting s (action_at j))
      answer_is (Load d p k unit) = load_answer (is_kept k) unit (address_of (register protected top p)) (address_of (register protected top p))
      answer_is (Malloc d a) = allocate_answer (number_in protected top a) (slots_for (low_word (number_in protected top a))) (is_object_size (number_in protected top a))
      answer_is (Binary d op a b) = numbers_answer d (computed op (number_in protected top a) (number_in protected top b)) _
      answer_is _ = tt

      writes : EffectOf IsLow low_is_closed (effect_at i)
      writes =
          effect_is IsLow low_is_closed code top (answer_in setting s (action_at i)) (shape_of protected (length below) top i) r.low.values
          (shape_is IsLow low_is_closed (length below) top i (address_low top i here r.low) r.low.values)
          (answer_is i)

      acted_low : ActionOf IsLow low_is_closed (action_at i)
      acted_low =
          action_is IsLow low_is_closed code t top below (shape_of protected (length below) top i)
          (shape_is IsLow low_is_closed (length below) top i (address_low top i here r.low) r.low.values)

      now : StandsIn code top.function top.place i
      now = stands_in code top.function top.place i here

      -- the object of a frame that was entered
      entered_low : (k to : ℕ) (w : Write Value) (d : Drew top (answer_in setting s (act.Alloc k)) to w) → object_of protected (written protected w (record top { place = to })) ≤ 1048576
      entered_low k to w d =
          let found : first_slot setting.slots s.store.next k ≡ Some d.id = let said = d.found in cc in
          subst (λ (v : Write Value). object_of protected (written protected v (record top { place = to })) ≤ 1048576) (sym d.write)
          (drawn_low k d.id found)

      object_goes : (to : ℕ) (w : Write Value) → effect_at i ≡ Goes to w → object_of protected (written protected w (record top { place = to })) ≤ 1048576
      object_goes to w effect =
          elim (is_enter i) [
            | inl enters ↦
                entered_low (slots_for (frame_units code top.function)) to w
                (drew top (answer_in setting s (act.Alloc (slots_for (frame_units code top.function)))) to w
                (ap (λ (j : CodePlace). effect_at j) (sym enters) ∙ effect))
            | inr other ↦
                let free : IsObjectFree w = subst GivesNoObject effect (gives_no_object code (length below) top (answer_in setting s (action_at i)) i other) in
                subst (λ (o : Option ℕ). unwrap_or o 0 ≤ 1048576) (sym (written_object w (record top { place = to }) free)) r.low.object
          ]

      registers_like : (f g : Frame Value) → g.function ≡ f.function → length g.registers ≡ length f.registers
          → ((c : CodeFunction) → slice_get code.functions f.function ≡ Some c → length f.registers ≡ c.registers)
          → (c : CodeFunction) → slice_get code.functions g.function ≡ Some c → length g.registers ≡ c.registers
      registers_like f g function size are c there =
          size ∙ are c (ap (λ (n : ℕ). slice_get code.functions n) (sym function) ∙ there)

      goes_low : (to : ℕ) (w : Write Value) → effect_at i ≡ Goes to w → WriteOf IsLow low_is_closed w → FrameLow (written protected w (record top { place = to }))
      goes_low to w effect has = record {
        values = written_of IsLow low_is_closed w (record top { place = to }) has (placed_of IsLow low_is_closed top to r.low.values);
        object = object_goes to w effect;
        registers = registers_like top (written protected w (record top { place = to })) (written_function w (record top { place = to }))
            (written_registers w (record top { place = to })) r.low.registers;
      }

      abbrev Behind : Told Value → Type 0
      Behind told = ThreadIs (past ++ Turned t (Some (site_here top below)) (action_at i) (answer_in setting s (action_at i)) told.notes ∷ []) t told.thread

      left_is : (v : Value) (frames : List (Frame Value)) → IsLow v → Each FrameWaits frames
          → (later : List Step) → ThreadIs later t (leaves protected code frames v).thread
      left_is v [] low are later = tt
      left_is v (caller ∷ others) low are later =
          let w = result_write protected (result_slot code caller) v in
          let back : Frame Value = written protected w caller in
          let waits : IsBehindCall caller = are.0.behind in
          record {
            low = record {
              values = written_of IsLow low_is_closed w caller (result_of IsLow low_is_closed (result_slot code caller) v low) are.0.low.values;
              object = subst (λ (o : Option ℕ). unwrap_or o 0 ≤ 1048576) (sym (written_object w caller (result_is_free (result_slot code caller) v))) are.0.low.object;
              registers = registers_like caller back (written_function w caller) (written_registers w caller) are.0.low.registers;
            };
            waiting = are.1;
            ready = λ j there.
                let call : StandsIn code caller.function waits.before waits.call = stands_in code caller.function waits.before waits.call waits.there in
                let at : slice_get call.function.body (suc waits.before) ≡ Some j =
                place_is code caller.function (suc waits.before) call.function j call.there
                (ap (λ (k : ℕ). place_at code caller.function k) (sym (written_place w caller ∙ waits.is))
                ∙ ap (λ (f : ℕ). place_at code f back.place) (sym (written_function w caller)) ∙ there) in
                unguarded code later t back others j
                (call_is_free code call.function (valid_function code caller.function call.function valid call.there) waits.before waits.call j call.at waits.calls at);
          }

      applied_by : (e : Effect Value) → effect_at i ≡ e → EffectOf IsLow low_is_closed e → halts (action_at i) ≡ false → Behind (applied protected code top below e)
      applied_by (Stops why) effect has goes = tt
      applied_by (Goes to w) effect has goes = record {
        low = goes_low to w effect has;
        waiting = r.waiting;
        ready = goes_ready setting valid s is.many is.counted past t top below i to w here r.low.registers (r.ready i here) goes effect;
      }
      applied_by (Enters f arguments through) effect has goes =
          let call : IsCall i = subst (LeadsTo top.place i) effect (leads_to code (length below) top (answer_in setting s (action_at i)) i) in
          opened_is t f arguments (record top { place = top.place + 1 } ∷ below) has (
            record {
              low = record {
                values = placed_of IsLow low_is_closed top (top.place + 1) r.low.values;
                object = r.low.object;
                registers = r.low.registers;
              };
              behind = record { before = top.place; is = omega arith; call = i; there = here; calls = call };
            },
            r.waiting,
          ) _
      applied_by (Leaves v) effect has goes = left_is v below has r.waiting _

      applied_is : halts (action_at i) ≡ false → Behind (applied protected code top below (effect_at i))
      applied_is goes = applied_by (effect_at i) refl writes goes

    abbrev TurnIs : Thread Value → Action → Told Value → Type 0
    TurnIs thread action told =
        ThreadIs (past ++ Turned t (site_of thread) action (answer_in setting s action) told.notes ∷ []) t told.thread
        × ActionOf IsLow low_is_closed action

    callee_is : (later : List Step) (c : Callee) → ThreadIs later t (start_by c).thread
    callee_is later (Reaches f) = tt
    callee_is later (Refused why) = tt

    started_is : (later : List Step) (o : Option Entry) → ThreadIs later t (started code o).thread
    started_is later None = tt
    started_is later (Some e) = callee_is later (protected_callee code start_type (loaded_entry (Some e)))

    turn_is : (thread : Thread Value) → ThreadIs past t thread → is_live thread ≡ true → TurnIs thread (next code t thread) (told_in setting s t thread)
    turn_is Waiting r live = (started_is _ (found_entry (answer_in setting s (next code t Waiting))), tt)
    turn_is (Starting f) r live =
        (opened_is t f (loaded_entry (get s.store.entries (argument_address t)) ∷ []) [] (found_low (argument_address t), tt) tt _, tt)
    turn_is (Running top below) r live =
        running code t top below (answer_in setting s) (TurnIs (Running top below))
        (λ why. (tt, tt))
        (λ none. (
          record {
            low = r.low;
            waiting = r.waiting;
            ready = λ i here. let no : None ≡ Some i = sym none ∙ here in absurd (cc);
          },
          tt,
        ))
        (λ i here goes. (applied_is top below r i here goes, acted_low top below r i here))
    turn_is Ended r live = absurd (cc)
    turn_is (Stopped why) r live = absurd (cc)

  -- ---- events

  abbrev pub Kept : List Step → State → Type 0
  Kept past s = ((t : ℕ) → ThreadAt past t (slice_get s.threads t)) × StoreIs past s

  count_kept : (many : ℕ) (s : Store) (action : Action) → s.count ≤ many → (stored many s action).count ≤ many
  count_kept many s act.Fork low = fork_kept many s.count (nat_eq s.count many) refl low where
    fork_kept : (many count : ℕ) (b : Bool) → nat_eq count many ≡ b → count ≤ many → (if b then count else count + 1) ≤ many
    fork_kept many count true is low = low
    fork_kept many count false is low = grind (arith, is, low)
  count_kept many s act.Own low = low
  count_kept many s (act.Load b) low = low
  count_kept many s (act.Store b w) low = low
  count_kept many s (act.TryLock b) low = low
  count_kept many s (act.Get b) low = low
  count_kept many s (act.Put b e) low = low
  count_kept many s (act.Alloc k) low = low
  count_kept many s (act.Free id) low = low
  count_kept many s (act.Look id) low = low
  count_kept many s (act.Print n) low = low
  count_kept many s (act.Input n) low = low
  count_kept many s (act.Halt why) low = low

  store_kept : (past : List Step) (s : State) (e : Event) → Kept past s → StoreIs (past ++ (happens setting s e).step ∷ []) (happens setting s e).after
  store_kept past s e kept =
      any_event setting s (λ (move : Move). StoreIs (past ++ move.step ∷ []) move.after)
      (record { entries = kept.1.entries; many = kept.1.many; counted = kept.1.counted })
      (λ t thread there live.
      let thread-is : ThreadIs past t thread = subst (λ (o : Option (Thread Value)). ThreadAt past t o) there (kept.0 t) in
      let size : length (slice_set s.threads t (told_in setting s t thread).thread) ≡ length s.threads =
      length-set s.threads t (told_in setting s t thread).thread in
      record {
        entries = stored_is IsLow low_is_closed (length s.threads) s.store (next code t thread) kept.1.entries (turn_is past s t kept.1 thread thread-is live).1;
        many = subst (λ (n : ℕ). n ≤ 16) (sym size) kept.1.many;
        counted = subst (λ (n : ℕ). (stored (length s.threads) s.store (next code t thread)).count ≤ n) (sym size)
            (count_kept (length s.threads) s.store (next code t thread) kept.1.counted);
      })
      (λ a w. record { entries = kept.1.entries; many = kept.1.many; counted = kept.1.counted })
      (λ t thread there live begun.
      let size : length (slice_set s.threads t (stopped_thread)) ≡ length s.threads = length-set s.threads t stopped_thread in
      record {
        entries = kept.1.entries;
        many = subst (λ (n : ℕ). n ≤ 16) (sym size) kept.1.many;
        counted = subst (λ (n : ℕ). s.store.count ≤ n) (sym size) kept.1.counted;
      })
      e

  event_keeps : (past : List Step) (s : State) (e : Event) → Kept past s → Kept (past ++ (happens setting s e).step ∷ []) (happens setting s e).after
  event_keeps past s e kept = (
    events.each_kept setting ThreadAt at_later (λ past t thread was live. tt) StoreIs
        (λ past s t thread store there live was. (turn_is past s t store thread was live).0)
        past s e kept.1 kept.0,
    store_kept past s e kept,
  )

  opening_is : (threads : ℕ) → 1 ≤ threads → threads ≤ 16 → Kept [] (opening setting threads)
  opening_is threads some many = (
    first_is,
    record {
      entries = λ a e is. let none : None ≡ Some e = sym (get-empty nat_cmp a) ∙ is in absurd (cc);
      many = omega (arith, size, some, many);
      counted = omega (arith, size, some);
    },
  ) where
    waiting_is : (n i t : ℕ) → ThreadAt [] t (slice_get (replicate n waiting_thread) i)
    waiting_is zero i t = tt
    waiting_is (suc n) zero t = tt
    waiting_is (suc n) (suc i) t = waiting_is n i t

    size : length (replicate (threads - 1) waiting_thread) ≡ threads - 1
    size = length-replicate (threads - 1) waiting_thread

    first_is : (t : ℕ) → ThreadAt [] t (slice_get (opening setting threads).threads t)
    first_is zero = opened_is 0 code.entry [] [] tt tt []
    first_is (suc t) = waiting_is (threads - 1) t (suc t)

  pub reached_is : (threads : ℕ) → 1 ≤ threads → threads ≤ 16 → (events : List Event)
      → Kept (steps_from setting (opening setting threads) events) (state_after setting (opening setting threads) events)
  reached_is threads some many events = all_kept setting Kept event_keeps [] (opening setting threads) events (opening_is threads some many)
