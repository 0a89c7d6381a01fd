-- Each event keeps that every value is known, of any state of which this holds.
use Rattle.std.proofs.Common.{◌≡◌, inl, inr, ℕ, ℤ, zero, suc, ◌+◌, ◌*◌, ◌<◌, Bool, true, false, if◌then◌else◌, List, [], ◌∷◌, ◌++◌, length, Contains, Option, Some, None, unwrap_or, slice_get, refl, sym, ap, ◌∙◌, subst, arith}
use Rattle.std.specs.FinMap.{get}
use Rattle.core_ir.specs.declared.instr.Instr.{Instr}
use Rattle.core_ir.specs.declared.instr.Instr.TheVariants as instr
use Rattle.core_ir.specs.declared.program.Function.{Function}
use Rattle.core_ir.specs.declared.program.GlobalVar.{GlobalVar}
use Rattle.core_ir.specs.declared.program.Local.{Local}
use Rattle.core_ir.specs.declared.program.Program.{Program}
use Rattle.meaning.specs.declared.action.Action.{Action}
use Rattle.meaning.specs.declared.action.Action.TheVariants as act
use Rattle.meaning.specs.declared.action.Reply.{Reply}
use Rattle.meaning.specs.declared.action.Reply.TheVariants as reply
use Rattle.meaning.specs.declared.event.Event.{Event}
use Rattle.meaning.specs.declared.note.Note.{Note}
use Rattle.meaning.specs.declared.value.Entry.{Entry}
use Rattle.meaning.specs.declared.value.Stop.TheVariants.{Budget}
use Rattle.meaning.specs.declared.value.Value.{Value}
use Rattle.meaning.specs.declared.value.Value.TheVariants.{Bare, Based, Code as CodeValue}
use Rattle.machine.specs.declared.code.Code.{Code}
use Rattle.machine.specs.declared.code.CodeFunction.{CodeFunction}
use Rattle.machine.specs.declared.code.CodeLocal.{CodeLocal}
use Rattle.machine.specs.declared.code.CodePlace.{CodePlace}
use Rattle.machine.specs.declared.code.CodePlace.TheVariants.{Binary, Enter, Load, Malloc}
use Rattle.machine.specs.declared.code.Origin.{Origin}
use Rattle.machine.specs.Addresses.{argument_address, slots_for}
use Rattle.machine.specs.Based.{FrameHas, IsBased, IsDrawn, IsKnown, Object, ThreadHas, ValuesAreKept, allocated_object, local_object, locals_in, made, made_by, made_in}
use Rattle.machine.specs.Decided.{Context, decided, global_code, keeps_bounds, local_code}
use Rattle.machine.specs.Domain.{Callee, Reaches, Refused}
use Rattle.machine.specs.Frames.{Effect, Ended, Enters, Frame, Goes, Leaves, Running, Starting, Stopped, Stops, Thread, Waiting, Write}
use Rattle.machine.specs.Numbers.{computed, is_kept, low_word}
use Rattle.machine.specs.Protected.{action_of, answered, drawn, effect_of, found_entry, is_object_size, next, protected, protected_callee, start_by, started, unless_unit}
use Rattle.machine.specs.Run.{Move, Setting, Site, State, Turned, happens, site_of}
use Rattle.machine.specs.Shapes.{defines_number, number_in, object_of, register, shape_of}
use Rattle.machine.specs.Stands.{FunctionStands, LocalStands, Stands}
use Rattle.machine.specs.Store.{first_slot}
use Rattle.machine.specs.Threads.{Told, applied, enters, frame_units, leaves, opened, place_at, result_slot, result_write, written}
use Rattle.machine.specs.ValidCode.{ValidCode}
use Rattle.machine.specs.Values.{address_of, loaded_entry, object_address, value_of}
use Rattle.core_ir.specs.Typed.{start_type}
use Rattle.thread_laws.proofs.Bodies.{StandsIn, order, stands_in, stands_within}
use Rattle.thread_laws.proofs.FittingValues.{Each, all_set}
use Rattle.thread_laws.proofs.Successors.{IsCall, LeadsTo, leads_to}
use Rattle.machine_laws.proofs.Events.{answer_in, any_event, told_in}
use Rattle.machine_laws.proofs.Frames.{GivesNoObject, IsObjectFree, contains_got, contains_map, drew, enters_first, gives_no_object, got_contained, is_enter, opened_place, result_is_free, there_is, written_function, written_object, written_place}
use Rattle.machine_laws.proofs.Turns.{running}
use Rattle.machine_laws.proofs.Values.{ActionOf, AddressIs, AnswerOf, EffectOf, FoundIs, FrameOf, IsClosed, ObjectIs, action_is, all_of, each_more, each_of, effect_is, loaded_is, opened_of, placed_of, result_of, shape_is, stored_is, written_of}
use Rattle.based_laws.proofs.Decisions.{StandsFor, stands_for}

known_is_closed : (program : Program) (objects : List Object) → IsClosed (IsKnown program objects)
known_is_closed program objects = record { bare = λ n. tt; moved = λ value lower upper id k here. here }

-- with more objects, what was known is known
known_of_more : (program : Program) (objects more : List Object) → ((x : Object) → Contains objects x → Contains more x)
    → (v : Value) → IsKnown program objects v → IsKnown program more v
known_of_more program objects more grows (Bare n) here = tt
known_of_more program objects more grows (Based value lower upper id) here =
    elim here [ inl global ↦ inl global | inr among ↦ inr (grows (record { lower = lower; upper = upper; id = id }) among) ]
known_of_more program objects more grows (CodeValue f) here = here

-- the bounds of what stands so many units behind the first of an object
abbrev placed : ℕ → ℕ → ℕ → Object
placed id offset units = record { lower = 64 * id + offset; upper = 64 * id + offset + units; id = id }

contains_left : {A : Type 0} (xs ys : List A) (x : A) → Contains xs x → Contains (xs ++ ys) x
contains_left [] ys x (i, low, is) = absurd (omega (arith, low))
contains_left (z ∷ zs) ys x (zero, low, is) = (0, omega arith, is)
contains_left (z ∷ zs) ys x (suc i, low, is) =
    let rest = contains_left zs ys x (i, omega (arith, low), is) in (suc rest.0, omega (arith, rest.1), rest.2)

contains_right : {A : Type 0} (xs ys : List A) (x : A) → Contains ys x → Contains (xs ++ ys) x
contains_right [] ys x has = has
contains_right (z ∷ zs) ys x has =
    let rest = contains_right zs ys x has in (suc rest.0, omega (arith, rest.1), rest.2)

module _ (program : Program) (setting : Setting) (valid : ValidCode setting.code) (stands : Stands setting.code program) (objects : List Object) where
  abbrev code : Code
  code = setting.code

  abbrev P : Value → Type 0
  P = IsKnown program objects

  abbrev closed : IsClosed P
  closed = known_is_closed program objects

  -- a frame with its values and its object
  pub record FrameIs (f : Frame Value) : Type 0 where
    pub values : FrameOf P f
    pub drawn : IsDrawn code objects f

  abbrev pub ThreadIs : Thread Value → Type 0
  ThreadIs (Running top below) = FrameIs top × Each FrameIs below
  ThreadIs _ = Unit {0}

  pub record StateIs (s : State) : Type 0 where
    pub threads : Each ThreadIs s.threads
    pub entries : (a : ℕ) (e : Entry) → get s.store.entries a ≡ Some e → P (value_of e)

  -- ---- objects of frames

  drawn_like : (f g : Frame Value) → g.function ≡ f.function → g.object ≡ f.object
      → ((l : CodeLocal) → Contains (locals_in (slice_get code.functions f.function)) l → 0 < g.place → 0 < f.place)
      → IsDrawn code objects f
      → IsDrawn code objects g
  drawn_like f g function object behind drawn l has low =
      let there : Contains (locals_in (slice_get code.functions f.function)) l =
      subst (λ (n : ℕ). Contains (locals_in (slice_get code.functions n)) l) function has in
      let was = drawn l there (behind l there low) in
      (was.0, object ∙ was.1, was.2)

  -- in a function with locals, only `Enter` stands at the first place
  behind_first : (top : Frame Value) (i : CodePlace) (l : CodeLocal)
      → place_at code top.function top.place ≡ Some i
      → (i ≡ Enter → ⊥)
      → Contains (locals_in (slice_get code.functions top.function)) l
      → 0 < top.place
  behind_first top i l here other has =
      let now : StandsIn code top.function top.place i = stands_in code top.function top.place i here in
      let mine : Contains now.function.locals l =
      subst (λ (o : Option CodeFunction). Contains (locals_in o) l) now.there has in
      let got = got_contained now.function.locals l mine in
      let some : 0 < length now.function.locals = omega (arith, stands_within now.function.locals got.0 l got.1) in
      elim (order 0 top.place) [
        | inl low ↦ low
        | inr rest ↦ elim rest [
          | inl less ↦ absurd (omega (arith, less))
          | inr first ↦
              absurd (other (enters_first code valid top.function now.function i now.there some (ap (slice_get now.function.body) first ∙ now.at)))
        ]
      ]

  -- ---- addresses that instructions make

  bounded_is : (first units id : ℕ) (kept : Bool) → P (Based first first (first + units) id) → P (object_address first units id kept)
  bounded_is first units id true here = here
  bounded_is first units id false here = tt

  module _ (top : Frame Value) (x : Context) where
    global_is : (d g : ℕ) (o : Option GlobalVar) → slice_get program.globals g ≡ o → AddressIs P closed top (global_code x d g o)
    global_is d g None there = tt
    global_is d g (Some v) there =
        bounded_is v.address v.units 2 (keeps_bounds x v.ty)
        (inl (refl, record { global = v; there = contains_got program.globals g v there; from = refl; to = refl }))

    local_is : (f : Function) (c : CodeFunction) → FunctionStands program stands.class f c
        → slice_get code.functions top.function ≡ Some c
        → (0 < length c.locals → 0 < top.place)
        → IsDrawn code objects top
        → (d v : ℕ) (o : Option Local)
        → slice_get f.locals v ≡ o
        → AddressIs P closed top (local_code x d v o)
    local_is f c pair function behind drawn d v None there = tt
    local_is f c pair function behind drawn d v (Some l) there =
        let low : v < length c.locals = let here = stands_within f.locals v l there in omega (arith, here, pair.local_count) in
        let m = there_is c.locals v low in
        let same : LocalStands f v l m.0 = pair.locals v l m.0 there m.1 in
        let has : Contains (locals_in (slice_get code.functions top.function)) m.0 =
        subst (λ (o : Option CodeFunction). Contains (locals_in o) m.0) (sym function) (contains_got c.locals v m.0 m.1) in
        let was = drawn m.0 has (behind (omega (arith, low))) in
        let object : object_of protected top ≡ was.0 = ap (λ (o : Option ℕ). unwrap_or o 0) {y = Some was.0} was.1 in
        let among : Contains objects (placed was.0 m.0.offset m.0.units) = was.2 in
        let mine : Contains objects (placed (object_of protected top) l.offset l.units) =
        subst (λ (n : ℕ). Contains objects (placed n l.offset l.units)) (sym object)
        (subst (λ (n : ℕ). Contains objects (placed was.0 n l.units)) same.offset
        (subst (λ (n : ℕ). Contains objects (placed was.0 m.0.offset n)) same.units among)) in
        bounded_is (64 * object_of protected top + l.offset) l.units (object_of protected top) (keeps_bounds x l.ty) (inr mine)

  local_no_enter : (x : Context) (d v : ℕ) (o : Option Local) → local_code x d v o ≡ Enter → ⊥
  local_no_enter x d v None is = cc
  local_no_enter x d v (Some l) is = cc

  module _ (top : Frame Value) (k : ℕ) (f : Function) (c : CodeFunction) (unit : Option ℕ) (origin : Origin)
      (pair : FunctionStands program stands.class f c)
      (there : Contains program.functions f)
      (function : slice_get code.functions top.function ≡ Some c)
      (drawn : IsDrawn code objects top) where
    abbrev context : Context
    context = record { program = program; function = f; class = stands.class; unit = unit; origin = origin }

    decided_is :
        (j : Instr)
        → slice_get f.body k ≡ Some j
        → ((decided context j ≡ Enter → ⊥) → 0 < length c.locals → 0 < top.place)
        → AddressIs P closed top (decided context j)
    decided_is (instr.AddrG d g) at behind = global_is top context d g (slice_get program.globals g) refl
    decided_is (instr.AddrF d g) at behind =
        record { function = f; register = d; there = there; takes = contains_got f.body k (instr.AddrF d g) at }
    decided_is (instr.AddrL d v) at behind =
        local_is top context f c pair function (behind (local_no_enter context d v (slice_get f.locals v))) drawn d v (slice_get f.locals v) refl
    decided_is _ at behind = tt

  -- an address that the instruction at a frame's place makes
  address_is : (top : Frame Value) (i : CodePlace) → place_at code top.function top.place ≡ Some i → FrameIs top → AddressIs P closed top i
  address_is top i here frame =
      let at : StandsFor program code stands top.function top.place i = stands_for program code stands top.function top.place i here in
      let behind : (i ≡ Enter → ⊥) → 0 < length at.code_function.locals → 0 < top.place =
      λ other some.
      let first = there_is at.code_function.locals 0 some in
      behind_first top i first.0 here other
      (subst (λ (o : Option CodeFunction). Contains (locals_in o) first.0) (sym at.code_there)
      (contains_got at.code_function.locals 0 first.0 first.1)) in
      subst (λ (j : CodePlace). AddressIs P closed top j) (sym at.place.is)
      (decided_is top top.place at.function at.code_function at.place.unit at.place.origin at.stands_for
      (contains_got program.functions top.function at.function at.there) at.code_there frame.drawn at.instruction at.at
      (λ other some. behind (λ enter. other (sym at.place.is ∙ enter)) some))

  -- a new frame
  pub new_is : (f : ℕ) (arguments : List Value) → Each P arguments → FrameIs (opened protected code f arguments)
  new_is f arguments are = record {
    values = opened_of P closed code f arguments are;
    drawn = λ l has low. let first = opened_place code f arguments in absurd (omega (arith, first, low));
  }

  -- ---- a turn

  module _ (s : State) (is : StateIs s) (t : ℕ) where
    abbrev Answered : ℕ → Thread Value → Action → List Note → Type 0
    Answered u thread action notes =
        (x : Object) → Contains (made code s (Turned t (site_of thread) action (answer_in setting s action) notes)) x → Contains objects x

    found_is : (a : ℕ) → FoundIs P closed (answer_in setting s (act.Get a))
    found_is a = loaded_is P closed (get s.store.entries a) (is.entries a)

    load_answer : (kept : Bool) (unit : Option ℕ) (a b : ℕ)
        → FoundIs P closed (answer_in setting s (unless_unit unit (if kept then act.Get a else act.Load b)))
    load_answer true None a b = found_is a
    load_answer false None a b = tt
    load_answer kept (Some u) a b = tt

    module _ (top : Frame Value) (below : List (Frame Value)) (there : slice_get s.threads t ≡ Some (Running top below)) where
      -- what a turn at this instruction makes is among the objects
      made_here : (i : CodePlace) (k id : ℕ) (site : Option Site) (notes : List Note)
          → place_at code top.function top.place ≡ Some i
          → ((x : Object) → Contains (made code s (Turned t site (act.Alloc k) (reply.Slot (Some id)) notes)) x → Contains objects x)
          → (x : Object)
          → Contains (made_by code top id (Some i)) x
          → Contains objects x
      made_here i k id site notes here among x has =
          among x (subst (λ (o : Option (Thread Value)). Contains (made_in code o id) x) (sym there)
          (subst (λ (o : Option CodePlace). Contains (made_by code top id o) x) (sym here) has))

      slot_answer : (d a k : ℕ) (site : Option Site) (notes : List Note) (o : Option ℕ)
          → place_at code top.function top.place ≡ Some (Malloc d a)
          → ((x : Object) → Contains (made code s (Turned t site (act.Alloc k) (reply.Slot o) notes)) x → Contains objects x)
          → ObjectIs P closed (number_in protected top a) (reply.Slot o)
      slot_answer d a k site notes None here among = tt
      slot_answer d a k site notes (Some id) here among =
          inr (made_here (Malloc d a) k id site notes here among (allocated_object top a id)
          (0, omega arith, refl))

      allocate_answer : (d a k : ℕ) (site : Option Site) (notes : List Note) (sized : Bool)
          → place_at code top.function top.place ≡ Some (Malloc d a)
          → ((x : Object)
          → Contains (made code s (Turned t site (if sized then act.Alloc k else act.Own) (answer_in setting s (if sized then act.Alloc k else act.Own)) notes)) x
          → Contains objects x)
          → ObjectIs P closed (number_in protected top a) (answer_in setting s (if sized then act.Alloc k else act.Own))
      allocate_answer d a k site notes true here among =
          slot_answer d a k site notes (first_slot setting.slots s.store.next k) here among
      allocate_answer d a k site notes false here among = tt

      abbrev action_at : CodePlace → Action
      action_at i = action_of code t top below (shape_of protected (length below) top i)

      numbers_answer : (d : ℕ) (n : Option ℤ) (answered : Reply) → AnswerOf P closed (defines_number protected d n) answered
      numbers_answer d None answered = tt
      numbers_answer d (Some n) answered = tt

      answer_is : (i : CodePlace) (site : Option Site) (notes : List Note)
          → place_at code top.function top.place ≡ Some i
          → ((x : Object) → Contains (made code s (Turned t site (action_at i) (answer_in setting s (action_at i)) notes)) x → Contains objects x)
          → AnswerOf P closed (shape_of protected (length below) top i) (answer_in setting s (action_at i))
      answer_is (Load d p k unit) site notes here among =
          load_answer (is_kept k) unit (address_of (register protected top p)) (address_of (register protected top p))
      answer_is (Malloc d a) site notes here among =
          allocate_answer d a (slots_for (low_word (number_in protected top a))) site notes (is_object_size (number_in protected top a)) here among
      answer_is (Binary d op a b) site notes here among =
          numbers_answer d (computed op (number_in protected top a) (number_in protected top b)) _
      answer_is _ site notes here among = tt

      -- ---- where an effect leads

      abbrev effect_at : CodePlace → Effect Value
      effect_at i = effect_of code top (answer_in setting s (action_at i)) (shape_of protected (length below) top i)

      module _ (here-is : FrameIs top) (rest : Each FrameIs below) (i : CodePlace) (here : place_at code top.function top.place ≡ Some i)
          (site : Option Site) (notes : List Note)
          (among : (x : Object) → Contains (made code s (Turned t site (action_at i) (answer_in setting s (action_at i)) notes)) x → Contains objects x) where
        writes : EffectOf P closed (effect_at i)
        writes =
            effect_is P closed code top (answer_in setting s (action_at i)) (shape_of protected (length below) top i) here-is.values
            (shape_is P closed (length below) top i (address_is top i here here-is) here-is.values)
            (answer_is i site notes here among)

        -- the frame goes on with an object that it drew
        entered_drawn : (k to : ℕ) (w : Write Value) (answered : Reply)
            → i ≡ Enter
            → drawn top answered ≡ Goes to w
            → ((x : Object) → Contains (made code s (Turned t site (act.Alloc k) answered notes)) x → Contains objects x)
            → IsDrawn code objects (written protected w (record top { place = to }))
        entered_drawn k to w answered enters effect all l has low =
            let d = drew top answered to w effect in
            let moved : Frame Value = record top { place = to } in
            let mine : Contains (locals_in (slice_get code.functions top.function)) l =
            subst (λ (n : ℕ). Contains (locals_in (slice_get code.functions n)) l) (written_function w moved) has in
            let among-made : (x : Object) → Contains (made code s (Turned t site (act.Alloc k) (reply.Slot (Some d.id)) notes)) x → Contains objects x =
            subst (λ (r : Reply). (x : Object) → Contains (made code s (Turned t site (act.Alloc k) r notes)) x → Contains objects x) d.found all in
            let at : place_at code top.function top.place ≡ Some Enter = here ∙ ap (λ (j : CodePlace). Some j) enters in (
              d.id,
              ap (λ (v : Write Value). (written protected v moved).object) d.write,
              made_here Enter k d.id site notes at among-made (local_object d.id l)
                  (contains_map (local_object d.id) (locals_in (slice_get code.functions top.function)) l mine),
            )

        gone_drawn : (to : ℕ) (w : Write Value)
            → effect_at i ≡ Goes to w
            → (i ≡ Enter → ⊥)
            → IsDrawn code objects (written protected w (record top { place = to }))
        gone_drawn to w effect other =
            let moved : Frame Value = record top { place = to } in
            let free : IsObjectFree w = subst GivesNoObject effect (gives_no_object code (length below) top (answer_in setting s (action_at i)) i other) in
            drawn_like top (written protected w moved) (written_function w moved) (written_object w moved free)
            (λ l has low. behind_first top i l here other has) here-is.drawn

        goes_drawn : (to : ℕ) (w : Write Value) → effect_at i ≡ Goes to w → IsDrawn code objects (written protected w (record top { place = to }))
        goes_drawn to w effect =
            elim (is_enter i) [
              | inl enters ↦
                  entered_drawn (slots_for (frame_units code top.function)) to w (answer_in setting s (act.Alloc (slots_for (frame_units code top.function)))) enters
                  (ap (λ (j : CodePlace). effect_at j) (sym enters) ∙ effect)
                  (subst (λ (j : CodePlace). (x : Object) → Contains (made code s (Turned t site (action_at j) (answer_in setting s (action_at j)) notes)) x → Contains objects x)
                  enters among)
              | inr other ↦ gone_drawn to w effect other
            ]

        left_is : (v : Value) (frames : List (Frame Value)) → P v → Each FrameIs frames → ThreadIs (leaves protected code frames v).thread
        left_is v [] value are = tt
        left_is v (caller ∷ others) value are =
            let w = result_write protected (result_slot code caller) v in (
              record {
                values = written_of P closed w caller (result_of P closed (result_slot code caller) v value) are.0.values;
                drawn = drawn_like caller (written protected w caller) (written_function w caller)
                    (written_object w caller (result_is_free (result_slot code caller) v))
                    (λ l has low. subst (λ (n : ℕ). 0 < n) (written_place w caller) low) are.0.drawn;
              },
              are.1,
            )

        applied_by : (e : Effect Value) → effect_at i ≡ e → EffectOf P closed e → ThreadIs (applied protected code top below e).thread
        applied_by (Stops why) effect has = tt
        applied_by (Goes to w) effect has = (
          record {
            values = written_of P closed w (record top { place = to }) has (placed_of P closed top to here-is.values);
            drawn = goes_drawn to w effect;
          },
          rest,
        )
        applied_by (Enters f arguments through) effect has =
            let call : IsCall i = subst (LeadsTo top.place i) effect (leads_to code (length below) top (answer_in setting s (action_at i)) i) in (
              new_is f arguments has,
              (
                record {
                  values = placed_of P closed top (top.place + 1) here-is.values;
                  drawn = drawn_like top (record top { place = top.place + 1 }) refl refl
                      (λ l has low. behind_first top i l here (λ enters. subst IsCall enters call) has) here-is.drawn;
                },
                rest,
              ),
            )
        applied_by (Leaves v) effect has = left_is v below has rest

        applied_is : ThreadIs (applied protected code top below (effect_at i)).thread
        applied_is = applied_by (effect_at i) refl writes

        acted_is : ActionOf P closed (action_at i)
        acted_is =
            action_is P closed code t top below (shape_of protected (length below) top i)
            (shape_is P closed (length below) top i (address_is top i here here-is) here-is.values)

    -- what is put is known, and so is what the thread has
    abbrev TurnIs : Thread Value → Action → Told Value → Type 0
    TurnIs thread action told = Answered t thread action told.notes → ActionOf P closed action × ThreadIs told.thread

    callee_is : (c : Callee) → ThreadIs (start_by c).thread
    callee_is (Reaches f) = tt
    callee_is (Refused why) = tt

    started_is : (o : Option Entry) → ThreadIs (started code o).thread
    started_is None = tt
    started_is (Some e) = callee_is (protected_callee code start_type (loaded_entry (Some e)))

    turn_is : (thread : Thread Value)
        → slice_get s.threads t ≡ Some thread
        → ThreadIs thread
        → TurnIs thread (next code t thread) (told_in setting s t thread)
    turn_is Waiting there thread-is among = (tt, started_is (found_entry (answer_in setting s (next code t Waiting))))
    turn_is (Starting f) there thread-is among =
        (tt, (new_is f (loaded_entry (get s.store.entries (argument_address t)) ∷ []) (found_is (argument_address t), tt), tt))
    turn_is (Running top below) there thread-is among =
        running code t top below (answer_in setting s) (TurnIs (Running top below))
        (λ why among. (tt, tt))
        (λ none among. (tt, thread-is))
        (λ i here goes among. (
          acted_is top below there thread-is.0 thread-is.1 i here (site_of (Running top below)) _ among,
          applied_is top below there thread-is.0 thread-is.1 i here (site_of (Running top below)) _ among,
        ))
        among
    turn_is Ended there thread-is among = (tt, tt)
    turn_is (Stopped why) there thread-is among = (tt, tt)

  -- ---- events

  each_at : (threads : List (Thread Value)) (t : ℕ) (thread : Thread Value) → Each ThreadIs threads → slice_get threads t ≡ Some thread → ThreadIs thread
  each_at [] t thread each there = absurd (cc)
  each_at (x ∷ xs) zero thread each there = let same : x ≡ thread = cc in subst ThreadIs same each.0
  each_at (x ∷ xs) (suc t) thread each there = each_at xs t thread each.1 there

  event_is : (s : State) (e : Event) → StateIs s
      → ((x : Object) → Contains (made code s (happens setting s e).step) x → Contains objects x)
      → StateIs (happens setting s e).after
  event_is s e is =
      any_event setting s
      (λ (move : Move). ((x : Object) → Contains (made code s move.step) x → Contains objects x) → StateIs move.after)
      (λ among. is)
      (λ t thread there live among.
      let told = turn_is s is t thread there (each_at s.threads t thread is.threads there) among in
      record {
        threads = all_set ThreadIs s.threads t (told_in setting s t thread).thread is.threads told.1;
        entries = stored_is P closed (length s.threads) s.store (next code t thread) is.entries told.0;
      })
      (λ a w among. record { threads = is.threads; entries = is.entries })
      (λ t thread there live begun among. record {
        threads = all_set ThreadIs s.threads t (Stopped Budget) is.threads tt;
        entries = is.entries;
      })
      e

-- ---- states as the law has them

module _ (program : Program) (setting : Setting) (valid : ValidCode setting.code) (stands : Stands setting.code program) where
  frame_from : (objects : List Object) (f : Frame Value) → FrameHas (IsKnown program objects) f → IsDrawn setting.code objects f
      → FrameIs program setting valid stands objects f
  frame_from objects f values drawn = record {
    values = record {
      registers = each_of (IsKnown program objects) f.registers values.registers;
      slots = each_of (IsKnown program objects) f.slots values.slots;
      units = each_of (IsKnown program objects) f.units values.units;
    };
    drawn = drawn;
  }

  frames_from : (objects : List Object) (fs : List (Frame Value)) → Each (FrameHas (IsKnown program objects)) fs → Each (IsDrawn setting.code objects) fs
      → Each (FrameIs program setting valid stands objects) fs
  frames_from objects [] values drawn = tt
  frames_from objects (f ∷ fs) values drawn = (frame_from objects f values.0 drawn.0, frames_from objects fs values.1 drawn.1)

  thread_from : (objects : List Object) (thread : Thread Value)
      → ThreadHas (FrameHas (IsKnown program objects)) thread
      → ThreadHas (IsDrawn setting.code objects) thread
      → ThreadIs program setting valid stands objects thread
  thread_from objects (Running top below) values drawn = (
    frame_from objects top values.0 drawn.0,
    frames_from objects below (each_of (FrameHas (IsKnown program objects)) below values.1) (each_of (IsDrawn setting.code objects) below drawn.1),
  )
  thread_from objects Waiting values drawn = tt
  thread_from objects (Starting f) values drawn = tt
  thread_from objects Ended values drawn = tt
  thread_from objects (Stopped why) values drawn = tt

  threads_from : (objects : List Object) (threads : List (Thread Value))
      → Each (ThreadHas (FrameHas (IsKnown program objects))) threads
      → Each (ThreadHas (IsDrawn setting.code objects)) threads
      → Each (ThreadIs program setting valid stands objects) threads
  threads_from objects [] values drawn = tt
  threads_from objects (t ∷ ts) values drawn = (thread_from objects t values.0 drawn.0, threads_from objects ts values.1 drawn.1)

  pub state_from : (objects : List Object) (s : State) → IsBased program setting.code objects s → StateIs program setting valid stands objects s
  state_from objects s based = record {
    threads = threads_from objects s.threads
        (each_of (ThreadHas (FrameHas (IsKnown program objects))) s.threads based.values.frames)
        (each_of (ThreadHas (IsDrawn setting.code objects)) s.threads based.frames);
    entries = based.values.entries;
  }

  values_to : (objects : List Object) (f : Frame Value) → FrameIs program setting valid stands objects f → FrameHas (IsKnown program objects) f
  values_to objects f frame = record {
    registers = all_of (IsKnown program objects) f.registers frame.values.registers;
    slots = all_of (IsKnown program objects) f.slots frame.values.slots;
    units = all_of (IsKnown program objects) f.units frame.values.units;
  }

  thread_values : (objects : List Object) (thread : Thread Value) → ThreadIs program setting valid stands objects thread → ThreadHas (FrameHas (IsKnown program objects)) thread
  thread_values objects (Running top below) is = (
    values_to objects top is.0,
    all_of (FrameHas (IsKnown program objects)) below
        (each_more (FrameIs program setting valid stands objects) (FrameHas (IsKnown program objects)) below (values_to objects) is.1),
  )
  thread_values objects Waiting is = tt
  thread_values objects (Starting f) is = tt
  thread_values objects Ended is = tt
  thread_values objects (Stopped why) is = tt

  thread_drawn : (objects : List Object) (thread : Thread Value) → ThreadIs program setting valid stands objects thread → ThreadHas (IsDrawn setting.code objects) thread
  thread_drawn objects (Running top below) is = (
    is.0.drawn,
    all_of (IsDrawn setting.code objects) below
        (each_more (FrameIs program setting valid stands objects) (IsDrawn setting.code objects) below (λ f frame. frame.drawn) is.1),
  )
  thread_drawn objects Waiting is = tt
  thread_drawn objects (Starting f) is = tt
  thread_drawn objects Ended is = tt
  thread_drawn objects (Stopped why) is = tt

  pub state_to : (objects : List Object) (s : State) → StateIs program setting valid stands objects s → IsBased program setting.code objects s
  state_to objects s is = record {
    values = record {
      frames = all_of (ThreadHas (FrameHas (IsKnown program objects))) s.threads
          (each_more (ThreadIs program setting valid stands objects) (ThreadHas (FrameHas (IsKnown program objects))) s.threads (thread_values objects) is.threads);
      entries = is.entries;
    };
    frames = all_of (ThreadHas (IsDrawn setting.code objects)) s.threads
        (each_more (ThreadIs program setting valid stands objects) (ThreadHas (IsDrawn setting.code objects)) s.threads (thread_drawn objects) is.threads);
  }

  -- with more objects

  module _ (objects more : List Object) (grows : (x : Object) → Contains objects x → Contains more x) where
    frame_more : (f : Frame Value) → FrameIs program setting valid stands objects f → FrameIs program setting valid stands more f
    frame_more f frame = record {
      values = record {
        registers = each_more (IsKnown program objects) (IsKnown program more) f.registers (known_of_more program objects more grows) frame.values.registers;
        slots = each_more (IsKnown program objects) (IsKnown program more) f.slots (known_of_more program objects more grows) frame.values.slots;
        units = each_more (IsKnown program objects) (IsKnown program more) f.units (known_of_more program objects more grows) frame.values.units;
      };
      drawn = λ l has low. let was = frame.drawn l has low in (was.0, was.1, grows (local_object was.0 l) was.2);
    }

    thread_more : (thread : Thread Value) → ThreadIs program setting valid stands objects thread → ThreadIs program setting valid stands more thread
    thread_more (Running top below) is = (
      frame_more top is.0,
      each_more (FrameIs program setting valid stands objects) (FrameIs program setting valid stands more) below frame_more is.1,
    )
    thread_more Waiting is = tt
    thread_more (Starting f) is = tt
    thread_more Ended is = tt
    thread_more (Stopped why) is = tt

    state_more : (s : State) → StateIs program setting valid stands objects s → StateIs program setting valid stands more s
    state_more s is = record {
      threads = each_more (ThreadIs program setting valid stands objects) (ThreadIs program setting valid stands more) s.threads thread_more is.threads;
      entries = λ a e there. known_of_more program objects more grows (value_of e) (is.entries a e there);
    }

  pub values_are_kept : ValuesAreKept program setting
  values_are_kept objects s e based =
      let new : List Object = made setting.code s (happens setting s e).step in
      let more : List Object = new ++ objects in
      state_to more (happens setting s e).after
      (event_is program setting valid stands more s e
      (state_more objects more (λ x has. contains_right new objects x has) s (state_from objects s based))
      (λ x has. contains_left new objects x has))
