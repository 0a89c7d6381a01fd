-- A turn of a thread that runs asks what fits, and keeps what threads keep.
use Rattle.std.proofs.Common.{◌≡◌, ◌⊎◌, inl, inr, ℕ, ℤ, zero, suc, pos, ◌+◌, ◌*◌, ◌%◌, ◌^◌, ◌≤◌, ◌<◌, Bool, true, false, ◌&&◌, if◌then◌else◌, nat_eq, nat_le, nat_lt, List, [], ◌∷◌, length, map, replicate, slice_get, Option, Some, None, refl, sym, ap, ◌∙◌, subst, arith}
use Rattle.std.proofs.lemmas.List.{length-replicate}
use Rattle.core_ir.specs.declared.role.Role.TheVariants as role
use Rattle.core_ir.specs.Flow.{HasRole, IsAmong, Serves}
use Rattle.core_ir.specs.Order.{Behind, InStart}
use Rattle.meaning.specs.Action.{Fits}
use Rattle.meaning.specs.declared.action.Action.{Action}
use Rattle.meaning.specs.declared.action.Action.TheVariants as act
use Rattle.meaning.specs.declared.action.Reply.{Reply}
use Rattle.meaning.specs.declared.action.Reply.TheVariants as reply
use Rattle.meaning.specs.declared.note.Place.{Place}
use Rattle.meaning.specs.declared.value.Value.{Value}
use Rattle.meaning.specs.declared.value.Value.TheVariants.{Bare, Based, Code as CodeValue}
use Rattle.meaning.specs.declared.value.Check.TheVariants.{BadFree, Bounds}
use Rattle.meaning.specs.declared.value.Stop.TheVariants.{Depth, Failed}
use Rattle.sensitivity.specs.declared.class.Class.{Class}
use Rattle.sensitivity.specs.declared.class.Class.TheVariants as class
use Rattle.machine.specs.declared.code.Code.{Code}
use Rattle.machine.specs.declared.code.CodeFunction.{CodeFunction}
use Rattle.machine.specs.declared.code.CodePlace.{CodePlace}
use Rattle.machine.specs.declared.code.CodePlace.TheVariants.{Binary, Call, CallInd, Enter, Fork, Load, Return, StartArg, StartFn, Store, Touch}
use Rattle.machine.specs.Addresses.{done_address, slots_for}
use Rattle.machine.specs.Domain.{Callee, Reaches, Refused}
use Rattle.machine.specs.Frames.{Effect, Enters, Frame, Goes, Leaves, Nothing, Running, Stops, Thread, ToObject, ToSlot, Write}
use Rattle.machine.specs.Lanes.{ActionFits, AnswerFits, one_put}
use Rattle.machine.specs.Numbers.{computed, is_kept, low_word}
use Rattle.machine.specs.Outlines.{defined, outline_of_code, role_of}
use Rattle.machine.specs.Protected.{action_of, callee_action, drawn, effect_of, free_action, is_no_thread, is_object_size, is_thread_number, protected, protected_callee, resumed_by, return_action, shape_at, start_action, touch_action, unless_unit}
use Rattle.machine.specs.Shapes as shape
use Rattle.machine.specs.Shapes.{Shape, blank, defines_number, number_in, register, shape_of}
use Rattle.machine.specs.Threads.{applied, body_in, frame_units, has_room, leaves, opened, opened_in, place_at, result_slot, result_write, written}
use Rattle.machine.specs.ValidCode.{IsValidCodeFunction, ValidCode}
use Rattle.machine.specs.Values.{address_of, entry_of, number_of}
use Rattle.thread_laws.proofs.Bodies.{StandsIn, order, place_is, stands_in, valid_function}
use Rattle.thread_laws.proofs.FittingFrames.{EffectHas, effect_has}
use Rattle.thread_laws.proofs.FittingValues.{Each, FrameFits, ValueFits, WriteHas, opened_fits, placed_fits, result_has, written_fits}
use Rattle.thread_laws.proofs.Places.{IsObjectWrite, asks_fitting, covers_behind, credit_of, first_enters, good_written, ordered_at, prepared_for, shape_fits_at, units_here, written_function, written_place}
use Rattle.thread_laws.proofs.Readiness.{AreGoodBelow, Covers, IsBehindCall, IsDrawn, IsGood, IsGoodBelow, IsGoodRunning, IsGoodThread, IsPaidAt, IsPrepared, IsReadyAt, PaidWhere, halts}
use Rattle.thread_laws.proofs.Successors.{IsCall, IsReturn, LeadsTo, found, has_role, leads_to, one_instruction, outlines, role_there, server_defines, start_fn_of, start_of, touch_of, fork_of}

-- ---- which turns put

abbrev MayPut : Shape Value → Type 0
MayPut (shape.Stores p a k unit) = Unit {0}
MayPut (shape.StartsArgument n a) = Unit {0}
MayPut (shape.StartsFunction n f) = Unit {0}
MayPut _ = ⊥

none_of : (b : Bool) (x y : Action) → one_put x ≡ 0 → one_put y ≡ 0 → one_put (if b then x else y) ≡ 0
none_of true x y left right = left
none_of false x y left right = right

touch_puts : (k : Class) (p : Value) → one_put (touch_action k p) ≡ 0
touch_puts class.Sensitive (Based value lower upper id) = none_of (nat_le lower value && nat_lt value upper) (act.Look id) (act.Halt (Failed Bounds)) refl refl
touch_puts class.Sensitive (Bare n) = refl
touch_puts class.Sensitive (CodeValue f) = refl
touch_puts class.Universal (Based value lower upper id) = none_of (nat_le lower value && nat_lt value upper) (act.Look id) (act.Halt (Failed Bounds)) refl refl
touch_puts class.Universal (Bare n) = refl
touch_puts class.Universal (CodeValue f) = refl
touch_puts class.Code p = refl
touch_puts class.Regular p = refl

load_puts : (kept : Bool) (unit : Option ℕ) (p : Value) → one_put (unless_unit unit (if kept then act.Get (address_of p) else act.Load (address_of p))) ≡ 0
load_puts true None p = refl
load_puts true (Some u) p = refl
load_puts false None p = refl
load_puts false (Some u) p = refl

callee_puts : (code : Code) (frames : List (Frame Value)) (c : Callee) → one_put (callee_action code frames c) ≡ 0
callee_puts code frames (Reaches f) = none_of (has_room code frames f) act.Own (act.Halt Depth) refl refl
callee_puts code frames (Refused why) = refl

return_puts : (t : ℕ) (below : List (Frame Value)) → one_put (return_action t below) ≡ 0
return_puts t [] = refl
return_puts t (f ∷ fs) = refl

free_puts : (p : Value) → one_put (free_action p) ≡ 0
free_puts (Bare n) = refl
free_puts (Based value lower upper id) = none_of (nat_eq value lower && nat_le 1026 id) (act.Free id) (act.Halt (Failed BadFree)) refl refl
free_puts (CodeValue f) = refl

none_put : (code : Code) (t : ℕ) (top : Frame Value) (below : List (Frame Value)) (s : Shape Value) → (MayPut s → ⊥) → one_put (action_of code t top below s) ≡ 0
none_put code t top below (shape.Defines d v) plain = refl
none_put code t top below (shape.Sets s v) plain = refl
none_put code t top below (shape.Goes l) plain = refl
none_put code t top below shape.Divides plain = refl
none_put code t top below (shape.Touches p k marked) plain = none_of marked act.Own (touch_action k p) refl (touch_puts k p)
none_put code t top below (shape.Loads d p k unit) plain = load_puts (is_kept k) unit p
none_put code t top below (shape.Stores p a k unit) plain = absurd (plain tt)
none_put code t top below (shape.Calls f arguments) plain = none_of (has_room code (top ∷ below) f) act.Own (act.Halt Depth) refl refl
none_put code t top below (shape.CallsThrough c arguments type through) plain = callee_puts code (top ∷ below) (protected_callee code type c)
none_put code t top below (shape.Returns v) plain = return_puts t below
none_put code t top below shape.Enters plain = refl
none_put code t top below shape.Leaves plain = refl
none_put code t top below (shape.Allocates d n) plain = none_of (is_object_size n) (act.Alloc (slots_for (low_word n))) act.Own refl refl
none_put code t top below (shape.Frees p) plain = free_puts p
none_put code t top below (shape.Forks d) plain = refl
none_put code t top below (shape.StartsArgument n a) plain = absurd (plain tt)
none_put code t top below (shape.StartsFunction n f) plain = absurd (plain tt)
none_put code t top below (shape.Locks p) plain = refl
none_put code t top below (shape.Unlocks p) plain = refl
none_put code t top below (shape.Joins n) plain = none_of (is_thread_number n) (act.Load (done_address (low_word n))) act.Own refl refl
none_put code t top below (shape.Prints n) plain = refl
none_put code t top below (shape.TakesInput d n) plain = refl

-- neither a put nor what is paid for one
abbrev IsPlain : CodePlace → Type 0
IsPlain (Touch p k marked) = ⊥
IsPlain (Fork d) = ⊥
IsPlain (Store p a k unit) = ⊥
IsPlain (StartArg t a) = ⊥
IsPlain (StartFn t g) = ⊥
IsPlain _ = Unit {0}

numbers_plain : (d : ℕ) (n : Option ℤ) → MayPut (defines_number protected d n) → ⊥
numbers_plain d None may = may
numbers_plain d (Some n) may = may

plain_shape : (depth : ℕ) (f : Frame Value) (i : CodePlace) → IsPlain i → MayPut (shape_of protected depth f i) → ⊥
plain_shape depth f (Binary d op a b) plain may = numbers_plain d (computed op (number_in protected f a) (number_in protected f b)) may
plain_shape depth f (Store p a k unit) plain may = plain
plain_shape depth f (StartArg t a) plain may = plain
plain_shape depth f (StartFn t g) plain may = plain
plain_shape depth f _ plain may = may

store_puts : (kept : Bool) (unit : Option ℕ) (p a : Value) (credit : ℕ) → PaidWhere kept unit credit
    → (one_put (unless_unit unit (if kept then act.Put (address_of p) (entry_of a) else act.Store (address_of p) (number_of a))) ≤ 1)
    × (one_put (unless_unit unit (if kept then act.Put (address_of p) (entry_of a) else act.Store (address_of p) (number_of a))) ≤ credit)
store_puts true None p a credit paid = (omega arith, paid)
store_puts true (Some u) p a credit paid = (omega arith, omega arith)
store_puts false None p a credit paid = (omega arith, omega arith)
store_puts false (Some u) p a credit paid = (omega arith, omega arith)

start_puts_by : (b : Bool) (address : ℕ) (v : Value) → one_put (if b then act.Own else act.Put address (entry_of v)) ≤ 1
start_puts_by true address v = omega arith
start_puts_by false address v = omega arith

start_puts : (first : ℕ) (n : ℤ) (v : Value) → one_put (start_action first n v) ≤ 1
start_puts first n v = start_puts_by (is_no_thread n) ((first + 2 * low_word n) % 2 ^ 32) v

return_is_plain : (i : CodePlace) → IsReturn i → IsPlain i
return_is_plain (Return a) return = tt
return_is_plain _ return = absurd return

-- ---- places that are counted

-- the others, where one of these is taken away
record Without (xs : List ℕ) (q : ℕ) : Type 0 where
  pub rest : List ℕ
  pub count : length xs ≡ suc (length rest)
  pub others : (r : ℕ) → IsAmong xs r → (r ≡ q) ⊎ IsAmong rest r

without : (xs : List ℕ) (q : ℕ) → IsAmong xs q → Without xs q
without [] q among = absurd among
without (x ∷ xs) q among =
    elim among [
      | inl here ↦ record {
        rest = xs;
        count = refl;
        others = λ r is. elim is [ inl first ↦ inl (sym first ∙ here) | inr behind ↦ inr behind ];
      }
      | inr behind ↦
          let w = without xs q behind in
          record {
            rest = x ∷ w.rest;
            count = ap suc w.count;
            others = λ r is. elim is [
              | inl first ↦ inr (inl first)
              | inr more ↦ elim (w.others r more) [ inl same ↦ inl same | inr other ↦ inr (inr other) ]
            ];
          }
    ]

module _ (slots : ℕ) (few : slots ≤ 1048576) (enough : 1026 ≤ slots) (code : Code) (valid : ValidCode code) where
  module _ (c : CodeFunction) (v : IsValidCodeFunction code c) where
    -- what is counted behind an instruction that goes on
    record Budget (x to : ℕ) (i : CodePlace) (made : List ℕ) (credit puts : ℕ) : Type 0 where
      pub more : List ℕ
      pub covers : Covers c to more
      pub paid : 2 * puts + (credit_of slots few enough code c v i + length more) ≤ suc (credit + length made)

    module _ (x to : ℕ) (w : Write Value) (i : CodePlace) (made : List ℕ) (credit : ℕ)
        (at : slice_get c.body x ≡ Some i)
        (leads : LeadsTo x i (Goes to w))
        (covers : Covers c x made) where
      -- nothing is made there
      same_covers : ((r : ℕ) → defined i ≡ Some r → ⊥) → Covers c to made
      same_covers none = covers_behind slots few enough code c v x to w i made made at leads covers
          (λ q p t g has serves same. absurd (none g (server_defines c.body q p g i (ap (slice_get c.body) same ∙ at) serves)))
          (λ q p t g has serves low among. among)

      more_covers : Covers c to (x ∷ made)
      more_covers = covers_behind slots few enough code c v x to w i made (x ∷ made) at leads covers
          (λ q p t g has serves same. inl (sym same))
          (λ q p t g has serves low among. inr among)

    -- one of the places is spent
    record Spent (x : ℕ) (made : List ℕ) : Type 0 where
      pub more : List ℕ
      pub covers : Covers c (x + 1) more
      pub count : length made ≡ suc (length more)

    defines_nothing : (q p h t g : ℕ) → slice_get c.body q ≡ Some (StartFn t g) → Serves (outlines c.body) 0 q p h → ⊥
    defines_nothing q p h t g at serves =
        let is : None ≡ Some h = server_defines c.body q p h (StartFn t g) at serves in cc

    start_fn_there : (p n h : ℕ) → HasRole (outlines c.body) 0 p (role.StartFn n h) → slice_get c.body p ≡ Some (StartFn n h)
    start_fn_there p n h has =
        let f = found c.body p has.instruction has.there in
        f.there ∙ ap (λ (i : CodePlace). Some i) (start_fn_of f.instruction n h (role_there c.body p f.instruction (role.StartFn n h) f.there has))

    -- a start's function is used once
    spent_covers :
        (x : ℕ) (t g : ℕ) (made : List ℕ)
        → slice_get c.body x ≡ Some (StartFn t g)
        → Covers c x made
        → Spent x made
    spent_covers x t g made at covers =
        let rules = ordered_at slots few enough code c v x (StartFn t g) at in
        let served = rules.served g (inr (inl refl)) in
        let here : HasRole (outlines c.body) 0 x (role.StartFn t g) = has_role c.body x (StartFn t g) at in
        let among = covers.each served.server x t g here served.serves served.serves.before (omega arith) in
        let w = without made served.server among in
        record {
          more = w.rest;
          covers = covers_behind slots few enough code c v x (x + 1) Nothing (StartFn t g) made w.rest at (inl refl) covers
              (λ q p n h has serves same. absurd (defines_nothing q p h t g (ap (slice_get c.body) same ∙ at) serves))
              (λ q p n h has serves low is. elim (w.others q is) [
                | inl spent ↦
                    let later = start_fn_there p n h has in
                    let rules' = ordered_at slots few enough code c v p (StartFn n h) later in
                    absurd (rules'.fits.1.first_start served.server x t g
                    (subst (λ (s : ℕ). Serves (outlines c.body) 0 s p h) spent serves)
                    (omega (arith, low)) here served.serves)
                | inr other ↦ other
              ]);
          count = w.count;
        }

    fork_is_fresh : (x q p t g d : ℕ) → slice_get c.body x ≡ Some (Fork d) → HasRole (outlines c.body) 0 p (role.StartFn t g) → Serves (outlines c.body) 0 q p g → q ≡ x → ⊥
    fork_is_fresh x q p t g d at has serves same =
        let later = start_fn_there p t g has in
        (ordered_at slots few enough code c v p (StartFn t g) later).fits.1.no_number q serves
        (subst (λ (k : ℕ). HasRole (outlines c.body) 0 k role.Fork) (sym same) (has_role c.body x (Fork d) at))

    plain_budget :
        (t : ℕ) (top : Frame Value) (below : List (Frame Value)) (to : ℕ) (w : Write Value) (i : CodePlace) (made : List ℕ) (credit : ℕ)
        → slice_get c.body top.place ≡ Some i
        → LeadsTo top.place i (Goes to w)
        → Covers c top.place made
        → IsPlain i
        → credit_of slots few enough code c v i ≡ 0
        → Budget top.place to i made credit (one_put (action_of code t top below (shape_of protected (length below) top i)))
    plain_budget t top below to w i made credit at leads covers plain free =
        let none = none_put code t top below (shape_of protected (length below) top i) (plain_shape (length below) top i plain) in
        record {
          more = top.place ∷ made;
          covers = more_covers top.place to w i made credit at leads covers;
          paid = omega (arith, none, free);
        }

    -- what each instruction puts is paid for
    budget :
        (t : ℕ) (top : Frame Value) (below : List (Frame Value)) (answer : Reply) (to : ℕ) (w : Write Value) (i : CodePlace) (made : List ℕ) (credit : ℕ)
        → slice_get c.body top.place ≡ Some i
        → LeadsTo top.place i (Goes to w)
        → Covers c top.place made
        → effect_of code top answer (shape_of protected (length below) top i) ≡ Goes to w
        → IsPaidAt credit i
        → Budget top.place to i made credit (one_put (action_of code t top below (shape_of protected (length below) top i)))
    budget t top below answer to w (Touch p k marked) made credit at leads covers effect paid =
        let none = none_put code t top below (shape.Touches (register protected top p) k marked) (λ may. may) in
        record {
          more = made;
          covers = same_covers top.place to w (Touch p k marked) made credit at leads covers (λ r is. cc);
          paid = omega (arith, none);
        }
    budget t top below answer to w (Fork d) made credit at leads covers effect paid = record {
      more = made;
      covers = covers_behind slots few enough code c v top.place to w (Fork d) made made at leads covers
          (λ q p n g has serves same. absurd (fork_is_fresh top.place q p n g d at has serves same))
          (λ q p n g has serves low among. among);
      paid = omega arith;
    }
    budget t top below answer to w (Store p a k unit) made credit at leads covers effect paid =
        let puts = store_puts (is_kept k) unit (register protected top p) (register protected top a) credit paid in
        record {
          more = made;
          covers = same_covers top.place to w (Store p a k unit) made credit at leads covers (λ r is. cc);
          paid = omega (arith, puts.0, puts.1);
        }
    budget t top below answer to w (StartArg n a) made credit at leads covers effect paid =
        let puts = start_puts 65 (number_in protected top n) (register protected top a) in
        record {
          more = made;
          covers = same_covers top.place to w (StartArg n a) made credit at leads covers (λ r is. cc);
          paid = omega (arith, puts, paid);
        }
    budget t top below answer to w (StartFn n g) made credit at leads covers effect paid =
        let puts = start_puts 64 (number_in protected top n) (register protected top g) in
        let spent = spent_covers top.place n g made at covers in
        let goes : top.place + 1 ≡ to = cc in
        record {
          more = spent.more;
          covers = subst (λ (k : ℕ). Covers c k spent.more) goes spent.covers;
          paid = omega (arith, puts, spent.count);
        }
    budget t top below answer to w i made credit at leads covers effect paid =
        plain_budget t top below to w i made credit at leads covers tt refl

    -- ---- on in the frame

    drawn_writes : (top : Frame Value) (answer : Reply) (to : ℕ) (w : Write Value) → drawn top answer ≡ Goes to w → IsObjectWrite slots few enough code c v w
    drawn_writes top (reply.Slot None) to w is = absurd (cc)
    drawn_writes top (reply.Slot (Some s)) to w is =
        let write : ToObject s ≡ w = cc in subst (IsObjectWrite slots few enough code c v) write tt
    drawn_writes top reply.Nothing to w is = absurd (cc)
    drawn_writes top (reply.Word x) to w is = absurd (cc)
    drawn_writes top (reply.Found e) to w is = absurd (cc)
    drawn_writes top (reply.Flag b) to w is = absurd (cc)
    drawn_writes top (reply.Thread n) to w is = absurd (cc)

    turn_goes :
        (t : ℕ) (top : Frame Value) (below : List (Frame Value)) (puts turns : ℕ) (answer : Reply) (i : CodePlace) (to : ℕ) (w : Write Value)
        → IsGoodRunning slots code top below puts turns
        → slice_get code.functions top.function ≡ Some c
        → place_at code top.function top.place ≡ Some i
        → effect_of code top answer (shape_of protected (length below) top i) ≡ Goes to w
        → halts (action_of code t top below (shape_of protected (length below) top i)) ≡ false
        → Fits (action_of code t top below (shape_of protected (length below) top i)) answer
        → AnswerFits slots (action_of code t top below (shape_of protected (length below) top i), answer)
        → IsGoodRunning slots code (written protected w (record top { place = to })) below
        (puts + one_put (action_of code t top below (shape_of protected (length below) top i))) (suc turns)
    turn_goes t top below puts turns answer i to w r function here effect goes form fits =
        let at = place_is code top.function top.place c i function here in
        let leads : LeadsTo top.place i (Goes to w) = subst (LeadsTo top.place i) effect (leads_to code (length below) top answer i) in
        let ready = r.prepared.ready i here in
        let b = budget t top below answer to w i r.made r.credit at leads (r.good.covers c function) effect (r.prepared.paid i here) in
        let k = slots_for (frame_units code top.function) in
        let has : WriteHas slots k w =
        subst (EffectHas slots few enough k) effect
        (effect_has slots few enough code t top below answer (shape_of protected (length below) top i) r.good.fits
        (shape_fits_at slots few enough code c v top r.made r.good function (length below) i at valid.few_functions) form fits) in
        let moved : Frame Value = record top { place = to } in
        let after : Frame Value = written protected w moved in
        let same : after.function ≡ top.function = written_function slots few enough code c v w moved in
        let place : after.place ≡ to = written_place slots few enough code c v w moved in
        let drawn-or : 0 < length c.locals → 0 < to → IsObjectWrite slots few enough code c v w ⊎ IsDrawn slots c top.object =
        λ some low. elim (order 0 top.place) [
          | inl behind ↦ inr (r.good.object c function some behind)
          | inr rest ↦ elim rest [
            | inl less ↦ absurd (omega (arith, less))
            | inr first ↦
                let enters : i ≡ Enter = first_enters slots few enough code c v some i (ap (slice_get c.body) first ∙ at) in
                inl (drawn_writes top answer to w
                (ap (λ (x : CodePlace). effect_of code top answer (shape_of protected (length below) top x)) (sym enters) ∙ effect))
          ]
        ] in
        let next-at : (next : CodePlace) → place_at code after.function after.place ≡ Some next → slice_get c.body to ≡ Some next =
        λ next there. place_is code top.function to c next function
        (ap (λ (f : ℕ). place_at code f to) (sym same) ∙ ap (place_at code after.function) (sym place) ∙ there) in
        let prepared = prepared_for slots few enough code c v t top below r.made answer i to w r.good ready function at leads effect goes form fits in
        record {
          made = b.more;
          rest = r.rest;
          credit = credit_of slots few enough code c v i;
          good = good_written slots few enough code c v k top r.made b.more w to r.good function
              (ap slots_for (units_here slots few enough code c v top r.made r.good function)) has drawn-or b.covers;
          prepared = record {
            ready = λ next there. (prepared next (next-at next there)).0;
            paid = λ next there. (prepared next (next-at next there)).1;
          };
          others = r.others;
          paid = omega (arith, b.paid, r.paid);
        }

    -- ---- behind a call, and at a function's first place

    no_touch : (j : CodePlace) (p : ℕ) → IsCall j → role_of j ≡ role.Touch p → ⊥
    no_touch j p call is = let touch = touch_of j p is in subst IsCall touch.is call

    no_fork : (j : CodePlace) → IsCall j → role_of j ≡ role.Fork → ⊥
    no_fork j call is = let fork = fork_of j is in subst IsCall fork.is call

    no_start : (j : CodePlace) (t : ℕ) → IsCall j → role_of j ≡ role.StartArg t → ⊥
    no_start j t call is = let start = start_of j t is in subst IsCall start.is call

    touch_behind : (b : ℕ) (j : CodePlace) (p : ℕ) → slice_get c.body b ≡ Some j → IsCall j → Behind (outlines c.body) (suc b) (role.Touch p) → ⊥
    touch_behind b j p at call behind =
        let same : behind.before ≡ b = omega (arith, behind.next) in
        no_touch j p call (role_there c.body b j (role.Touch p) at
        (subst (λ (k : ℕ). HasRole (outlines c.body) 0 k (role.Touch p)) same behind.there))

    argument_behind : (b : ℕ) (j : CodePlace) → slice_get c.body b ≡ Some j → IsCall j → InStart (outlines c.body) (suc b) 1 → ⊥
    argument_behind b j at call start =
        let same : start.first ≡ b = omega (arith, start.is) in
        let number : HasRole (outlines c.body) 0 start.first role.Fork =
        record { instruction = start.run.number.instruction; there = start.run.number.there; is = start.run.number.is } in
        no_fork j call (role_there c.body b j role.Fork at
        (subst (λ (k : ℕ). HasRole (outlines c.body) 0 k role.Fork) same number))

    function_behind : (b : ℕ) (j : CodePlace) → slice_get c.body b ≡ Some j → IsCall j → InStart (outlines c.body) (suc b) 2 → ⊥
    function_behind b j at call start =
        let same : start.first + 1 ≡ b = omega (arith, start.is) in
        no_start j start.thread call (role_there c.body b j (role.StartArg start.thread) at
        (subst (λ (k : ℕ). HasRole (outlines c.body) 0 k (role.StartArg start.thread)) same start.run.argument))

    behind_ready : (g : Frame Value) (b : ℕ) (j : CodePlace) → slice_get c.body b ≡ Some j → IsCall j
        → (next : CodePlace) → slice_get c.body (suc b) ≡ Some next → IsReadyAt g next × IsPaidAt 0 next
    behind_ready g b j at call (Load d p k unit) there =
        absurd (touch_behind b j p at call (ordered_at slots few enough code c v (suc b) (Load d p k unit) there).fits)
    behind_ready g b j at call (Store p a k unit) there =
        absurd (touch_behind b j p at call (ordered_at slots few enough code c v (suc b) (Store p a k unit) there).fits)
    behind_ready g b j at call (StartArg n a) there =
        absurd (argument_behind b j at call (ordered_at slots few enough code c v (suc b) (StartArg n a) there).fits)
    behind_ready g b j at call (StartFn n h) there =
        absurd (function_behind b j at call (ordered_at slots few enough code c v (suc b) (StartFn n h) there).fits.0)
    behind_ready g b j at call _ there = (tt, tt)

    first_ready : (g : Frame Value) (next : CodePlace) → slice_get c.body 0 ≡ Some next → IsReadyAt g next × IsPaidAt 0 next
    first_ready g (Load d p k unit) there =
        let behind = (ordered_at slots few enough code c v 0 (Load d p k unit) there).fits in absurd (omega (arith, behind.next))
    first_ready g (Store p a k unit) there =
        let behind = (ordered_at slots few enough code c v 0 (Store p a k unit) there).fits in absurd (omega (arith, behind.next))
    first_ready g (StartArg n a) there =
        let start = (ordered_at slots few enough code c v 0 (StartArg n a) there).fits in absurd (omega (arith, start.is))
    first_ready g (StartFn n h) there =
        let start = (ordered_at slots few enough code c v 0 (StartFn n h) there).fits.0 in absurd (omega (arith, start.is))
    first_ready g _ there = (tt, tt)

    -- ---- into a function

    call_defines_nothing : (i : CodePlace) (r : ℕ) → IsCall i → defined i ≡ Some r → ⊥
    call_defines_nothing (Call f args s) r call is = cc
    call_defines_nothing (CallInd f args type s o) r call is = cc
    call_defines_nothing _ r call is = absurd call

    call_is_plain : (i : CodePlace) → IsCall i → IsPlain i
    call_is_plain (Call f args s) call = tt
    call_is_plain (CallInd f args type s o) call = tt
    call_is_plain _ call = absurd call

    caller_is_good :
        (top : Frame Value) (made : List ℕ) (i : CodePlace)
        → IsGood slots code top made
        → slice_get code.functions top.function ≡ Some c
        → slice_get c.body top.place ≡ Some i
        → IsCall i
        → IsGood slots code (record top { place = top.place + 1 }) made
    caller_is_good top made i good function at call = record {
      fits = placed_fits slots top (top.place + 1) good.fits;
      registers = good.registers;
      object = λ d there some behind.
          elim (order 0 top.place) [
            | inl low ↦ good.object d there some low
            | inr rest ↦ elim rest [
              | inl less ↦ absurd (omega (arith, less))
              | inr first ↦
                  let one : c ≡ d = let is : Some c ≡ Some d = sym function ∙ there in cc in
                  let enters : i ≡ Enter = first_enters slots few enough code c v
                  (subst (λ (x : CodeFunction). 0 < length x.locals) (sym one) some) i (ap (slice_get c.body) first ∙ at) in
                  absurd (subst IsCall enters call)
            ]
          ];
      covers = λ d there.
          let one : c ≡ d = let is : Some c ≡ Some d = sym function ∙ there in cc in
          subst (λ (x : CodeFunction). Covers x (top.place + 1) made) one
          (same_covers top.place (top.place + 1) Nothing i made 0 at (inl refl) (good.covers c function) (λ r is. call_defines_nothing i r call is));
    }

  opened_function_by : (o : Option CodeFunction) (f : ℕ) (arguments : List Value) → (opened_in protected o f arguments).function ≡ f
  opened_function_by None f arguments = refl
  opened_function_by (Some d) f arguments = refl

  opened_place_by : (o : Option CodeFunction) (f : ℕ) (arguments : List Value) → (opened_in protected o f arguments).place ≡ 0
  opened_place_by None f arguments = refl
  opened_place_by (Some d) f arguments = refl

  opened_registers_by : (o : Option CodeFunction) (f : ℕ) (arguments : List Value) (d : CodeFunction) → o ≡ Some d → length (opened_in protected o f arguments).registers ≡ d.registers
  opened_registers_by None f arguments d is = absurd (cc)
  opened_registers_by (Some e) f arguments d is =
      let one : e ≡ d = cc in
      length-replicate e.registers (blank protected) ∙ ap (λ (x : CodeFunction). x.registers) one

  pub new_is_good : (f : ℕ) (arguments : List Value) → Each (ValueFits slots) arguments → IsGood slots code (opened protected code f arguments) []
  new_is_good f arguments fit =
      let o = slice_get code.functions f in
      let g : Frame Value = opened protected code f arguments in
      let first : g.place ≡ 0 = opened_place_by o f arguments in
      record {
        fits = opened_fits slots code f arguments fit;
        registers = λ d there. opened_registers_by o f arguments d (ap (slice_get code.functions) (sym (opened_function_by o f arguments)) ∙ there);
        object = λ d there some behind. absurd (omega (arith, first, behind));
        covers = λ d there. record { each = λ q p t h has serves low behind. absurd (omega (arith, first, low)) };
      }

  pub new_is_prepared : (f : ℕ) (arguments : List Value) → IsPrepared code (opened protected code f arguments) 0
  new_is_prepared f arguments =
      let o = slice_get code.functions f in
      let g : Frame Value = opened protected code f arguments in
      let first : g.place ≡ 0 = opened_place_by o f arguments in
      let prepared : (next : CodePlace) → place_at code g.function g.place ≡ Some next → IsReadyAt g next × IsPaidAt 0 next =
      λ next there.
      let s = stands_in code g.function 0 next (ap (place_at code g.function) (sym first) ∙ there) in
      first_ready s.function (valid_function code g.function s.function valid s.there) g next s.at in
      record { ready = λ next there. (prepared next there).0; paid = λ next there. (prepared next there).1 }

  -- ---- out of a frame

  record Before {A : Type 0} (xs : List A) (b : ℕ) : Type 0 where
    pub item : A
    pub there : slice_get xs b ≡ Some item

  got_before : {A : Type 0} (xs : List A) (b : ℕ) (x : A) → slice_get xs (suc b) ≡ Some x → Before xs b
  got_before [] b x there = absurd (cc)
  got_before (y ∷ ys) zero x there = record { item = y; there = refl }
  got_before (y ∷ ys) (suc b) x there = let rest = got_before ys b x there in record { item = rest.item; there = rest.there }

  -- an instruction of a function stands at its place
  place_of : (f k : ℕ) (d : CodeFunction) (i : CodePlace) → slice_get code.functions f ≡ Some d → slice_get d.body k ≡ Some i → place_at code f k ≡ Some i
  place_of f k d i there at = ap (λ (o : Option CodeFunction). slice_get (body_in o) k) there ∙ at

  behind_is_prepared : (f : Frame Value) → IsBehindCall code f → IsPrepared code f 0
  behind_is_prepared f behind =
      let prepared : (next : CodePlace) → place_at code f.function f.place ≡ Some next → IsReadyAt f next × IsPaidAt 0 next =
      λ next there.
      let s = stands_in code f.function (suc behind.behind) next (ap (place_at code f.function) (sym behind.is) ∙ there) in
      let call = got_before s.function.body behind.behind next s.at in
      behind_ready s.function (valid_function code f.function s.function valid s.there) f behind.behind call.item call.there
      (behind.call call.item (place_of f.function behind.behind s.function call.item s.there call.there)) next s.at in
      record { ready = λ next there. (prepared next there).0; paid = λ next there. (prepared next there).1 }

  -- the result is written in the caller's frame
  result_is_good : (s : Option ℕ) (x : Value) (f : Frame Value) (made : List ℕ) → ValueFits slots x → IsGood slots code f made → IsGood slots code (written protected (result_write protected s x) f) made
  result_is_good None x f made fits good = good
  result_is_good (Some s) x f made fits good = record {
    fits = written_fits slots 0 (ToSlot s x) f fits good.fits;
    registers = good.registers;
    object = good.object;
    covers = good.covers;
  }

  result_is_behind : (s : Option ℕ) (x : Value) (f : Frame Value) → IsBehindCall code f → IsBehindCall code (written protected (result_write protected s x) f)
  result_is_behind None x f behind = behind
  result_is_behind (Some s) x f behind = record { behind = behind.behind; is = behind.is; call = behind.call }

  turn_leaves :
      (top : Frame Value) (below : List (Frame Value)) (puts turns : ℕ) (x : Value)
      → IsGoodRunning slots code top below puts turns
      → ValueFits slots x
      → IsGoodThread slots code (leaves protected code below x).thread puts (suc turns)
  turn_leaves top [] puts turns x r fits = tt
  turn_leaves top (caller ∷ below) puts turns x r fits =
      let s = result_slot code caller in
      record {
        made = r.others.made;
        rest = r.others.rest;
        credit = 0;
        good = result_is_good s x caller r.others.made fits r.others.good;
        prepared = behind_is_prepared (written protected (result_write protected s x) caller) (result_is_behind s x caller r.others.behind);
        others = r.others.others;
        paid = omega (arith, r.paid, r.others.counted);
      }

  -- ---- every turn

  module _ (t : ℕ) (top : Frame Value) (below : List (Frame Value)) (puts turns : ℕ) (answer : Reply) (i : CodePlace)
      (r : IsGoodRunning slots code top below puts turns)
      (here : place_at code top.function top.place ≡ Some i)
      (goes : halts (action_of code t top below (shape_of protected (length below) top i)) ≡ false)
      (form : Fits (action_of code t top below (shape_of protected (length below) top i)) answer)
      (fits : AnswerFits slots (action_of code t top below (shape_of protected (length below) top i), answer)) where
    abbrev now : StandsIn code top.function top.place i
    now = stands_in code top.function top.place i here

    abbrev action : Action
    action = action_of code t top below (shape_of protected (length below) top i)

    effect_fits_now : EffectHas slots few enough (slots_for (frame_units code top.function)) (effect_of code top answer (shape_of protected (length below) top i))
    effect_fits_now =
        effect_has slots few enough code t top below answer (shape_of protected (length below) top i) r.good.fits
        (shape_fits_at slots few enough code now.function (valid_function code top.function now.function valid now.there) top r.made r.good now.there
        (length below) i now.at valid.few_functions) form fits

    turn_by : (e : Effect Value) → effect_of code top answer (shape_of protected (length below) top i) ≡ e
        → IsGoodThread slots code (applied protected code top below e).thread (puts + one_put action) (suc turns)
    turn_by (Stops why) is = tt
    turn_by (Goes to w) is =
        turn_goes now.function (valid_function code top.function now.function valid now.there) t top below puts turns answer i to w
        r now.there here is goes form fits
    turn_by (Enters f arguments through) is =
        let call : IsCall i = subst (LeadsTo top.place i) is (leads_to code (length below) top answer i) in
        let none = none_put code t top below (shape_of protected (length below) top i)
        (plain_shape (length below) top i (call_is_plain now.function (valid_function code top.function now.function valid now.there) i call)) in
        let fit : Each (ValueFits slots) arguments = subst (EffectHas slots few enough (slots_for (frame_units code top.function))) is effect_fits_now in
        record {
          made = [];
          rest = length r.made + r.rest;
          credit = 0;
          good = new_is_good f arguments fit;
          prepared = new_is_prepared f arguments;
          others = record {
            made = r.made;
            rest = r.rest;
            counted = omega arith;
            good = caller_is_good now.function (valid_function code top.function now.function valid now.there) top r.made i r.good now.there now.at call;
            behind = record {
              behind = top.place;
              is = omega arith;
              call = λ j there. let same : i ≡ j = let is : Some i ≡ Some j = sym here ∙ there in cc in subst IsCall same call;
            };
            others = r.others;
          };
          paid = omega (arith, r.paid, none);
        }
    turn_by (Leaves x) is =
        let return : IsReturn i = subst (LeadsTo top.place i) is (leads_to code (length below) top answer i) in
        let none = none_put code t top below (shape_of protected (length below) top i) (plain_shape (length below) top i (return_is_plain i return)) in
        let value : ValueFits slots x = subst (EffectHas slots few enough (slots_for (frame_units code top.function))) is effect_fits_now in
        subst (λ (n : ℕ). IsGoodThread slots code (leaves protected code below x).thread n (suc turns))
        (let more : puts ≡ puts + one_put action = omega (arith, none) in more)
        (turn_leaves top below puts turns x r value)

    -- a turn keeps what threads keep
    pub turn_keeps : IsGoodThread slots code (resumed_by code top below answer (shape_at top below (Some i))).thread (puts + one_put action) (suc turns)
    turn_keeps = turn_by (effect_of code top answer (shape_of protected (length below) top i)) refl

  -- ---- what is asked

  module _ (t : ℕ) (top : Frame Value) (below : List (Frame Value)) (puts turns : ℕ) (i : CodePlace)
      (r : IsGoodRunning slots code top below puts turns)
      (here : place_at code top.function top.place ≡ Some i) where
    abbrev site : StandsIn code top.function top.place i
    site = stands_in code top.function top.place i here

    pub asks_now : ActionFits slots (action_of code t top below (shape_of protected (length below) top i))
    asks_now =
        asks_fitting slots few enough code site.function (valid_function code top.function site.function valid site.there) top r.made r.good site.there
        t below i site.at valid.few_functions (r.prepared.ready i here)

    plain_paid : (j : CodePlace) → IsPlain j → 2 * one_put (action_of code t top below (shape_of protected (length below) top j)) ≤ suc (r.credit + length r.made)
    plain_paid j plain =
        let none = none_put code t top below (shape_of protected (length below) top j) (plain_shape (length below) top j plain) in omega (arith, none)

    paid_by : (j : CodePlace) → i ≡ j → 2 * one_put (action_of code t top below (shape_of protected (length below) top j)) ≤ suc (r.credit + length r.made)
    paid_by (Touch p k marked) is =
        let none = none_put code t top below (shape.Touches (register protected top p) k marked) (λ may. may) in omega (arith, none)
    paid_by (Fork d) is = omega arith
    paid_by (Store p a k unit) is =
        let puts = store_puts (is_kept k) unit (register protected top p) (register protected top a) r.credit (subst (IsPaidAt r.credit) is (r.prepared.paid i here)) in
        omega (arith, puts.0, puts.1)
    paid_by (StartArg n a) is =
        let put = start_puts 65 (number_in protected top n) (register protected top a) in
        let paid : 1 ≤ r.credit = subst (IsPaidAt r.credit) is (r.prepared.paid i here) in
        omega (arith, put, paid)
    paid_by (StartFn n g) is =
        let put = start_puts 64 (number_in protected top n) (register protected top g) in
        let v = valid_function code top.function site.function valid site.there in
        let at : slice_get site.function.body top.place ≡ Some (StartFn n g) = site.at ∙ ap (λ (x : CodePlace). Some x) is in
        let spent = spent_covers site.function v top.place n g r.made at (r.good.covers site.function site.there) in
        omega (arith, put, spent.count)
    paid_by j is = plain_paid j tt

    -- a put is at most half of the turns
    pub put_is_paid : one_put (action_of code t top below (shape_of protected (length below) top i)) ≡ 1
        → 2 * (puts + 1) ≤ turns + 1
    put_is_paid is = omega (arith, is, paid_by i refl, r.paid)
