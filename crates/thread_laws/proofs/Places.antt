-- The rules of a valid function at its places, and what its frames keep behind an instruction.
use Rattle.std.proofs.Common.{◌≡◌, ◌≢◌, ◌⊎◌, inl, inr, ℕ, ℤ, zero, suc, pos, negsuc, ◌+◌, ◌-◌, ◌*◌, ◌/◌, ◌≤◌, ◌<◌, Bool, true, false, ◌&&◌, if◌then◌else◌, nat_le, nat_lt, nat_eq, List, [], ◌∷◌, length, map, slice_get, slice_set, slice_index_or, Option, Some, None, IfSome, IsTrue, unwrap_or, refl, sym, ap, ◌∙◌, subst, arith, get_or-set_same}
use Rattle.std.proofs.lemmas.Bool.{leb-true, ltb-true, lt-ltb}
use Rattle.std.proofs.lemmas.List.{length-set, length-replicate}
use Rattle.core_ir.specs.declared.role.Role.{Role}
use Rattle.core_ir.specs.declared.role.Role.TheVariants as role
use Rattle.core_ir.specs.Flow.{HasRole, IsAmong, IsUnreached, Serves, Stands, Unbroken}
use Rattle.core_ir.specs.Outline.{Outline}
use Rattle.core_ir.specs.Order.{Behind, FrameFits as FrameRule, InStart, IsFramed, IsOrderedAt, IsOutsideFrames, KeepsFrame, NumbersFit}
use Rattle.meaning.specs.Action.{Fits}
use Rattle.meaning.specs.declared.action.Action.{Action}
use Rattle.meaning.specs.declared.action.Action.TheVariants as act
use Rattle.meaning.specs.declared.action.Reply.{Reply}
use Rattle.meaning.specs.declared.action.Reply.TheVariants as reply
use Rattle.meaning.specs.declared.note.Place.{Place}
use Rattle.meaning.specs.declared.value.Check.TheVariants.{Bounds, Dead}
use Rattle.meaning.specs.declared.value.Stop.{Stop}
use Rattle.meaning.specs.declared.value.Stop.TheVariants.{Failed}
use Rattle.meaning.specs.declared.value.Value.{Value}
use Rattle.meaning.specs.declared.value.Value.TheVariants.{Bare, Based, Code as CodeValue}
use Rattle.sensitivity.specs.declared.class.Class.{Class}
use Rattle.sensitivity.specs.declared.class.Class.TheVariants as class
use Rattle.machine.specs.declared.code.Code.{Code}
use Rattle.machine.specs.declared.code.CodeFunction.{CodeFunction}
use Rattle.machine.specs.declared.code.CodeLocal.{CodeLocal}
use Rattle.machine.specs.declared.code.CodePlace.{CodePlace}
use Rattle.machine.specs.declared.code.CodePlace.TheVariants.{Const, AddrG, AddrL, AddrF, GetLocal, SetLocal, Binary, Unary, PtrAdd, PtrConst, Cast, Touch, Load, Store, Jump, Branch, Call, CallInd, Return, Enter, Leave, Malloc, Free, Fork, StartArg, StartFn, Lock, Unlock, Join, Print, Input}
use Rattle.machine.specs.declared.code.ScalarKind.{ScalarKind}
use Rattle.machine.specs.Addresses.{slots_for}
use Rattle.machine.specs.Frames.{Effect, Enters, Frame, Goes, Leaves, Nothing, Running, Stops, Thread, ToObject, ToRegister, ToSlot, ToUnit, Write}
use Rattle.machine.specs.Lanes.{ActionFits, AnswerFits, one_put}
use Rattle.machine.specs.Numbers.{computed, is_kept}
use Rattle.machine.specs.Outlines.{defined, outline_of_code, role_of, target}
use Rattle.machine.specs.Protected.{action_of, drawn, effect_of, new_thread, protected, touch_action, unless_no}
use Rattle.machine.specs.Shapes as shape
use Rattle.machine.specs.Shapes.{Shape, defines_number, number_in, object_of, register, shape_of}
use Rattle.machine.specs.Stands.{IsUnit}
use Rattle.machine.specs.Threads.{frame_units, opened, opened_in, place_at, units_in, written}
use Rattle.machine.specs.ValidCode.{CodeFits, CodeLocalsLie, IsSensitiveTouch, IsValidCodeFunction, SaysWhere, access_kind, code_local_units}
use Rattle.machine.specs.Values.{number_of}
use Rattle.thread_laws.proofs.Bodies.{at_place, both, local_in_frame, order, place_is, stands_within}
use Rattle.thread_laws.proofs.FittingFrames.{EffectHas, InsideWhere, IsForked, IsInside, IsReady, ObjectFits, ShapeFits, action_fits, effect_has, shape_fits}
use Rattle.thread_laws.proofs.FittingValues.{Each, FrameFits, ValueFits, WriteHas, opened_fits, placed_fits, result_has, written_fits}
use Rattle.thread_laws.proofs.Readiness.{AreGoodBelow, Covers, IsBehindCall, IsDrawn, IsGood, IsGoodBelow, IsGoodRunning, IsPaidAt, IsPrepared, IsReadyAt, PaidWhere, halts}
use Rattle.thread_laws.proofs.Successors.{Found, IsFork, IsStartArg, IsTouch, LeadsTo, Waits, enter_of, fork_of, found, has_role, jumps_at, leads_to, one_instruction, outlines, role_there, server_defines, stands_at, start_fn_of, start_of, touch_of}

module _ (slots : ℕ) (few : slots ≤ 1048576) (enough : 1026 ≤ slots) (code : Code) (c : CodeFunction) (valid : IsValidCodeFunction code c) where
  -- ---- the rules of a valid function at one of its places

  pub ordered_at : (u : ℕ) (i : CodePlace) → slice_get c.body u ≡ Some i → IsOrderedAt (outlines c.body) u (outline_of_code i)
  ordered_at u i here = valid.well_formed.ordered.each u (outline_of_code i) (stands_at c.body u i here)

  framed : 0 < length c.locals → IsFramed (outlines c.body)
  framed some =
      subst (λ (b : Bool). KeepsFrame b (outlines c.body)) (lt-ltb 0 (length c.locals) some) valid.well_formed.frame

  -- a function with locals enters its frame first
  pub first_enters : 0 < length c.locals → (i : CodePlace) → slice_get c.body 0 ≡ Some i → i ≡ Enter
  first_enters some i here = enter_of i (role_there c.body 0 i role.Enter here (framed some).entered)

  framed_by : (b : Bool) → nat_lt 0 (length c.locals) ≡ b → KeepsFrame b (outlines c.body)
      → (u : ℕ) (i : CodePlace) → slice_get c.body u ≡ Some i → (IsOutsideFrames (role_of i) → ⊥) → 0 < length c.locals
  framed_by true is keeps u i here inside = ltb-true 0 (length c.locals) is
  framed_by false is keeps u i here inside = absurd (inside (keeps u (outline_of_code i) (stands_at c.body u i here)))

  has_frame : (u : ℕ) (i : CodePlace) → slice_get c.body u ≡ Some i → (IsOutsideFrames (role_of i) → ⊥) → 0 < length c.locals
  has_frame u i here inside = framed_by (nat_lt 0 (length c.locals)) refl valid.well_formed.frame u i here inside

  some_units_by : (at : ℕ) (ls : List CodeLocal) → CodeLocalsLie at ls → 0 < length ls → 1 ≤ code_local_units ls
  some_units_by at [] lie some = absurd (omega arith)
  some_units_by at (l ∷ ls) lie some = omega (arith, lie.1)

  some_units : 0 < length c.locals → 1 ≤ c.frame_units
  some_units some = omega (arith, some_units_by 0 c.locals valid.locals_lie some, valid.frame_is_its_locals)

  -- what serves a use is one instruction
  one_server : (s q u r : ℕ) → Serves (outlines c.body) 0 s u r → Serves (outlines c.body) 0 q u r → q ≡ s
  one_server s q u r one other =
      elim (order q s) [
        | inl less ↦ absurd (other.nearest s one.by one.there less one.before one.defines)
        | inr (inl more) ↦ absurd (one.nearest q other.by other.there more other.before other.defines)
        | inr (inr same) ↦ same
      ]

  -- ---- what an instruction needs of its frame

  -- an object that was drawn has room for the function's locals
  drawn_has_room : (o : Option ℕ) (v : ℕ) (l : CodeLocal) → IsDrawn slots c o → slice_get c.locals v ≡ Some l
      → (64 * unwrap_or o 0 + (l.offset + l.units) ≤ 64 * slots) × (1026 ≤ unwrap_or o 0) × (unwrap_or o 0 < slots)
  drawn_has_room None v l drawn there = absurd drawn
  drawn_has_room (Some id) v l drawn there =
      let within : l.offset + l.units ≤ c.frame_units = local_in_frame code c v l valid there in
      let units : 1 ≤ c.frame_units = some_units (omega (arith, stands_within c.locals v l there)) in
      (omega (arith, drawn.1, within), drawn.0, omega (arith, drawn.1, units))

  drawn_is_object : (o : Option ℕ) → IsDrawn slots c o → 1 ≤ c.frame_units → (1026 ≤ unwrap_or o 0) × (unwrap_or o 0 < slots)
  drawn_is_object None drawn units = absurd drawn
  drawn_is_object (Some id) drawn units = (drawn.0, omega (arith, drawn.1, units))

  module _ (f : Frame Value) (made : List ℕ) (good : IsGood slots code f made) (here : slice_get code.functions f.function ≡ Some c) where
    pub units_here : frame_units code f.function ≡ c.frame_units
    units_here = ap units_in here

    -- behind its first place a frame with locals has its object
    drawn_at : (i : CodePlace) → slice_get c.body f.place ≡ Some i → 0 < length c.locals → (i ≡ Enter → ⊥) → IsDrawn slots c f.object
    drawn_at i at some other =
        elim (order 0 f.place) [
          | inl behind ↦ good.object c here some behind
          | inr rest ↦ elim rest [
            | inl less ↦ absurd (omega (arith, less))
            | inr first ↦ absurd (other (first_enters some i (ap (slice_get c.body) first ∙ at)))
          ]
        ]

    object_fits_at : (i : CodePlace) → slice_get c.body f.place ≡ Some i → CodeFits code c i → ObjectFits slots few enough f i
    object_fits_at (AddrL d v offset units kept) at fits =
        let some : 0 < length c.locals = omega (arith, stands_within c.locals v fits.local fits.there) in
        let room = drawn_has_room f.object v fits.local (drawn_at (AddrL d v offset units kept) at some (λ is. cc)) fits.there in
        (omega (arith, room.0, fits.at, fits.size), room.1, room.2)
    object_fits_at _ at fits = tt

    numbers_ready : (d : ℕ) (n : Option ℤ) → IsReady slots few enough code f (defines_number protected d n)
    numbers_ready d None = tt
    numbers_ready d (Some n) = tt

    ready_at : (depth : ℕ) (i : CodePlace) → slice_get c.body f.place ≡ Some i → IsReadyAt f i → IsReady slots few enough code f (shape_of protected depth f i)
    ready_at depth (Load d p k unit) at ready = ready
    ready_at depth (Store p a k unit) at ready = ready
    ready_at depth (StartArg t a) at ready = ready
    ready_at depth (StartFn t g) at ready = ready
    ready_at depth (Binary d op a b) at ready = numbers_ready d (computed op (number_in protected f a) (number_in protected f b))
    ready_at depth Enter at ready =
        let some = has_frame f.place Enter at (λ outside. outside) in
        (omega (arith, units_here, some_units some), omega (arith, units_here, valid.within_limits.frame_units))
    ready_at depth Leave at ready =
        let some = has_frame f.place Leave at (λ outside. outside) in
        drawn_is_object f.object (drawn_at Leave at some (λ is. cc)) (some_units some)
    ready_at depth _ at ready = tt

    -- what the instruction at its place is about, fits
    pub shape_fits_at : (depth : ℕ) (i : CodePlace) → slice_get c.body f.place ≡ Some i → length code.functions ≤ 4096 → ShapeFits slots (shape_of protected depth f i)
    shape_fits_at depth i at most =
        let fits = at_place (CodeFits code c) c.body f.place i valid.in_range at in
        shape_fits slots few enough code c depth f i most fits (object_fits_at i at fits) good.fits

    -- and so is what it asks for
    pub asks_fitting : (t : ℕ) (below : List (Frame Value)) (i : CodePlace)
        → slice_get c.body f.place ≡ Some i
        → length code.functions ≤ 4096
        → IsReadyAt f i
        → ActionFits slots (action_of code t f below (shape_of protected (length below) f i))
    asks_fitting t below i at most ready =
        action_fits slots few enough code t f below (shape_of protected (length below) f i)
        (shape_fits_at (length below) i at most) (ready_at (length below) i at ready)

  -- ---- covers

  -- the use of a start's function is served without a jump from elsewhere
  unbroken_use : (q p t g : ℕ) → HasRole (outlines c.body) 0 p (role.StartFn t g) → Serves (outlines c.body) 0 q p g → Unbroken (outlines c.body) 0 q p
  unbroken_use q p t g has serves =
      let f = found c.body p has.instruction has.there in
      let is : f.instruction ≡ StartFn t g = start_fn_of f.instruction t g (role_there c.body p f.instruction (role.StartFn t g) f.there has) in
      let at : slice_get c.body p ≡ Some (StartFn t g) = f.there ∙ ap (λ (i : CodePlace). Some i) is in
      let served = (ordered_at p (StartFn t g) at).served g (inr (inl refl)) in
      let same : q ≡ served.server = one_server served.server q p g served.serves serves in
      subst (λ (s : ℕ). Unbroken (outlines c.body) 0 s p) (sym same) served.unbroken

  -- what is made behind an instruction was made before it, or by it
  pub covers_behind :
      (x to : ℕ) (w : Write Value) (i : CodePlace) (made more : List ℕ)
      → slice_get c.body x ≡ Some i
      → LeadsTo x i (Goes to w)
      → Covers c x made
      → ((q p t g : ℕ) → HasRole (outlines c.body) 0 p (role.StartFn t g) → Serves (outlines c.body) 0 q p g → q ≡ x → IsAmong more q)
      → ((q p t g : ℕ) → HasRole (outlines c.body) 0 p (role.StartFn t g) → Serves (outlines c.body) 0 q p g → to ≤ p → IsAmong made q → IsAmong more q)
      → Covers c to more
  covers_behind x to w i made more at leads covers new keeps = record {
    each = λ q p t g has serves before behind.
        elim leads [
          | inl next ↦
              elim (order q x) [
                | inl less ↦ keeps q p t g has serves behind (covers.each q p t g has serves less (omega (arith, next, behind)))
                | inr rest ↦ elim rest [
                  | inl more' ↦ absurd (omega (arith, more', next, before))
                  | inr same ↦ new q p t g has serves same
                ]
              ]
          | inr other ↦ elim other [
            | inl jump ↦
                let between = unbroken_use q p t g has serves x to (jumps_at c.body x to i at jump) before behind in
                keeps q p t g has serves behind (covers.each q p t g has serves between.0 (omega (arith, between.1)))
            | inr waits ↦
                keeps q p t g has serves behind (covers.each q p t g has serves (omega (arith, waits.0, before)) (omega (arith, waits.0, behind)))
          ]
        ];
  }

  -- ---- frames behind an instruction

  pub good_like :
      (f g : Frame Value) (made more : List ℕ)
      → IsGood slots code f made
      → slice_get code.functions f.function ≡ Some c
      → g.function ≡ f.function
      → FrameFits slots g
      → length g.registers ≡ length f.registers
      → (0 < length c.locals → 0 < g.place → IsDrawn slots c g.object)
      → Covers c g.place more
      → IsGood slots code g more
  good_like f g made more good here same fits registers object covers = record {
    fits = fits;
    registers = λ d there. registers ∙ good.registers d (ap (slice_get code.functions) (sym same) ∙ there);
    object = λ d there some behind.
        let is : Some c ≡ Some d = sym here ∙ ap (slice_get code.functions) (sym same) ∙ there in
        let one : c ≡ d = cc in
        subst (λ (x : CodeFunction). IsDrawn slots x g.object) one
        (object (subst (λ (x : CodeFunction). 0 < length x.locals) (sym one) some) behind);
    covers = λ d there.
        let is : Some c ≡ Some d = sym here ∙ ap (slice_get code.functions) (sym same) ∙ there in
        let one : c ≡ d = cc in
        subst (λ (x : CodeFunction). Covers x g.place more) one covers;
  }

  abbrev pub IsObjectWrite : Write Value → Type 0
  IsObjectWrite (ToObject id) = Unit {0}
  IsObjectWrite _ = ⊥

  pub written_function : (w : Write Value) (f : Frame Value) → (written protected w f).function ≡ f.function
  written_function Nothing f = refl
  written_function (ToRegister d v) f = refl
  written_function (ToSlot s v) f = refl
  written_function (ToUnit unit at v) f = refl
  written_function (ToObject id) f = refl

  pub written_place : (w : Write Value) (f : Frame Value) → (written protected w f).place ≡ f.place
  written_place Nothing f = refl
  written_place (ToRegister d v) f = refl
  written_place (ToSlot s v) f = refl
  written_place (ToUnit unit at v) f = refl
  written_place (ToObject id) f = refl

  written_registers : (w : Write Value) (f : Frame Value) → length (written protected w f).registers ≡ length f.registers
  written_registers Nothing f = refl
  written_registers (ToRegister d v) f = length-set f.registers d v
  written_registers (ToSlot s v) f = refl
  written_registers (ToUnit unit at v) f = refl
  written_registers (ToObject id) f = refl

  written_object : (k : ℕ) (w : Write Value) (f : Frame Value) → k ≡ slots_for c.frame_units → WriteHas slots k w
      → IsObjectWrite w ⊎ IsDrawn slots c f.object
      → IsDrawn slots c (written protected w f).object
  written_object k Nothing f size has object = elim object [ inl other ↦ absurd other | inr is ↦ is ]
  written_object k (ToRegister d v) f size has object = elim object [ inl other ↦ absurd other | inr is ↦ is ]
  written_object k (ToSlot s v) f size has object = elim object [ inl other ↦ absurd other | inr is ↦ is ]
  written_object k (ToUnit unit at v) f size has object = elim object [ inl other ↦ absurd other | inr is ↦ is ]
  written_object k (ToObject id) f size has object =
      (has.0, subst (λ (n : ℕ). id + n ≤ slots) size has.1)

  -- a frame that goes to a place, with something written in it
  pub good_written :
      (k : ℕ) (f : Frame Value) (made more : List ℕ) (w : Write Value) (to : ℕ)
      → IsGood slots code f made
      → slice_get code.functions f.function ≡ Some c
      → k ≡ slots_for c.frame_units
      → WriteHas slots k w
      → (0 < length c.locals → 0 < to → IsObjectWrite w ⊎ IsDrawn slots c f.object)
      → Covers c to more
      → IsGood slots code (written protected w (record f { place = to })) more
  good_written k f made more w to good here size has object covers =
      let moved : Frame Value = record f { place = to } in
      let place : (written protected w moved).place ≡ to = written_place w moved in
      good_like f (written protected w moved) made more good here (written_function w moved)
      (written_fits slots k w moved has (placed_fits slots f to good.fits))
      (written_registers w moved)
      (λ some behind. written_object k w moved size has (object some (subst (λ (n : ℕ). 0 < n) place behind)))
      (subst (λ (n : ℕ). Covers c n more) (sym place) covers)

  -- ---- where the next instruction is prepared

  -- an instruction to which no jump leads comes behind the one before it
  comes_from :
      (x to before : ℕ) (w : Write Value) (i next : CodePlace) (r : Role)
      → slice_get c.body x ≡ Some i
      → slice_get c.body to ≡ Some next
      → LeadsTo x i (Goes to w)
      → (Waits next → ⊥)
      → to ≡ suc before
      → HasRole (outlines c.body) 0 before r
      → IsUnreached (outlines c.body) 0 to
      → (before ≡ x) × (role_of i ≡ r)
  comes_from x to before w i next r at there leads moves is has unreached =
      elim leads [
        | inl step ↦
            let same : before ≡ x = omega (arith, is, step) in
            (same, role_there c.body x i r at (subst (λ (k : ℕ). HasRole (outlines c.body) 0 k r) same has))
        | inr other ↦ elim other [
          | inl jump ↦ absurd (unreached x (jumps_at c.body x to i at jump))
          | inr waits ↦
              let same : i ≡ next = one_instruction c.body x i next at (ap (slice_get c.body) (sym waits.0) ∙ there) in
              absurd (moves (subst Waits same waits.1))
        ]
      ]

  abbrev pub credit_of : CodePlace → ℕ
  credit_of (Touch p class marked) = 1
  credit_of (Fork d) = 1
  credit_of _ = 0

  -- the units of safe locals are those of the use behind
  unit_moves : (x p u : ℕ) (i : CodePlace) → slice_get c.body x ≡ Some i → defined i ≡ None
      → IsUnit (outlines c.body) c.locals x p u
      → IsUnit (outlines c.body) c.locals (suc x) p u
  unit_moves x p u i at none unit = record {
    server = unit.server;
    local = unit.local;
    offset = unit.offset;
    l = unit.l;
    serves = record {
      by = unit.serves.by;
      there = unit.serves.there;
      defines = unit.serves.defines;
      before = omega (arith, unit.serves.before);
      nearest = λ k o stands behind low.
          elim (order k x) [
            | inl less ↦ unit.serves.nearest k o stands behind less
            | inr rest ↦ elim rest [
              | inl more ↦ absurd (omega (arith, more, low))
              | inr same ↦ λ defines.
                  let f = found c.body k o stands in
                  let one : f.instruction ≡ i = one_instruction c.body x f.instruction i (ap (slice_get c.body) (sym same) ∙ f.there) at in
                  let other : None ≡ Some p = sym none ∙ ap defined (sym one) ∙ ap (λ (x : Outline). x.defined) f.is ∙ defines in
                  cc
            ]
          ];
    };
    address = unit.address;
    there = unit.there;
    safe = unit.safe;
    is = unit.is;
  }

  -- ---- accesses, behind the touch of their address

  inside_by : (lower value upper id : ℕ) (a b : Bool) → a ≡ nat_le lower value → b ≡ nat_lt value upper
      → halts (if a && b then act.Look id else act.Halt (Failed Bounds)) ≡ false
      → (lower ≤ value) × (value < upper)
  inside_by lower value upper id true true low high goes = (leb-true lower value (sym low), ltb-true value upper (sym high))
  inside_by lower value upper id true false low high goes = absurd (cc)
  inside_by lower value upper id false b low high goes = absurd (cc)

  touch_inside : (p : Value) → halts (touch_action class.Sensitive p) ≡ false → IsInside p
  touch_inside (Bare n) goes = absurd (cc)
  touch_inside (Based value lower upper id) goes = inside_by lower value upper id (nat_le lower value) (nat_lt value upper) refl refl goes
  touch_inside (CodeValue f) goes = absurd (cc)

  -- a touch of class Sensitive that isn't marked, and doesn't stop the thread
  tested : (touch : CodePlace) (p : ℕ) (k : Class) (marked : Bool) (v : Value)
      → touch ≡ Touch p k marked
      → IsSensitiveTouch touch
      → (marked ≡ true → ⊥)
      → halts (if marked then act.Own else touch_action k v) ≡ false
      → IsInside v
  tested touch p class.Sensitive true v is sensitive plain goes = absurd (plain refl)
  tested touch p class.Sensitive false v is sensitive plain goes = touch_inside v goes
  tested touch p class.Universal marked v is sensitive plain goes = absurd (subst IsSensitiveTouch is sensitive)
  tested touch p class.Code marked v is sensitive plain goes = absurd (subst IsSensitiveTouch is sensitive)
  tested touch p class.Regular marked v is sensitive plain goes = absurd (subst IsSensitiveTouch is sensitive)

  flag_writes : (top : Frame Value) (why : Stop) (b : Bool) (to : ℕ) (w : Write Value) → unless_no top why (reply.Flag b) ≡ Goes to w → w ≡ Nothing
  flag_writes top why true to w is = cc
  flag_writes top why false to w is = absurd (cc)

  answer_writes : (top : Frame Value) (why : Stop) (answer : Reply) (to : ℕ) (w : Write Value) → unless_no top why answer ≡ Goes to w → w ≡ Nothing
  answer_writes top why (reply.Flag b) to w is = flag_writes top why b to w is
  answer_writes top why reply.Nothing to w is = cc
  answer_writes top why (reply.Word x) to w is = cc
  answer_writes top why (reply.Found e) to w is = cc
  answer_writes top why (reply.Slot s) to w is = cc
  answer_writes top why (reply.Thread n) to w is = cc

  -- the address of an access of an entry is inside, and its touch paid for it
  access_ready :
      (t : ℕ) (top : Frame Value) (below : List (Frame Value)) (answer : Reply) (i access : CodePlace) (to p : ℕ) (w : Write Value) (k : ScalarKind)
      → slice_get c.body top.place ≡ Some i
      → slice_get c.body to ≡ Some access
      → LeadsTo top.place i (Goes to w)
      → effect_of code top answer (shape_of protected (length below) top i) ≡ Goes to w
      → halts (action_of code t top below (shape_of protected (length below) top i)) ≡ false
      → (Waits access → ⊥)
      → Behind (outlines c.body) to (role.Touch p)
      → access_kind access ≡ Some k
      → IsTrue (is_kept k)
      → ((u : ℕ) → IsUnit (outlines c.body) c.locals to p u → ⊥)
      → IsInside (register protected (written protected w (record top { place = to })) p) × (1 ≤ credit_of i)
  access_ready t top below answer i access to p w k at there leads effect goes moves behind kind kept unmarked =
      let before = comes_from top.place to behind.before w i access (role.Touch p) at there leads moves behind.next behind.there behind.unreached in
      let touch = touch_of i p before.1 in
      let here : slice_get c.body top.place ≡ Some (Touch p touch.class touch.marked) = at ∙ ap (λ (x : CodePlace). Some x) touch.is in
      let sensitive : IsSensitiveTouch (Touch p touch.class touch.marked) =
      valid.touched top.place (Touch p touch.class touch.marked) access k here
      (ap (λ (n : ℕ). slice_get c.body (suc n)) (sym before.0) ∙ ap (slice_get c.body) (sym behind.next) ∙ there) kind kept in
      let nothing : w ≡ Nothing = answer_writes top (Failed Dead) answer to w
      (ap (λ (x : CodePlace). effect_of code top answer (shape_of protected (length below) top x)) (sym touch.is) ∙ effect) in
      let tests : halts (if touch.marked then act.Own else touch_action touch.class (register protected top p)) ≡ false =
      ap (λ (x : CodePlace). halts (action_of code t top below (shape_of protected (length below) top x))) (sym touch.is) ∙ goes in
      let plain : touch.marked ≡ true → ⊥ = λ is.
      let says : SaysWhere c top.place (Touch p touch.class true) =
      valid.places top.place (Touch p touch.class true) (here ∙ ap (λ (b : Bool). Some (Touch p touch.class b)) is) in
      unmarked says.0 (subst (λ (n : ℕ). IsUnit (outlines c.body) c.locals n p says.0) (ap suc (sym before.0) ∙ sym behind.next)
      (unit_moves top.place p says.0 (Touch p touch.class touch.marked) here refl says.1)) in (
        subst (λ (x : Write Value). IsInside (register protected (written protected x (record top { place = to })) p)) (sym nothing)
            (tested (Touch p touch.class touch.marked) p touch.class touch.marked (register protected top p) refl sensitive plain tests),
        subst (λ (x : CodePlace). 1 ≤ credit_of x) (sym touch.is) (omega arith),
      )

  -- ---- starts of threads, behind the instruction that draws the number

  -- what a fork's register has
  forked_is : (answer : Reply) → Fits act.Fork answer → AnswerFits slots (act.Fork, answer) → IsForked (number_of (new_thread answer))
  forked_is (reply.Thread None) form fits = refl
  forked_is (reply.Thread (Some n)) form fits = fits
  forked_is reply.Nothing form fits = absurd form
  forked_is (reply.Word w) form fits = absurd form
  forked_is (reply.Found e) form fits = absurd form
  forked_is (reply.Slot s) form fits = absurd form
  forked_is (reply.Flag b) form fits = absurd form

  module _ (t : ℕ) (top : Frame Value) (below : List (Frame Value)) (made : List ℕ) (answer : Reply) (i : CodePlace) (to : ℕ) (w : Write Value)
      (good : IsGood slots code top made)
      (ready : IsReadyAt top i)
      (function : slice_get code.functions top.function ≡ Some c)
      (at : slice_get c.body top.place ≡ Some i)
      (leads : LeadsTo top.place i (Goes to w))
      (effect : effect_of code top answer (shape_of protected (length below) top i) ≡ Goes to w)
      (goes : halts (action_of code t top below (shape_of protected (length below) top i)) ≡ false)
      (form : Fits (action_of code t top below (shape_of protected (length below) top i)) answer)
      (fits : AnswerFits slots (action_of code t top below (shape_of protected (length below) top i), answer)) where
    abbrev after : Frame Value
    after = written protected w (record top { place = to })

    -- the start's argument is behind the fork
    argument_ready : (n a : ℕ) → slice_get c.body to ≡ Some (StartArg n a) → IsForked (number_in protected after n) × (1 ≤ credit_of i)
    argument_ready n a there =
        let run = (ordered_at to (StartArg n a) there).fits in
        let is : to ≡ suc run.first = omega (arith, run.is) in
        let start : HasRole (outlines c.body) 0 (run.first + 1) (role.StartArg run.thread) = run.run.argument in
        let mine : role.StartArg n ≡ role.StartArg run.thread =
        role_there c.body to (StartArg n a) (role.StartArg run.thread) there (subst (λ (k : ℕ). HasRole (outlines c.body) 0 k (role.StartArg run.thread)) (sym run.is) start) in
        let thread : n ≡ run.thread = cc in
        let number : HasRole (outlines c.body) 0 run.first role.Fork =
        record { instruction = run.run.number.instruction; there = run.run.number.there; is = run.run.number.is } in
        let before = comes_from top.place to run.first w i (StartArg n a) role.Fork at there leads (λ waits. waits) is number
        (subst (λ (k : ℕ). IsUnreached (outlines c.body) 0 k) (sym run.is) run.run.argument_unreached) in
        let fork = fork_of i before.1 in
        let f = found c.body run.first run.run.number.instruction run.run.number.there in
        let one : f.instruction ≡ i = one_instruction c.body run.first f.instruction i f.there (ap (slice_get c.body) before.0 ∙ at) in
        let defines : defined i ≡ Some run.thread =
        ap defined (sym one) ∙ ap (λ (x : Outline). x.defined) f.is ∙ run.run.number.defines in
        let d-is : Some fork.d ≡ Some run.thread = ap defined (sym fork.is) ∙ defines in
        let d : fork.d ≡ n = cc in
        let is-here : slice_get c.body top.place ≡ Some (Fork fork.d) = at ∙ ap (λ (x : CodePlace). Some x) fork.is in
        let low : fork.d < c.registers = (valid.well_formed.numbers top.place (outline_of_code (Fork fork.d)) (stands_at c.body top.place (Fork fork.d) is-here)).defined in
        let within : fork.d < length top.registers = omega (arith, low, good.registers c function) in
        let writes : Goes (top.place + 1) (ToRegister fork.d (new_thread answer)) ≡ Goes to w =
        ap (λ (x : CodePlace). effect_of code top answer (shape_of protected (length below) top x)) (sym fork.is) ∙ effect in
        let write : ToRegister fork.d (new_thread answer) ≡ w = cc in
        let read : register protected (written protected (ToRegister fork.d (new_thread answer)) (record top { place = to })) fork.d ≡ new_thread answer =
        get_or-set_same top.registers fork.d (new_thread answer) (Bare (pos 0)) within in
        let form' : Fits act.Fork answer = subst (λ (x : CodePlace). Fits (action_of code t top below (shape_of protected (length below) top x)) answer) fork.is form in
        let fits' : AnswerFits slots (act.Fork, answer) =
        subst (λ (x : CodePlace). AnswerFits slots (action_of code t top below (shape_of protected (length below) top x), answer)) fork.is fits in
        let known : IsForked (number_of (register protected (written protected (ToRegister fork.d (new_thread answer)) (record top { place = to })) fork.d)) =
        subst (λ (v : Value). IsForked (number_of v)) (sym read) (forked_is answer form' fits') in (
          subst (λ (r : ℕ). IsForked (number_in protected after r)) d
              (subst (λ (x : Write Value). IsForked (number_of (register protected (written protected x (record top { place = to })) fork.d))) write known),
          subst (λ (x : CodePlace). 1 ≤ credit_of x) (sym fork.is) (omega arith),
        )

    -- the start's function is behind its argument
    function_ready : (n g : ℕ) → slice_get c.body to ≡ Some (StartFn n g) → IsForked (number_in protected after n)
    function_ready n g there =
        let run = (ordered_at to (StartFn n g) there).fits.0 in
        let is : to ≡ suc (run.first + 1) = omega (arith, run.is) in
        let mine : role.StartFn n g ≡ role.StartFn run.thread run.function =
        role_there c.body to (StartFn n g) (role.StartFn run.thread run.function) there
        (subst (λ (k : ℕ). HasRole (outlines c.body) 0 k (role.StartFn run.thread run.function)) (sym run.is) run.run.function) in
        let thread : n ≡ run.thread = cc in
        let before = comes_from top.place to (run.first + 1) w i (StartFn n g) (role.StartArg run.thread) at there leads (λ waits. waits) is run.run.argument
        (subst (λ (k : ℕ). IsUnreached (outlines c.body) 0 k) (sym run.is) run.run.function_unreached) in
        let start = start_of i run.thread before.1 in
        let was : IsForked (number_in protected top run.thread) = subst (IsReadyAt top) start.is ready in
        let writes : Goes (top.place + 1) Nothing ≡ Goes to w =
        ap (λ (x : CodePlace). effect_of code top answer (shape_of protected (length below) top x)) (sym start.is) ∙ effect in
        let write : Nothing ≡ w = cc in
        subst (λ (r : ℕ). IsForked (number_in protected after r)) (sym thread)
        (subst (λ (x : Write Value). IsForked (number_in protected (written protected x (record top { place = to })) run.thread)) write was)

    -- an access is ready and paid for, where its kind stands in the safe store and it isn't marked
    pub access_prepared : (access : CodePlace) (p : ℕ) (k : ScalarKind) (kept : Bool) (unit : Option ℕ)
        → slice_get c.body to ≡ Some access
        → (Waits access → ⊥)
        → Behind (outlines c.body) to (role.Touch p)
        → access_kind access ≡ Some k
        → kept ≡ is_kept k
        → (unit ≡ None → (u : ℕ) → IsUnit (outlines c.body) c.locals to p u → ⊥)
        → InsideWhere kept unit (register protected after p) × PaidWhere kept unit (credit_of i)
    access_prepared access p k true None there moves behind kind kept unmarked =
        access_ready t top below answer i access to p w k at there leads effect goes moves behind kind (sym kept) (unmarked refl)
    access_prepared access p k true (Some u) there moves behind kind kept unmarked = (tt, tt)
    access_prepared access p k false unit there moves behind kind kept unmarked = (tt, tt)

    pub prepared_for : (next : CodePlace) → slice_get c.body to ≡ Some next → IsReadyAt after next × IsPaidAt (credit_of i) next
    prepared_for (Load d p k None) there = (
      (access_prepared (Load d p k None) p k (is_kept k) None there (λ waits. waits) (ordered_at to (Load d p k None) there).fits refl refl
          (λ none. valid.places to (Load d p k None) there)).0,
      tt,
    )
    prepared_for (Load d p k (Some u)) there = (
      (access_prepared (Load d p k (Some u)) p k (is_kept k) (Some u) there (λ waits. waits) (ordered_at to (Load d p k (Some u)) there).fits refl refl
          (λ none. absurd (cc))).0,
      tt,
    )
    prepared_for (Store p a k None) there =
        access_prepared (Store p a k None) p k (is_kept k) None there (λ waits. waits) (ordered_at to (Store p a k None) there).fits refl refl
        (λ none. valid.places to (Store p a k None) there)
    prepared_for (Store p a k (Some u)) there =
        access_prepared (Store p a k (Some u)) p k (is_kept k) (Some u) there (λ waits. waits) (ordered_at to (Store p a k (Some u)) there).fits refl refl
        (λ none. absurd (cc))
    prepared_for (StartArg n a) there = argument_ready n a there
    prepared_for (StartFn n g) there = (function_ready n g there, tt)
    prepared_for _ there = (tt, tt)
