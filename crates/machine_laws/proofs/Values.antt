-- Values of a kind that the rules of values keep: frames of such values ask for them and write them.
use Rattle.std.proofs.Common.{◌≡◌, ℕ, ℤ, zero, suc, pos, ◌+◌, ◌*◌, Bool, true, false, ◌&&◌, cond, if◌then◌else◌, nat_eq, nat_le, nat_lt, List, [], ◌∷◌, ◌++◌, length, map, take, replicate, slice_get, All, Option, Some, None, refl, sym, ◌∙◌, subst, arith}
use Rattle.std.specs.FinMap.{get, get-insert}
use Rattle.std.specs.Ordering.{nat_cmp, eq_by_cmp}
use Rattle.std.specs.Cmp.{nat_cmp_total}
use Rattle.meaning.specs.declared.action.Action.{Action}
use Rattle.meaning.specs.declared.action.Action.TheVariants as act
use Rattle.meaning.specs.declared.action.Reply.{Reply}
use Rattle.meaning.specs.declared.action.Reply.TheVariants as reply
use Rattle.meaning.specs.declared.note.Place.{Place}
use Rattle.meaning.specs.declared.value.Check.TheVariants.{BadFree, Bounds, Dead}
use Rattle.meaning.specs.declared.value.Entry.{Entry}
use Rattle.meaning.specs.declared.value.Stop.{Stop}
use Rattle.meaning.specs.declared.value.Stop.TheVariants.{Depth, Failed}
use Rattle.meaning.specs.declared.value.Value.{Value}
use Rattle.meaning.specs.declared.value.Value.TheVariants.{Bare, Based, Code as CodeValue}
use Rattle.c_types.specs.declared.ty.FnTy.{out-FnTy}
use Rattle.sensitivity.specs.declared.class.Class.{Class}
use Rattle.sensitivity.specs.declared.class.Class.TheVariants as class
use Rattle.machine.specs.declared.code.Code.{Code}
use Rattle.machine.specs.declared.code.CodeFunction.{CodeFunction}
use Rattle.machine.specs.declared.code.CodePlace.{CodePlace}
use Rattle.machine.specs.declared.code.CodePlace.TheVariants.{Const, AddrG, AddrL, AddrF, GetLocal, SetLocal, Binary, Unary, PtrAdd, PtrConst, Cast, Touch, Load, Store as StorePlace, Jump, Branch, Call, CallInd, Return, Enter, Leave, Malloc, Free, Fork, StartArg, StartFn, Lock, Unlock, Join, Print, Input}
use Rattle.machine.specs.declared.code.ScalarKind.{ScalarKind}
use Rattle.machine.specs.Addresses.{done_address, slots_for}
use Rattle.machine.specs.Domain.{Callee, Reaches, Refused}
use Rattle.machine.specs.Frames.{Effect, Enters, Frame, Goes, Leaves, Nothing, Stops, ToObject, ToRegister, ToSlot, ToUnit, Write}
use Rattle.machine.specs.Numbers.{computed, is_kept, low_word, span, truncated}
use Rattle.machine.specs.Protected.{action_of, allocated, callee_action, callee_effect, drawn, effect_of, finds_zero, free_action, is_no_thread, is_object_size, is_thread_number, load_value, new_thread, protected, protected_callee, return_action, touch_action, unit_value, unit_write, unless_no, unless_unit}
use Rattle.machine.specs.Shapes as shape
use Rattle.machine.specs.Shapes.{Shape, blank, defines_number, number_in, object_of, register, result_in, shape_of}
use Rattle.machine.specs.Store.{Store, stored}
use Rattle.machine.specs.Threads.{goes_on, has_room, opened, opened_in, result_write, stays, written}
use Rattle.machine.specs.Values.{address_of, code_number, entry_of, loaded_entry, loaded_value, moved_number, moved_value, number_of, object_address, value_of}
use Rattle.thread_laws.proofs.FittingValues.{Each, all_append, all_read, all_replicate, all_set, all_take}

-- ---- lists

pub each_of : {A : Type 0} (P : A → Type 0) (xs : List A) → All P xs → Each P xs
each_of P [] all = tt
each_of P (x ∷ xs) all = (all 0 x (omega arith), each_of P xs (λ k d low. all (suc k) d (omega (arith, low))))

pub all_of : {A : Type 0} (P : A → Type 0) (xs : List A) → Each P xs → All P xs
all_of P [] each k d low = absurd (omega (arith, low))
all_of P (x ∷ xs) each zero d low = each.0
all_of P (x ∷ xs) each (suc k) d low = all_of P xs each.1 k d (omega (arith, low))

-- each of them is of another kind too
pub each_more : {A : Type 0} (P Q : A → Type 0) (xs : List A) → ((x : A) → P x → Q x) → Each P xs → Each Q xs
each_more P Q [] more each = tt
each_more P Q (x ∷ xs) more each = (more x each.0, each_more P Q xs more each.1)

-- numbers are such values, and so is what stands in the same bounds
pub record IsClosed (P : Value → Type 0) : Type 0 where
  pub bare : (n : ℤ) → P (Bare n)
  pub moved : (value lower upper id k : ℕ) → P (Based value lower upper id) → P (Based (moved_number (pos value) k) lower upper id)

-- a frame whose values are such
pub record FrameOf (P : Value → Type 0) (f : Frame Value) : Type 0 where
  pub registers : Each P f.registers
  pub slots : Each P f.slots
  pub units : Each P f.units

module _ (P : Value → Type 0) (closed : IsClosed P) where
  -- ---- the rules of values

  moved_code : (f k : ℕ) (same : Bool) → P (CodeValue f)
      → P (if same then CodeValue f else Bare (pos (moved_number (pos (code_number f)) k)))
  moved_code f k true here = here
  moved_code f k false here = closed.bare (pos (moved_number (pos (code_number f)) k))

  moved_is : (v : Value) (k : ℕ) → P v → P (moved_value v k)
  moved_is (Bare n) k here = closed.bare (pos (moved_number n k))
  moved_is (Based value lower upper id) k here = closed.moved value lower upper id k here
  moved_is (CodeValue f) k here = moved_code f k (nat_eq (moved_number (pos (code_number f)) k) (code_number f)) here

  kept_or_number : (kept : Bool) (v : Value) (n : ℤ) → P v → P (if kept then v else Bare n)
  kept_or_number true v n here = here
  kept_or_number false v n here = closed.bare n

  pub entry_is : (v : Value) → P v → P (value_of (entry_of v))
  entry_is (Bare n) here = closed.bare (pos (low_word n))
  entry_is (Based value lower upper id) here = here
  entry_is (CodeValue f) here = here

  pub loaded_is : (o : Option Entry) → ((e : Entry) → o ≡ Some e → P (value_of e)) → P (loaded_entry o)
  loaded_is None here = closed.bare (pos 0)
  loaded_is (Some e) here = here e refl

  -- ---- frames

  pub register_is : (f : Frame Value) (r : ℕ) → FrameOf P f → P (register protected f r)
  register_is f r frame = all_read P f.registers r (Bare (pos 0)) frame.registers (closed.bare (pos 0))

  arguments_are : (f : Frame Value) (rs : List ℕ) → FrameOf P f → Each P (map (register protected f) rs)
  arguments_are f [] frame = tt
  arguments_are f (r ∷ rs) frame = (register_is f r frame, arguments_are f rs frame)

  abbrev pub WriteOf : Write Value → Type 0
  WriteOf (ToRegister d v) = P v
  WriteOf (ToSlot s v) = P v
  WriteOf (ToUnit unit at v) = P v
  WriteOf (ToObject id) = Unit {0}
  WriteOf Nothing = Unit {0}

  pub written_of : (w : Write Value) (f : Frame Value) → WriteOf w → FrameOf P f → FrameOf P (written protected w f)
  written_of Nothing f here frame = frame
  written_of (ToRegister d v) f here frame =
      record { registers = all_set P f.registers d v frame.registers here; slots = frame.slots; units = frame.units }
  written_of (ToSlot s v) f here frame =
      record { registers = frame.registers; slots = all_set P f.slots s v frame.slots here; units = frame.units }
  written_of (ToUnit unit at v) f here frame =
      record { registers = frame.registers; slots = frame.slots; units = all_set P f.units unit v frame.units here }
  written_of (ToObject id) f here frame = record { registers = frame.registers; slots = frame.slots; units = frame.units }

  pub placed_of : (f : Frame Value) (to : ℕ) → FrameOf P f → FrameOf P (record f { place = to })
  placed_of f to frame = record { registers = frame.registers; slots = frame.slots; units = frame.units }

  pub result_of : (s : Option ℕ) (v : Value) → P v → WriteOf (result_write protected s v)
  result_of None v here = tt
  result_of (Some s) v here = here

  opened_by : (o : Option CodeFunction) (f : ℕ) (arguments : List Value) → Each P arguments → FrameOf P (opened_in protected o f arguments)
  opened_by None f arguments are = record { registers = tt; slots = tt; units = tt }
  opened_by (Some c) f arguments are =
      let nothing : P (blank protected) = closed.bare (pos 0) in
      let given = take (length (out-FnTy c.ty).params) arguments in
      record {
        registers = all_replicate P c.registers (blank protected) nothing;
        slots = all_take P c.slots (given ++ replicate c.slots (blank protected))
            (all_append P given (replicate c.slots (blank protected))
            (all_take P (length (out-FnTy c.ty).params) arguments are)
            (all_replicate P c.slots (blank protected) nothing));
        units = all_replicate P c.safe_units (blank protected) nothing;
      }

  pub opened_of : (code : Code) (f : ℕ) (arguments : List Value) → Each P arguments → FrameOf P (opened protected code f arguments)
  opened_of code f arguments are = opened_by (slice_get code.functions f) f arguments are

  -- ---- what an instruction is about

  -- an address that it makes
  abbrev pub AddressIs : Frame Value → CodePlace → Type 0
  AddressIs f (AddrG d g address units kept) = P (object_address address units 2 kept)
  AddressIs f (AddrL d v offset units kept) = P (object_address (64 * object_of protected f + offset) units (object_of protected f) kept)
  AddressIs f (AddrF d g) = P (CodeValue g)
  AddressIs f _ = Unit {0}

  abbrev pub ShapeOf : Shape Value → Type 0
  ShapeOf (shape.Defines d v) = P v
  ShapeOf (shape.Sets s v) = P v
  ShapeOf (shape.Stores p a k unit) = P a
  ShapeOf (shape.Calls f arguments) = Each P arguments
  ShapeOf (shape.CallsThrough c arguments type through) = Each P arguments
  ShapeOf (shape.Returns v) = P v
  ShapeOf (shape.StartsArgument n a) = P a
  ShapeOf (shape.StartsFunction n f) = P f
  ShapeOf _ = Unit {0}

  numbers_are : (d : ℕ) (n : Option ℤ) → ShapeOf (defines_number protected d n)
  numbers_are d None = tt
  numbers_are d (Some n) = closed.bare n

  result_is : (f : Frame Value) (a : Option ℕ) → FrameOf P f → P (result_in protected f a)
  result_is f None frame = closed.bare (pos 0)
  result_is f (Some a) frame = register_is f a frame

  pub shape_is : (depth : ℕ) (f : Frame Value) (i : CodePlace) → AddressIs f i → FrameOf P f → ShapeOf (shape_of protected depth f i)
  shape_is depth f (Const d v) made frame = closed.bare v
  shape_is depth f (AddrG d g address units kept) made frame = made
  shape_is depth f (AddrL d v offset units kept) made frame = made
  shape_is depth f (AddrF d g) made frame = made
  shape_is depth f (GetLocal d s) made frame = all_read P f.slots s (Bare (pos 0)) frame.slots (closed.bare (pos 0))
  shape_is depth f (SetLocal s a) made frame = register_is f a frame
  shape_is depth f (Binary d op a b) made frame = numbers_are d (computed op (number_in protected f a) (number_in protected f b))
  shape_is depth f (Unary d op a) made frame = closed.bare _
  shape_is depth f (PtrAdd d p i s) made frame = moved_is (register protected f p) (span (number_in protected f i) s) (register_is f p frame)
  shape_is depth f (PtrConst d p k) made frame = moved_is (register protected f p) k (register_is f p frame)
  shape_is depth f (Cast d a from to) made frame =
      kept_or_number (is_kept from && is_kept to) (register protected f a) (truncated to (number_of (register protected f a))) (register_is f a frame)
  shape_is depth f (Touch p class marked) made frame = tt
  shape_is depth f (Load d p kind unit) made frame = tt
  shape_is depth f (StorePlace p a kind unit) made frame = register_is f a frame
  shape_is depth f (Jump l) made frame = tt
  shape_is depth f (Branch a l) made frame = tt
  shape_is depth f (Call g args s) made frame = arguments_are f args frame
  shape_is depth f (CallInd g args type s o) made frame = arguments_are f args frame
  shape_is depth f (Return a) made frame = result_is f a frame
  shape_is depth f Enter made frame = tt
  shape_is depth f Leave made frame = tt
  shape_is depth f (Malloc d a) made frame = tt
  shape_is depth f (Free p) made frame = tt
  shape_is depth f (Fork d) made frame = tt
  shape_is depth f (StartArg t a) made frame = register_is f a frame
  shape_is depth f (StartFn t g) made frame = register_is f g frame
  shape_is depth f (Lock p) made frame = tt
  shape_is depth f (Unlock p) made frame = tt
  shape_is depth f (Join t) made frame = tt
  shape_is depth f (Print a) made frame = tt
  shape_is depth f (Input d a) made frame = tt

  -- ---- what is put

  abbrev pub ActionOf : Action → Type 0
  ActionOf (act.Put a e) = P (value_of e)
  ActionOf _ = Unit {0}

  look_puts : (id : ℕ) (inside : Bool) → ActionOf (if inside then act.Look id else act.Halt (Failed Bounds))
  look_puts id true = tt
  look_puts id false = tt

  touch_puts : (c : Class) (p : Value) → ActionOf (touch_action c p)
  touch_puts class.Sensitive (Based value lower upper id) = look_puts id (nat_le lower value && nat_lt value upper)
  touch_puts class.Sensitive (Bare n) = tt
  touch_puts class.Sensitive (CodeValue f) = tt
  touch_puts class.Universal (Based value lower upper id) = look_puts id (nat_le lower value && nat_lt value upper)
  touch_puts class.Universal (Bare n) = tt
  touch_puts class.Universal (CodeValue f) = tt
  touch_puts class.Code p = tt
  touch_puts class.Regular p = tt

  marked_puts : (marked : Bool) (c : Class) (p : Value) → ActionOf (if marked then act.Own else touch_action c p)
  marked_puts true c p = tt
  marked_puts false c p = touch_puts c p

  load_puts : (kept : Bool) (unit : Option ℕ) (a b : ℕ) → ActionOf (unless_unit unit (if kept then act.Get a else act.Load b))
  load_puts true None a b = tt
  load_puts false None a b = tt
  load_puts kept (Some u) a b = tt

  store_puts : (kept : Bool) (unit : Option ℕ) (p a : Value) → P a
      → ActionOf (unless_unit unit (if kept then act.Put (address_of p) (entry_of a) else act.Store (address_of p) (number_of a)))
  store_puts true None p a here = entry_is a here
  store_puts false None p a here = tt
  store_puts kept (Some u) p a here = tt

  room_puts : (room : Bool) → ActionOf (if room then act.Own else act.Halt Depth)
  room_puts true = tt
  room_puts false = tt

  callee_puts : (code : Code) (frames : List (Frame Value)) (c : Callee) → ActionOf (callee_action code frames c)
  callee_puts code frames (Reaches f) = room_puts (has_room code frames f)
  callee_puts code frames (Refused why) = tt

  return_puts : (t : ℕ) (below : List (Frame Value)) → ActionOf (return_action t below)
  return_puts t [] = tt
  return_puts t (caller ∷ below) = tt

  sized_puts : (k : ℕ) (is : Bool) → ActionOf (if is then act.Alloc k else act.Own)
  sized_puts k true = tt
  sized_puts k false = tt

  free_puts_by : (id : ℕ) (is : Bool) → ActionOf (if is then act.Free id else act.Halt (Failed BadFree))
  free_puts_by id true = tt
  free_puts_by id false = tt

  free_puts : (p : Value) → ActionOf (free_action p)
  free_puts (Bare n) = tt
  free_puts (Based value lower upper id) = free_puts_by id (nat_eq value lower && nat_le 1026 id)
  free_puts (CodeValue f) = tt

  start_puts : (a : ℕ) (none : Bool) (v : Value) → P v → ActionOf (if none then act.Own else act.Put a (entry_of v))
  start_puts a true v here = tt
  start_puts a false v here = entry_is v here

  join_puts : (a : ℕ) (is : Bool) → ActionOf (if is then act.Load a else act.Own)
  join_puts a true = tt
  join_puts a false = tt

  pub action_is : (code : Code) (t : ℕ) (top : Frame Value) (below : List (Frame Value)) (s : Shape Value) → ShapeOf s → ActionOf (action_of code t top below s)
  action_is code t top below (shape.Defines d v) here = tt
  action_is code t top below (shape.Sets s v) here = tt
  action_is code t top below (shape.Goes l) here = tt
  action_is code t top below shape.Divides here = tt
  action_is code t top below (shape.Touches p c marked) here = marked_puts marked c p
  action_is code t top below (shape.Loads d p k unit) here = load_puts (is_kept k) unit (address_of p) (address_of p)
  action_is code t top below (shape.Stores p a k unit) here = store_puts (is_kept k) unit p a here
  action_is code t top below (shape.Calls f arguments) here = room_puts (has_room code (top ∷ below) f)
  action_is code t top below (shape.CallsThrough c arguments type through) here = callee_puts code (top ∷ below) (protected_callee code type c)
  action_is code t top below (shape.Returns v) here = return_puts t below
  action_is code t top below shape.Enters here = tt
  action_is code t top below shape.Leaves here = tt
  action_is code t top below (shape.Allocates d n) here = sized_puts (slots_for (low_word n)) (is_object_size n)
  action_is code t top below (shape.Frees p) here = free_puts p
  action_is code t top below (shape.Forks d) here = tt
  action_is code t top below (shape.StartsArgument n a) here = start_puts _ (is_no_thread n) a here
  action_is code t top below (shape.StartsFunction n f) here = start_puts _ (is_no_thread n) f here
  action_is code t top below (shape.Locks p) here = tt
  action_is code t top below (shape.Unlocks p) here = tt
  action_is code t top below (shape.Joins n) here = join_puts (done_address (low_word n)) (is_thread_number n)
  action_is code t top below (shape.Prints n) here = tt
  action_is code t top below (shape.TakesInput d n) here = tt

  -- ---- what is written

  abbrev pub FoundIs : Reply → Type 0
  FoundIs (reply.Found e) = P (loaded_entry e)
  FoundIs _ = Unit {0}

  abbrev pub ObjectIs : ℤ → Reply → Type 0
  ObjectIs n (reply.Slot (Some s)) = P (object_address (64 * s) (low_word n) s true)
  ObjectIs n _ = Unit {0}

  -- what the answer gives
  abbrev pub AnswerOf : Shape Value → Reply → Type 0
  AnswerOf (shape.Loads d p k unit) answer = FoundIs answer
  AnswerOf (shape.Allocates d n) answer = ObjectIs n answer
  AnswerOf _ answer = Unit {0}

  abbrev pub EffectOf : Effect Value → Type 0
  EffectOf (Stops why) = Unit {0}
  EffectOf (Goes to w) = WriteOf w
  EffectOf (Enters f arguments through) = Each P arguments
  EffectOf (Leaves v) = P v

  flag_of : (top : Frame Value) (why : Stop) (b : Bool) → EffectOf (unless_no top why (reply.Flag b))
  flag_of top why true = tt
  flag_of top why false = tt

  no_of : (top : Frame Value) (why : Stop) (answer : Reply) → EffectOf (unless_no top why answer)
  no_of top why (reply.Flag b) = flag_of top why b
  no_of top why reply.Nothing = tt
  no_of top why (reply.Word w) = tt
  no_of top why (reply.Found e) = tt
  no_of top why (reply.Slot s) = tt
  no_of top why (reply.Thread n) = tt

  unit_is : (top : Frame Value) (unit : Option ℕ) → FrameOf P top → P (unit_value top unit)
  unit_is top None frame = closed.bare (pos 0)
  unit_is top (Some u) frame = all_read P top.units u (Bare (pos 0)) frame.units (closed.bare (pos 0))

  unit_loaded : (top : Frame Value) (k : ScalarKind) (unit : Option ℕ) → FrameOf P top → P (loaded_value k (unit_value top unit))
  unit_loaded top k unit frame =
      kept_or_number (is_kept k) (unit_value top unit) (truncated k (number_of (unit_value top unit))) (unit_is top unit frame)

  load_of : (top : Frame Value) (k : ScalarKind) (unit : Option ℕ) (answer : Reply) → FrameOf P top → FoundIs answer → P (load_value top k unit answer)
  load_of top k unit (reply.Word w) frame found = closed.bare (truncated k w)
  load_of top k unit (reply.Found e) frame found = found
  load_of top k unit reply.Nothing frame found = unit_loaded top k unit frame
  load_of top k unit (reply.Slot s) frame found = unit_loaded top k unit frame
  load_of top k unit (reply.Flag b) frame found = unit_loaded top k unit frame
  load_of top k unit (reply.Thread n) frame found = unit_loaded top k unit frame

  store_of : (to : ℕ) (unit : Option ℕ) (p a : Value) → P a → EffectOf (Goes to (unit_write unit p a))
  store_of to None p a here = tt
  store_of to (Some u) p a here = here

  callee_of : (arguments : List Value) (through : Option Place) (c : Callee) → Each P arguments → EffectOf (callee_effect arguments through c)
  callee_of arguments through (Reaches f) are = are
  callee_of arguments through (Refused why) are = tt

  drawn_of : (top : Frame Value) (answer : Reply) → EffectOf (drawn top answer)
  drawn_of top (reply.Slot None) = tt
  drawn_of top (reply.Slot (Some s)) = tt
  drawn_of top reply.Nothing = tt
  drawn_of top (reply.Word w) = tt
  drawn_of top (reply.Found e) = tt
  drawn_of top (reply.Flag b) = tt
  drawn_of top (reply.Thread n) = tt

  allocated_of : (n : ℤ) (answer : Reply) → ObjectIs n answer → P (allocated n answer)
  allocated_of n (reply.Slot None) here = closed.bare (pos 0)
  allocated_of n (reply.Slot (Some s)) here = here
  allocated_of n reply.Nothing here = closed.bare (pos 0)
  allocated_of n (reply.Word w) here = closed.bare (pos 0)
  allocated_of n (reply.Found e) here = closed.bare (pos 0)
  allocated_of n (reply.Flag b) here = closed.bare (pos 0)
  allocated_of n (reply.Thread m) here = closed.bare (pos 0)

  new_thread_of : (answer : Reply) → P (new_thread answer)
  new_thread_of (reply.Thread None) = closed.bare _
  new_thread_of (reply.Thread (Some n)) = closed.bare _
  new_thread_of reply.Nothing = closed.bare _
  new_thread_of (reply.Word w) = closed.bare _
  new_thread_of (reply.Found e) = closed.bare _
  new_thread_of (reply.Slot s) = closed.bare _
  new_thread_of (reply.Flag b) = closed.bare _

  waits_of : (top : Frame Value) (b : Bool) → EffectOf (if b then goes_on protected top else stays protected top)
  waits_of top true = tt
  waits_of top false = tt

  joins_of : (top : Frame Value) (b : Bool) → EffectOf (if b then stays protected top else goes_on protected top)
  joins_of top true = tt
  joins_of top false = tt

  pub effect_is :
      (code : Code) (top : Frame Value) (answer : Reply) (s : Shape Value)
      → FrameOf P top
      → ShapeOf s
      → AnswerOf s answer
      → EffectOf (effect_of code top answer s)
  effect_is code top answer (shape.Defines d v) frame here found = here
  effect_is code top answer (shape.Sets s v) frame here found = here
  effect_is code top answer (shape.Goes l) frame here found = tt
  effect_is code top answer shape.Divides frame here found = tt
  effect_is code top answer (shape.Touches p class marked) frame here found = no_of top (Failed Dead) answer
  effect_is code top answer (shape.Loads d p k unit) frame here found = load_of top k unit answer frame found
  effect_is code top answer (shape.Stores p a k unit) frame here found = store_of (top.place + 1) unit p a here
  effect_is code top answer (shape.Calls f arguments) frame here found = here
  effect_is code top answer (shape.CallsThrough c arguments type through) frame here found =
      callee_of arguments (Some through) (protected_callee code type c) here
  effect_is code top answer (shape.Returns v) frame here found = here
  effect_is code top answer shape.Enters frame here found = drawn_of top answer
  effect_is code top answer shape.Leaves frame here found = tt
  effect_is code top answer (shape.Allocates d n) frame here found = allocated_of n answer found
  effect_is code top answer (shape.Frees p) frame here found = no_of top (Failed BadFree) answer
  effect_is code top answer (shape.Forks d) frame here found = new_thread_of answer
  effect_is code top answer (shape.StartsArgument n a) frame here found = tt
  effect_is code top answer (shape.StartsFunction n f) frame here found = tt
  effect_is code top answer (shape.Locks p) frame here found = waits_of top (finds_zero answer)
  effect_is code top answer (shape.Unlocks p) frame here found = tt
  effect_is code top answer (shape.Joins n) frame here found = joins_of top (finds_zero answer)
  effect_is code top answer (shape.Prints n) frame here found = tt
  effect_is code top answer (shape.TakesInput d n) frame here found = closed.bare _

  -- ---- what the safe store has behind an action

  put_entry : (b : ℕ) (o : Option Entry) (e x : Entry) (same : Bool)
      → P (value_of e)
      → (o ≡ Some x → P (value_of x))
      → cond same (Some e) o ≡ Some x
      → P (value_of x)
  put_entry b o e x true new old is = let one : e ≡ x = cc in subst (λ (y : Entry). P (value_of y)) one new
  put_entry b o e x false new old is = old is

  pub stored_is : (threads : ℕ) (s : Store) (action : Action)
      → ((a : ℕ) (e : Entry) → get s.entries a ≡ Some e → P (value_of e))
      → ActionOf action
      → (a : ℕ) (e : Entry) → get (stored threads s action).entries a ≡ Some e → P (value_of e)
  stored_is threads s (act.Put b x) entries put a e is =
      put_entry b (get s.entries a) x e (eq_by_cmp nat_cmp a b) put (entries a e) (sym (get-insert nat_cmp_total s.entries b x a) ∙ is)
  stored_is threads s act.Own entries put a e is = entries a e is
  stored_is threads s (act.Load b) entries put a e is = entries a e is
  stored_is threads s (act.Store b w) entries put a e is = entries a e is
  stored_is threads s (act.TryLock b) entries put a e is = entries a e is
  stored_is threads s (act.Get b) entries put a e is = entries a e is
  stored_is threads s (act.Alloc k) entries put a e is = entries a e is
  stored_is threads s (act.Free id) entries put a e is = entries a e is
  stored_is threads s (act.Look id) entries put a e is = entries a e is
  stored_is threads s act.Fork entries put a e is = entries a e is
  stored_is threads s (act.Print n) entries put a e is = entries a e is
  stored_is threads s (act.Input n) entries put a e is = entries a e is
  stored_is threads s (act.Halt why) entries put a e is = entries a e is
