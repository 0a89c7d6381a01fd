-- What each instruction is about, over the values of a machine: the one case analysis over the 31 kinds of
-- instructions. What a turn then does is said by shape, of the protected machine and of the unprotected one.
use Rattle.std.specs.Prelude.{ℕ, ℤ, pos, ◌+◌, ◌*◌, Bool, if◌then◌else◌, List, map, Option, Some, None, unwrap_or, slice_index_or}
use Rattle.c_types.specs.declared.ty.FnTy.{FnTy}
use Rattle.meaning.specs.declared.note.Place.{Place}
use Rattle.meaning.specs.declared.note.Place.TheVariants.{At, Slot as InSlot}
use Rattle.sensitivity.specs.declared.class.Class.{Class}
use Rattle.machine.specs.declared.code.CodePlace.{CodePlace}
use Rattle.machine.specs.declared.code.CodePlace.TheVariants.{Const, AddrG, AddrL, AddrF, GetLocal, SetLocal, Binary, Unary, PtrAdd, PtrConst, Cast, Touch, Load, Store, Jump, Branch, Call, CallInd, Return, Enter, Leave, Malloc, Free, Fork, StartArg, StartFn, Lock, Unlock, Join, Print, Input}
use Rattle.machine.specs.declared.code.ScalarKind.{ScalarKind}
use Rattle.machine.specs.declared.code.Origin.{Origin}
use Rattle.machine.specs.declared.code.Origin.TheVariants as origin
use Rattle.machine.specs.Domain.{Domain}
use Rattle.machine.specs.Frames.{Frame}
use Rattle.machine.specs.Numbers.{computed, computed_one, is_zero, low_word, span}

pub data Shape (V : Type 0) : Type 0 where
  -- register d has v
  Defines : (d : ℕ) (v : V) → Shape V
  -- slot s has v
  Sets : (s : ℕ) (v : V) → Shape V
  -- it goes to a place
  Goes : (l : ℕ) → Shape V
  -- by zero
  Divides : Shape V
  Touches : (p : V) (class : Class) (marked : Bool) → Shape V
  Loads : (d : ℕ) (p : V) (kind : ScalarKind) (unit : Option ℕ) → Shape V
  Stores : (p a : V) (kind : ScalarKind) (unit : Option ℕ) → Shape V
  Calls : (f : ℕ) (arguments : List V) → Shape V
  -- through a pointer to a function of this type, which was read there
  CallsThrough : (c : V) (arguments : List V) (type : FnTy) (through : Place) → Shape V
  Returns : (v : V) → Shape V
  Enters : Shape V
  Leaves : Shape V
  -- register d has an object of so many units
  Allocates : (d : ℕ) (units : ℤ) → Shape V
  Frees : (p : V) → Shape V
  Forks : (d : ℕ) → Shape V
  -- what thread n starts with: the argument, and the function
  StartsArgument : (n : ℤ) (a : V) → Shape V
  StartsFunction : (n : ℤ) (f : V) → Shape V
  Locks : (p : V) → Shape V
  Unlocks : (p : V) → Shape V
  Joins : (n : ℤ) → Shape V
  Prints : (n : ℤ) → Shape V
  -- register d has input n
  TakesInput : (d : ℕ) (n : ℤ) → Shape V

module _ (D : Domain) where
  -- no number was written there: 0
  abbrev pub blank : D.V
  blank = D.bare (pos 0)

  abbrev pub register : Frame D.V → ℕ → D.V
  register f r = slice_index_or f.registers r blank

  abbrev pub slot : Frame D.V → ℕ → D.V
  slot f s = slice_index_or f.slots s blank

  abbrev pub number_in : Frame D.V → ℕ → ℤ
  number_in f r = D.number (register f r)

  -- the address that a register has
  abbrev pub address_in : Frame D.V → ℕ → ℕ
  address_in f r = low_word (number_in f r)

  -- the id of the frame's object
  abbrev pub object_of : Frame D.V → ℕ
  object_of f = unwrap_or f.object 0

  -- a register has a number, unless a divisor was 0
  abbrev pub defines_number : ℕ → Option ℤ → Shape D.V
  defines_number d None = Divides
  defines_number d (Some n) = Defines d (D.bare n)

  -- where an indirect call's pointer was read, in a frame of this depth
  abbrev pub read_at : ℕ → Frame D.V → Origin → Place
  read_at depth f (origin.Register p) = At (address_in f p)
  read_at depth f (origin.Slot s) = InSlot depth s

  abbrev pub result_in : Frame D.V → Option ℕ → D.V
  result_in f None = blank
  result_in f (Some a) = register f a

  -- what an instruction is about, in a frame of this depth
  abbrev pub shape_of : ℕ → Frame D.V → CodePlace → Shape D.V
  shape_of depth f (Const d v) = Defines d (D.bare v)
  shape_of depth f (AddrG d g address units kept) = Defines d (D.object address units 2 kept)
  shape_of depth f (AddrL d v offset units kept) =
      Defines d (D.object (64 * object_of f + offset) units (object_of f) kept)
  shape_of depth f (AddrF d g) = Defines d (D.function g)
  shape_of depth f (GetLocal d s) = Defines d (slot f s)
  shape_of depth f (SetLocal s a) = Sets s (register f a)
  shape_of depth f (Binary d op a b) = defines_number d (computed op (number_in f a) (number_in f b))
  shape_of depth f (Unary d op a) = Defines d (D.bare (computed_one op (number_in f a)))
  shape_of depth f (PtrAdd d p i s) = Defines d (D.moved (register f p) (span (number_in f i) s))
  shape_of depth f (PtrConst d p k) = Defines d (D.moved (register f p) k)
  shape_of depth f (Cast d a from to) = Defines d (D.cast from to (register f a))
  shape_of depth f (Touch p class marked) = Touches (register f p) class marked
  shape_of depth f (Load d p kind unit) = Loads d (register f p) kind unit
  shape_of depth f (Store p a kind unit) = Stores (register f p) (register f a) kind unit
  shape_of depth f (Jump l) = Goes l
  shape_of depth f (Branch a l) = Goes (if is_zero (number_in f a) then l else f.place + 1)
  shape_of depth f (Call g args s) = Calls g (map (register f) args)
  shape_of depth f (CallInd c args type s o) =
      CallsThrough (register f c) (map (register f) args) type (read_at depth f o)
  shape_of depth f (Return a) = Returns (result_in f a)
  shape_of depth f Enter = Enters
  shape_of depth f Leave = Leaves
  shape_of depth f (Malloc d a) = Allocates d (number_in f a)
  shape_of depth f (Free p) = Frees (register f p)
  shape_of depth f (Fork d) = Forks d
  shape_of depth f (StartArg t a) = StartsArgument (number_in f t) (register f a)
  shape_of depth f (StartFn t g) = StartsFunction (number_in f t) (register f g)
  shape_of depth f (Lock p) = Locks (register f p)
  shape_of depth f (Unlock p) = Unlocks (register f p)
  shape_of depth f (Join t) = Joins (number_in f t)
  shape_of depth f (Print a) = Prints (number_in f a)
  shape_of depth f (Input d a) = TakesInput d (number_in f a)
