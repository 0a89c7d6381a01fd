-- What writes and new frames leave of a frame, and which instruction gives a frame its object.
use Rattle.std.proofs.Common.{◌≡◌, ◌⊎◌, inl, inr, ℕ, ℤ, zero, suc, ◌+◌, ◌<◌, Bool, true, false, if◌then◌else◌, List, [], ◌∷◌, length, map, Option, Some, None, Contains, slice_get, refl, ap, ◌∙◌, arith, length-set}
use Rattle.std.proofs.lemmas.List.{length-replicate}
use Rattle.meaning.specs.declared.action.Reply.{Reply}
use Rattle.meaning.specs.declared.action.Reply.TheVariants as reply
use Rattle.meaning.specs.declared.note.Place.{Place}
use Rattle.meaning.specs.declared.value.Check.TheVariants.{BadFree, Dead}
use Rattle.meaning.specs.declared.value.Stop.{Stop}
use Rattle.meaning.specs.declared.value.Stop.TheVariants.{Failed}
use Rattle.meaning.specs.declared.value.Value.{Value}
use Rattle.machine.specs.declared.code.Code.{Code}
use Rattle.machine.specs.declared.code.CodeFunction.{CodeFunction}
use Rattle.machine.specs.declared.code.CodePlace.{CodePlace}
use Rattle.machine.specs.declared.code.CodePlace.TheVariants.{Binary, Touch, Store, CallInd, Enter, Free, Lock, Join}
use Rattle.machine.specs.Domain.{Callee, Reaches, Refused}
use Rattle.machine.specs.Frames.{Effect, Frame, Goes, Nothing, ToObject, ToRegister, ToSlot, ToUnit, Write}
use Rattle.machine.specs.Numbers.{computed}
use Rattle.machine.specs.Protected.{callee_effect, drawn, effect_of, finds_zero, protected, protected_callee, unit_write, unless_no}
use Rattle.machine.specs.Shapes.{blank, defines_number, number_in, read_at, register, shape_of}
use Rattle.machine.specs.Threads.{goes_on, opened, opened_in, result_write, stays, written}
use Rattle.machine.specs.ValidCode.{ValidCode}
use Rattle.thread_laws.proofs.Bodies.{valid_function}
use Rattle.thread_laws.proofs.Places.{first_enters}

-- ---- lists

pub there_is : {A : Type 0} (xs : List A) (i : ℕ) → i < length xs → (x : A) × (slice_get xs i ≡ Some x)
there_is [] i low = absurd (omega (arith, low))
there_is (x ∷ xs) zero low = (x, refl)
there_is (x ∷ xs) (suc i) low = there_is xs i (omega (arith, low))

pub contains_got : {A : Type 0} (xs : List A) (i : ℕ) (x : A) → slice_get xs i ≡ Some x → Contains xs x
contains_got [] i x there = absurd (cc)
contains_got (y ∷ ys) zero x there = let same : y ≡ x = cc in (0, omega arith, same)
contains_got (y ∷ ys) (suc i) x there =
    let rest = contains_got ys i x there in (suc rest.0, omega (arith, rest.1), rest.2)

pub got_contained : {A : Type 0} (xs : List A) (x : A) → Contains xs x → (i : ℕ) × (slice_get xs i ≡ Some x)
got_contained [] x (i, low, is) = absurd (omega (arith, low))
got_contained (y ∷ ys) x (zero, low, is) = (0, ap (λ (z : _). Some z) is)
got_contained (y ∷ ys) x (suc i, low, is) =
    let rest = got_contained ys x (i, omega (arith, low), is) in (suc rest.0, rest.1)

pub contains_map : {A B : Type 0} (f : A → B) (xs : List A) (x : A) → Contains xs x → Contains (map f xs) (f x)
contains_map f [] x (i, low, is) = absurd (omega (arith, low))
contains_map f (y ∷ ys) x (zero, low, is) = (0, omega arith, ap f is)
contains_map f (y ∷ ys) x (suc i, low, is) =
    let rest = contains_map f ys x (i, omega (arith, low), is) in (suc rest.0, omega (arith, rest.1), rest.2)

-- ---- writes

abbrev pub IsObjectFree : Write Value → Type 0
IsObjectFree (ToObject id) = ⊥
IsObjectFree _ = Unit {0}

pub written_function : (w : Write Value) (f : Frame Value) → (written protected w f).function ≡ f.function
written_function Nothing f = refl
written_function (ToRegister d v) f = refl
written_function (ToSlot s v) f = refl
written_function (ToUnit unit at v) f = refl
written_function (ToObject id) f = refl

pub written_place : (w : Write Value) (f : Frame Value) → (written protected w f).place ≡ f.place
written_place Nothing f = refl
written_place (ToRegister d v) f = refl
written_place (ToSlot s v) f = refl
written_place (ToUnit unit at v) f = refl
written_place (ToObject id) f = refl

pub written_object : (w : Write Value) (f : Frame Value) → IsObjectFree w → (written protected w f).object ≡ f.object
written_object Nothing f other = refl
written_object (ToRegister d v) f other = refl
written_object (ToSlot s v) f other = refl
written_object (ToUnit unit at v) f other = refl
written_object (ToObject id) f other = absurd other

pub written_registers : (w : Write Value) (f : Frame Value) → length (written protected w f).registers ≡ length f.registers
written_registers Nothing f = refl
written_registers (ToRegister d v) f = length-set f.registers d v
written_registers (ToSlot s v) f = refl
written_registers (ToUnit unit at v) f = refl
written_registers (ToObject id) f = refl

pub result_is_free : (s : Option ℕ) (v : Value) → IsObjectFree (result_write protected s v)
result_is_free None v = tt
result_is_free (Some s) v = tt

-- ---- new frames

opened_function_by : (o : Option CodeFunction) (f : ℕ) (arguments : List Value) → (opened_in protected o f arguments).function ≡ f
opened_function_by None f arguments = refl
opened_function_by (Some d) f arguments = refl

pub opened_function : (code : Code) (f : ℕ) (arguments : List Value) → (opened protected code f arguments).function ≡ f
opened_function code f arguments = opened_function_by (slice_get code.functions f) f arguments

opened_place_by : (o : Option CodeFunction) (f : ℕ) (arguments : List Value) → (opened_in protected o f arguments).place ≡ 0
opened_place_by None f arguments = refl
opened_place_by (Some d) f arguments = refl

pub opened_place : (code : Code) (f : ℕ) (arguments : List Value) → (opened protected code f arguments).place ≡ 0
opened_place code f arguments = opened_place_by (slice_get code.functions f) f arguments

opened_object_by : (o : Option CodeFunction) (f : ℕ) (arguments : List Value) → (opened_in protected o f arguments).object ≡ None
opened_object_by None f arguments = refl
opened_object_by (Some d) f arguments = refl

pub opened_object : (code : Code) (f : ℕ) (arguments : List Value) → (opened protected code f arguments).object ≡ None
opened_object code f arguments = opened_object_by (slice_get code.functions f) f arguments

opened_registers_by : (o : Option CodeFunction) (f : ℕ) (arguments : List Value) (d : CodeFunction) → o ≡ Some d
    → length (opened_in protected o f arguments).registers ≡ d.registers
opened_registers_by None f arguments d is = absurd (cc)
opened_registers_by (Some e) f arguments d is =
    let one : e ≡ d = cc in
    length-replicate e.registers (blank protected) ∙ ap (λ (x : CodeFunction). x.registers) one

pub opened_registers : (code : Code) (f : ℕ) (arguments : List Value) (d : CodeFunction) → slice_get code.functions f ≡ Some d
    → length (opened protected code f arguments).registers ≡ d.registers
opened_registers code f arguments d there = opened_registers_by (slice_get code.functions f) f arguments d there

-- ---- objects of frames

-- an effect that gives the frame no object
abbrev pub GivesNoObject : Effect Value → Type 0
GivesNoObject (Goes to w) = IsObjectFree w
GivesNoObject _ = Unit {0}

numbers_give : (code : Code) (top : Frame Value) (answer : Reply) (d : ℕ) (n : Option ℤ) → GivesNoObject (effect_of code top answer (defines_number protected d n))
numbers_give code top answer d None = tt
numbers_give code top answer d (Some n) = tt

flag_gives : (top : Frame Value) (why : Stop) (b : Bool) → GivesNoObject (unless_no top why (reply.Flag b))
flag_gives top why true = tt
flag_gives top why false = tt

no_gives : (top : Frame Value) (why : Stop) (answer : Reply) → GivesNoObject (unless_no top why answer)
no_gives top why (reply.Flag b) = flag_gives top why b
no_gives top why reply.Nothing = tt
no_gives top why (reply.Word w) = tt
no_gives top why (reply.Found e) = tt
no_gives top why (reply.Slot s) = tt
no_gives top why (reply.Thread n) = tt

store_gives : (to : ℕ) (unit : Option ℕ) (p a : Value) → GivesNoObject (Goes to (unit_write unit p a))
store_gives to None p a = tt
store_gives to (Some u) p a = tt

callee_gives : (arguments : List Value) (through : Option Place) (c : Callee) → GivesNoObject (callee_effect arguments through c)
callee_gives arguments through (Reaches f) = tt
callee_gives arguments through (Refused why) = tt

either_gives : (b : Bool) (x y : Effect Value) → GivesNoObject x → GivesNoObject y → GivesNoObject (if b then x else y)
either_gives true x y p q = p
either_gives false x y p q = q

-- `Enter` alone gives an object
pub gives_no_object : (code : Code) (depth : ℕ) (top : Frame Value) (answer : Reply) (i : CodePlace) → (i ≡ Enter → ⊥)
    → GivesNoObject (effect_of code top answer (shape_of protected depth top i))
gives_no_object code depth top answer Enter other = absurd (other refl)
gives_no_object code depth top answer (Binary d op a b) other =
    numbers_give code top answer d (computed op (number_in protected top a) (number_in protected top b))
gives_no_object code depth top answer (Touch p class marked) other = no_gives top (Failed Dead) answer
gives_no_object code depth top answer (Free p) other = no_gives top (Failed BadFree) answer
gives_no_object code depth top answer (Store p a k unit) other = store_gives (top.place + 1) unit (register protected top p) (register protected top a)
gives_no_object code depth top answer (CallInd c args type s o) other =
    callee_gives (map (register protected top) args) (Some (read_at protected depth top o)) (protected_callee code type (register protected top c))
gives_no_object code depth top answer (Lock p) other = either_gives (finds_zero answer) (goes_on protected top) (stays protected top) tt tt
gives_no_object code depth top answer (Join t) other = either_gives (finds_zero answer) (stays protected top) (goes_on protected top) tt tt
gives_no_object code depth top answer _ other = tt

pub is_enter : (i : CodePlace) → (i ≡ Enter) ⊎ (i ≡ Enter → ⊥)
is_enter Enter = inl refl
is_enter _ = inr (λ is. cc)

-- what a frame has that was entered
pub record Drew (top : Frame Value) (answer : Reply) (to : ℕ) (w : Write Value) : Type 0 where
  pub id : ℕ
  pub write : w ≡ ToObject id
  pub place : to ≡ top.place + 1
  pub found : answer ≡ reply.Slot (Some id)

pub drew : (top : Frame Value) (answer : Reply) (to : ℕ) (w : Write Value) → drawn top answer ≡ Goes to w → Drew top answer to w
drew top (reply.Slot None) to w is = absurd (cc)
drew top (reply.Slot (Some s)) to w is = record { id = s; write = cc; place = cc; found = refl }
drew top reply.Nothing to w is = absurd (cc)
drew top (reply.Word x) to w is = absurd (cc)
drew top (reply.Found e) to w is = absurd (cc)
drew top (reply.Flag b) to w is = absurd (cc)
drew top (reply.Thread n) to w is = absurd (cc)

-- a function with locals begins with `Enter`
pub enters_first : (code : Code) → ValidCode code → (f : ℕ) (c : CodeFunction) (i : CodePlace)
    → slice_get code.functions f ≡ Some c
    → 0 < length c.locals
    → slice_get c.body 0 ≡ Some i
    → i ≡ Enter
enters_first code valid f c i there some here =
    first_enters 1048576 (omega arith) (omega arith) code c (valid_function code f c valid there) some i here
