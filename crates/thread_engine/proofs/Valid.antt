-- What valid code says of places, functions and their frames.
use Rattle.std.proofs.Common.{◌≡◌, ℕ, zero, suc, ◌+◌, ◌≤◌, ◌<◌, Bool, true, false, if◌then◌else◌, List, [], ◌∷◌, ◌++◌, length, take, replicate, Option, Some, None, All, slice_get, slice_index_or, refl, subst, arith}
use Rattle.std.proofs.lemmas.List.{length-append, length-replicate, length-take}
use Rattle.c_types.specs.declared.ty.FnTy.{out-FnTy}
use Rattle.meaning.specs.declared.value.Value.{Value}
use Rattle.machine.specs.declared.code.Code.{Code}
use Rattle.machine.specs.declared.code.CodeFunction.{CodeFunction}
use Rattle.machine.specs.declared.code.CodeLocal.{CodeLocal}
use Rattle.machine.specs.declared.code.CodePlace.{CodePlace}
use Rattle.machine.specs.Protected.{protected}
use Rattle.machine.specs.Shapes.{blank}
use Rattle.machine.specs.Stands.{safe_units}
use Rattle.machine.specs.Threads.{argument_slots, body_in, opened, opened_in, place_at, size_in, size_of}
use Rattle.machine.specs.ValidCode.{CodeLocalsLie, IsValidCodeFunction, ValidCode, code_local_units}
use Rattle.thread_engine.specs.Sound.{length_of}

-- ---- lists

pub stands_within : {A : Type 0} (xs : List A) (i : ℕ) (x : A) → slice_get xs i ≡ Some x → i < length xs
stands_within [] i x there = absurd (cc)
stands_within (y ∷ ys) zero x there = omega arith
stands_within (y ∷ ys) (suc i) x there =
    let rest : i < length ys = stands_within ys i x there in omega arith

read_at : {A : Type 0} (xs : List A) (i : ℕ) (x : A) → slice_get xs i ≡ Some x → slice_index_or xs i x ≡ x
read_at [] i x there = refl
read_at (y ∷ ys) zero x there = cc
read_at (y ∷ ys) (suc i) x there = read_at ys i x there

pub at_place : {A : Type 0} (P : A → Type 0) (xs : List A) (i : ℕ) (x : A) → All P xs → slice_get xs i ≡ Some x → P x
at_place P xs i x all there = subst P (read_at xs i x there) (all i x (stands_within xs i x there))

-- ---- functions

pub valid_function : (code : Code) (f : ℕ) (c : CodeFunction) → ValidCode code → slice_get code.functions f ≡ Some c → IsValidCodeFunction code c
valid_function code f c valid there = at_place (IsValidCodeFunction code) code.functions f c valid.functions there

pub parameters_are_few :
    (code : Code) (f : ℕ) (c : CodeFunction)
    → ValidCode code
    → slice_get code.functions f ≡ Some c
    → length (out-FnTy c.ty).params ≤ 8
parameters_are_few code f c valid there = (valid_function code f c valid there).within_limits.parameters

safe_part_low : (safe : Bool) (units : ℕ) → (if safe then units else 0) ≤ units
safe_part_low true units = omega arith
safe_part_low false units = omega arith

-- the units of safe locals are at most those of all
safe_units_low : (ls : List CodeLocal) → safe_units ls ≤ code_local_units ls
safe_units_low [] = omega arith
safe_units_low (l ∷ ls) = omega (arith, safe_part_low l.safe l.units, safe_units_low ls)

size_by :
    (o : Option CodeFunction)
    → ((c : CodeFunction) → o ≡ Some c → c.registers + c.slots + c.safe_units ≤ 18432)
    → size_in o ≤ 18432
size_by None few = omega arith
size_by (Some c) few = few c refl

-- the values of a frame are few
pub sizes_are_small : (code : Code) (f : ℕ) → ValidCode code → size_of code f ≤ 18432
sizes_are_small code f valid =
    size_by (slice_get code.functions f) (λ c there.
    let v = valid_function code f c valid there in
    omega (
      arith,
      v.within_limits.registers,
      v.within_limits.slots,
      v.within_limits.frame_units,
      v.frame_is_its_locals,
      v.safe_units_are,
      safe_units_low c.locals,
    ))

-- ---- places

-- the function in which the instruction stands
pub record StandsIn (code : Code) (f k : ℕ) (i : CodePlace) : Type 0 where
  pub function : CodeFunction
  pub there : slice_get code.functions f ≡ Some function
  pub at : slice_get function.body k ≡ Some i

stands_by : (code : Code) (f k : ℕ) (i : CodePlace) (o : Option CodeFunction) → slice_get code.functions f ≡ o → slice_get (body_in o) k ≡ Some i → StandsIn code f k i
stands_by code f k i None is at = absurd (cc)
stands_by code f k i (Some c) is at = record { function = c; there = is; at = at }

pub stands_in : (code : Code) (f k : ℕ) (i : CodePlace) → place_at code f k ≡ Some i → StandsIn code f k i
stands_in code f k i at = stands_by code f k i (slice_get code.functions f) refl at

pub places_are_low : (code : Code) (f k : ℕ) (i : CodePlace) → ValidCode code → place_at code f k ≡ Some i → k < 65536
places_are_low code f k i valid at =
    let s = stands_in code f k i at in
    let v = valid_function code f s.function valid s.there in
    omega (arith, v.within_limits.instructions, stands_within s.function.body k i s.at)

-- a local lies within the units of all
local_within :
    (at : ℕ) (ls : List CodeLocal) (v : ℕ) (l : CodeLocal)
    → CodeLocalsLie at ls
    → slice_get ls v ≡ Some l
    → l.offset + l.units ≤ at + code_local_units ls
local_within at [] v l lie there = absurd (cc)
local_within at (m ∷ ms) zero l lie there =
    let same : m ≡ l = cc in
    let here : m.offset + m.units ≤ at + code_local_units (m ∷ ms) = omega (arith, lie.0) in
    subst (λ (x : CodeLocal). x.offset + x.units ≤ at + code_local_units (m ∷ ms)) same here
local_within at (m ∷ ms) (suc v) l lie there =
    let rest : l.offset + l.units ≤ (at + m.units) + code_local_units ms = local_within (at + m.units) ms v l lie.2 there in
    omega (arith, rest)

pub locals_are_within :
    (code : Code) (c : CodeFunction) (v : ℕ) (l : CodeLocal)
    → IsValidCodeFunction code c
    → slice_get c.locals v ≡ Some l
    → l.offset + l.units ≤ 16384
locals_are_within code c v l valid there =
    omega (arith, local_within 0 c.locals v l valid.locals_lie there, valid.frame_is_its_locals, valid.within_limits.frame_units)

-- ---- new frames

-- a new frame has a value in each of its slots
argument_slots_length : (c : CodeFunction) (arguments : List Value) → length (argument_slots protected c arguments) ≡ c.slots
argument_slots_length c arguments =
    let given = take (length (out-FnTy c.ty).params) arguments in
    omega (
      arith,
      length-take c.slots (given ++ replicate c.slots (blank protected)),
      length-append given (replicate c.slots (blank protected)),
      length-replicate c.slots (blank protected),
    )

opened_by :
    (o : Option CodeFunction) (f : ℕ) (arguments : List Value)
    → length_of (opened_in protected o f arguments) ≡ size_in o
opened_by None f arguments = refl
opened_by (Some c) f arguments =
    omega (
      arith,
      length-replicate c.registers (blank protected),
      argument_slots_length c arguments,
      length-replicate c.safe_units (blank protected),
    )

opened_function_by : (o : Option CodeFunction) (f : ℕ) (arguments : List Value) → (opened_in protected o f arguments).function ≡ f
opened_function_by None f arguments = refl
opened_function_by (Some c) f arguments = refl

opened_object_by : (o : Option CodeFunction) (f : ℕ) (arguments : List Value) → (opened_in protected o f arguments).object ≡ None
opened_object_by None f arguments = refl
opened_object_by (Some c) f arguments = refl

pub opened_function : (code : Code) (f : ℕ) (arguments : List Value) → (opened protected code f arguments).function ≡ f
opened_function code f arguments = opened_function_by (slice_get code.functions f) f arguments

pub opened_object : (code : Code) (f : ℕ) (arguments : List Value) → (opened protected code f arguments).object ≡ None
opened_object code f arguments = opened_object_by (slice_get code.functions f) f arguments

pub opened_length : (code : Code) (f : ℕ) (arguments : List Value) → length_of (opened protected code f arguments) ≡ size_of code f
opened_length code f arguments = opened_by (slice_get code.functions f) f arguments

-- and few of them
pub opened_is_small : (code : Code) (f : ℕ) (arguments : List Value) → ValidCode code → length_of (opened protected code f arguments) ≤ 18432
opened_is_small code f arguments valid = omega (arith, opened_length code f arguments, sizes_are_small code f valid)
